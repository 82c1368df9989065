use Rattle.std.proofs.Common.{◌≡◌, ℕ, ◌<◌, length, get_or}
use Rattle.octet_model.specs.Orders.{commands_of}
use Rattle.octet_outcomes.specs.Runs.{no_program}
use Rattle.octet_outcomes.proofs.search.guides_of.Given as goal

abbrev pub invariant-loop-thread : goal.invariant-loop-thread
invariant-loop-thread l = record {
  len : length l.guides.items ≡ l.thread;
  commands : (thread : ℕ) → thread < l.thread → (get_or l.guides.items thread no_program).commands ≡ commands_of l.script thread;
  objects : (thread : ℕ) → thread < l.thread → (get_or l.guides.items thread no_program).objects ≡ length l.script.objects;
}
