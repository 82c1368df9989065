use Rattle.std.proofs.Common.{◌≡◌, ◌<◌, ℕ, false, length}
use Rattle.octet_machine.specs.Turns.{after_own_turns, is_through}
use Rattle.octet_machine.proofs.goes.go.Given as goal

-- so many turns were taken, before none of which the thread was through
abbrev pub invariant-loop-taken : goal.invariant-loop-taken
invariant-loop-taken l = record {
  comes : l.machine ≡ after_own_turns l.fn.machine l.thread l._taken;
  least : (fewer : ℕ) → fewer < l._taken → is_through (after_own_turns l.fn.machine l.thread fewer) l.thread l.before ≡ false;
  threads : length l.machine.runners ≡ length l.fn.machine.runners;
  script : l.machine.script ≡ l.fn.machine.script;
}
