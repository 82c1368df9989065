use Rattle.std.proofs.Common.{◌≡◌, ℕ, ◌<◌, ◌≤◌, true, false, length, get_or}
use Rattle.octet_outcomes.specs.Moments.{no_moment, AllDone}
use Rattle.octet_outcomes.specs.Stuck.{IsWhole, LeadsToEnd}
use Rattle.octet_outcomes.proofs.stuck.first_marks.Given as goal

abbrev pub invariant-loop-place : goal.invariant-loop-place
invariant-loop-place l = record {
  len : length l.marks.items ≡ l.place;
  ends : (k : ℕ) → k < l.place → AllDone l.script (get_or l.found.moments.moments k no_moment) → get_or l.marks.items k false ≡ true;
  rest : (k : ℕ) → k < l.place → length l.found.edges.rows ≤ k → get_or l.marks.items k false ≡ true;
  leads : (k : ℕ) → k < l.place → get_or l.marks.items k false ≡ true → IsWhole l.found → LeadsToEnd l.script (get_or l.found.moments.moments k no_moment);
}
