use Rattle.std.proofs.Common.{◌≡◌, ℕ, true, length, get_or}
use Rattle.octet_outcomes.specs.Flow.{live_at}
use Rattle.octet_outcomes.proofs.live.kept.Given as goal

abbrev pub invariant-loop-register : goal.invariant-loop-register
invariant-loop-register l = record {
  len : length l.registers ≡ length l.stand.registers;
  same : (k : ℕ) → live_at l.live l.stand.place k ≡ true → get_or l.registers k 0 ≡ get_or l.stand.registers k 0;
}
