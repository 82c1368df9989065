use Rattle.std.proofs.Common.{ℕ, eqb, ap, arith}
use Rattle.std.proofs.lemmas.Nat.Bits.{bit_at_clear_same}
use Rattle.std.specs.Int.{w16}
use Rattle.octet_replay.proofs.ThreadSets.{cleared_other, cleared_less}
use Rattle.octet_replay.proofs.thread_set.ThreadSet.remove.Goals as goal

pub returns-clause-own : goal.returns-clause-own
returns-clause-own c = ap (λ (b : ℕ). eqb b 1) (bit_at_clear_same w16 c.args.self.now.bits c.args.thread c.requires)

pub returns-clause-others : goal.returns-clause-others
returns-clause-others c other differ = ap (λ (b : ℕ). eqb b 1) (cleared_other c.args.self.now.bits c.args.thread other (omega arith) c.requires differ)

pub returns-clause-fewer : goal.returns-clause-fewer
returns-clause-fewer c there = cleared_less c.args.self.now.bits c.args.thread c.requires there
