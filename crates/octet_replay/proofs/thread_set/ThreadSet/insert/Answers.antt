use Rattle.std.proofs.Common.{ℕ, eqb, eq-eqb, ap}
use Rattle.std.proofs.lemmas.Nat.Bits.{bit_at_set_same, bit_at_set_other}
use Rattle.std.specs.Int.{w16}
use Rattle.octet_replay.proofs.thread_set.ThreadSet.insert.Goals as goal

pub returns-clause-own : goal.returns-clause-own
returns-clause-own c = eq-eqb _ _ (bit_at_set_same w16 c.args.self.now.bits c.args.thread c.requires)

pub returns-clause-others : goal.returns-clause-others
returns-clause-others c other differ = ap (λ (b : ℕ). eqb b 1) (bit_at_set_other w16 c.args.self.now.bits c.args.thread c.requires other differ)
