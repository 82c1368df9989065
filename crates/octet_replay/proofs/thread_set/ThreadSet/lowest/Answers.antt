use Rattle.std.proofs.Common.{ℕ, eqb, eq-eqb, ap, arith}
use Rattle.std.proofs.lemmas.Nat.Bits.{bit_at-trailing_zeros}
use Rattle.std.specs.Int.{w16}
use Rattle.octet_replay.proofs.thread_set.ThreadSet.lowest.Goals as goal

pub returns-clause-some : goal.returns-clause-some
returns-clause-some c =
    let zeros = bit_at-trailing_zeros w16 c.args.self.now.bits (omega arith) (omega arith) in
    record { within = zeros.0; is_in = eq-eqb _ _ zeros.1; lowest = λ lower below. ap (λ (b : ℕ). eqb b 1) (zeros.2 lower below) }
