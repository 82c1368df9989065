use Rattle.std.proofs.Common.{◌*◌, ◌≤◌, ◌<◌, length, ℕ, subst, arith, rules, Fits, w16}
use Rattle.octet_window.proofs.Valid.{script_valid, le_times}
use Rattle.octet_window.proofs.scripts.script_of.Goals as goal

pub invariant_of-result : goal.invariant_of-result
invariant_of-result c =
    let n = length c.args.programs in
    let fuel = c.fuel_for-fuel.result in
    let all : n * fuel ≤ 262144 = subst (λ (k : ℕ). k * fuel ≤ 262144) c.len.ensures c.fuel_for-fuel.ensures.all in record {
      valid = script_valid fuel c.in_ok-objects.objects c.args.objects.now c.args.programs c.fuel_for-fuel.ensures.some (omega (arith, all, le_times n fuel c.requires.some)) all
          c.in_ok-objects.ensures.names c.requires.few (λ i. small _ (c.type_inv.objects i)) c.requires.different c.requires.some c.requires.most c.requires.threads;
    }
  where
    small : (n : ℕ) → Fits w16 n → n < 65536
    small n fits = search rules
