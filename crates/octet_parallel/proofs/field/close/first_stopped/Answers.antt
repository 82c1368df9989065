use Rattle.std.proofs.Common.{rules, ◌≡◌, ◌∙◌, ℕ, inl, inr, sym, subst, arith}
use Rattle.std.proofs.lemmas.Bool.{cases_eq}
use Rattle.octet_parallel.specs.declared.fate.Fate.TheVariants.{Playing}
use Rattle.octet_parallel.specs.Calls.{fate_at}
use Rattle.octet_parallel.proofs.verdicts.Concluding.{fate_here, fate_got}
use Rattle.octet_parallel.proofs.field.close.first_stopped.Goals as goal

pub returns-then-ne-clause-some : goal.returns-then-ne-clause-some
returns-then-ne-clause-some c =
    let e = fate_here c.args.players.now c.loop-place.place c.index-players-place.result (search rules) (search rules) in search rules

pub loop-place-preserved : goal.loop-place-preserved
loop-place-preserved c k h =
    let e = fate_here c.args.players.now c.loop-place.place c.index-players-place.result (search rules) (search rules) in
    let plays : fate_at c.args.players.now c.loop-place.place ≡ Playing = search rules in
    elim (cases_eq k c.loop-place.place) [
      | inl same ↦ subst (λ (n : ℕ). fate_at c.args.players.now n ≡ Playing) (sym same) plays
      | inr differ ↦ c.loop-place.invariant k (omega arith)
    ]

pub returns-clause-none : goal.returns-clause-none
returns-clause-none c k d h = sym (fate_got c.args.players.now k d h) ∙ c.loop-place.invariant k (search rules)
