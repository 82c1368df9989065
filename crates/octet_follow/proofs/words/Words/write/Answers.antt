use Rattle.std.proofs.Common.{rules, ◌≡◌, ℕ, subst}
use Rattle.octet_follow.specs.State.{cell_place}
use Rattle.octet_follow.specs.Steps.{ToWrite}
use Rattle.octet_follow.specs.Rule.{DoesStep}
use Rattle.octet_follow.proofs.steps.Allowed.{writes, object_there}
use Rattle.octet_follow.proofs.words.Words.write.Goals as goal

pub store-requires : goal.store-requires
store-requires c = (search rules, search rules, writes _ _ _ _ _ (search rules) _ c.args.object c.args.value (search rules) (search rules))

pub returns-clause-step : goal.returns-clause-step
returns-clause-step c =
    let v = c.args.seat.now.inner.me.0 in
    let at : c.cell_place-place.result ≡ cell_place v.followers c.args.object = search rules in
    subst (λ (object : ℕ). DoesStep (ToWrite object c.args.value) v c.store.new.seat.me.0) (object_there v c.cell_place-place.result c.args.object at) c.store.ensures.2.1
