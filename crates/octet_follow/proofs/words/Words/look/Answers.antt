use Rattle.std.proofs.Common.{rules, ◌≡◌, ◌/◌, ℕ, subst}
use Rattle.octet_follow.specs.Steps.{ToLook}
use Rattle.octet_follow.specs.Rule.{Steps}
use Rattle.octet_follow.proofs.steps.Allowed.{looks}
use Rattle.octet_follow.proofs.words.Words.look.Goals as goal

pub load-requires : goal.load-requires
load-requires c = (search rules, search rules, looks _ _ _ _ _ (search rules) _ c.args.whom (search rules) (search rules))

pub returns-clause-step : goal.returns-clause-step
returns-clause-step c =
    let there : c.progress_place-place.result / 8 ≡ c.args.whom = search rules in
    subst (λ (whom : ℕ). Steps (ToLook whom) c.args.seat.now.inner.me.0 c.load.result c.load.new.seat.me.0) there c.load.ensures.2.1
