use Rattle.std.proofs.Common.{rules, ◌≡◌, ℕ, subst}
use Rattle.octet_follow.specs.State.{cell_place}
use Rattle.octet_follow.specs.Steps.{ToRead}
use Rattle.octet_follow.specs.Rule.{Steps}
use Rattle.octet_follow.proofs.steps.Allowed.{reads, object_there}
use Rattle.octet_follow.proofs.words.Words.read.Goals as goal

pub load-requires : goal.load-requires
load-requires c = (search rules, search rules, reads _ _ _ _ _ (search rules) _ c.args.object (search rules) (search rules))

pub returns-clause-step : goal.returns-clause-step
returns-clause-step c =
    let v = c.args.seat.now.inner.me.0 in
    let at : c.cell_place-place.result ≡ cell_place v.followers c.args.object = search rules in
    subst (λ (object : ℕ). Steps (ToRead object) v c.load.result c.load.new.seat.me.0) (object_there v c.cell_place-place.result c.args.object at) c.load.ensures.2.1
