use Rattle.std.proofs.Common.{rules, ◌≡◌, ℕ, subst}
use Rattle.octet_rule.specs.Changes.{changed_by}
use Rattle.octet_follow.specs.State.{cell_place}
use Rattle.octet_follow.specs.Steps.{ToUpdate}
use Rattle.octet_follow.specs.Rule.{Steps}
use Rattle.octet_follow.proofs.steps.Allowed.{object_there}
use Rattle.octet_follow.proofs.words.Words.update.Goals as goal

pub change_cell-requires-clause-there : goal.change_cell-requires-clause-there
change_cell-requires-clause-there c = (c.args.object, search rules, search rules)

pub returns-clause-step : goal.returns-clause-step
returns-clause-step c =
    let v = c.args.seat.now.inner.me.0 in
    let at : c.cell_place-place.result ≡ cell_place v.followers c.args.object = search rules in
    subst (λ (object : ℕ). Steps (ToUpdate object (changed_by c.args.change)) v c.change_cell.result c.change_cell.new.inner.me.0) (object_there v c.cell_place-place.result c.args.object at) c.change_cell.ensures.step
