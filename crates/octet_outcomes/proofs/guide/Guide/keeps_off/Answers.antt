use Rattle.std.proofs.Common.{List, Option, IfSome, ◌∙◌, subst}
use Rattle.octet_model.specs.declared.command.Command.{Command}
use Rattle.octet_interp.specs.Standing.{ThreadProgram}
use Rattle.octet_outcomes.specs.declared.guide.Tables.{Tables}
use Rattle.octet_outcomes.specs.Alone.{KeepsOff}
use Rattle.octet_outcomes.specs.Guided.{IsGuided}
use Rattle.octet_outcomes.specs.Quiets.{IsOver}
use Rattle.octet_outcomes.proofs.Quieting.{over_off}
use Rattle.octet_outcomes.proofs.guide.Guide.keeps_off.Goals as goal

pub returns-in-Some : goal.returns-in-Some
returns-in-Some c passed fuel more stand is =
    let commands = c.self.inside.program.commands in
    let g : IsGuided commands c.in-Some.tables.live.items c.in-Some.tables.quiets.items =
    subst (λ (o : Option Tables). IfSome o (λ (t : Tables). IsGuided commands t.live.items t.quiets.items)) c.in-Some.is c.self.invariant.1 in
    subst (λ (p : ThreadProgram). KeepsOff more p.commands fuel c.args.demand stand) c.self.view_is
    (over_off commands c.args.demand c.args.place g.opened (subst (λ (cs : List Command). IsOver cs c.args.demand c.args.place) (c.deref.ensures.value ∙ c.self.invariant.0) (c.is_over.ensures passed)) fuel more stand is)
