use Rattle.std.proofs.Common.{Bool, List, Option, IfSome, subst}
use Rattle.octet_interp.specs.declared.program.Stand.{Stand}
use Rattle.octet_interp.specs.Standing.{stand_past, ThreadProgram}
use Rattle.octet_outcomes.specs.declared.guide.Tables.{Tables}
use Rattle.octet_outcomes.specs.Alike.{StandAlike}
use Rattle.octet_outcomes.specs.Flow.{IsKept}
use Rattle.octet_outcomes.specs.Guided.{IsGuided}
use Rattle.octet_outcomes.proofs.Flowing.{kept_alike}
use Rattle.octet_outcomes.proofs.Likeness.{stand_like}
use Rattle.octet_outcomes.proofs.guide.Guide.past.Goals as goal

pub returns-in-Some : goal.returns-in-Some
returns-in-Some c =
    let commands = c.self.inside.program.commands in
    let fuel = c.args.fuel in
    let g : IsGuided commands c.in-Some.tables.live.items c.in-Some.tables.quiets.items =
    subst (λ (o : Option Tables). IfSome o (λ (t : Tables). IsGuided commands t.live.items t.quiets.items)) c.in-Some.is c.self.invariant.1 in
    let k = kept_alike commands c.in-Some.tables.live.items g.opened g.alive fuel c.past-past.result c.kept.result c.kept.ensures.len
    (subst (λ (l : List (List Bool)). IsKept l c.past-past.result c.kept.result) c.deref.ensures.value c.kept.ensures.kept) in
    subst (λ (p : ThreadProgram). StandAlike p.commands fuel (stand_past p.commands fuel c.args.stand.now c.args.value) c.kept.result) c.self.view_is
    (subst (λ (s : Stand). StandAlike commands fuel s c.kept.result) c.past-past.ensures k)

pub returns-in-None : goal.returns-in-None
returns-in-None c =
    let commands = c.self.inside.program.commands in
    let fuel = c.args.fuel in
    subst (λ (p : ThreadProgram). StandAlike p.commands fuel (stand_past p.commands fuel c.args.stand.now c.args.value) c.past-past.result) c.self.view_is
    (subst (λ (s : Stand). StandAlike commands fuel s c.past-past.result) c.past-past.ensures (stand_like commands fuel c.past-past.result))
