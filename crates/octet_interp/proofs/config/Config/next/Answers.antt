use Rattle.std.proofs.Common.{ℕ, List, slice_get, ap, subst, ◌∙◌}
use Rattle.octet_model.specs.declared.command.Command.{Command}
use Rattle.octet_interp.specs.Context.{configuration_of}
use Rattle.octet_interp.specs.Demands.{ThreadState, demand_from, IsPossible}
use Rattle.octet_interp.proofs.Runs.{possible}
use Rattle.octet_interp.proofs.config.Config.next.Goals as goal

pub returns-clause-possible : goal.returns-clause-possible
returns-clause-possible c =
    let at = configuration_of c.advance-demand.new.context in
    subst (λ (n : ℕ). IsPossible n c.advance-demand.result) (ap (λ (s : ThreadState). s.objects) c.self.view_is)
    (possible c.self.inside.objects c.self.inside.commands.items at c.self.invariant.objects_there
    c.advance-demand.result (c.advance-demand.ensures.demand ∙ ap (λ (commands : List Command). demand_from (slice_get commands at.place) at) c.deref.ensures.value) c.advance-demand.ensures.small)
