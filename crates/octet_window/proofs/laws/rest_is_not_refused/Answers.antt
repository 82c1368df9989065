use Rattle.std.proofs.Common.{◌-◌, sym, subst}
use Rattle.octet_model.specs.Machine.{Journals}
use Rattle.octet_model.specs.Plays.{state_after_play, IsOneHistory}
use Rattle.octet_window.proofs.Rest.{rest_is_history}
use Rattle.octet_window.proofs.laws.rest_is_not_refused.Goals as goal

pub returns : goal.returns
returns c starts whole earlier last draws play threads h are makes is have refused =
    let at = state_after_play starts earlier play in
    refused at.heap have last (draws - at.draws) (subst (λ (js : Journals). IsOneHistory at.heap js last (draws - at.draws)) (sym is) (rest_is_history starts whole earlier last draws play h are makes))
