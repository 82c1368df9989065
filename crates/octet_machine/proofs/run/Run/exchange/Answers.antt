use Rattle.std.proofs.Common.{◌≡◌, Some, refl, ap, ◌∙◌}
use Rattle.octet_state.specs.declared.phase.Phase.TheVariants.{Want}
use Rattle.octet_state.specs.Steps.{ToRaise, ToClaim}
use Rattle.octet_state.specs.NextStep.{exchange_of}
use Rattle.octet_machine.specs.Run.{machine_in}
use Rattle.octet_machine.proofs.next_steps.ByPhase.{kind_here}
use Rattle.octet_machine.proofs.next_steps.OfRun.{states_fit, has_room, thread_there, object_there, holds_phase, exchange_is, claims_else, takes, waits_by}
use Rattle.octet_machine.proofs.run.Run.exchange.Goals as goal

pub raise-requires-clause-fits : goal.raise-requires-clause-fits
raise-requires-clause-fits c = states_fit c.args.self.now c.args.me _ c.requires c.args.object

pub share-requires-clause-fits : goal.share-requires-clause-fits
share-requires-clause-fits c = states_fit c.args.self.now c.args.me _ c.requires c.args.object

pub share-requires-clause-room : goal.share-requires-clause-room
share-requires-clause-room c = has_room c.args.self.now c.args.me _ c.requires c.args.object c.args.mode _ refl

raises : (c : goal.After-raise) → kind_here (machine_in c.args.self.now) c.args.me (Want c.args.object c.args.mode (Some c.args.seen)) ≡ ToRaise
raises c = exchange_is c.args.self.now c.args.me c.args.object c.args.mode c.args.seen c.thread-count.result c.decide.result c.thread-count.ensures c.decide.ensures ∙ ap exchange_of c.in-Raise.is

pub returns-in-Raise-clause-steps : goal.returns-in-Raise-clause-steps
returns-in-Raise-clause-steps c = takes c.args.self.now c.args.me _ c.requires ToRaise _ (raises c) (λ word. refl) refl c.raise.ensures.step refl

claims : (c : goal.After-claim) → kind_here (machine_in c.args.self.now) c.args.me (Want c.args.object c.args.mode (Some c.args.seen)) ≡ ToClaim
claims c =
    exchange_is c.args.self.now c.args.me c.args.object c.args.mode c.args.seen c.thread-count.result c.decide.result c.thread-count.ensures c.decide.ensures
    ∙ claims_else c.decide.result c.in_default.not-Raise c.in_default.not-Share

pub claim-requires : goal.claim-requires
claim-requires c =
    let next = c.requires.is_next in let h = holds_phase c.args.self.now c.args.me _ c.requires in
    record {
      thread = thread_there c.args.self.now c.args.me next;
      object = object_there c.args.self.now c.args.me c.args.object next h.0;
      fits = states_fit c.args.self.now c.args.me _ c.requires c.args.object;
      seen = h.1;
      phase = c.requires.stands;
    }

pub returns-in_default : goal.returns-in_default
returns-in_default c = record {
  steps = takes c.args.self.now c.args.me _ c.requires ToClaim _ (claims c) (λ word. refl) refl c.claim.ensures.step refl;
  waits = waits_by c.args.self.now c.args.me _ c.requires ToClaim _ (claims c) c.claim.ensures.waits;
}
