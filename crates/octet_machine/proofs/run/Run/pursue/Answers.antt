use Rattle.std.proofs.Common.{true, false, refl, ◌∙◌}
use Rattle.std.proofs.lemmas.Bool.{eq-eqb, ne_eqb}
use Rattle.octet_state.specs.Steps.{ToSettle, ToLook, ToAsk}
use Rattle.octet_machine.proofs.next_steps.OfRun.{statuses_fit, has_room, pursuit_is, then_asks, takes}
use Rattle.octet_machine.proofs.run.Run.pursue.Goals as goal

pub look-requires-clause-fits : goal.look-requires-clause-fits
look-requires-clause-fits c = statuses_fit c.args.self.now c.args.me _ c.requires _

pub look-requires-clause-room : goal.look-requires-clause-room
look-requires-clause-room c = has_room c.args.self.now c.args.me _ c.requires c.args.object c.args.mode _ refl

pub ask-requires-clause-fits : goal.ask-requires-clause-fits
ask-requires-clause-fits c = statuses_fit c.args.self.now c.args.me _ c.requires _

pub ask-requires-clause-room : goal.ask-requires-clause-room
ask-requires-clause-room c = has_room c.args.self.now c.args.me _ c.requires c.args.object c.args.mode _ refl

pub returns-then-done-count-clause-steps : goal.returns-then-done-count-clause-steps
returns-then-done-count-clause-steps c =
    takes c.args.self.now c.args.me _ c.requires ToSettle _
    (pursuit_is c.args.self.now c.args.me c.args.object c.args.mode c.args.prior c.args.done c.args.asked c.whom_to_ask-whom.result c.thread_count.result c.count.result true
    c.whom_to_ask-whom.ensures c.thread_count.ensures c.count.ensures (eq-eqb c.args.done c.count.result c.if-done-count.true))
    (λ word. refl) refl c.settle_claim.ensures refl

pub returns-then-asked-clause-steps : goal.returns-then-asked-clause-steps
returns-then-asked-clause-steps c =
    takes c.args.self.now c.args.me _ c.requires (ToLook c.next-next.result) _
    (pursuit_is c.args.self.now c.args.me c.args.object c.args.mode c.args.prior c.args.done c.args.asked c.whom_to_ask-whom.result c.thread_count.result c.count.result false
    c.whom_to_ask-whom.ensures c.thread_count.ensures c.count.ensures (ne_eqb c.args.done c.count.result c.if-done-count.false)
    ∙ then_asks c.args.me c.args.done c.next-next.result c.args.prior c.whom_to_ask-whom.result c.args.asked true c.whom_to_ask-whom.ensures c.next-next.ensures c.if-asked.true)
    (λ word. refl) refl c.look.ensures.step refl

pub returns-else-asked-clause-steps : goal.returns-else-asked-clause-steps
returns-else-asked-clause-steps c =
    takes c.args.self.now c.args.me _ c.requires (ToAsk c.next-next.result) _
    (pursuit_is c.args.self.now c.args.me c.args.object c.args.mode c.args.prior c.args.done c.args.asked c.whom_to_ask-whom.result c.thread_count.result c.count.result false
    c.whom_to_ask-whom.ensures c.thread_count.ensures c.count.ensures (ne_eqb c.args.done c.count.result c.if-done-count.false)
    ∙ then_asks c.args.me c.args.done c.next-next.result c.args.prior c.whom_to_ask-whom.result c.args.asked false c.whom_to_ask-whom.ensures c.next-next.ensures c.if-asked.false)
    (λ word. refl) refl c.ask.ensures.step refl
