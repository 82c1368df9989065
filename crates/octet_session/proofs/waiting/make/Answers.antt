use Rattle.std.proofs.Common.{rules, ◌≡◌, ◌∙◌, ℕ, Result, Ok, Err, Some, IfErr, inr, subst}
use Rattle.octet_session.specs.declared.not_made.NotMade.{NotMade}
use Rattle.octet_session.specs.declared.not_made.NotMade.TheVariants.{Waits}
use Rattle.octet_session.specs.Asking.{Asks}
use Rattle.octet_session.proofs.Gained.{gains_more, asked_after}
use Rattle.octet_session.proofs.lemmas.Room.{takes_none}
use Rattle.octet_session.proofs.waiting.make.Goals as goal

pub loop-preserved : goal.loop-preserved
loop-preserved g c =
    let i = c.loop.invariant in let v = g.S.Session.standing c.args.session.now c.args.thread.now in
    let u = g.S.Session.standing c.args.session.now c.loop.thread in let w = g.S.Session.standing c.args.session.now c.ask.new.thread in
    let is : c.ask.result ≡ Err Waits = search rules in
    let asks = subst (λ (r : Result ℕ (NotMade _)). Asks c.args.wanted u r w) is c.ask.ensures.asks in record {
      own = c.ask.ensures.own;
      runs = c.ask.ensures.runs;
      may = inr asks.begun;
      number = asks.number ∙ i.number;
      journal = gains_more v.journal u.journal w.journal i.journal asks.journal;
      region = asks.region ∙ i.region;
      left = takes_none u.left w.left asks.left ∙ i.left;
    }

pub returns-in-Ok-clause-asks : goal.returns-in-Ok-clause-asks
returns-in-Ok-clause-asks g c =
    let i = c.loop.invariant in let v = g.S.Session.standing c.args.session.now c.args.thread.now in
    let u = g.S.Session.standing c.args.session.now c.loop.thread in let w = g.S.Session.standing c.args.session.now c.ask.new.thread in
    asked_after c.args.wanted v u (Ok c.in-Ok.value) w i.number i.journal i.region i.left (subst (λ (r : Result ℕ (NotMade _)). Asks c.args.wanted u r w) c.in-Ok.is c.ask.ensures.asks)

pub returns-in-Err-clause-asks : goal.returns-in-Err-clause-asks
returns-in-Err-clause-asks g c =
    let i = c.loop.invariant in let v = g.S.Session.standing c.args.session.now c.args.thread.now in
    let u = g.S.Session.standing c.args.session.now c.loop.thread in let w = g.S.Session.standing c.args.session.now c.ask.new.thread in
    asked_after c.args.wanted v u (Err c.in-Err.why) w i.number i.journal i.region i.left (subst (λ (r : Result ℕ (NotMade _)). Asks c.args.wanted u r w) c.in-Err.is c.ask.ensures.asks)

pub returns-in-Err-clause-reason : goal.returns-in-Err-clause-reason
returns-in-Err-clause-reason g c =
    let reason = g.S.Session.IsReason c.args.session.now (Some c.args.wanted) c.loop.thread c.ask.new.thread in
    (c.loop.thread, subst (λ (r : Result ℕ (NotMade _)). IfErr r reason) c.in-Err.is c.ask.ensures.reason)
