use Rattle.std.proofs.Common.{◌+◌, ◌-◌, ◌^◌, min, ap, arith, ◌∙◌}
use Rattle.octet_slice.proofs.Marks.{none_left, one_left, one_is_within}
use Rattle.octet_slice.proofs.cursor.Cursor.next.Goals as goal

pub returns-then-self-len-clause-next : goal.returns-then-self-len-clause-next
returns-then-self-len-clause-next c journal of is = none_left journal c.args.self.now is c.args.log.now of (omega arith)

pub returns-then-event-clause-next : goal.returns-then-event-clause-next
returns-then-event-clause-next c journal of is event mark from upto at_event =
    one_is_within journal c.args.self.now is c.args.log.now of c.as_slice.result.now c.as_slice.ensures _ (omega arith) c.saturating_add-event.result
    (c.saturating_add-event.ensures ∙ ap (λ n. min (c.args.self.now.events + n) (2 ^ 64 - 1)) c.from.ensures) c.if-event.true

pub returns-clause-next : goal.returns-clause-next
returns-clause-next c journal of is =
    one_left journal c.args.self.now is c.args.log.now of c.as_slice.result.now c.as_slice.ensures _ (omega arith) c.saturating_add-event.result
    (c.saturating_add-event.ensures ∙ ap (λ n. min (c.args.self.now.events + n) (2 ^ 64 - 1)) c.from.ensures)
