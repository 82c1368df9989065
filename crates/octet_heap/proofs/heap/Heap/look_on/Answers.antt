use Rattle.std.proofs.Common.{rules, ◌≡◌, sym, arith, subst}
use Rattle.octet_state.specs.Asking.{whom_to_ask, next_to_ask}
use Rattle.octet_rule.specs.Seats.{view}
use Rattle.octet_heap.specs.declared.way.Way.{Way}
use Rattle.octet_heap.specs.Ways.{with_value, ComesTo}
use Rattle.octet_heap.proofs.polls.Going.{comes_to_after, comes_sooner}
use Rattle.octet_heap.proofs.stretches.Pursuits.{look_given, look_waits}
use Rattle.octet_heap.proofs.heap.Heap.look_on.Goals as goal

pub returns-in-Given-clause-comes : goal.returns-in-Given-clause-comes
returns-in-Given-clause-comes c = let v = view c.args.recorder.now.seat in let u = view c.look.new.self.seat in
    let next : c.next-next.result ≡ next_to_ask (whom_to_ask c.args.prior) v.number c.args.done = search rules in
    comes_to_after c.args.access v u _ 2 17 18 _ (λ value. (look_given (with_value c.args.access value) c.args.prior c.args.done c.next-next.result v u c.requires.left next c.requires.stands c.look.result c.in-Given.upto c.look.ensures.step (sym c.in-Given.is)).1) c.ask_on.ensures.comes (omega arith)

pub returns-in-Unanswered-clause-comes : goal.returns-in-Unanswered-clause-comes
returns-in-Unanswered-clause-comes c = let v = view c.args.recorder.now.seat in let u = view c.look.new.self.seat in
    let next : c.next-next.result ≡ next_to_ask (whom_to_ask c.args.prior) v.number c.args.done = search rules in
    subst (λ (way : Way). ComesTo c.args.access v way 18 u) (sym c.waits_unanswered.ensures) (λ value. comes_sooner (with_value c.args.access value) v u 3 18 _ (look_waits (with_value c.args.access value) c.args.prior c.args.done c.next-next.result v u c.requires.left next c.requires.stands c.look.result c.in-Unanswered.word c.look.ensures.step (sym c.in-Unanswered.is) c.requires.named).0 (omega arith))
