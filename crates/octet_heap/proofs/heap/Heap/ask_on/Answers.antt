use Rattle.std.proofs.Common.{rules, ◌≡◌, ◌<◌, ◌≤◌, ◌+◌, ◌-◌, ◌∙◌, sym, ap, arith, subst}
use Rattle.octet_state.specs.Asking.{whom_to_ask, number_to_ask, next_to_ask}
use Rattle.octet_rule.specs.Views.{SeatView}
use Rattle.octet_rule.specs.Seats.{view}
use Rattle.octet_heap.specs.declared.way.Way.{Way}
use Rattle.octet_heap.specs.Ways.{with_value, ComesTo}
use Rattle.octet_heap.proofs.polls.Going.{goes_on, comes_after}
use Rattle.octet_heap.proofs.stretches.Pursuits.{ask_given, ask_waits, asks_few_more}
use Rattle.octet_heap.proofs.log.Entries.{takes_both}
use Rattle.octet_heap.proofs.heap.Heap.ask_on.Goals as goal

pub loop-done-preserved : goal.loop-done-preserved
loop-done-preserved c = let i = c.loop-done.invariant in let v = view c.loop-done.recorder.seat in let u = view c.ask.new.self.seat in
    let left : c.loop-done.done < number_to_ask (whom_to_ask c.args.prior) v.threads = search rules in
    let next : c.next-next.result ≡ next_to_ask (whom_to_ask c.args.prior) v.number c.loop-done.done = search rules in
    let given = ask_given (with_value c.args.access 0) c.args.prior c.loop-done.done c.next-next.result v u left next i.stands c.ask.result c.in-Given.upto c.ask.ensures.step (sym c.in-Given.is) in
    let ahead : c.args.from ≤ c.loop-done.done = search rules in record {
      own = c.ask.ensures.keeps.own;
      base = c.ask.ensures.keeps.same_base ∙ i.base;
      counts = c.ask.ensures.keeps.counts ∙ i.counts;
      takes = takes_both c.args.recorder.now.log c.loop-done.recorder.log c.ask.new.self.log (view c.args.recorder.now.seat).journal v.journal u.journal i.takes c.ask.ensures.keeps.takes;
      number = ap (λ (x : SeatView). x.number) c.ask.ensures.step.step.moves ∙ i.number;
      stands = search rules;
      goes = λ value. goes_on (with_value c.args.access value) (view c.args.recorder.now.seat) v u (1 + (c.loop-done.done - c.args.from)) 2 (1 + (c.loop-done.done + 1 - c.args.from)) (i.goes value) (ask_given (with_value c.args.access value) c.args.prior c.loop-done.done c.next-next.result v u left next i.stands c.ask.result c.in-Given.upto c.ask.ensures.step (sym c.in-Given.is)).1 (omega arith);
    }

pub returns-clause-comes : goal.returns-clause-comes
returns-clause-comes c = let i = c.loop-done.invariant in
    let few : c.loop-done.done ≤ 15 = asks_few_more (whom_to_ask c.args.prior) (view c.args.recorder.now.seat).threads c.loop-done.done (search rules) (search rules) in
    λ value. goes_on (with_value c.args.access value) (view c.args.recorder.now.seat) (view c.loop-done.recorder.seat) _ (1 + (c.loop-done.done - c.args.from)) 2 17 (i.goes value) (c.settle.ensures.comes value) (omega arith)

pub returns-in-Unanswered-clause-comes : goal.returns-in-Unanswered-clause-comes
returns-in-Unanswered-clause-comes c = let i = c.loop-done.invariant in let v = view c.loop-done.recorder.seat in let u = view c.ask.new.self.seat in
    let left : c.loop-done.done < number_to_ask (whom_to_ask c.args.prior) v.threads = search rules in
    let next : c.next-next.result ≡ next_to_ask (whom_to_ask c.args.prior) v.number c.loop-done.done = search rules in
    let few : c.loop-done.done + 1 ≤ 15 = asks_few_more (whom_to_ask c.args.prior) v.threads (c.loop-done.done + 1) (search rules) (omega arith) in
    subst (λ (way : Way). ComesTo c.args.access (view c.args.recorder.now.seat) way 17 u) (sym c.waits_unanswered.ensures)
    (λ value. comes_after (with_value c.args.access value) (view c.args.recorder.now.seat) v u (1 + (c.loop-done.done - c.args.from)) 3 17 _ (i.goes value) (ask_waits (with_value c.args.access value) c.args.prior c.loop-done.done c.next-next.result v u left next i.stands c.ask.result c.in-Unanswered.word c.ask.ensures.step (sym c.in-Unanswered.is)) (omega arith))
