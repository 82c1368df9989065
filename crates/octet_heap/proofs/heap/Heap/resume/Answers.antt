use Rattle.std.proofs.Common.{rules, ◌≡◌, Bool, false, Some, refl, sym, ap, subst}
use Rattle.octet_rule.specs.Seats.{view}
use Rattle.octet_heap.specs.declared.poll.Poll.{Poll}
use Rattle.octet_heap.specs.OwnersPath.{steps_since}
use Rattle.octet_heap.specs.SlowPath.{is_idle, slow_after}
use Rattle.octet_heap.specs.Waiting.{EndsPoll}
use Rattle.octet_heap.specs.Workers.{IsPoll}
use Rattle.octet_heap.proofs.polls.Fastness.{loaded_before}
use Rattle.octet_heap.proofs.polls.Growing.{same_number}
use Rattle.octet_heap.proofs.polls.Pointed.{ends_waiting, keeps_on}
use Rattle.octet_heap.proofs.polls.Polled.{poll_ready, poll_pending}
use Rattle.octet_heap.proofs.polls.WholePolls.{polls_by}
use Rattle.octet_heap.proofs.heap.Heap.resume.Goals as goal

pub returns-in-Ready-clause-polls : goal.returns-in-Ready-clause-polls
returns-in-Ready-clause-polls c = let access = c.args.access in let v = view c.args.recorder.now.seat in let w = view c.go_on-poll.new.recorder.seat in
    polls_by access (Some access) v w c.go_on-poll.result c.requires.begun refl
    (subst (λ (a : Poll). IsPoll access v a w) (sym c.in-Ready.is)
    (poll_ready access v w c.in-Ready.value c.in-Ready.ensures.comes c.in-Ready.ensures.leaves.0))

pub returns-in-Pending-clause-polls : goal.returns-in-Pending-clause-polls
returns-in-Pending-clause-polls c = let access = c.args.access in let v = view c.args.recorder.now.seat in
    let u = view c.go_on-poll.new.recorder.seat in let w = view c.safe_point.new.self.seat in
    polls_by access (Some access) v w c.go_on-poll.result c.requires.begun refl
    (subst (λ (a : Poll). IsPoll access v a w) (sym c.in-Pending.is)
    (poll_pending access v u w c.in-Pending.why c.safe_point.result c.in-Pending.ensures.comes c.in-Pending.ensures.leaves.0 c.safe_point.ensures.step))

pub returns-in-Ready-clause-number : goal.returns-in-Ready-clause-number
returns-in-Ready-clause-number c = same_number _ (view c.args.recorder.now.seat) _ c.go_on-poll.result (returns-in-Ready-clause-polls c).steps

pub returns-in-Pending-clause-number : goal.returns-in-Pending-clause-number
returns-in-Pending-clause-number c = same_number _ (view c.args.recorder.now.seat) _ c.go_on-poll.result (returns-in-Pending-clause-polls c).steps

pub returns-in-Pending-clause-keeps : goal.returns-in-Pending-clause-keeps
returns-in-Pending-clause-keeps c = let e = c.safe_point.ensures in keeps_on c.args.self.now.words _ c.args.recorder.now c.go_on-poll.new.recorder c.safe_point.new.self c.go_on-poll.ensures.keeps e.own e.log e.base e.journal

pub returns-in-Ready-clause-ends : goal.returns-in-Ready-clause-ends
returns-in-Ready-clause-ends c = subst (λ (a : Poll). EndsPoll c.args.access a (view c.go_on-poll.new.recorder.seat)) (sym c.in-Ready.is) c.in-Ready.ensures.leaves

pub returns-in-Pending-clause-ends : goal.returns-in-Pending-clause-ends
returns-in-Pending-clause-ends c = let u = view c.go_on-poll.new.recorder.seat in let w = view c.safe_point.new.self.seat in let e = c.safe_point.ensures in
    subst (λ (a : Poll). EndsPoll c.args.access a w) (sym c.in-Pending.is) (ends_waiting c.args.access u w c.in-Pending.why c.safe_point.result c.in-Pending.ensures.leaves e.step e.due e.phase)

pub returns-in-Ready-clause-path : goal.returns-in-Ready-clause-path
returns-in-Ready-clause-path c = λ slow. let access = c.args.access in let v = view c.args.recorder.now.seat in
    let busy : is_idle v.thread.phase ≡ false = search rules in
    ap (λ (b : Bool). slow_after c.go_on-poll.result b slow) (sym (loaded_before access v (steps_since v (view c.go_on-poll.new.recorder.seat)) busy))

pub returns-in-Pending-clause-path : goal.returns-in-Pending-clause-path
returns-in-Pending-clause-path c = λ slow. let access = c.args.access in let v = view c.args.recorder.now.seat in
    let busy : is_idle v.thread.phase ≡ false = search rules in
    ap (λ (b : Bool). slow_after c.go_on-poll.result b slow) (sym (loaded_before access v (steps_since v (view c.safe_point.new.self.seat)) busy))
