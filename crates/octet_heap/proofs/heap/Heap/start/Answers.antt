use Rattle.std.proofs.Common.{◌≡◌, ◌∙◌, Bool, Some, refl, sym, ap, subst}
use Rattle.octet_state.specs.declared.phase.Phase.{Phase}
use Rattle.octet_rule.specs.Seats.{view}
use Rattle.octet_heap.specs.declared.poll.Poll.{Poll}
use Rattle.octet_heap.specs.OwnersPath.{steps_since}
use Rattle.octet_heap.specs.Polls.{Comes}
use Rattle.octet_heap.specs.SlowPath.{is_idle, is_fast, slow_after}
use Rattle.octet_heap.specs.Standing.{IsAbout}
use Rattle.octet_heap.specs.Waiting.{Leaves, EndsPoll}
use Rattle.octet_heap.specs.Workers.{IsPoll}
use Rattle.octet_heap.proofs.polls.Fastness.{idle_fast}
use Rattle.octet_heap.proofs.polls.Growing.{same_number}
use Rattle.octet_heap.proofs.polls.Pointed.{ends_waiting, keeps_on}
use Rattle.octet_heap.proofs.polls.Polled.{poll_ready, poll_pending}
use Rattle.octet_heap.proofs.polls.WholePolls.{polls_by}
use Rattle.octet_heap.proofs.heap.Heap.start.Goals as goal

pub returns-in-Ready-clause-polls : goal.returns-in-Ready-clause-polls
returns-in-Ready-clause-polls c = let access = c.args.access in let v = view c.args.recorder.now.seat in let w = view c.load-poll.new.recorder.seat in
    let about = subst (λ (p : Phase). IsAbout v.threads (Some access) p) (sym c.requires.stands.1) tt in
    polls_by access (Some access) v w c.load-poll.result.0 about refl
    (subst (λ (a : Poll). IsPoll access v a w) (sym c.in-Ready.is)
    (poll_ready access v w c.in-Ready.value (subst (λ (a : Poll). Comes access v a 19 w) c.in-Ready.is c.load-poll.ensures.comes) (subst (λ (a : Poll). Leaves access a w) c.in-Ready.is c.load-poll.ensures.leaves).0))

pub returns-in-Pending-clause-polls : goal.returns-in-Pending-clause-polls
returns-in-Pending-clause-polls c = let access = c.args.access in let v = view c.args.recorder.now.seat in
    let u = view c.load-poll.new.recorder.seat in let w = view c.safe_point.new.self.seat in
    let about = subst (λ (p : Phase). IsAbout v.threads (Some access) p) (sym c.requires.stands.1) tt in
    polls_by access (Some access) v w c.load-poll.result.0 about refl
    (subst (λ (a : Poll). IsPoll access v a w) (sym c.in-Pending.is)
    (poll_pending access v u w c.in-Pending.why c.safe_point.result (subst (λ (a : Poll). Comes access v a 19 u) c.in-Pending.is c.load-poll.ensures.comes) (subst (λ (a : Poll). Leaves access a u) c.in-Pending.is c.load-poll.ensures.leaves).0 c.safe_point.ensures.step))

pub returns-in-Ready-clause-number : goal.returns-in-Ready-clause-number
returns-in-Ready-clause-number c = same_number _ (view c.args.recorder.now.seat) _ c.load-poll.result.0 (returns-in-Ready-clause-polls c).steps

pub returns-in-Pending-clause-number : goal.returns-in-Pending-clause-number
returns-in-Pending-clause-number c = same_number _ (view c.args.recorder.now.seat) _ c.load-poll.result.0 (returns-in-Pending-clause-polls c).steps

pub returns-in-Pending-clause-keeps : goal.returns-in-Pending-clause-keeps
returns-in-Pending-clause-keeps c = let e = c.safe_point.ensures in keeps_on c.args.self.now.words _ c.args.recorder.now c.load-poll.new.recorder c.safe_point.new.self c.load-poll.ensures.keeps e.own e.log e.base e.journal

pub returns-in-Ready-clause-ends : goal.returns-in-Ready-clause-ends
returns-in-Ready-clause-ends c = let access = c.args.access in let w = view c.load-poll.new.recorder.seat in
    subst (λ (a : Poll). EndsPoll access a w) (sym c.in-Ready.is) (subst (λ (a : Poll). Leaves access a w) c.in-Ready.is c.load-poll.ensures.leaves)

pub returns-in-Pending-clause-ends : goal.returns-in-Pending-clause-ends
returns-in-Pending-clause-ends c = let access = c.args.access in let u = view c.load-poll.new.recorder.seat in let w = view c.safe_point.new.self.seat in let e = c.safe_point.ensures in
    subst (λ (a : Poll). EndsPoll access a w) (sym c.in-Pending.is)
    (ends_waiting access u w c.in-Pending.why c.safe_point.result (subst (λ (a : Poll). Leaves access a u) c.in-Pending.is c.load-poll.ensures.leaves) e.step e.due e.phase)

pub returns-in-Ready-clause-path : goal.returns-in-Ready-clause-path
returns-in-Ready-clause-path c = λ slow. let access = c.args.access in let v = view c.args.recorder.now.seat in
    let steps = steps_since v (view c.load-poll.new.recorder.seat) in
    let fast = c.load-poll.ensures.passes ∙ sym (idle_fast access v steps (ap is_idle c.requires.stands.1)) in
    ap (λ (b : Bool). slow_after c.load-poll.result.0 b slow) fast

pub returns-in-Pending-clause-path : goal.returns-in-Pending-clause-path
returns-in-Pending-clause-path c = λ slow. let access = c.args.access in let v = view c.args.recorder.now.seat in
    subst (λ (a : Poll). slow_after a c.load-poll.result.1 slow ≡ slow_after a (is_fast access v (steps_since v (view c.safe_point.new.self.seat))) slow) (sym c.in-Pending.is) refl
