use Rattle.std.proofs.Common.{rules, ◌≡◌, Bool, false, sym, ap, subst}
use Rattle.octet_state.specs.declared.act.Mode.TheVariants.{Update}
use Rattle.octet_rule.specs.Changes.{changed_by, amount_by}
use Rattle.octet_rule.specs.Seats.{view}
use Rattle.octet_heap.specs.declared.updated.Updated.{Updated}
use Rattle.octet_heap.specs.declared.updated.Updated.TheVariants.{Made, Pending}
use Rattle.octet_heap.specs.Calls.{access_to}
use Rattle.octet_heap.specs.OwnersPath.{steps_since}
use Rattle.octet_heap.specs.SlowPath.{is_idle, slow_after}
use Rattle.octet_heap.specs.Standing.{update_of}
use Rattle.octet_heap.specs.Updates.{answer_after, PollsToChange}
use Rattle.octet_heap.specs.Waiting.{EndsPoll}
use Rattle.octet_heap.proofs.polls.Fastness.{loaded_before}
use Rattle.octet_heap.proofs.polls.Growing.{same_number}
use Rattle.octet_heap.proofs.polls.Pointed.{ends_waiting, keeps_on}
use Rattle.octet_heap.proofs.polls.Polled.{poll_ready, poll_pending}
use Rattle.octet_heap.proofs.polls.Updated.{polls_to_change}
use Rattle.octet_heap.proofs.heap.Heap.resume_change.Goals as goal

pub returns-in-Made-clause-polls : goal.returns-in-Made-clause-polls
returns-in-Made-clause-polls c = let object = c.args.object in let change = c.args.change in
    let v = view c.args.recorder.now.seat in let w = view c.go_on_to_change-updated.new.recorder.seat in
    subst (λ (a : Updated). PollsToChange object change v a w) (sym c.in-Made.is)
    (polls_to_change object change v w (Made c.in-Made.before) c.requires.begun
    (poll_ready (access_to object Update (amount_by change c.in-Made.before)) v w (changed_by change c.in-Made.before) c.in-Made.ensures.comes c.in-Made.ensures.leaves.0)
    c.in-Made.ensures.ends)

pub returns-in-Pending-clause-polls : goal.returns-in-Pending-clause-polls
returns-in-Pending-clause-polls c = let object = c.args.object in let change = c.args.change in
    let v = view c.args.recorder.now.seat in let u = view c.go_on_to_change-updated.new.recorder.seat in let w = view c.safe_point.new.self.seat in
    subst (λ (a : Updated). PollsToChange object change v a w) (sym c.in-Pending.is)
    (polls_to_change object change v w (Pending c.in-Pending.why) c.requires.begun
    (poll_pending (update_of object) v u w c.in-Pending.why c.safe_point.result c.in-Pending.ensures.comes c.in-Pending.ensures.leaves.0 c.safe_point.ensures.step) tt)

pub returns-in-Made-clause-number : goal.returns-in-Made-clause-number
returns-in-Made-clause-number c = same_number _ (view c.args.recorder.now.seat) _ _ (returns-in-Made-clause-polls c).polls.steps

pub returns-in-Pending-clause-number : goal.returns-in-Pending-clause-number
returns-in-Pending-clause-number c = same_number _ (view c.args.recorder.now.seat) _ _ (returns-in-Pending-clause-polls c).polls.steps

pub returns-in-Pending-clause-keeps : goal.returns-in-Pending-clause-keeps
returns-in-Pending-clause-keeps c = let e = c.safe_point.ensures in keeps_on c.args.self.now.words _ c.args.recorder.now c.go_on_to_change-updated.new.recorder c.safe_point.new.self c.go_on_to_change-updated.ensures.keeps e.own e.log e.base e.journal

pub returns-in-Made-clause-ends : goal.returns-in-Made-clause-ends
returns-in-Made-clause-ends c = subst (λ (a : Updated). EndsPoll (update_of c.args.object) (answer_after c.args.change a) (view c.go_on_to_change-updated.new.recorder.seat)) (sym c.in-Made.is) c.in-Made.ensures.leaves

pub returns-in-Pending-clause-ends : goal.returns-in-Pending-clause-ends
returns-in-Pending-clause-ends c = let access = update_of c.args.object in
    let u = view c.go_on_to_change-updated.new.recorder.seat in let w = view c.safe_point.new.self.seat in let e = c.safe_point.ensures in
    subst (λ (a : Updated). EndsPoll access (answer_after c.args.change a) w) (sym c.in-Pending.is)
    (ends_waiting access u w c.in-Pending.why c.safe_point.result c.in-Pending.ensures.leaves e.step e.due e.phase)

pub returns-in-Made-clause-path : goal.returns-in-Made-clause-path
returns-in-Made-clause-path c = λ slow. let v = view c.args.recorder.now.seat in
    let busy : is_idle v.thread.phase ≡ false = search rules in
    ap (λ (b : Bool). slow_after (answer_after c.args.change c.go_on_to_change-updated.result) b slow) (sym (loaded_before (update_of c.args.object) v (steps_since v (view c.go_on_to_change-updated.new.recorder.seat)) busy))

pub returns-in-Pending-clause-path : goal.returns-in-Pending-clause-path
returns-in-Pending-clause-path c = λ slow. let v = view c.args.recorder.now.seat in
    let busy : is_idle v.thread.phase ≡ false = search rules in
    ap (λ (b : Bool). slow_after (answer_after c.args.change c.go_on_to_change-updated.result) b slow) (sym (loaded_before (update_of c.args.object) v (steps_since v (view c.safe_point.new.self.seat)) busy))
