use Rattle.std.proofs.Common.{◌≡◌, ℕ, List, length, sym, subst}
use Rattle.std.proofs.lemmas.List.Elements.{length_all_zip}
use Rattle.octet_model.specs.declared.log.Gapped.{Gapped}
use Rattle.octet_live.specs.Written.{Writes}
use Rattle.octet_live.specs.Drained.{AddsAllLeft}
use Rattle.octet_live.proofs.lemmas.Left.{all_written}
use Rattle.octet_threads.specs.Runners.{IsSame}
use Rattle.octet_threads.specs.Work.{marks_made}
use Rattle.octet_threads.proofs.runners.Places.{still_send, all_ended_still, same_both, made_same}
use Rattle.octet_threads.proofs.heap.live.run_written.Goals as goal

pub add_all_left-requires-clause-send : goal.add_all_left-requires-clause-send
add_all_left-requires-clause-send g c κs within =
    still_send c.args.drainer.now c.run_beside.new.drainer c.args.runners.now c.run_beside.new.runners c.run_beside.ensures.same c.run_beside.ensures.drains.rings c.run_beside.ensures.drains.as_many c.requires.send

pub returns-clause-ended : goal.returns-clause-ended
returns-clause-ended g c = all_ended_still c.run_beside.new.runners c.add_all_left.new.runners c.add_all_left.ensures.workers c.add_all_left.ensures.threads c.args.heap.now c.run_beside.ensures.ended

pub returns-clause-same : goal.returns-clause-same
returns-clause-same g c = same_both c.args.runners.now c.run_beside.new.runners c.add_all_left.new.runners c.run_beside.ensures.same c.add_all_left.ensures.same

pub returns-clause-writes : goal.returns-clause-writes
returns-clause-writes g c =
    let first = c.args.runners.now in
    let ran = c.run_beside.new.runners in
    let last = c.add_all_left.new.runners in
    let state = g.D.Desk.state in
    let many : length ran ≡ length first = sym (length_all_zip IsSame first ran c.run_beside.ensures.same) in
    let left = subst (λ (n : ℕ). AddsAllLeft n (marks_made ran) c.run_beside.new.drainer (state c.run_beside.new.desk) c.add_all_left.new.drainer (state c.add_all_left.new.desk)) many c.add_all_left.ensures.left in
    subst (λ (own : ℕ → List Gapped). Writes (length first) own (state c.args.desk.now) c.add_all_left.new.drainer.kept (state c.add_all_left.new.desk)) (sym (made_same ran last c.add_all_left.ensures.workers))
    (all_written (length first) (marks_made ran) c.args.drainer.now c.run_beside.new.drainer c.add_all_left.new.drainer _ _ _ c.requires.fresh c.run_beside.ensures.drains left)
