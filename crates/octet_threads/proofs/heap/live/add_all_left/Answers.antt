use Rattle.std.proofs.Common.{rules, ◌≡◌, ◌∙◌, ◌<◌, List, length, slice_index_or, refl, sym, ap, subst, arith}
use Rattle.std.proofs.lemmas.List.{get_or-set_other}
use Rattle.octet_model.specs.declared.log.Gapped.{Gapped}
use Rattle.octet_model.specs.Journals.{gapped_marks}
use Rattle.octet_heap.specs.declared.worker.Worker.{Worker}
use Rattle.octet_heap.specs.Workers.{seat_of}
use Rattle.octet_interp.specs.Demands.{ThreadState}
use Rattle.octet_live.specs.Drained.{AddsLeft, IsFeedOf}
use Rattle.octet_live.proofs.lemmas.Left.{left_of_none, left_of_next}
use Rattle.octet_threads.specs.declared.heap.runner.Runner.{Runner}
use Rattle.octet_threads.specs.Runners.{IsSame}
use Rattle.octet_threads.specs.Work.{SendsTo, marks_made}
use Rattle.octet_threads.proofs.runners.Places.{made_at, all_same, same_set, map_set, drained_sends}
use Rattle.octet_threads.proofs.heap.live.add_all_left.Goals as goal

pub loop-thread-init : goal.loop-thread-init
loop-thread-init g c = record {
  left = left_of_none (length c.args.runners.now) (marks_made c.args.runners.now) c.args.drainer.now (g.D.Desk.state c.args.desk.now);
  same = all_same c.args.runners.now;
  workers = refl;
  threads = refl;
  ahead = λ thread none least. refl;
  begun = refl;
}

pub add_left_of-requires-clause-sends : goal.add_left_of-requires-clause-sends
add_left_of-requires-clause-sends g c κs within =
    let loop = c.loop-thread in
    let there : loop.thread < length c.args.runners.now = search rules in
    let none = c.index-runners-thread.result in
    drained_sends c.args.drainer.now loop.drainer loop.thread _ loop.invariant.left.rings loop.invariant.left.as_many
    (subst (λ (runner : Runner). SendsTo c.args.drainer.now loop.thread runner.feed) (sym (loop.invariant.ahead loop.thread none (omega arith))) (c.requires.send loop.thread none there))

pub loop-thread-preserved : goal.loop-thread-preserved
loop-thread-preserved g c =
    let loop = c.loop-thread in
    let none = c.index-runners-thread.result in
    let there : loop.thread < length c.args.runners.now = search rules in
    let here = loop.invariant.ahead loop.thread none (omega arith) in
    let own : marks_made c.args.runners.now loop.thread ≡ _ = made_at c.args.runners.now loop.thread none there ∙ ap (λ (runner : Runner). gapped_marks 0 (seat_of runner.worker).journal) (sym here) in
    let left_of = c.add_left_of in
    let runner = left_of.new.runner in
    let left = subst (λ (marks : List Gapped). AddsLeft loop.thread marks loop.drainer (g.D.Desk.state loop.desk) left_of.new.drainer (g.D.Desk.state left_of.new.desk)) (sym own) left_of.ensures.left in
    let same : IsSame (slice_index_or loop.runners loop.thread none) runner = record {
      number = ap (λ (w : Worker). (seat_of w).number) left_of.ensures.worker;
      commands = ap (λ (c : ThreadState). c.commands) left_of.ensures.config;
      end = left_of.ensures.end;
    } in record {
      left = left_of_next loop.thread (length c.args.runners.now) (marks_made c.args.runners.now) c.args.drainer.now loop.drainer left_of.new.drainer _ _ _ there loop.invariant.left left;
      same = same_set c.args.runners.now loop.runners loop.thread none runner there (subst (λ (r : Runner). IsSame r runner) here same) loop.invariant.same;
      workers = map_set (λ (r : Runner). r.worker) loop.runners loop.thread none runner left_of.ensures.worker ∙ loop.invariant.workers;
      threads = map_set (λ (r : Runner). r.config) loop.runners loop.thread none runner left_of.ensures.config ∙ loop.invariant.threads;
      ahead = λ thread other least. get_or-set_other loop.runners loop.thread thread runner other (λ e. absurd (omega (arith, e, least))) ∙ loop.invariant.ahead thread other (omega (arith, least));
      begun = left_of.ensures.begun ∙ loop.invariant.begun;
    }
