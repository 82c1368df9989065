use Rattle.std.proofs.Common.{◌≡◌, ◌∙◌, ◌<◌, ℕ, List, sym, subst}
use Rattle.std.proofs.Math.Logic.{∥∥₁_elim, ∥∥₁_prop}
use Rattle.std.specs.Option.{ForSome}
use Rattle.octet_model.specs.declared.log.Gapped.{Gapped}
use Rattle.octet_model.specs.Journals.{access_count}
use Rattle.octet_model.specs.Thread.{starting_configuration}
use Rattle.octet_interp.specs.Laws.{IsJournalOf}
use Rattle.octet_heap.specs.Workers.{seat_of}
use Rattle.octet_threads.specs.Carrying.{start_of}
use Rattle.octet_threads.proofs.tasks.Fuel.{access_left}
use Rattle.octet_live.specs.Feeds.{HasSent}
use Rattle.octet_threads.specs.Tasks.{task_of}
use Rattle.octet_threads.proofs.tasks.Growing.{task_grows, task_seen, feed_still_sent}
use Rattle.octet_threads.proofs.runners.Props.{journal_prop}
use Rattle.octet_threads.proofs.heap.runner.Runner.step.Goals as goal

pub carry_with_backoff-demand-requires-clause-can : goal.carry_with_backoff-demand-requires-clause-can
carry_with_backoff-demand-requires-clause-can g c κs within =
    let self = c.args.self.now in
    let kept : IsJournalOf (start_of self.worker) (seat_of self.worker).journal self.config = ∥∥₁_elim self.fits (journal_prop (start_of self.worker) (seat_of self.worker).journal self.config) (λ k. k) in record {
      own = c.requires.work.own;
      idle = c.requires.work.idle;
      more = λ wants. subst (λ (fuel : ℕ). access_count (seat_of self.worker).journal < fuel) c.requires.work.own.same_fuel
          (access_left (start_of self.worker) (seat_of self.worker).journal self.config kept wants);
      objects = c.requires.work.objects;
      waits = self.idle;
    }

pub invariant_of-self-clause-fits : goal.invariant_of-self-clause-fits
invariant_of-self-clause-fits g c =
    let self = c.args.self.now in
    let same : c.carry_with_backoff-demand.new.worker.fuel ≡ self.worker.fuel = c.carry_with_backoff-demand.ensures.own.same_fuel ∙ sym c.requires.work.own.same_fuel in
    ∥∥₁_elim self.fits ∥∥₁_prop (λ kept.
    ∣ subst (λ (fuel : ℕ). IsJournalOf (starting_configuration fuel) (seat_of c.carry_with_backoff-demand.new.worker).journal c.carry_with_backoff-demand.new.config) (sym same) (c.carry_with_backoff-demand.ensures.journal (start_of self.worker) kept) ∣₁)

pub send_new-requires : goal.send_new-requires
send_new-requires g c =
    let self = c.args.self.now in
    subst (λ (marks : List Gapped). ForSome self.feed (λ feed. HasSent feed marks)) (sym c.marks.ensures)
    (feed_still_sent self.feed (seat_of self.worker).journal (seat_of c.carry_with_backoff-demand.new.worker).journal (task_grows (task_of c.carry_with_backoff-demand.result) _ _ c.carry_with_backoff-demand.ensures.steps) self.fed)

pub invariant_of-self-clause-fed : goal.invariant_of-self-clause-fed
invariant_of-self-clause-fed g c = subst (λ (marks : List Gapped). ForSome c.send_new.new.feed (λ feed. HasSent feed marks)) c.marks.ensures c.send_new.ensures.sent

pub returns-clause-seen : goal.returns-clause-seen
returns-clause-seen g c = let seen = task_seen (task_of c.carry_with_backoff-demand.result) _ _ c.carry_with_backoff-demand.ensures.steps in record { state = seen.0; seen = seen.1 }
