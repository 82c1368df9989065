use Rattle.std.proofs.Common.{◌≡◌, ◌∙◌, ℕ, List, refl, sym, subst}
use Rattle.std.proofs.Math.Logic.{∥∥₁_elim, ∥∥₁_prop}
use Rattle.std.specs.Option.{ForSome}
use Rattle.octet_model.specs.declared.event.Event.{Event}
use Rattle.octet_model.specs.Journals.{gapped_marks}
use Rattle.octet_model.specs.Thread.{starting_configuration}
use Rattle.octet_interp.specs.Laws.{IsJournalOf}
use Rattle.octet_heap.specs.Workers.{seat_of}
use Rattle.octet_threads.specs.Carrying.{start_of}
use Rattle.octet_live.specs.Feeds.{HasSent}
use Rattle.octet_threads.proofs.tasks.Doing.{pauses}
use Rattle.octet_threads.proofs.heap.runner.Runner.stay_away.Goals as goal

pub invariant_of-self : goal.invariant_of-self
invariant_of-self g c =
    let self = c.args.self.now in
    let rested = c.unblock.new.worker in
    let same : (seat_of rested).journal ≡ (seat_of self.worker).journal = c.unblock.ensures.same ∙ c.block.ensures.same in
    let fuel : rested.fuel ≡ self.worker.fuel = c.unblock.ensures.own.same_fuel ∙ sym c.requires.work.own.same_fuel in record {
      fits = ∥∥₁_elim self.fits ∥∥₁_prop (λ kept.
          ∣ subst (λ (n : ℕ). IsJournalOf (starting_configuration n) (seat_of rested).journal self.config) (sym fuel)
          (subst (λ (journal : List Event). IsJournalOf (start_of self.worker) journal self.config) (sym same) kept) ∣₁);
      idle = self.idle;
      fed = subst (λ (journal : List Event). ForSome self.feed (λ feed. HasSent feed (gapped_marks 0 journal))) (sym same) self.fed;
    }

pub returns-clause-rested : goal.returns-clause-rested
returns-clause-rested g c = record {
  steps = pauses (seat_of c.args.self.now.worker) (seat_of c.block.new.worker) (seat_of c.unblock.new.worker) c.block.ensures.step.0 c.unblock.ensures.step.0
      c.requires.work.own.owes_nothing c.requires.work.idle.0 c.block.ensures.step.1 c.unblock.ensures.step.1;
  journal = c.unblock.ensures.same ∙ c.block.ensures.same;
  number = c.unblock.ensures.number ∙ c.block.ensures.number;
  config = refl;
  feed = refl;
}
