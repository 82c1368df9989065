-- What is picked.
use Rattle.std.proofs.Common.{◌≡◌, ◌∙◌, sym, subst, ℕ, Bool, List, Option}
use Rattle.octet_schedule.specs.Ready.{IsReady}
use Rattle.octet_schedule.specs.Schedules.{is_tired, ready_worker, Goes, Notes, Picks, Rests}
use Rattle.octet_schedule.specs.declared.draws.Draws.{Draws}
use Rattle.octet_schedule.specs.declared.schedule.Schedule.{Schedule}
use Rattle.octet_schedule.specs.declared.schedule.Way.{Way}

-- a thread is chosen, and then its accesses in a row are counted
pub chosen_and_noted : (it between that : Schedule) (ready : List Bool) (worker : Option ℕ) (thread : ℕ)
    → worker ≡ ready_worker it ready → IsReady ready thread → Rests it.way ready worker (is_tired it) thread
    → Goes it.way it.draws.generator ready worker (is_tired it) thread between.way between.draws.generator
    → between.at_work ≡ it.at_work → between.in_a_row ≡ it.in_a_row
    → that.way ≡ between.way → that.draws ≡ between.draws → Notes between thread that → Picks it ready thread that
chosen_and_noted it between that ready worker thread is_worker is_ready rests goes at_work in_a_row way draws notes =
    let RestsBy : Option ℕ → Type 0 = λ one. Rests it.way ready one (is_tired it) thread in
    let GoesBy : Option ℕ → Type 0 = λ one. Goes it.way it.draws.generator ready one (is_tired it) thread between.way between.draws.generator in
    let GoesTo : Way → Type 0 = λ then. Goes it.way it.draws.generator ready (ready_worker it ready) (is_tired it) thread then between.draws.generator in
    let GoesWith : Draws → Type 0 = λ then. Goes it.way it.draws.generator ready (ready_worker it ready) (is_tired it) thread that.way then.generator in
    record {
      is_ready = is_ready;
      goes = subst GoesWith (sym draws) (subst GoesTo (sym way) (subst GoesBy is_worker goes));
      rests = subst RestsBy is_worker rests;
      notes = record {
        at_work = notes.at_work;
        again = λ same. rw (← in_a_row) (notes.again (at_work ∙ same));
        another = λ other. notes.another (λ same. other (sym at_work ∙ same));
      };
    }
