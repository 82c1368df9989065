-- The check of a script and a log, from the steps of a replay.
use Rattle.std.proofs.Common.{◌≡◌, ℕ, suc, ◌<◌, ◌^◌, List, [], length, take, refl, sym, ap, ◌∙◌, subst, arith}
use Rattle.std.proofs.lemmas.Bool.{and_parts, ltb-true}
use Rattle.std.proofs.lemmas.List.{length-map}
use Rattle.octet_model.specs.declared.command.Command.{Command}
use Rattle.octet_model.specs.declared.event.Event.{Event}
use Rattle.octet_model.specs.declared.script.Script.{Script}
use Rattle.octet_model.specs.declared.log.Log.{Log}
use Rattle.octet_model.specs.declared.log.ThreadLog.{ThreadLog}
use Rattle.octet_model.specs.Machine.{PlainState, may_proceed, next_of}
use Rattle.octet_model.specs.HappensBefore.{IsOrdered}
use Rattle.octet_model.specs.Orders.{by_log, opening_state, starting_heap, journals_after, lowest_order, outcome_of, IsLawfulOrder}
use Rattle.octet_model.proofs.lemmas.Fronts.{one_end, front_leads_on}
use Rattle.octet_model.proofs.lemmas.LogsOfJournals.{as_many_after}
use Rattle.octet_replay.specs.Places.{FitInPlaces}
use Rattle.octet_replay.specs.ReplayState as replayed
use Rattle.octet_replay.specs.ReplayState.{ReplayState, HasHalted, plain_state}
use Rattle.octet_replay.proofs.lemmas.Halting.{all_steps_made}
use Rattle.octet_replay.proofs.lemmas.Places.{lowest_order_fits_in_places}
use Rattle.octet_clock.specs.declared.checker.Checker.{Checker}
use Rattle.octet_clock.specs.declared.verdict.Verdict.{Verdict}
use Rattle.octet_clock.specs.declared.verdict.Verdict.TheVariants.{Ordered, Unordered}
use Rattle.octet_clock.specs.Checker.{Holds, TakesEvent}
use Rattle.octet_clock.specs.Play.{made_by}
use Rattle.octet_clock.specs.Sources.{IsNextStep}
use Rattle.octet_clock.specs.Verdict.{JudgedUpTo}
use Rattle.octet_clock.specs.Verified.{HasOneOutcome, IsVerified, IsJudged}
use Rattle.octet_clock.proofs.checks.Checking.{has_room, verdict_is}
use Rattle.octet_clock.proofs.plays.WholePlay.{whole_play, step_of_play, lowest_is_lawful_front}

-- where the journals of the lowest order are ordered, the log has one outcome
one_outcome : (script : Script) (log : List ThreadLog) → IsLawfulOrder script log (lowest_order script log) → IsOrdered (journals_after script log (lowest_order script log)) → HasOneOutcome script log
one_outcome script log lawful ordered =
    let low = lowest_order script log in
    record {
      execution = λ order is. ap (outcome_of script) (one_end (by_log script log) (starting_heap script) script.threads low order lawful.1 ordered is.1);
      journals = λ order is. ap (λ (s : PlainState). s.journals) (one_end (by_log script log) (starting_heap script) script.threads low order lawful.1 ordered is.1);
      continues = λ front is. (let on = front_leads_on (by_log script log) (starting_heap script) script.threads low front lawful.1 ordered is.1 in (on.0, (lawful.0, on.1)));
    }

pub as_many_journals : (script : Script) (log : List ThreadLog) → length script.threads ≡ length log → length (journals_after script log (lowest_order script log)) ≡ length log
as_many_journals script log agree =
    as_many_after (by_log script log) (lowest_order script log) (opening_state script) ∙ length-map {B = List Event} script.threads (λ (c : List Command). []) ∙ agree

-- the next step of a replay is the next of a play of the journals that its order comes to
module _ (r : ReplayState) (agree : length r.script.threads ≡ length r.log.threads) (t : ℕ) (event : Event) (next : replayed.IsNextStep r t event) where
  places : FitInPlaces (journals_after r.script r.log.threads (lowest_order r.script r.log.threads))
  places = lowest_order_fits_in_places r.script r.log.threads agree r.log.valid

  there : t < length (plain_state r).journals
  there = ltb-true t (length (plain_state r).journals) (and_parts _ (may_proceed (plain_state r) (next_of (by_log r.script r.log.threads) (plain_state r) t)) next.may).0

  pub next_of_play : IsNextStep (journals_after r.script r.log.threads (lowest_order r.script r.log.threads)) (lowest_order r.script r.log.threads) r.steps t event
  next_of_play = record {
    places = places;
    whole = whole_play r.script r.log.threads (lowest_order r.script r.log.threads) (lowest_is_lawful_front r.script r.log.threads agree);
    step = step_of_play r.script r.log.threads (lowest_order r.script r.log.threads) (lowest_is_lawful_front r.script r.log.threads agree) r.steps t event next.within next.is_of there next.makes;
  }

  pub thread_within : t < length r.log.threads
  thread_within =
      omega (arith, there, agree, as_many_after (by_log r.script r.log.threads) (take r.steps (lowest_order r.script r.log.threads)) (opening_state r.script), length-map {B = List Event} r.script.threads (λ (c : List Command). []))

  pub room_for : suc (made_by (lowest_order r.script r.log.threads) r.steps t) < 2 ^ 32
  room_for =
      subst (λ (u : ℕ). suc (made_by (lowest_order r.script r.log.threads) r.steps u) < 2 ^ 32) next.is_of
      (has_room (journals_after r.script r.log.threads (lowest_order r.script r.log.threads)) (lowest_order r.script r.log.threads) r.steps
      (record { places = places; whole = whole_play r.script r.log.threads (lowest_order r.script r.log.threads) (lowest_is_lawful_front r.script r.log.threads agree); within = next.within }))

-- a checker holds what a replay of this script and log has made
pub record HoldsOf (script : Script) (log : Log) (r : ReplayState) (checker : Checker) : Type 0 where
  pub of_script : r.script ≡ script
  pub of_log : r.log ≡ log
  pub holds : Holds (journals_after script log.threads (lowest_order script log.threads)) (lowest_order script log.threads) r.steps checker

-- the same, for a replayer that began with this script and log
module _ (script : Script) (log : Log) (agree : length script.threads ≡ length log.threads) (r : ReplayState) (checker : Checker) (holds : HoldsOf script log r checker)
    (t : ℕ) (event : Event) (next : replayed.IsNextStep r t event) where
  r_is : r ≡ record { script = script; log = log; steps = r.steps }
  r_is = λ i. record { script = holds.of_script i; log = holds.of_log i; steps = r.steps }

  next_here : replayed.IsNextStep (record { script = script; log = log; steps = r.steps }) t event
  next_here = subst (λ (x : ReplayState). replayed.IsNextStep x t event) r_is next

  pub next_in_play : IsNextStep (journals_after script log.threads (lowest_order script log.threads)) (lowest_order script log.threads) r.steps t event
  next_in_play = next_of_play (record { script = script; log = log; steps = r.steps }) agree t event next_here

  pub thread_in_play : t < length log.threads
  thread_in_play = thread_within (record { script = script; log = log; steps = r.steps }) agree t event next_here

  pub room_in_play : suc (made_by (lowest_order script log.threads) r.steps t) < 2 ^ 32
  room_in_play = room_for (record { script = script; log = log; steps = r.steps }) agree t event next_here

  -- and with the event taken in it still does
  pub holds_after : (r' : ReplayState) (checker' : Checker) → r' ≡ record r { steps = suc r.steps } → TakesEvent checker t event checker' → HoldsOf script log r' checker'
  holds_after r' checker' is taken = record {
    of_script = ap (λ (x : ReplayState). x.script) is ∙ holds.of_script;
    of_log = ap (λ (x : ReplayState). x.log) is ∙ holds.of_log;
    holds =
        subst (λ (n : ℕ). Holds (journals_after script log.threads (lowest_order script log.threads)) (lowest_order script log.threads) n checker') (sym (ap (λ (x : ReplayState). x.steps) is))
        (taken (journals_after script log.threads (lowest_order script log.threads)) (lowest_order script log.threads) r.steps next_in_play holds.holds);
  }

-- the verdict on all steps
module _ (script : Script) (log : Log) (before after : ReplayState) (opens : before ≡ record { script = script; log = log; steps = 0 }) where
  judged_all : (verdict : Verdict) → length script.threads ≡ length log.threads → IsJudged (record { script = script; log = log; steps = 0 }) after verdict
      → JudgedUpTo (journals_after script log.threads (lowest_order script log.threads)) (lowest_order script log.threads) (length (lowest_order script log.threads)) verdict
  judged_all (Unordered first second) agree j = j.judged
  judged_all Ordered agree j =
      let after_is : after ≡ record { script = script; log = log; steps = after.steps } = λ i. record { script = j.script i; log = j.log i; steps = after.steps } in
      let halted : HasHalted (record { script = script; log = log; steps = after.steps }) = subst (λ (r : ReplayState). HasHalted r) after_is (j.halted refl) in
      let made = all_steps_made (record { script = script; log = log; steps = after.steps }) agree halted in
      λ step lt. j.judged step (omega (arith, made))

  pub verified : (verdict : Verdict) → IsJudged before after verdict → IsLawfulOrder script log.threads (lowest_order script log.threads) → IsVerified script log.threads verdict
  verified verdict judged lawful =
      let judged' = subst (λ (r : ReplayState). IsJudged r after verdict) opens judged in
      let told = verdict_is (journals_after script log.threads (lowest_order script log.threads)) (lowest_order script log.threads) verdict (whole_play script log.threads (lowest_order script log.threads) (lowest_is_lawful_front script log.threads lawful.0)) (judged_all verdict lawful.0 judged') in
      record { lawful = lawful; told = told; one_outcome = λ ordered. one_outcome script log.threads lawful (told.ordered.0 ordered) }
