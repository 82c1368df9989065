-- A lawful front makes every event of the journals that it comes to, as a play of them.
use Rattle.std.proofs.Common.{◌≡◌, ℕ, zero, suc, ◌<◌, ◌≤◌, List, [], ◌∷◌, length, take, drop, Some, get_or, refl, sym, ap, ◌∙◌, arith}
use Rattle.std.proofs.Math.Seq.{take-length}
use Rattle.std.proofs.Math.ListN.{take-append-drop}
use Rattle.std.proofs.lemmas.List.{length-map}
use Rattle.octet_model.specs.declared.event.Event.{Event}
use Rattle.octet_model.specs.declared.script.Script.{Script}
use Rattle.octet_model.specs.declared.log.ThreadLog.{ThreadLog}
use Rattle.octet_model.specs.Machine.{Journals, PlainState, starting_state, Operation, Wants, Behavior, event_made, appended, next_of, step, after, IsFront}
use Rattle.octet_model.specs.Orders.{by_log, opening_state, lowest_order, journals_after, state_after, IsLawfulFront}
use Rattle.octet_model.specs.Plays.{operation_of, next_in, by_journals}
use Rattle.octet_model.proofs.lemmas.Steps.{at, count, new_event, Makes, what_it_makes, makes_from, made_there}
use Rattle.octet_model.proofs.lemmas.Fronts.{stays, after_on, no_journal}
use Rattle.octet_model.proofs.lemmas.LogsOfJournals.{as_many_after}
use Rattle.octet_model.proofs.lemmas.LowestFronts.{lowest_is_front, lowest_order_is_lowest}
use Rattle.octet_replay.proofs.lemmas.EventsMade.{do_alike}
use Rattle.octet_clock.specs.Play.{made_by, IsWholePlay, IsStep}
use Rattle.octet_clock.proofs.lemmas.AlikeStates.{Alike, enabled_alike, step_alike}
use Rattle.octet_clock.proofs.plays.Walk.{counts_are}

module _ (V : Behavior) (js : Journals) where
  record Both (s s' : PlainState) (t : ℕ) (o : Operation) : Type 0 where
    here : Makes V s t o
    there : Makes (by_journals js) s' t (operation_of (event_made o s.heap))

  -- the first step of a front makes the same in the play
  both : (t : ℕ) (order : List ℕ) (s s' : PlainState) → IsFront V s (t ∷ order) → (after V s (t ∷ order)).journals ≡ js → Alike s s' → (o : Operation) × Both s s' t o
  both t order s s' front is alike =
      let m = what_it_makes V s t front.0 in
      let made : at js t (count s.journals t) ≡ Some (event_made m.0 s.heap) =
      ap (λ (j : Journals). at j t (count s.journals t)) (sym is) ∙ stays V order (step V s t) t (count s.journals t) (event_made m.0 s.heap) (made_there V s t m.0 m.1) in
      let o = operation_of (event_made m.0 s.heap) in
      let next : next_of (by_journals js) s' t ≡ Wants o = ap next_in (ap (λ (n : ℕ). at js t n) (sym (alike.counts t)) ∙ made) in
      let enabled = sym (enabled_alike s s' o alike) ∙ (do_alike m.0 s.heap).enabled s ∙ m.1.enabled in
      (m.0, record { here = m.1; there = makes_from (by_journals js) s' t o (omega (arith, m.1.within, alike.as_many)) next enabled })

  alike_after : (s s' : PlainState) (t : ℕ) (o : Operation) → Both s s' t o → Alike s s' → Alike (step V s t) (step (by_journals js) s' t)
  alike_after s s' t o b alike = step_alike V (by_journals js) s s' t o (operation_of (event_made o s.heap)) b.here b.there (λ n. sym ((do_alike o s.heap).draws n)) alike

  is_front : (order : List ℕ) (s s' : PlainState) → IsFront V s order → (after V s order).journals ≡ js → Alike s s' → IsFront (by_journals js) s' order
  is_front [] s s' front is alike = tt
  is_front (t ∷ order) s s' front is alike =
      let b = both t order s s' front is alike in
      (b.1.there.may, is_front order (step V s t) (step (by_journals js) s' t) front.1 is (alike_after s s' t b.0 b.1 alike))

  alike_at : (k : ℕ) (order : List ℕ) (s s' : PlainState) → IsFront V s order → (after V s order).journals ≡ js → Alike s s'
      → Alike (after V s (take k order)) (after (by_journals js) s' (take k order))
  alike_at zero order s s' front is alike = alike
  alike_at (suc k) [] s s' front is alike = alike
  alike_at (suc k) (t ∷ order) s s' front is alike =
      let b = both t order s s' front is alike in
      alike_at k order (step V s t) (step (by_journals js) s' t) front.1 is (alike_after s s' t b.0 b.1 alike)

-- a lawful front of a script and a log is a play of its journals
module _ (script : Script) (log : List ThreadLog) (order : List ℕ) (lawful : IsLawfulFront script log order) where
  abbrev js : Journals
  js = journals_after script log order

  alike : Alike (opening_state script) (starting_state [] js)
  alike = record {
    as_many = sym (as_many_after (by_log script log) order (opening_state script)) ∙ sym (length-map js (λ (j : List Event). []));
    counts = λ t. ap (λ (j : List Event). length j) (no_journal script.threads t) ∙ sym (ap (λ (j : List Event). length j) (no_journal js t));
    draws = refl;
  }

  is_play : IsFront (by_journals js) (starting_state [] js) order
  is_play = is_front (by_log script log) js order (opening_state script) (starting_state [] js) lawful.1 refl alike

  -- how many events a thread has made
  pub made_at : (k t : ℕ) → k ≤ length order → made_by order k t ≡ count (state_after script log (take k order)).journals t
  made_at k t le =
      sym (counts_are js order is_play k t le)
      ∙ sym ((alike_at (by_log script log) js k order (opening_state script) (starting_state [] js) lawful.1 refl alike).counts t)

  -- that makes every event of them
  pub whole_play : IsWholePlay js order
  whole_play = record {
    is_play = is_play;
    makes = λ t. made_at (length order) t (omega arith) ∙ ap (λ (o : List ℕ). count (after (by_log script log) (opening_state script) o).journals t) (take-length order);
  }

  -- what is made at a step stands in these journals
  pub stays_to_end : (k t n : ℕ) (event : Event) → at (state_after script log (take k order)).journals t n ≡ Some event → at js t n ≡ Some event
  stays_to_end k t n event is =
      let last = stays (by_log script log) (drop k order) (state_after script log (take k order)) t n event is in
      let whole = sym (after_on (by_log script log) (take k order) (drop k order) (opening_state script)) ∙ ap (after (by_log script log) (opening_state script)) (take-append-drop k order) in
      ap (λ (s : PlainState). at s.journals t n) (sym whole) ∙ last

  -- a step of the front, as a step of that play
  pub step_of_play : (k t : ℕ) (event : Event) → k < length order → get_or order k 0 ≡ t → t < length (state_after script log (take k order)).journals
      → (state_after script log (take (suc k) order)).journals ≡ appended (state_after script log (take k order)).journals t event → IsStep js order k t event
  step_of_play k t event within is_of there makes = record {
    within = within;
    is_of = is_of;
    makes =
        ap (λ (n : ℕ). at js t n) (made_at k t (omega arith))
        ∙ stays_to_end (suc k) t (count (state_after script log (take k order)).journals t) event
        (ap (λ (j : Journals). at j t (count (state_after script log (take k order)).journals t)) makes ∙ new_event (state_after script log (take k order)).journals t event there);
  }

pub lowest_is_lawful_front : (script : Script) (log : List ThreadLog) → length script.threads ≡ length log → IsLawfulFront script log (lowest_order script log)
lowest_is_lawful_front script log agree = (agree, lowest_is_front (by_log script log) (lowest_order script log) (opening_state script) (lowest_order_is_lowest script log agree))
