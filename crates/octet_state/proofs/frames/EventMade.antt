-- A step that makes an event and changes no word.
use Rattle.std.proofs.Common.{◌≡◌, ◌≢◌, ℕ, suc, ◌+◌, ◌<◌, ◌≤◌, inl, inr, true, false, ◌||◌, IsTrue, List, [], ◌∷◌, ◌++◌, length, Some, sym, ap, ◌∙◌, subst, arith, length-set}
use Rattle.std.proofs.lemmas.Bool.{cases_eq}
use Rattle.std.proofs.lemmas.Option.{slice_get_within}
use Rattle.octet_model.specs.declared.event.Mark.{Mark}
use Rattle.octet_model.specs.declared.event.Event.{Event}
use Rattle.octet_model.specs.declared.event.Event.TheVariants.{Marked}
use Rattle.octet_model.specs.declared.event.Place.{Place}
use Rattle.octet_model.specs.Machine.{journal_of, appended}
use Rattle.octet_model.specs.HappensBefore.{event_at, object_of}
use Rattle.octet_model.specs.Frugal.{marks_at_end, marks_before}
use Rattle.octet_model.specs.Journals.{access_count}
use Rattle.octet_model.specs.Log.{is_mark}
use Rattle.octet_model.proofs.lemmas.Steps.{as_many, grows, counts_new, same_journal, other_journal, new_event}
use Rattle.octet_model.proofs.lemmas.Growth.{old_or_new}
use Rattle.octet_state.specs.declared.phase.Phase.{Phase}
use Rattle.octet_state.specs.State.{Thread, ProtocolState, thread_of, status_of, state_of, now}
use Rattle.octet_state.specs.Steps.{proceeded, is_safe_point, most_accesses}
use Rattle.octet_state.specs.Form.{is_nothing, HoldsPhase, HasForm}
use Rattle.octet_state.specs.Positions.{NamesThread, is_resting, PriorNamesThread, access_to_come, AreFew, HasMarksAtEnd, HasPositions}
use Rattle.octet_state.specs.Soundness.{IsSound}
use Rattle.octet_state.proofs.frames.SeenByOthers.{each_thread}
use Rattle.octet_state.proofs.frames.LongerJournals.{count_more, before_same, before_new}

-- what is to hold of a thread after its event, and of the event
pub record StandsAfter (s : ProtocolState) (t : ℕ) (x : Thread) (e : Event) : Type 0 where
  pub ran : is_resting (thread_of s t).phase ≡ false
  pub runs : is_resting x.phase ≡ false
  pub dues : IsTrue (is_nothing x.due || is_safe_point x.phase)
  pub phases : HoldsPhase (length s.threads) (length s.cells) t x.count x.phase
  pub prior_named : PriorNamesThread (length s.threads) x.phase
  pub mark_named : (mark : Mark) → e ≡ Marked mark → IsTrue (is_mark (length s.threads) t mark)
  pub accesses : access_count (journal_of s.journals t) + access_count (e ∷ []) + access_to_come x.phase ≤ most_accesses
  pub few : (object : ℕ) → object_of e ≡ Some object → AreFew (marks_at_end (journal_of s.journals t))
  pub at_end : HasMarksAtEnd x.phase (marks_at_end (journal_of s.journals t ++ e ∷ []))

module _ (s : ProtocolState) (t : ℕ) (x : Thread) (e : Event) (inside : t < length s.threads) (sound : IsSound s) where
  pub mine : t < length s.journals
  mine = let h = sound.form.journals in omega arith

  pub now_grows : (u : ℕ) → now s u ≤ now (proceeded s t x (Some e)) u
  now_grows u = grows s.journals t u e

  pub now_same : (u : ℕ) → u ≢ t → now (proceeded s t x (Some e)) u ≡ now s u
  now_same u differ = ap (λ (j : List Event). length j) (other_journal s.journals t u e differ)

  pub now_more : now (proceeded s t x (Some e)) t ≡ suc (now s t)
  now_more = counts_new s.journals t e mine

  each : (P : ℕ → Thread → Type 0) → P t x → ((u : ℕ) → u ≢ t → P u (thread_of s u)) → (u : ℕ) → P u (thread_of (proceeded s t x (Some e)) u)
  each = each_thread s t x inside (Some e)

  pub form : StandsAfter s t x e → HasForm (proceeded s t x (Some e))
  form well = let old = sound.form in let many = length-set s.threads t x in record {
    some_thread = let h = old.some_thread in omega arith;
    few_threads = let h = old.few_threads in omega arith;
    statuses = old.statuses ∙ sym many;
    journals = as_many s.journals t e ∙ (old.journals ∙ sym many);
    states = old.states;
    starts = old.starts;
    bits = old.bits;
    dues = each (λ u y. IsTrue (is_nothing y.due || is_safe_point y.phase)) well.dues (λ u differ. old.dues u);
    phases = subst (λ (n : ℕ). (u : ℕ) → HoldsPhase n (length s.cells) u (thread_of (proceeded s t x (Some e)) u).count (thread_of (proceeded s t x (Some e)) u).phase) (sym many)
        (each (λ u y. HoldsPhase (length s.threads) (length s.cells) u y.count y.phase) well.phases (λ u differ. old.phases u));
  }

  -- a property of each thread and its journal
  with_journal : (P : ℕ → Phase → List Event → Type 0) → P t x.phase (journal_of s.journals t ++ e ∷ []) → ((u : ℕ) → P u (thread_of s u).phase (journal_of s.journals u))
      → (u : ℕ) → P u (thread_of (proceeded s t x (Some e)) u).phase (journal_of (appended s.journals t e) u)
  with_journal P here others = each (λ u y. P u y.phase (journal_of (appended s.journals t e) u))
      (subst (P t x.phase) (sym (same_journal s.journals t e mine)) here)
      (λ u differ. subst (P u (thread_of s u).phase) (sym (other_journal s.journals t u e differ)) (others u))

  pub positions : StandsAfter s t x e → HasPositions (proceeded s t x (Some e))
  positions well = let old = sound.positions in let many = length-set s.threads t x in record {
    reached = λ u. omega (arith, old.reached u, now_grows u);
    blocked = each (λ u y. (status_of s u).blocked ≡ is_resting y.phase) (old.blocked t ∙ (well.ran ∙ sym well.runs)) (λ u differ. old.blocked u);
    last = λ u blocked. elim (cases_eq u t) [
      | inl same ↦ absurd (let is : (status_of s t).blocked ≡ true = subst (λ (v : ℕ). (status_of s v).blocked ≡ true) same blocked in let isnt : (status_of s t).blocked ≡ false = old.blocked t ∙ well.ran in cc)
      | inr differ ↦ old.last u blocked ∙ sym (now_same u differ)
    ];
    named = λ object. subst (λ (n : ℕ). NamesThread n (state_of s object)) (sym many) (old.named object);
    prior_named = subst (λ (n : ℕ). (u : ℕ) → PriorNamesThread n (thread_of (proceeded s t x (Some e)) u).phase) (sym many)
        (each (λ u y. PriorNamesThread (length s.threads) y.phase) well.prior_named (λ u differ. old.prior_named u));
    marks = λ place mark is. subst (λ (n : ℕ). IsTrue (is_mark n place.thread mark)) (sym many) (elim (old_or_new s.journals t e place (Marked mark) mine is) [
      | inl before ↦ old.marks place mark before
      | inr here ↦ subst (λ (p : Place). IsTrue (is_mark (length s.threads) p.thread mark)) (sym here)
          (well.mark_named mark (let at_e : event_at (appended s.journals t e) place ≡ Some e = subst (λ (p : Place). event_at (appended s.journals t e) p ≡ Some e) (sym here) (new_event s.journals t e mine) in
          let both : Some e ≡ Some (Marked mark) = sym at_e ∙ is in let same : e ≡ Marked mark = cc in same))
    ]);
    accesses = with_journal (λ u p journal. access_count journal + access_to_come p ≤ most_accesses)
        (let a = count_more (journal_of s.journals t) e in let b = well.accesses in omega arith) old.accesses;
    few = λ place object access. elim (old_or_new s.journals t e place access.0 mine access.1) [
      | inl before ↦ subst AreFew (sym (before_same s.journals t e mine place (old_place place access.0 before))) (old.few place object (access.0, before, access.2))
      | inr here ↦ subst (λ (p : Place). AreFew (marks_before (appended s.journals t e) p)) (sym here) (subst AreFew (sym (before_new s.journals t e mine))
          (well.few object (let at_e : event_at (appended s.journals t e) place ≡ Some e = subst (λ (p : Place). event_at (appended s.journals t e) p ≡ Some e) (sym here) (new_event s.journals t e mine) in
          let both : Some e ≡ Some access.0 = sym at_e ∙ access.1 in let same : e ≡ access.0 = cc in ap (λ (y : Event). object_of y) same ∙ access.2)))
    ];
    at_end = with_journal (λ u p journal. HasMarksAtEnd p (marks_at_end journal)) well.at_end old.at_end;
  }
    where
      old_place : (place : Place) (y : Event) → event_at s.journals place ≡ Some y → place.event ≤ length (journal_of s.journals place.thread)
      old_place place y is = let h = slice_get_within (journal_of s.journals place.thread) place.event y is in omega arith
