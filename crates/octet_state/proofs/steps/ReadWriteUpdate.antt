-- A read, a write and an update keep the state sound.
use Rattle.std.proofs.Common.{◌≡◌, ◌≢◌, ℕ, ◌+◌, ◌<◌, ◌≤◌, IsTrue, List, [], length, set, Some, None, sym, refl, ap, ◌∙◌, subst, arith, length-set}
use Rattle.octet_model.specs.declared.event.Event.{Event}
use Rattle.octet_model.specs.declared.event.Event.TheVariants.{Read, Write, Update}
use Rattle.octet_model.specs.Thread.{added}
use Rattle.octet_model.specs.Machine.{journal_of, is_enabled, event_made, heap_after, draws_after, appended}
use Rattle.octet_model.specs.Journals.{access_count}
use Rattle.octet_model.specs.HappensBefore.{object_of, is_write, IsOrdered}
use Rattle.octet_model.specs.Frugal.{marks_at_end}
use Rattle.octet_model.specs.Plays.{operation_of, IsOneHistory}
use Rattle.octet_model.proofs.lemmas.Growth.{history_grows}
use Rattle.octet_state.specs.declared.act.Mode.{Mode}
use Rattle.octet_state.specs.declared.act.Mode.TheVariants.{Read, Write, Update}
use Rattle.octet_state.specs.declared.phase.Phase.{Phase}
use Rattle.octet_state.specs.declared.phase.Phase.TheVariants.{Idle, Pass}
use Rattle.octet_state.specs.declared.phase.Due.TheVariants.{Nothing}
use Rattle.octet_state.specs.State.{Thread, ProtocolState, thread_of, cell_of, cell_place}
use Rattle.octet_state.specs.Steps.{ToRead, ToWrite, ToBump, target, moved, with_cell, proceeded, most_accesses}
use Rattle.octet_state.specs.Form.{HoldsPhase, HasForm}
use Rattle.octet_state.specs.Positions.{is_resting, access_to_come, HasMarksAtEnd}
use Rattle.octet_state.specs.Soundness.{IsSound}
use Rattle.octet_state.specs.Laws.{ReadIsLawful, WriteIsLawful, BumpIsLawful}
use Rattle.octet_state.proofs.frames.SeenByOthers.{busy, LooksAlike, all_pass_on, changes_on}
use Rattle.octet_state.proofs.frames.LongerJournals.{counts_one, ends_access}
use Rattle.octet_state.proofs.frames.EventMade.{StandsAfter, form, positions}
use Rattle.octet_state.proofs.steps.Access.{pasts_on, hand_over_on, ordered_on}
use Rattle.octet_state.proofs.parts.FrugalShapeOfAccesses.{shape_after_access}
use Rattle.octet_state.proofs.frames.WordOfStep.{does_at}

-- all parts but the one history look at the number of cells alone
module _ (s : ProtocolState) (cells : List ℕ) (many : length cells ≡ length s.cells) where
  form_of_cells : HasForm s → HasForm (record s { cells = cells })
  form_of_cells h = record {
    some_thread = h.some_thread;
    few_threads = h.few_threads;
    statuses = h.statuses;
    journals = h.journals;
    states = h.states ∙ sym many;
    starts = h.starts ∙ sym many;
    bits = h.bits;
    dues = h.dues;
    phases = subst (λ (n : ℕ). (u : ℕ) → HoldsPhase (length s.threads) n u (thread_of s u).count (thread_of s u).phase) (sym many) h.phases;
  }

module _ (s : ProtocolState) (t object : ℕ) (mode : Mode) (e : Event) (cells : List ℕ) (inside : t < length s.threads) (sound : IsSound s) (is : (thread_of s t).phase ≡ Pass object mode)
    (of : object_of e ≡ Some object) (writes : IsTrue (is_write e) → mode ≢ Read) where
  abbrev idle : Thread
  idle = moved Idle Nothing (thread_of s t)

  alike : LooksAlike idle (thread_of s t)
  alike = record { busy_same = sym (ap busy is) }

  stands : StandsAfter s t idle e
  stands = record {
    ran = ap is_resting is;
    runs = refl;
    dues = refl;
    phases = tt;
    prior_named = tt;
    mark_named = λ mark same. let never : None ≡ Some object = ap (λ (y : Event). object_of y) (sym same) ∙ of in absurd cc;
    accesses = let a : access_count (journal_of s.journals t) + 1 ≤ most_accesses = subst (λ (p : Phase). access_count (journal_of s.journals t) + access_to_come p ≤ most_accesses) is (sound.positions.accesses t) in omega (arith, counts_one e object of);
    few = λ o it. subst (λ (p : Phase). HasMarksAtEnd p (marks_at_end (journal_of s.journals t))) is (sound.positions.at_end t);
    at_end = ends_access [] (journal_of s.journals t) e object of;
  }

  -- an access is sound where the cells after it go on with the one history
  pub accesses_soundly : length cells ≡ length s.cells → (IsOrdered (appended s.journals t e) → IsOneHistory s.starts (appended s.journals t e) cells s.counter)
      → IsSound (proceeded (record s { cells = cells }) t (moved Idle Nothing (thread_of s t)) (Some e))
  accesses_soundly many history = record {
    form = form_of_cells (proceeded s t idle (Some e)) cells many (form s t idle e inside sound stands);
    one_history = history (ordered_on s t e object mode inside sound is of writes);
    positions = positions s t idle e inside sound stands;
    passing = all_pass_on s t idle inside (Some e) alike sound.passing refl;
    intermediate = changes_on s t idle inside (Some e) alike sound.intermediate;
    pasts = pasts_on s t e object mode inside sound is of writes;
    handover = hand_over_on s t e object mode inside sound is of writes;
    frugal = shape_after_access s t e object mode inside sound is of;
  }

module _ (s : ProtocolState) (t object : ℕ) (inside : t < length s.threads) (sound : IsSound s) where
  grows : (e : Event) → IsTrue (is_enabled (record { heap = s.cells; journals = s.journals; draws = s.counter }) (operation_of e)) → event_made (operation_of e) s.cells ≡ e
      → IsOrdered (appended s.journals t e) → IsOneHistory s.starts (appended s.journals t e) (heap_after (operation_of e) s.cells) (draws_after (operation_of e) s.counter)
  grows e = history_grows s.starts s.journals s.cells s.counter t e sound.one_history (omega (arith, sound.form.journals))

  pub reads_soundly : (thread_of s t).phase ≡ Pass object Read → IsSound (proceeded s t (moved Idle Nothing (thread_of s t)) (Some (Read object (cell_of s object))))
  reads_soundly is = let e : Event = Read object (cell_of s object) in
      accesses_soundly s t object Read e s.cells inside sound is refl (λ h. absurd cc) refl (grows e refl refl)

  pub writes_soundly : (value : ℕ) → (thread_of s t).phase ≡ Pass object Write → IsSound (proceeded (with_cell s object value) t (moved Idle Nothing (thread_of s t)) (Some (Write object value)))
  writes_soundly value is = let e : Event = Write object value in
      accesses_soundly s t object Write e (set s.cells object value) inside sound is refl (λ h same. cc) (length-set s.cells object value) (grows e refl refl)

  pub updates_soundly : (after : ℕ) → (thread_of s t).phase ≡ Pass object Update → IsSound (proceeded (with_cell s object after) t (moved Idle Nothing (thread_of s t)) (Some (Update object (cell_of s object) after)))
  updates_soundly after is = let e : Event = Update object (cell_of s object) after in
      accesses_soundly s t object Update e (set s.cells object after) inside sound is refl (λ h same. cc) (length-set s.cells object after) (grows e refl refl)

pub read_is_lawful : ReadIsLawful
read_is_lawful s t place object sound inside stands at = record {
  may = (stands.0, (object, stands.1));
  sound = subst (λ (p : Phase). IsSound (proceeded s t (moved Idle Nothing (thread_of s t)) (Some (Read (target p) (cell_of s (target p)))))) (sym stands.1) (reads_soundly s t object inside sound stands.1);
  does = does_at s sound.form t inside ToRead place (λ word. word) tt (subst (λ (p : Phase). place ≡ cell_place s (target p)) (sym stands.1) at) refl;
}

pub write_is_lawful : WriteIsLawful
write_is_lawful s t place object value sound inside stands at = record {
  may = (stands.0, (object, stands.1));
  sound = subst (λ (p : Phase). IsSound (proceeded (with_cell s (target p) value) t (moved Idle Nothing (thread_of s t)) (Some (Write (target p) value)))) (sym stands.1) (writes_soundly s t object inside sound value stands.1);
  does = does_at s sound.form t inside (ToWrite value) place (λ word. value) tt (subst (λ (p : Phase). place ≡ cell_place s (target p)) (sym stands.1) at) refl;
}

pub bump_is_lawful : BumpIsLawful
bump_is_lawful s t place object amount sound inside stands at = record {
  may = (stands.0, (object, stands.1));
  sound = subst (λ (p : Phase). IsSound (proceeded (with_cell s (target p) (added amount (cell_of s (target p)))) t (moved Idle Nothing (thread_of s t)) (Some (Update (target p) (cell_of s (target p)) (added amount (cell_of s (target p))))))) (sym stands.1)
      (updates_soundly s t object inside sound (added amount (cell_of s object)) stands.1);
  does = does_at s sound.form t inside (ToBump amount) place (added amount) tt (subst (λ (p : Phase). place ≡ cell_place s (target p)) (sym stands.1) at) refl;
}
