-- In a front of threads that are apart, each makes what it makes alone.
use Rattle.std.proofs.Common.{◌≡◌, ℕ, ◌⊎◌, inl, inr, ◌||◌, Bool, true, false, List, [], ◌∷◌, ◌++◌, length, Some, IsTrue, IsFalse, slice_get, slice_index, refl, sym, ap, ◌∙◌, subst}
use Rattle.std.proofs.lemmas.Bool.{cases_eq}
use Rattle.octet_model.specs.declared.event.Event.{Event}
use Rattle.octet_model.specs.declared.log.ThreadLog.{ThreadLog}
use Rattle.octet_model.specs.declared.script.Script.{Script}
use Rattle.octet_model.specs.Machine.{Journals, journal_of, PlainState, Operation, MakeMark, MakeRead, MakeWrite, MakeUpdate, Next, Behavior, event_made, heap_after, appended, performed, may_step, step, after}
use Rattle.octet_model.specs.HappensBefore.{is_write, IsOrdered}
use Rattle.octet_model.specs.Orders.{by_log, commands_of, starting_heap, opening_state, state_after, lowest_order, IsLowestFront}
use Rattle.octet_model.specs.Plays.{operation_of}
use Rattle.octet_model.proofs.lemmas.Steps.{same_journal, other_journal, Makes, by_front}
use Rattle.octet_model.proofs.lemmas.Fronts.{no_journal}
use Rattle.octet_replay.specs.Threads.{next_event}
use Rattle.octet_replay.proofs.lemmas.EventsMade.{do_alike, same_length}
use Rattle.octet_replay.proofs.lemmas.Traces.{lowest_order_is_front}
use Rattle.octet_parallel.specs.Apart.{Names, Writes, AreApart}
use Rattle.octet_parallel.specs.Alone.{heap_by, MakesAlone}
use Rattle.octet_parallel.proofs.solo.Named.{OperationNamed, EventNamed, wants_named, made_named, event_names, event_writes}
use Rattle.octet_parallel.proofs.solo.Heaps.{TakesAlike, event_alike, heaps_alike, writes_named, written_or_kept}
use Rattle.octet_parallel.proofs.solo.Making.{heap_more, heap_long, makes_more, each_made}

module _ (script : Script) (log : List ThreadLog) (apart : AreApart script) where
  abbrev V : Behavior
  V = by_log script log

  abbrev starts : List ℕ
  starts = starting_heap script

  -- the heap that a thread left alone
  abbrev own_heap : Journals → ℕ → List ℕ
  own_heap journals t = heap_by (journal_of journals t) starts

  -- each thread has made what it makes alone, and finds what it names as it left it alone; what no thread writes is as at first
  pub record IsSolo (s : PlainState) : Type 0 where
    pub long : length s.heap ≡ length starts
    pub makes : (t : ℕ) → MakesAlone (V t) [] starts (journal_of s.journals t)
    pub agrees : (t object : ℕ) → Names (commands_of script t) object → slice_index s.heap object ≡ slice_index (own_heap s.journals t) object
    pub comes : (object : ℕ) → (slice_index s.heap object ≡ slice_index starts object) ⊎ ((t : ℕ) × Writes (commands_of script t) object)

  opens : IsSolo (opening_state script)
  opens = record {
    long = refl;
    makes = λ t. subst (MakesAlone (V t) [] starts) (sym (no_journal script.threads t)) tt;
    agrees = λ t object named. ap (λ (j : List Event). slice_index (heap_by j starts) object) (sym (no_journal script.threads t));
    comes = λ object. inl refl;
  }

  module _ (s : PlainState) (t : ℕ) (o : Operation) (m : Makes V s t o) (solo : IsSolo s) where
    abbrev journal : List Event
    journal = journal_of s.journals t

    abbrev H : List ℕ
    H = heap_by journal starts

    abbrev event : Event
    event = event_made o s.heap

    named : OperationNamed (commands_of script t) o
    named = wants_named script log t journal o m.wanted

    takes : (p : Operation) → OperationNamed (commands_of script t) p → TakesAlike p s.heap H
    takes (MakeMark mark) is = tt
    takes (MakeRead object) is = solo.agrees t object is
    takes (MakeWrite object value) is = tt
    takes (MakeUpdate object change) is = solo.agrees t object is.names

    event_alone : event ≡ event_made o H
    event_alone = event_alike o s.heap H (takes o named)

    same_long : length s.heap ≡ length H
    same_long = solo.long ∙ sym (heap_long journal starts)

    journal_more : journal_of (appended s.journals t event) t ≡ journal ++ event ∷ []
    journal_more = same_journal s.journals t event m.within

    -- the heap that the thread leaves alone after one more event
    heap_alone : own_heap (appended s.journals t event) t ≡ heap_after o H
    heap_alone =
        ap (λ (j : List Event). heap_by j starts) journal_more ∙ heap_more journal event starts
        ∙ ap (λ (e : Event). heap_after (operation_of e) H) event_alone ∙ (do_alike o H).heap_is

    makes_on : (u : ℕ) → MakesAlone (V u) [] starts (journal_of (appended s.journals t event) u)
    makes_on u =
        elim (cases_eq u t) [
          | inr differ ↦ subst (MakesAlone (V u) [] starts) (sym (other_journal s.journals t u event differ)) (solo.makes u)
          | inl same ↦
              subst (λ (w : ℕ). MakesAlone (V w) [] starts (journal_of (appended s.journals t event) w)) (sym same)
              (subst (MakesAlone (V t) [] starts) (sym journal_more)
              (makes_more (V t) journal [] starts event (solo.makes t) (ap (λ (n : Next). next_event n H) m.wanted ∙ ap Some (sym event_alone))))
        ]

    agrees_on : (u object : ℕ) → Names (commands_of script u) object → slice_index (heap_after o s.heap) object ≡ slice_index (own_heap (appended s.journals t event) u) object
    agrees_on u object names =
        elim (cases_eq u t) [
          | inl same ↦
              let mine : Names (commands_of script t) object = subst (λ (w : ℕ). Names (commands_of script w) object) same names in
              heaps_alike o s.heap H object (takes o named) same_long (solo.agrees t object mine)
              ∙ sym (ap (λ (h : List ℕ). slice_index h object) heap_alone)
              ∙ ap (λ (w : ℕ). slice_index (own_heap (appended s.journals t event) w) object) (sym same)
          | inr differ ↦ elim (written_or_kept o object) [
            | inl written ↦ absurd (apart t u object (λ e. differ (sym e)) (writes_named (commands_of script t) o object named written) names)
            | inr kept ↦ kept s.heap ∙ solo.agrees u object names ∙ ap (λ (j : List Event). slice_index (heap_by j starts) object) (sym (other_journal s.journals t u event differ))
          ]
        ]

    comes_on : (object : ℕ) → (slice_index (heap_after o s.heap) object ≡ slice_index starts object) ⊎ ((u : ℕ) × Writes (commands_of script u) object)
    comes_on object =
        elim (written_or_kept o object) [
          | inl written ↦ inr (t, writes_named (commands_of script t) o object named written)
          | inr kept ↦ elim (solo.comes object) [ inl same ↦ inl (kept s.heap ∙ same) | inr writer ↦ inr writer ]
        ]

    stays_solo : IsSolo (performed s t o)
    stays_solo = record { long = same_length o s.heap ∙ solo.long; makes = makes_on; agrees = agrees_on; comes = comes_on }

  -- after the lowest order
  pub solo_at_last : IsSolo (state_after script log (lowest_order script log))
  solo_at_last = by_front V IsSolo stays_solo (lowest_order script log) (opening_state script) (lowest_order_is_front script log) opens

  one_of : (x y : Bool) → IsTrue (x || y) → IsTrue x ⊎ IsTrue y
  one_of true y is = inl refl
  one_of false y is = inr is

  event_named : (s : PlainState) (solo : IsSolo s) (t k : ℕ) (e : Event) → slice_get (journal_of s.journals t) k ≡ Some e → EventNamed (commands_of script t) e
  event_named s solo t k e is =
      each_made (V t) (EventNamed (commands_of script t)) (λ j heap o wants. made_named (commands_of script t) o heap (wants_named script log t j o wants)) (journal_of s.journals t) [] starts (solo.makes t) k e is

  -- so no two of its accesses conflict
  pub solo_is_ordered : (s : PlainState) → IsSolo s → IsOrdered s.journals
  solo_is_ordered s solo a b c =
      let first = event_named s solo a.thread a.event c.first c.is_first in
      let second = event_named s solo b.thread b.event c.second c.is_second in
      elim (one_of (is_write c.first) (is_write c.second) c.one_writes) [
        | inl writes ↦
            absurd (apart a.thread b.thread c.object c.by_others (event_writes (commands_of script a.thread) c.first c.object first c.of_one writes) (event_names (commands_of script b.thread) c.second c.object second c.of_same))
        | inr writes ↦
            absurd (apart b.thread a.thread c.object (λ e. c.by_others (sym e)) (event_writes (commands_of script b.thread) c.second c.object second c.of_same writes) (event_names (commands_of script a.thread) c.first c.object first c.of_one))
      ]

-- after a lowest front no thread may step
pub none_may : (V : Behavior) (front : List ℕ) (s : PlainState) → IsLowestFront V s front → (t : ℕ) → IsFalse (may_step V (after V s front) t)
none_may V [] s low = low
none_may V (u ∷ front) s low = none_may V front (step V s u) low.2
