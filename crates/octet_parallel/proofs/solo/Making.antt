-- What one thread makes alone.
use Rattle.std.proofs.Common.{◌≡◌, ℕ, zero, suc, ◌⊎◌, inl, inr, List, [], ◌∷◌, ◌++◌, length, Some, slice_get, slice_index, refl, sym, ◌∙◌, subst, append-nil}
use Rattle.std.proofs.lemmas.List.{append_assoc}
use Rattle.octet_model.specs.declared.command.Command.{Command}
use Rattle.octet_model.specs.declared.event.Event.{Event}
use Rattle.octet_model.specs.declared.event.Event.TheVariants.{Read, Write, Update, Marked}
use Rattle.octet_model.specs.Machine.{Operation, Next, Wants, Finished, NothingFits, event_made, heap_after}
use Rattle.octet_model.specs.Plays.{operation_of}
use Rattle.octet_replay.specs.Threads.{next_event}
use Rattle.octet_replay.proofs.lemmas.EventsMade.{same_length}
use Rattle.octet_parallel.specs.Alone.{heap_by, MakesAlone, Stops}
use Rattle.octet_parallel.specs.Apart.{Writes}
use Rattle.octet_parallel.proofs.solo.Named.{EventNamed}
use Rattle.octet_parallel.proofs.solo.Heaps.{WrittenBy, written_or_kept}

-- one more event at the end
pub heap_more : (journal : List Event) (event : Event) (heap : List ℕ) → heap_by (journal ++ event ∷ []) heap ≡ heap_after (operation_of event) (heap_by journal heap)
heap_more [] event heap = refl
heap_more (first ∷ journal) event heap = heap_more journal event (heap_after (operation_of first) heap)

pub heap_long : (journal : List Event) (heap : List ℕ) → length (heap_by journal heap) ≡ length heap
heap_long [] heap = refl
heap_long (first ∷ journal) heap = heap_long journal (heap_after (operation_of first) heap) ∙ same_length (operation_of first) heap

module _ (next : List Event → Next) where
  pub makes_more : (journal made : List Event) (heap : List ℕ) (event : Event) → MakesAlone next made heap journal → next_event (next (made ++ journal)) (heap_by journal heap) ≡ Some event
      → MakesAlone next made heap (journal ++ event ∷ [])
  makes_more [] made heap event makes is = (subst (λ (m : List Event). next_event (next m) heap ≡ Some event) (append-nil made) is, tt)
  makes_more (first ∷ journal) made heap event makes is = (
    makes.0,
    makes_more journal (made ++ first ∷ []) (heap_after (operation_of first) heap) event makes.1
        (subst (λ (m : List Event). next_event (next m) (heap_by journal (heap_after (operation_of first) heap)) ≡ Some event) (sym (append_assoc made (first ∷ []) journal)) is),
  )

  stops_none : (n : Next) (heap : List ℕ) (event : Event) → Stops n → next_event n heap ≡ Some event → ⊥
  stops_none (Wants o) heap event stops is = stops
  stops_none Finished heap event stops is = absurd cc
  stops_none NothingFits heap event stops is = absurd cc

  -- two journals after which nothing more is made alone are one
  pub one_end : (js ks made : List Event) (heap : List ℕ) → MakesAlone next made heap js → MakesAlone next made heap ks → Stops (next (made ++ js)) → Stops (next (made ++ ks)) → js ≡ ks
  one_end [] [] made heap m n stops there = refl
  one_end [] (k ∷ ks) made heap m n stops there = absurd (stops_none (next made) heap k (subst (λ (j : List Event). Stops (next j)) (append-nil made) stops) n.0)
  one_end (j ∷ js) [] made heap m n stops there = absurd (stops_none (next made) heap j (subst (λ (j : List Event). Stops (next j)) (append-nil made) there) m.0)
  one_end (j ∷ js) (k ∷ ks) made heap m n stops there =
      let same : j ≡ k = let a = m.0 in let b = n.0 in cc in
      let n' : MakesAlone next (made ++ j ∷ []) (heap_after (operation_of j) heap) ks = subst (λ (x : Event). MakesAlone next (made ++ x ∷ []) (heap_after (operation_of x) heap) ks) (sym same) n.1 in
      let rest = one_end js ks (made ++ j ∷ []) (heap_after (operation_of j) heap) m.1 n'
      (subst (λ (l : List Event). Stops (next l)) (sym (append_assoc made (j ∷ []) js)) stops)
      (subst (λ (l : List Event). Stops (next l)) (sym (append_assoc made (j ∷ []) ks)) (subst (λ (x : Event). Stops (next (made ++ x ∷ ks))) (sym same) there)) in
      λ i. same i ∷ rest i

  -- what holds of each event that it may make holds of each that it has made
  pub each_made : (P : Event → Type 0) → ((journal : List Event) (heap : List ℕ) (o : Operation) → next journal ≡ Wants o → P (event_made o heap))
      → (journal made : List Event) (heap : List ℕ) → MakesAlone next made heap journal → (k : ℕ) (event : Event) → slice_get journal k ≡ Some event → P event
  each_made P holds [] made heap makes k event is = absurd cc
  each_made P holds (first ∷ journal) made heap makes zero event is = go (next made) refl makes.0
    where
      go : (n : Next) → next made ≡ n → next_event n heap ≡ Some first → P event
      go (Wants o) wants here = let one : event_made o heap ≡ event = cc in subst P one (holds made heap o wants)
      go Finished wants here = absurd cc
      go NothingFits wants here = absurd cc
  each_made P holds (first ∷ journal) made heap makes (suc k) event is = each_made P holds journal (made ++ first ∷ []) (heap_after (operation_of first) heap) makes.1 k event is

written_event : (commands : List Command) (event : Event) (object : ℕ) → EventNamed commands event → WrittenBy (operation_of event) object → Writes commands object
written_event commands (Read of value) object named written = absurd written
written_event commands (Write of value) object named written = subst (Writes commands) written named
written_event commands (Update of before after) object named written = subst (Writes commands) written named
written_event commands (Marked mark) object named written = absurd written

-- an object keeps its value, or the thread's commands write it
pub kept_or_written : (commands : List Command) (journal : List Event) (heap : List ℕ) (object : ℕ) → ((k : ℕ) (event : Event) → slice_get journal k ≡ Some event → EventNamed commands event)
    → (slice_index (heap_by journal heap) object ≡ slice_index heap object) ⊎ Writes commands object
kept_or_written commands [] heap object named = inl refl
kept_or_written commands (event ∷ journal) heap object named =
    elim (written_or_kept (operation_of event) object) [
      | inl written ↦ inr (written_event commands event object (named 0 event refl) written)
      | inr kept ↦ elim (kept_or_written commands journal (heap_after (operation_of event) heap) object (λ k e is. named (suc k) e is)) [ inl same ↦ inl (same ∙ kept heap) | inr writes ↦ inr writes ]
    ]
