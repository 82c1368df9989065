-- Machines that never write: all their journals are ordered, so that each front leads on to an order, if there is one.
use Rattle.std.proofs.Common.{◌≡◌, ℕ, inl, inr, true, false, ◌||◌, List, ◌++◌, Some, refl, sym, ap, ◌∙◌, slice_get}
use Rattle.std.proofs.lemmas.Option.{same_Some}
use Rattle.octet_model.specs.declared.event.Event.{Event}
use Rattle.octet_model.specs.declared.event.Place.{Place}
use Rattle.octet_model.specs.Machine.{journal_of, PlainState, starting_state, Operation, MakeMark, MakeRead, MakeWrite, MakeUpdate, Wants, Behavior, is_enabled, event_made, draws_after, performed, after, IsFront, IsOrder}
use Rattle.octet_model.specs.HappensBefore.{event_at, is_write, IsOrdered}
use Rattle.octet_model.proofs.lemmas.Steps.{Makes, new_event, by_front}
use Rattle.octet_model.proofs.lemmas.Fronts.{no_journal, front_leads_on}
use Rattle.octet_model.proofs.lemmas.Growth.{old_or_new}

-- the read of one object in place of each access
abbrev pub reading : Operation → Operation
reading (MakeMark mark) = MakeMark mark
reading _ = MakeRead 0

-- it may be made where the access may, and draws as often
pub reading_enabled : (s : PlainState) (o : Operation) → is_enabled s (reading o) ≡ is_enabled s o
reading_enabled s (MakeMark mark) = refl
reading_enabled s (MakeRead object) = refl
reading_enabled s (MakeWrite object value) = refl
reading_enabled s (MakeUpdate object change) = refl

pub reading_draws : (o : Operation) (draws : ℕ) → draws_after o draws ≡ draws_after (reading o) draws
reading_draws (MakeMark mark) draws = refl
reading_draws (MakeRead object) draws = refl
reading_draws (MakeWrite object value) draws = refl
reading_draws (MakeUpdate object change) draws = refl

pub reading_writes_not : (o : Operation) (heap : List ℕ) → is_write (event_made (reading o) heap) ≡ false
reading_writes_not (MakeMark mark) heap = refl
reading_writes_not (MakeRead object) heap = refl
reading_writes_not (MakeWrite object value) heap = refl
reading_writes_not (MakeUpdate object change) heap = refl

-- no operation writes
abbrev pub NeverWrites : Behavior → Type 0
NeverWrites behavior = (thread : ℕ) (journal : List Event) (operation : Operation) → behavior thread journal ≡ Wants operation → (heap : List ℕ) → is_write (event_made operation heap) ≡ false

abbrev HasNoWrite : PlainState → Type 0
HasNoWrite s = (a : Place) (e : Event) → event_at s.journals a ≡ Some e → is_write e ≡ false

module _ (V : Behavior) (never : NeverWrites V) where
  none_performed : (s : PlainState) (t : ℕ) (o : Operation) → Makes V s t o → HasNoWrite s → HasNoWrite (performed s t o)
  none_performed s t o m none a e is =
      elim (old_or_new s.journals t (event_made o s.heap) a e m.within is) [
        | inl old ↦ none a e old
        | inr is_new ↦
            let there = new_event s.journals t (event_made o s.heap) m.within in
            let here = ap (event_at (performed s t o).journals) (sym is_new) ∙ is in
            let same : event_made o s.heap ≡ e = same_Some (event_made o s.heap) e (sym there ∙ here) in
            ap is_write (sym same) ∙ never t (journal_of s.journals t) o m.wanted s.heap
      ]

module _ {A : Type 0} (V : Behavior) (never : NeverWrites V) (heap : List ℕ) (threads : List A) where
  none_at_start : HasNoWrite (starting_state heap threads)
  none_at_start a e is = absurd (let none = ap (λ (j : List Event). slice_get j a.event) (no_journal threads a.thread) in cc)

  -- so the journals are ordered
  pub reads_are_ordered : (order : List ℕ) → IsFront V (starting_state heap threads) order → IsOrdered (after V (starting_state heap threads) order).journals
  reads_are_ordered order front a b c =
      let none = by_front V HasNoWrite (none_performed V never) order (starting_state heap threads) front none_at_start in
      let first = none a c.first c.is_first in
      let second = none b c.second c.is_second in
      let writes : (false || false) ≡ true = sym (λ i. first i || second i) ∙ c.one_writes in
      absurd cc

  -- and each front leads on
  pub readers_lead_on : (order front : List ℕ) → IsOrder V (starting_state heap threads) order → IsFront V (starting_state heap threads) front
      → (rest : List ℕ) × IsOrder V (starting_state heap threads) (front ++ rest) × (after V (starting_state heap threads) (front ++ rest) ≡ after V (starting_state heap threads) order)
  readers_lead_on order front is_order is_front = front_leads_on V heap threads order front is_order (reads_are_ordered order is_order.0) is_front
