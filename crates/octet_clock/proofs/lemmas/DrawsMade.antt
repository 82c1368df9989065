-- In a front each number up to the draws made was drawn once, and each draw and each fence comes after the draws that it needs.
use Rattle.std.proofs.Common.{◌≡◌, ℕ, suc, ◌<◌, ◌≤◌, inl, inr, List, length, Some, IsTrue, slice_get, sym, ap, ◌∙◌, arith}
use Rattle.std.proofs.lemmas.Bool.{cases_lt, eqb-true}
use Rattle.std.proofs.lemmas.Option.{slice_get_within}
use Rattle.octet_model.specs.declared.event.Mark.TheVariants.{Join, Draw, Fence}
use Rattle.octet_model.specs.declared.event.Event.{Event}
use Rattle.octet_model.specs.declared.event.Event.TheVariants.{Marked}
use Rattle.octet_model.specs.declared.event.Place.{Place}
use Rattle.octet_model.specs.Machine.{Journals, journal_of, PlainState, no_events, starting_state, Operation, MakeMark, is_enabled, event_made, draws_after, appended, Behavior, after, IsFront}
use Rattle.octet_model.specs.HappensBefore.{event_at}
use Rattle.octet_model.proofs.lemmas.Steps.{count, stays_appended, new_event, drawn_next, fenced_upto, by_front}
use Rattle.octet_model.proofs.lemmas.Fronts.{no_journal}
use Rattle.octet_model.proofs.lemmas.Growth.{new, old_or_new}
use Rattle.octet_model.proofs.lemmas.MarksSeen.{MarksSeen, marks_seen_longer}

-- this number was drawn, and in the place's own thread before it
pub record IsDrawnBefore (js : Journals) (number : ℕ) (b : Place) : Type 0 where
  pub place : Place
  pub drawn : event_at js place ≡ Some (Marked (Draw number))
  pub earlier : place.thread ≡ b.thread → place.event < b.event

pub record DrawsMade (js : Journals) (draws : ℕ) : Type 0 where
  pub seen : MarksSeen js draws
  pub each : (number : ℕ) → 1 ≤ number → number ≤ draws → (a : Place) × (event_at js a ≡ Some (Marked (Draw number)))
  pub after_draws : (b : Place) (number lower : ℕ) → event_at js b ≡ Some (Marked (Draw number)) → 1 ≤ lower → lower < number → IsDrawnBefore js lower b
  pub after_draw : (b : Place) (number : ℕ) → event_at js b ≡ Some (Marked (Fence number)) → 1 ≤ number → IsDrawnBefore js number b

module _ (s : PlainState) (t : ℕ) (o : Operation) (lt : t < length s.journals) (enabled : IsTrue (is_enabled s o)) (made : DrawsMade s.journals s.draws) where
  abbrev event : Event
  event = event_made o s.heap

  abbrev more : Journals
  more = appended s.journals t event

  stays : (a : Place) (x : Event) → event_at s.journals a ≡ Some x → event_at more a ≡ Some x
  stays a x is = stays_appended s.journals t a.thread a.event event x is

  is_event : (b : Place) (x : Event) → b ≡ new s.journals t event → event_at more b ≡ Some x → event ≡ x
  is_event b x b_new is = let there = new_event s.journals t event lt in let here : event_at more (new s.journals t event) ≡ Some x = ap (event_at more) (sym b_new) ∙ is in cc

  before_new : (number : ℕ) (b : Place) → b ≡ new s.journals t event → 1 ≤ number → number ≤ s.draws → IsDrawnBefore more number b
  before_new number b b_new low high =
      let a = made.each number low high in
      record {
        place = a.0;
        drawn = stays a.0 (Marked (Draw number)) a.1;
        earlier = λ same.
            let within : a.0.event < count s.journals a.0.thread = slice_get_within (journal_of s.journals a.0.thread) a.0.event (Marked (Draw number)) a.1 in
            let thread : a.0.thread ≡ t = same ∙ ap (λ (p : Place). p.thread) b_new in
            let event_is : b.event ≡ count s.journals t = ap (λ (p : Place). p.event) b_new in
            omega (arith, within, ap (λ (u : ℕ). count s.journals u) thread, event_is);
      }

  before_old : (number : ℕ) (b : Place) → IsDrawnBefore s.journals number b → IsDrawnBefore more number b
  before_old number b old = record { place = old.place; drawn = stays old.place (Marked (Draw number)) old.drawn; earlier = old.earlier }

  each_more : (o : Operation) → IsTrue (is_enabled s o) → (number : ℕ) → 1 ≤ number → number ≤ draws_after o s.draws → (a : Place) × (event_at (appended s.journals t (event_made o s.heap)) a ≡ Some (Marked (Draw number)))
  each_more (MakeMark (Draw drawn)) may number low high =
      let is : drawn ≡ suc s.draws = eqb-true drawn (suc s.draws) may in
      elim (cases_lt s.draws number) [
        | inl later ↦
            let same : drawn ≡ number = omega arith in
            (new s.journals t (Marked (Draw drawn)), new_event s.journals t (Marked (Draw drawn)) lt ∙ ap (λ (n : ℕ). Some (Marked (Draw n))) same)
        | inr old ↦ let a = made.each number low old in (a.0, stays_appended s.journals t a.0.thread a.0.event (Marked (Draw drawn)) (Marked (Draw number)) a.1)
      ]
  each_more other may number low high =
      let a = made.each number low high in (a.0, stays_appended s.journals t a.0.thread a.0.event (event_made other s.heap) (Marked (Draw number)) a.1)

  pub draws_made_longer : DrawsMade more (draws_after o s.draws)
  draws_made_longer = record {
    seen = marks_seen_longer s t o lt enabled made.seen;
    each = each_more o enabled;
    after_draws = λ b number lower is low below.
        elim (old_or_new s.journals t event b (Marked (Draw number)) lt is) [
          | inl old ↦ before_old lower b (made.after_draws b number lower old low below)
          | inr b_new ↦ before_new lower b b_new low (omega (arith, drawn_next s o s.heap number enabled (is_event b (Marked (Draw number)) b_new is)))
        ];
    after_draw = λ b number is low.
        elim (old_or_new s.journals t event b (Marked (Fence number)) lt is) [
          | inl old ↦ before_old number b (made.after_draw b number old low)
          | inr b_new ↦ before_new number b b_new low (fenced_upto s o s.heap number enabled (is_event b (Marked (Fence number)) b_new is))
        ];
  }

none_made : {A : Type 0} (threads : List A) → DrawsMade (no_events threads) 0
none_made threads = record {
  seen = record {
    joined = λ b from upto is. absurd (none b (Marked (Join from upto)) is);
    drawn = λ a number is. absurd (none a (Marked (Draw number)) is);
    fenced = λ b upto is. absurd (none b (Marked (Fence upto)) is);
    differ = λ a b number is_a is_b. absurd (none a (Marked (Draw number)) is_a);
  };
  each = λ number low high. absurd (omega arith);
  after_draws = λ b number lower is low below. absurd (none b (Marked (Draw number)) is);
  after_draw = λ b number is low. absurd (none b (Marked (Fence number)) is);
}
  where
    none : (p : Place) (x : Event) → event_at (no_events threads) p ≡ Some x → ⊥
    none p x is = let empty = ap (λ (j : List Event). slice_get j p.event) (no_journal threads p.thread) in absurd cc

-- so it is after every front
pub draws_made : {A : Type 0} (behavior : Behavior) (heap : List ℕ) (threads : List A) (front : List ℕ) → IsFront behavior (starting_state heap threads) front
    → DrawsMade (after behavior (starting_state heap threads) front).journals (after behavior (starting_state heap threads) front).draws
draws_made behavior heap threads front is =
    by_front behavior (λ (s : PlainState). DrawsMade s.journals s.draws) (λ s t o m made. draws_made_longer s t o m.within m.enabled made) front (starting_state heap threads) is (none_made threads)
