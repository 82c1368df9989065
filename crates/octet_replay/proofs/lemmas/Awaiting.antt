-- Needs and counts beside the plain machine, whatever is next for its threads.
use Rattle.std.proofs.Common.{◌≡◌, ℕ, zero, suc, ◌<◌, inl, inr, Bool, ◌&&◌, if◌then◌else◌, nat_le, eqb, eq-eqb, List, [], ◌∷◌, length, replicate, take, Option, Some, None, IsTrue, IsFalse, get_or, slice_get, slice_set, refl, sym, ap, ◌∙◌, subst, arith, length-set}
use Rattle.std.proofs.lemmas.Bool.{cases_eq, cases_lt, lt-ltb, le-ltb, ne_eqb, and_left}
use Rattle.std.proofs.lemmas.List.{get_or-set_same, get_or-set_other, length-map, length-replicate}
use Rattle.std.proofs.lemmas.List.Sums.{sum_by-cons, sum_by-set}
use Rattle.std.proofs.lemmas.Option.{slice_get_within, slice_get_cases}
use Rattle.std.specs.List.{sum}
use Rattle.octet_model.specs.declared.event.Event.{Event}
use Rattle.octet_model.specs.declared.event.Event.TheVariants.{Read, Write, Update, Marked}
use Rattle.octet_model.specs.declared.event.Mark.TheVariants.{Join, Draw, Fence}
use Rattle.octet_model.specs.Machine.{Behavior, journal_of, PlainState, starting_state, Next, Wants, Finished, NothingFits, Operation, MakeMark, MakeRead, MakeWrite, MakeUpdate, draws_after, next_of, may_proceed, may_step, step, after}
use Rattle.octet_model.specs.Orders.{IsLowestFront}
use Rattle.octet_model.specs.Plays.{operation_of}
use Rattle.octet_model.proofs.lemmas.Steps.{Makes, as_many_step, other_step, counts_step}
use Rattle.octet_model.proofs.lemmas.Fronts.{no_journal}
use Rattle.octet_replay.specs.declared.need.Need.{Need}
use Rattle.octet_replay.specs.Needs.{NeedsAndCounts, after_step, no_counts, is_met, is_ready}
use Rattle.octet_replay.specs.Replayed.{is_draw, AwaitsNext}
use Rattle.octet_replay.specs.Threads.{need_of}
use Rattle.octet_replay.proofs.Placing.{ready_is, not_there}
use Rattle.octet_replay.proofs.lemmas.Reading.{get_same, get_other}

-- ---- the next step of a lowest front
module _ (V : Behavior) where
  pub record OneMore (order : List ℕ) (s : PlainState) (k t : ℕ) : Type 0 where
    pub within : k < length order
    pub is_of : get_or order k 0 ≡ t
    pub steps : after V s (take (suc k) order) ≡ step V (after V s (take k order)) t

  -- it is of the lowest thread that may step
  pub one_more : (k : ℕ) (order : List ℕ) (s : PlainState) → IsLowestFront V s order → (t : ℕ) → IsTrue (may_step V (after V s (take k order)) t)
      → ((u : ℕ) → u < t → IsFalse (may_step V (after V s (take k order)) u)) → OneMore order s k t
  one_more zero [] s low t may lower = absurd (let none = low t in cc)
  one_more (suc k) [] s low t may lower = absurd (let none = low t in cc)
  one_more zero (u ∷ order) s low t may lower =
      elim (cases_lt t u) [
        | inl below ↦ absurd (let none = low.1 t below in cc)
        | inr above ↦ elim (cases_lt u t) [
          | inl below ↦ absurd (let none = lower u below in let may_u = low.0 in cc)
          | inr above' ↦ let same : u ≡ t = omega arith in record { within = omega arith; is_of = same; steps = ap (step V s) same }
        ]
      ]
  one_more (suc k) (u ∷ order) s low t may lower =
      let rest = one_more k order (step V s u) low.2 t may lower in
      record { within = omega (arith, rest.within); is_of = rest.is_of; steps = rest.steps }

  -- and no lower one may step before it
  pub none_below : (k : ℕ) (order : List ℕ) (s : PlainState) → IsLowestFront V s order → k < length order → (u : ℕ) → u < get_or order k 0 → IsFalse (may_step V (after V s (take k order)) u)
  none_below k [] s low within u below = absurd (omega (arith, within))
  none_below zero (t ∷ order) s low within u below = low.1 u below
  none_below (suc k) (t ∷ order) s low within u below = none_below k order (step V s t) low.2 (omega (arith, within)) u below

-- ---- what a thread waits for
same_test : (n d : ℕ) → eqb n d ≡ eqb (suc n) (suc d)
same_test n d =
    elim (cases_eq n d) [
      | inl same ↦ eq-eqb n d same ∙ sym (eq-eqb (suc n) (suc d) (ap suc same))
      | inr differ ↦ ne_eqb n d differ ∙ sym (ne_eqb (suc n) (suc d) (λ e. differ (omega arith)))
    ]

met_may : (s : PlainState) (w : NeedsAndCounts) → ((t : ℕ) → get_or w.events t 0 ≡ length (journal_of s.journals t)) → w.draws ≡ s.draws
    → (next : Next) → is_met w.events w.draws (need_of next) ≡ may_proceed s next
met_may s w events draws Finished = refl
met_may s w events draws NothingFits = refl
met_may s w events draws (Wants (MakeRead object)) = refl
met_may s w events draws (Wants (MakeWrite object value)) = refl
met_may s w events draws (Wants (MakeUpdate object change)) = refl
met_may s w events draws (Wants (MakeMark (Join from upto))) = ap (λ (n : ℕ). nat_le upto n) (events from)
met_may s w events draws (Wants (MakeMark (Draw zero))) = sym (ne_eqb 0 (suc s.draws) (λ e. omega arith))
met_may s w events draws (Wants (MakeMark (Draw (suc n)))) = ap (λ (d : ℕ). eqb n d) draws ∙ same_test n s.draws
met_may s w events draws (Wants (MakeMark (Fence number))) = ap (λ (d : ℕ). nat_le number d) draws

-- an event counts as the draws that its operation makes
pub draws_counted : (event : Event) (draws : ℕ) → (if is_draw event then suc draws else draws) ≡ draws_after (operation_of event) draws
draws_counted (Read object value) draws = refl
draws_counted (Write object value) draws = refl
draws_counted (Update object before after) draws = refl
draws_counted (Marked (Join from upto)) draws = refl
draws_counted (Marked (Draw number)) draws = refl
draws_counted (Marked (Fence number)) draws = refl

module _ (V : Behavior) (s : PlainState) (w : NeedsAndCounts) (awaits : AwaitsNext V s w) where
  -- a thread may step exactly where its need is met
  pub ready_may : (t : ℕ) → is_ready w t ≡ may_step V s t
  ready_may t = go (slice_get w.needs t) refl
    where
      go : (o : Option Need) → slice_get w.needs t ≡ o → is_ready w t ≡ may_step V s t
      go None at =
          elim (slice_get_cases w.needs t).1 [
            | inl there ↦ absurd (let some = there.2 in cc)
            | inr past ↦ not_there w t at ∙ sym (and_left _ _ (le-ltb t (length s.journals) (omega (arith, awaits.as_many, past.0))))
          ]
      go (Some need) at =
          ready_is w t need at ∙ ap (is_met w.events w.draws) (awaits.needs t need at)
          ∙ met_may s w awaits.events awaits.draws (next_of V s t)
          ∙ sym (ap (λ (b : Bool). b && may_proceed s (next_of V s t)) (lt-ltb t (length s.journals) (omega (arith, awaits.as_many, slice_get_within w.needs t need at))))

  -- after a thread's step, with what is next for it then
  module _ (t : ℕ) (o : Operation) (makes : Makes V s t o) (draw : Bool) (counted : (if draw then suc w.draws else w.draws) ≡ draws_after o w.draws)
      (next : Need) (next_is : next ≡ need_of (next_of V (step V s t) t)) (w' : NeedsAndCounts) (is : w' ≡ after_step w t draw next) where
    abbrev s' : PlainState
    s' = step V s t

    needs : (u : ℕ) (need : Need) → slice_get w'.needs u ≡ Some need → need ≡ need_of (next_of V s' u)
    needs u need at_u =
        let here = ap (λ (v : NeedsAndCounts). slice_get v.needs u) (sym is) ∙ at_u in
        elim (cases_eq u t) [
          | inl same ↦
              let at_t = subst (λ (n : ℕ). slice_get (slice_set w.needs t next) n ≡ Some need) same here in
              sym (get_same w.needs t next need at_t) ∙ next_is ∙ ap (λ (n : ℕ). need_of (next_of V s' n)) (sym same)
          | inr differ ↦
              awaits.needs u need (sym (get_other w.needs t u next differ) ∙ here)
              ∙ ap (λ (j : List Event). need_of (V u j)) (sym (other_step V s t u differ))
        ]

    within : t < length w.events
    within = omega (arith, awaits.counts, makes.within)

    events : (u : ℕ) → get_or w'.events u 0 ≡ length (journal_of s'.journals u)
    events u =
        let here = ap (λ (v : NeedsAndCounts). get_or v.events u 0) is in
        elim (cases_eq u t) [
          | inl same ↦
              here ∙ ap (λ (n : ℕ). get_or (slice_set w.events t (suc (get_or w.events t 0))) n 0) same
              ∙ get_or-set_same w.events t (suc (get_or w.events t 0)) 0 within ∙ ap suc (awaits.events t) ∙ sym (counts_step V s t o makes)
              ∙ ap (λ (n : ℕ). length (journal_of s'.journals n)) (sym same)
          | inr differ ↦
              here ∙ get_or-set_other w.events t u (suc (get_or w.events t 0)) 0 differ ∙ awaits.events u
              ∙ ap (λ (j : List Event). length j) (sym (other_step V s t u differ))
        ]

    pub awaits_after : AwaitsNext V (step V s t) w'
    awaits_after = record {
      as_many = ap (λ (v : NeedsAndCounts). length v.needs) is ∙ length-set w.needs t next ∙ awaits.as_many ∙ sym (as_many_step V s t);
      counts = ap (λ (v : NeedsAndCounts). length v.events) is ∙ length-set w.events t (suc (get_or w.events t 0)) ∙ awaits.counts ∙ sym (as_many_step V s t);
      needs = needs;
      events = events;
      draws = ap (λ (v : NeedsAndCounts). v.draws) is ∙ counted ∙ ap (draws_after o) awaits.draws ∙ sym (ap (λ (x : PlainState). x.draws) makes.stepped);
    }

    -- one event more is counted
    pub one_counted : sum w'.events ≡ suc (sum w.events)
    one_counted =
        ap (λ (v : NeedsAndCounts). sum v.events) is
        ∙ omega (arith, sum_by-set (λ (n : ℕ). n) w.events t (suc (get_or w.events t 0)) 0 within)

-- ---- before the first step
zero_there : (none : ℕ) (n t : ℕ) → get_or (replicate n none) t none ≡ none
zero_there none zero t = refl
zero_there none (suc n) zero = refl
zero_there none (suc n) (suc t) = zero_there none n t

pub sum_none : (n : ℕ) → sum (replicate n 0) ≡ 0
sum_none zero = refl
sum_none (suc n) = omega (arith, sum_by-cons (λ (k : ℕ). k) 0 (replicate n 0), sum_none n)

pub awaits_at_start : {A : Type 0} (V : Behavior) (heap : List ℕ) (threads : List A) (needs : List Need) (w : NeedsAndCounts) → length needs ≡ length threads
    → ((t : ℕ) (need : Need) → slice_get needs t ≡ Some need → need ≡ need_of (V t [])) → w ≡ no_counts needs → AwaitsNext V (starting_state heap threads) w
awaits_at_start {A = A} V heap threads needs w as_many each is = record {
  as_many = ap (λ (v : NeedsAndCounts). length v.needs) is ∙ as_many ∙ sym (length-map threads (λ (x : A). []));
  counts = ap (λ (v : NeedsAndCounts). length v.events) is ∙ length-replicate (length needs) 0 ∙ as_many ∙ sym (length-map threads (λ (x : A). []));
  needs = λ t need at.
      each t need (ap (λ (v : NeedsAndCounts). slice_get v.needs t) (sym is) ∙ at)
      ∙ ap (λ (j : List Event). need_of (V t j)) (sym (no_journal threads t));
  events = λ t.
      ap (λ (v : NeedsAndCounts). get_or v.events t 0) is ∙ zero_there 0 (length needs) t
      ∙ sym (ap (λ (j : List Event). length j) (no_journal threads t));
  draws = ap (λ (v : NeedsAndCounts). v.draws) is;
}
