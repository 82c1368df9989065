-- What each step of a whole play makes.
use Rattle.std.proofs.Common.{◌≡◌, ℕ, zero, suc, ◌+◌, ◌-◌, ◌<◌, ◌≤◌, inl, inr, Bool, cond, eqb, List, [], ◌∷◌, length, take, Option, Some, None, IsTrue, get_or, slice_get, refl, sym, ap, ◌∙◌, subst, arith}
use Rattle.std.proofs.lemmas.Bool.{cases_eq, cases_lt, eq-eqb, ne_eqb, leb-true, eqb-true}
use Rattle.std.proofs.lemmas.List.Sums.{sum_by-cons}
use Rattle.std.proofs.lemmas.Option.{slice_get_within}
use Rattle.octet_model.specs.declared.event.Mark.TheVariants.{Join, Draw, Fence}
use Rattle.octet_model.specs.declared.event.Event.{Event}
use Rattle.octet_model.specs.declared.event.Event.TheVariants.{Read, Write, Update, Marked}
use Rattle.octet_model.specs.declared.event.Place.{Place}
use Rattle.octet_model.specs.Machine.{Journals, journal_of, PlainState, starting_state, Operation, Wants, Behavior, is_enabled, draws_after, may_step, step, after, IsFront}
use Rattle.octet_model.specs.HappensBefore.{event_at, IsEvent}
use Rattle.octet_model.specs.Past.{DrawsDiffer}
use Rattle.octet_model.specs.Plays.{operation_of, next_in, by_journals}
use Rattle.octet_model.proofs.lemmas.Steps.{count, draws_grow, what_it_makes, other_step, counts_step}
use Rattle.octet_model.proofs.lemmas.Fronts.{no_journal}
use Rattle.octet_clock.specs.Play.{made_by, step_place, IsMadeBefore, IsWholePlay, draws_by, IsStep}

module _ (behavior : Behavior) where
  -- each step of a front may be made
  front_at : (order : List ℕ) (s : PlainState) (i : ℕ) → IsFront behavior s order → i < length order → IsTrue (may_step behavior (after behavior s (take i order)) (get_or order i 0))
  front_at [] s i front lt = absurd (omega arith)
  front_at (t ∷ order) s zero front lt = front.0
  front_at (t ∷ order) s (suc i) front lt = front_at order (step behavior s t) i front.1 (omega arith)

  step_at : (order : List ℕ) (s : PlainState) (i : ℕ) → i < length order → after behavior s (take (suc i) order) ≡ step behavior (after behavior s (take i order)) (get_or order i 0)
  step_at [] s i lt = absurd (omega arith)
  step_at (t ∷ order) s zero lt = refl
  step_at (t ∷ order) s (suc i) lt = step_at order (step behavior s t) i (omega arith)

-- one more step of a thread, or of another
pub made_one : (play : List ℕ) (i t : ℕ) → i < length play → get_or play i 0 ≡ t → made_by play (suc i) t ≡ suc (made_by play i t)
made_one [] i t lt is = absurd (omega arith)
made_one (u ∷ play) zero t lt is = omega (arith, sum_by-cons (λ (x : ℕ). cond (eqb x t) 1 0) u [], ap {B = ℕ} (λ (b : Bool). cond b 1 0) (eq-eqb u t is))
made_one (u ∷ play) (suc i) t lt is =
    omega (arith, sum_by-cons (λ (x : ℕ). cond (eqb x t) 1 0) u (take (suc i) play), sum_by-cons (λ (x : ℕ). cond (eqb x t) 1 0) u (take i play), made_one play i t (omega arith) is)

pub made_other : (play : List ℕ) (i t : ℕ) → i < length play → (get_or play i 0 ≡ t → ⊥) → made_by play (suc i) t ≡ made_by play i t
made_other [] i t lt is = absurd (omega arith)
made_other (u ∷ play) zero t lt is = omega (arith, sum_by-cons (λ (x : ℕ). cond (eqb x t) 1 0) u [], ap {B = ℕ} (λ (b : Bool). cond b 1 0) (ne_eqb u t is))
made_other (u ∷ play) (suc i) t lt is =
    omega (arith, sum_by-cons (λ (x : ℕ). cond (eqb x t) 1 0) u (take (suc i) play), sum_by-cons (λ (x : ℕ). cond (eqb x t) 1 0) u (take i play), made_other play i t (omega arith) is)

pub made_none : (play : List ℕ) (t : ℕ) → made_by play 0 t ≡ 0
made_none play t = refl

-- more steps make no less
pub made_grows : (play : List ℕ) (t more i j : ℕ) → i + more ≡ j → j ≤ length play → made_by play i t ≤ made_by play j t
made_grows play t zero i j is le = let same : i ≡ j = omega arith in omega (arith, ap (λ (n : ℕ). made_by play n t) same)
made_grows play t (suc more) i j is le =
    let rest = made_grows play t more i (i + more) refl (omega arith) in
    let last = ap (λ (n : ℕ). made_by play n t) (let e : j ≡ suc (i + more) = omega arith in e) in
    elim (cases_eq (get_or play (i + more) 0) t) [
      | inl same ↦ omega (arith, made_one play (i + more) t (omega arith) same)
      | inr differ ↦ omega (arith, made_other play (i + more) t (omega arith) differ)
    ]

-- what the first steps make, one of them makes
pub index_of : (play : List ℕ) (n : ℕ) (a : Place) → n ≤ length play → IsMadeBefore play n a → (i : ℕ) × (i < n) × (step_place play i ≡ a)
index_of play zero a le made = absurd (omega (arith, made, made_none play a.thread))
index_of play (suc n) a le made =
    elim (cases_lt a.event (made_by play n a.thread)) [
      | inl sooner ↦ let there = index_of play n a (omega arith) sooner in (there.0, omega (arith, there.1), there.2)
      | inr now ↦ elim (cases_eq (get_or play n 0) a.thread) [
        | inl same ↦
            let e : made_by play n (get_or play n 0) ≡ a.event = ap (made_by play n) same ∙ (let k : made_by play n a.thread ≡ a.event = omega (arith, made, made_one play n a.thread (omega arith) same) in k) in
            (n, omega arith, λ i. record { thread = same i; event = e i })
        | inr differ ↦ absurd (omega (arith, made, made_other play n a.thread (omega arith) differ))
      ]
    ]

-- the event at a place is what is next there
next_is : (o : Option Event) (operation : Operation) → next_in o ≡ Wants operation → (e : Event) × (o ≡ Some e) × (operation_of e ≡ operation)
next_is None operation is = absurd cc
next_is (Some e) operation is = (e, refl, cc)

module _ (js : Journals) (play : List ℕ) (is_play : IsFront (by_journals js) (starting_state [] js) play) where
  abbrev next_by : Behavior
  next_by = by_journals js

  abbrev state_at : ℕ → PlainState
  state_at i = after next_by (starting_state [] js) (take i play)

  abbrev mover : ℕ → ℕ
  mover i = get_or play i 0

  -- a thread has made as many events as steps of the play are its
  pub counts_are : (i t : ℕ) → i ≤ length play → count (state_at i).journals t ≡ made_by play i t
  counts_are zero t le = omega (arith, ap (λ (j : List Event). length j) (no_journal js t), made_none play t)
  counts_are (suc i) t le =
      let may = front_at next_by play (starting_state [] js) i is_play (omega arith) in
      let m = what_it_makes next_by (state_at i) (mover i) may in
      let next = ap (λ (s : PlainState). count s.journals t) (step_at next_by play (starting_state [] js) i (omega arith)) in
      let before = counts_are i t (omega arith) in
      elim (cases_eq (mover i) t) [
        | inl same ↦
            let one = ap (λ (u : ℕ). count (step next_by (state_at i) (mover i)).journals u) same in
            let old = ap (λ (u : ℕ). count (state_at i).journals u) same in
            omega (arith, counts_step next_by (state_at i) (mover i) m.0 m.1, made_one play i t (omega arith) same)
        | inr differ ↦
            omega (arith, ap (λ (j : List Event). length j) (other_step next_by (state_at i) (mover i) t (λ e. differ (sym e))), made_other play i t (omega arith) differ)
      ]

module _ (js : Journals) (play : List ℕ) (whole : IsWholePlay js play) where
  abbrev at_step : ℕ → PlainState
  at_step i = state_at js play whole.is_play i

  -- a step makes an event, which may be made there
  record Step (i : ℕ) : Type 0 where
    event : Event
    is_step : IsStep js play i (get_or play i 0) event
    enabled : IsTrue (is_enabled (at_step i) (operation_of event))
    counts : draws_by js play (suc i) ≡ draws_after (operation_of event) (draws_by js play i)

  step_of : (i : ℕ) → i < length play → Step i
  step_of i lt =
      let may = front_at (by_journals js) play (starting_state [] js) i whole.is_play lt in
      let m = what_it_makes (by_journals js) (at_step i) (get_or play i 0) may in
      let e = next_is (slice_get (journal_of js (get_or play i 0)) (count (at_step i).journals (get_or play i 0))) m.0 m.1.wanted in
      let next = ap (λ (s : PlainState). s.draws) (step_at (by_journals js) play (starting_state [] js) i lt) in
      let made = ap (λ (s : PlainState). s.draws) m.1.stepped in
      record {
        event = e.0;
        is_step = record { within = lt; is_of = refl; makes = ap (slice_get (journal_of js (get_or play i 0))) (sym (counts_are js play whole.is_play i (get_or play i 0) (omega arith))) ∙ e.1 };
        enabled = subst (λ (o : Operation). IsTrue (is_enabled (at_step i) o)) (sym e.2) m.1.enabled;
        counts = next ∙ made ∙ ap (λ (o : Operation). draws_after o (draws_by js play i)) (sym e.2);
      }

  pub event_of_step : (i : ℕ) → i < length play → (e : Event) × IsStep js play i (get_or play i 0) e
  event_of_step i lt = let s = step_of i lt in (s.event, s.is_step)

  one_event : (i t : ℕ) (e : Event) (is : IsStep js play i t e) → (step_of i is.within).event ≡ e
  one_event i t e is =
      let s = step_of i is.within in
      let same : slice_get (journal_of js (get_or play i 0)) (made_by play i (get_or play i 0)) ≡ slice_get (journal_of js t) (made_by play i t) = ap (λ (u : ℕ). slice_get (journal_of js u) (made_by play i u)) is.is_of in
      let there = s.is_step.makes in
      let here = is.makes in
      cc

  enabled_at : (i t : ℕ) (e : Event) → IsStep js play i t e → IsTrue (is_enabled (at_step i) (operation_of e))
  enabled_at i t e is = subst (λ (x : Event). IsTrue (is_enabled (at_step i) (operation_of x))) (one_event i t e is) (step_of i is.within).enabled

  counts_at : (i t : ℕ) (e : Event) → IsStep js play i t e → draws_by js play (suc i) ≡ draws_after (operation_of e) (draws_by js play i)
  counts_at i t e is = (step_of i is.within).counts ∙ ap (λ (x : Event). draws_after (operation_of x) (draws_by js play i)) (one_event i t e is)

  -- a Join names what was made before it
  pub join_names : (i t u p : ℕ) → IsStep js play i t (Marked (Join u p)) → p ≤ made_by play i u
  join_names i t u p is = omega (arith, leb-true p (count (at_step i).journals u) (enabled_at i t (Marked (Join u p)) is), counts_are js play whole.is_play i u (omega (arith, is.within)))

  -- a Draw has the next number
  pub draw_is_next : (i t c : ℕ) → IsStep js play i t (Marked (Draw c)) → c ≡ suc (draws_by js play i)
  draw_is_next i t c is = eqb-true c (suc (draws_by js play i)) (enabled_at i t (Marked (Draw c)) is)

  pub draw_counts : (i t c : ℕ) → IsStep js play i t (Marked (Draw c)) → draws_by js play (suc i) ≡ suc (draws_by js play i)
  draw_counts i t c is = counts_at i t (Marked (Draw c)) is

  -- a Fence has seen no more than were made
  pub fence_names : (i t n : ℕ) → IsStep js play i t (Marked (Fence n)) → n ≤ draws_by js play i
  fence_names i t n is = leb-true n (draws_by js play i) (enabled_at i t (Marked (Fence n)) is)

  -- no other event counts as a draw
  pub others_count_none : (i t : ℕ) (e : Event) → IsStep js play i t e → ((c : ℕ) → e ≡ Marked (Draw c) → ⊥) → draws_by js play (suc i) ≡ draws_by js play i
  others_count_none i t e is none = counts_at i t e is ∙ go e none (draws_by js play i)
    where
      go : (e : Event) → ((c : ℕ) → e ≡ Marked (Draw c) → ⊥) → (n : ℕ) → draws_after (operation_of e) n ≡ n
      go (Read object value) none n = refl
      go (Write object value) none n = refl
      go (Update object before after) none n = refl
      go (Marked (Join from upto)) none n = refl
      go (Marked (Draw number)) none n = absurd (none number refl)
      go (Marked (Fence number)) none n = refl

  pub draws_grow_by : (more i j : ℕ) → i + more ≡ j → j ≤ length play → draws_by js play i ≤ draws_by js play j
  draws_grow_by zero i j is le = let same : i ≡ j = omega arith in omega (arith, ap (draws_by js play) same)
  draws_grow_by (suc more) i j is le =
      let rest = draws_grow_by more i (i + more) refl (omega arith) in
      let last = ap (draws_by js play) (let e : j ≡ suc (i + more) = omega arith in e) in
      let s = step_of (i + more) (omega arith) in
      omega (arith, s.counts, draws_grow (operation_of s.event) (draws_by js play (i + more)))

  -- every event of the journals is made by a step
  pub index_in : (a : Place) → IsEvent js a → (i : ℕ) × (i < length play) × (step_place play i ≡ a)
  index_in a is = index_of play (length play) a (omega arith) (omega (arith, whole.makes a.thread, slice_get_within (journal_of js a.thread) a.event is.0 is.1))

  -- a step at a place that holds an event makes it
  pub step_at_place : (i : ℕ) (a : Place) (e : Event) → i < length play → step_place play i ≡ a → event_at js a ≡ Some e → IsStep js play i a.thread e
  step_at_place i a e lt is at_a =
      record {
        within = lt;
        is_of = ap (λ (p : Place). p.thread) is;
        makes = ap (λ (u : ℕ). slice_get (journal_of js a.thread) (made_by play i u)) (ap (λ (p : Place). p.thread) (sym is)) ∙ ap (λ (n : ℕ). slice_get (journal_of js a.thread) n) (ap (λ (p : Place). p.event) is) ∙ at_a;
      }

  -- no two draws have one number, and none has the number 0
  pub draws_differ : DrawsDiffer js
  draws_differ a b number at_a at_b =
      let i = index_in a (Marked (Draw number), at_a) in
      let j = index_in b (Marked (Draw number), at_b) in
      let is_i = step_at_place i.0 a (Marked (Draw number)) i.1 i.2 at_a in
      let is_j = step_at_place j.0 b (Marked (Draw number)) j.1 j.2 at_b in
      let n = draw_is_next i.0 a.thread number is_i in
      let m = draw_is_next j.0 b.thread number is_j in
      elim (cases_lt i.0 j.0) [
        | inl below ↦ absurd (omega (arith, n, m, draw_counts i.0 a.thread number is_i, draws_grow_by (j.0 - suc i.0) (suc i.0) j.0 (omega arith) (omega (arith, j.1))))
        | inr above ↦ elim (cases_lt j.0 i.0) [
          | inl below ↦ absurd (omega (arith, n, m, draw_counts j.0 b.thread number is_j, draws_grow_by (i.0 - suc j.0) (suc j.0) i.0 (omega arith) (omega (arith, i.1))))
          | inr same ↦ let e : i.0 ≡ j.0 = omega arith in sym i.2 ∙ ap (step_place play) e ∙ j.2
        ]
      ]

  pub draw_is_some : (a : Place) (number : ℕ) → event_at js a ≡ Some (Marked (Draw number)) → 1 ≤ number
  draw_is_some a number at_a =
      let i = index_in a (Marked (Draw number), at_a) in
      omega (arith, draw_is_next i.0 a.thread number (step_at_place i.0 a (Marked (Draw number)) i.1 i.2 at_a))

  -- a draw of a number that was drawn is made
  pub drawn_is_made : (i : ℕ) (a : Place) (number : ℕ) → i ≤ length play → event_at js a ≡ Some (Marked (Draw number)) → number ≤ draws_by js play i → IsMadeBefore play i a
  drawn_is_made i a number le at_a drawn =
      let j = index_in a (Marked (Draw number), at_a) in
      let is_j = step_at_place j.0 a (Marked (Draw number)) j.1 j.2 at_a in
      let n = draw_is_next j.0 a.thread number is_j in
      elim (cases_lt j.0 i) [
        | inl below ↦
            let e = ap (λ (p : Place). p.event) j.2 in
            let same = ap (made_by play j.0) (ap (λ (p : Place). p.thread) j.2) in
            omega (arith, made_one play j.0 a.thread (omega (arith, j.1)) is_j.is_of, made_grows play a.thread (i - suc j.0) (suc j.0) i (omega arith) le)
        | inr above ↦ absurd (omega (arith, draws_grow_by (j.0 - i) i j.0 (omega arith) (omega (arith, j.1))))
      ]
