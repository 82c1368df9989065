-- What one step of the plain machine makes, and what it leaves.
use Rattle.std.proofs.Common.{◌≡◌, ℕ, suc, ◌<◌, ◌≤◌, inl, inr, Bool, true, false, List, [], ◌∷◌, ◌++◌, length, Option, Some, IsTrue, slice_get, refl, sym, ap, ◌∙◌, subst, arith, length-append, length-set}
use Rattle.std.proofs.lemmas.List.{get_or-set_same, get_or-set_other, set_past}
use Rattle.std.proofs.lemmas.Bool.{cases_eq, cases_lt, and_parts, and_from, ltb-true, lt-ltb, leb-true, eqb-true}
use Rattle.octet_model.specs.declared.event.Mark.TheVariants.{Join, Draw, Fence}
use Rattle.octet_model.specs.declared.event.Event.{Event}
use Rattle.octet_model.specs.declared.event.Event.TheVariants.{Marked}
use Rattle.octet_model.specs.Machine.{Journals, journal_of, PlainState, Operation, MakeMark, Next, Wants, Finished, NothingFits, Behavior, is_enabled, event_made, draws_after, appended, performed, next_of, may_proceed, may_step, proceeded, step, after, IsFront}
use Rattle.octet_model.proofs.lemmas.Lists.{slice_get-append, slice_get_last}

-- the event of thread u at k
abbrev pub at : Journals → ℕ → ℕ → Option Event
at journals u k = slice_get (journal_of journals u) k

-- how many events thread u has made
abbrev pub count : Journals → ℕ → ℕ
count journals u = length (journal_of journals u)

-- one more event
pub same_journal : (js : Journals) (t : ℕ) (e : Event) → t < length js → journal_of (appended js t e) t ≡ journal_of js t ++ e ∷ []
same_journal js t e lt = get_or-set_same js t (journal_of js t ++ e ∷ []) [] lt

pub other_journal : (js : Journals) (t u : ℕ) (e : Event) → (u ≡ t → ⊥) → journal_of (appended js t e) u ≡ journal_of js u
other_journal js t u e differ = get_or-set_other js t u (journal_of js t ++ e ∷ []) [] differ

pub as_many : (js : Journals) (t : ℕ) (e : Event) → length (appended js t e) ≡ length js
as_many js t e = length-set js t (journal_of js t ++ e ∷ [])

pub stays_appended : (js : Journals) (t u k : ℕ) (e x : Event) → at js u k ≡ Some x → at (appended js t e) u k ≡ Some x
stays_appended js t u k e x h =
    elim (cases_eq u t) [
      | inr differ ↦ ap (λ j. slice_get j k) (other_journal js t u e differ) ∙ h
      | inl same ↦ elim (cases_lt t (length js)) [
        | inl lt ↦ rw same (ap (λ j. slice_get j k) (same_journal js t e lt) ∙ slice_get-append (journal_of js t) (e ∷ []) k x (rw same at h))
        | inr past ↦ ap (λ l. slice_get (journal_of l u) k) (set_past js t (journal_of js t ++ e ∷ []) past) ∙ h
      ]
    ]

pub grows : (js : Journals) (t u : ℕ) (e : Event) → count js u ≤ count (appended js t e) u
grows js t u e =
    elim (cases_eq u t) [
      | inr differ ↦ omega (arith, ap (λ j. length j) (other_journal js t u e differ))
      | inl same ↦ elim (cases_lt t (length js)) [
        | inl lt ↦ rw same (omega (arith, ap (λ j. length j) (same_journal js t e lt), length-append (journal_of js t) (e ∷ [])))
        | inr past ↦ omega (arith, ap (λ l. length (journal_of l u)) (set_past js t (journal_of js t ++ e ∷ []) past))
      ]
    ]

-- the one new event
pub where_new : (js : Journals) (t u k : ℕ) (e : Event) → t < length js → count js u ≤ k → k < count (appended js t e) u → (u ≡ t) × (k ≡ count js t)
where_new js t u k e lt old new =
    elim (cases_eq u t) [
      | inr differ ↦ absurd (omega (arith, ap (λ j. length j) (other_journal js t u e differ)))
      | inl same ↦ (same, (let new' : k < count (appended js t e) t = rw same at new in let old' : count js t ≤ k = rw same at old in omega (arith, ap (λ j. length j) (same_journal js t e lt), length-append (journal_of js t) (e ∷ []))))
    ]

pub new_event : (js : Journals) (t : ℕ) (e : Event) → t < length js → at (appended js t e) t (count js t) ≡ Some e
new_event js t e lt = ap (λ j. slice_get j (count js t)) (same_journal js t e lt) ∙ slice_get_last (journal_of js t) e

pub counts_new : (js : Journals) (t : ℕ) (e : Event) → t < length js → count (appended js t e) t ≡ suc (count js t)
counts_new js t e lt = omega (arith, ap (λ j. length j) (same_journal js t e lt), length-append (journal_of js t) (e ∷ []))

pub at_same : (js : Journals) (t u n k : ℕ) → t ≡ u → n ≡ k → at js t n ≡ at js u k
at_same js t u n k e f = rw (e, f)

-- draws only grow
pub draws_grow : (o : Operation) (n : ℕ) → n ≤ draws_after o n
draws_grow (MakeMark (Draw number)) n = omega arith
draws_grow other n = omega arith

-- what a mark that may be made tells
pub drawn_next : (s : PlainState) (o : Operation) (heap : List ℕ) (c : ℕ) → IsTrue (is_enabled s o) → event_made o heap ≡ Marked (Draw c) → c ≡ suc s.draws
drawn_next s (MakeMark (Draw number)) heap c enabled is = cc (eqb-true number (suc s.draws) enabled)
drawn_next s other heap c enabled is = absurd cc

pub joined_upto : (s : PlainState) (o : Operation) (heap : List ℕ) (u p : ℕ) → IsTrue (is_enabled s o) → event_made o heap ≡ Marked (Join u p) → p ≤ count s.journals u
joined_upto s (MakeMark (Join from upto)) heap u p enabled is =
    let le : upto ≤ count s.journals from = leb-true upto (count s.journals from) enabled in
    let f : from ≡ u = cc in
    let n : upto ≡ p = cc in
    omega (arith, ap (λ (i : ℕ). count s.journals i) f)
joined_upto s other heap u p enabled is = absurd cc

pub fenced_upto : (s : PlainState) (o : Operation) (heap : List ℕ) (n : ℕ) → IsTrue (is_enabled s o) → event_made o heap ≡ Marked (Fence n) → n ≤ s.draws
fenced_upto s (MakeMark (Fence number)) heap n enabled is =
    let le : number ≤ s.draws = leb-true number s.draws enabled in
    let e : number ≡ n = cc in
    omega arith
fenced_upto s other heap n enabled is = absurd cc

-- the operation is the next of a thread that is there, and may be made; so it is the thread's step
pub record Makes (behavior : Behavior) (s : PlainState) (t : ℕ) (o : Operation) : Type 0 where
  pub within : t < length s.journals
  pub wanted : next_of behavior s t ≡ Wants o
  pub enabled : IsTrue (is_enabled s o)
  pub may : IsTrue (may_step behavior s t)
  pub stepped : step behavior s t ≡ performed s t o
  pub appends : (step behavior s t).journals ≡ appended s.journals t (event_made o s.heap)

module _ (behavior : Behavior) where
  abbrev chosen : PlainState → ℕ → Bool → PlainState
  chosen s t may = elim may [ true ↦ proceeded s t (next_of behavior s t) | false ↦ s ]

  pub makes_from : (s : PlainState) (t : ℕ) (o : Operation) → t < length s.journals → next_of behavior s t ≡ Wants o → IsTrue (is_enabled s o) → Makes behavior s t o
  makes_from s t o within wanted enabled =
      let may : IsTrue (may_step behavior s t) = and_from _ _ (lt-ltb t (length s.journals) within) (ap (may_proceed s) wanted ∙ enabled) in
      let stepped : step behavior s t ≡ performed s t o = ap (chosen s t) may ∙ ap (proceeded s t) wanted in
      record { within = within; wanted = wanted; enabled = enabled; may = may; stepped = stepped; appends = ap (λ (x : PlainState). x.journals) stepped }

  -- a thread that may step makes an operation
  pub what_it_makes : (s : PlainState) (t : ℕ) → IsTrue (may_step behavior s t) → (o : Operation) × Makes behavior s t o
  what_it_makes s t may = go (next_of behavior s t) refl (and_parts _ _ may).1
    where
      go : (n : Next) → next_of behavior s t ≡ n → IsTrue (may_proceed s n) → (o : Operation) × Makes behavior s t o
      go (Wants o) is enabled = (o, makes_from s t o (ltb-true t (length s.journals) (and_parts _ _ may).0) is enabled)
      go Finished is enabled = absurd cc
      go NothingFits is enabled = absurd cc

  -- what holds of a state and is kept by each operation holds after a step
  pub by_step : (P : PlainState → Type 0) (s : PlainState) (t : ℕ) → ((o : Operation) → P (performed s t o)) → P s → P (step behavior s t)
  by_step P s t kept holds = go (may_step behavior s t) refl
    where
      go : (b : Bool) → may_step behavior s t ≡ b → P (step behavior s t)
      go true may = let m = what_it_makes s t may in subst P (sym m.1.stepped) (kept m.0)
      go false may_not = subst P (sym (ap (chosen s t) may_not)) holds

  -- and what is kept by each that may be made holds after a front
  pub by_front : (P : PlainState → Type 0) → ((s : PlainState) (t : ℕ) (o : Operation) → Makes behavior s t o → P s → P (performed s t o))
      → (order : List ℕ) (s : PlainState) → IsFront behavior s order → P s → P (after behavior s order)
  by_front P kept [] s front holds = holds
  by_front P kept (t ∷ order) s front holds = let m = what_it_makes s t front.0 in by_front P kept order (step behavior s t) front.1 (subst P (sym m.1.stepped) (kept s t m.0 m.1 holds))

  pub as_many_step : (s : PlainState) (t : ℕ) → length (step behavior s t).journals ≡ length s.journals
  as_many_step s t = by_step (λ (x : PlainState). length x.journals ≡ length s.journals) s t (λ o. as_many s.journals t (event_made o s.heap)) refl

  pub stays_step : (s : PlainState) (t u k : ℕ) (x : Event) → at s.journals u k ≡ Some x → at (step behavior s t).journals u k ≡ Some x
  stays_step s t u k x h = by_step (λ (z : PlainState). at z.journals u k ≡ Some x) s t (λ o. stays_appended s.journals t u k (event_made o s.heap) x h) h

  pub other_step : (s : PlainState) (t u : ℕ) → (u ≡ t → ⊥) → journal_of (step behavior s t).journals u ≡ journal_of s.journals u
  other_step s t u differ = by_step (λ (z : PlainState). journal_of z.journals u ≡ journal_of s.journals u) s t (λ o. other_journal s.journals t u (event_made o s.heap) differ) refl

  pub grows_step : (s : PlainState) (t u : ℕ) → count s.journals u ≤ count (step behavior s t).journals u
  grows_step s t u = by_step (λ (z : PlainState). count s.journals u ≤ count z.journals u) s t (λ o. grows s.journals t u (event_made o s.heap)) (omega arith)

  -- after a step that makes an operation
  pub made_there : (s : PlainState) (t : ℕ) (o : Operation) → Makes behavior s t o → at (step behavior s t).journals t (count s.journals t) ≡ Some (event_made o s.heap)
  made_there s t o m = ap (λ (js : Journals). at js t (count s.journals t)) m.appends ∙ new_event s.journals t (event_made o s.heap) m.within

  pub counts_step : (s : PlainState) (t : ℕ) (o : Operation) → Makes behavior s t o → count (step behavior s t).journals t ≡ suc (count s.journals t)
  counts_step s t o m = ap (λ (js : Journals). count js t) m.appends ∙ counts_new s.journals t (event_made o s.heap) m.within

  pub where_made : (s : PlainState) (t u k : ℕ) (o : Operation) → Makes behavior s t o → count s.journals u ≤ k → k < count (step behavior s t).journals u → (u ≡ t) × (k ≡ count s.journals t)
  where_made s t u k o m old new = where_new s.journals t u k (event_made o s.heap) m.within old (subst (λ (js : Journals). k < count js u) m.appends new)
