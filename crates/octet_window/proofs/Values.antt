-- Steps that fit some values fit those that they show.
use Rattle.std.proofs.Common.{◌≡◌, ◌≢◌, ℕ, zero, suc, ◌<◌, ◌⊎◌, inl, inr, List, [], ◌∷◌, ◌++◌, length, get_or, replicate, slice_index, slice_set, refl, sym, ap, ◌∙◌, subst, arith, length-set}
use Rattle.std.proofs.lemmas.Bool.{cases_eq}
use Rattle.std.proofs.lemmas.List.{get_or-set_same, get_or-set_other, length-replicate}
use Rattle.octet_model.specs.declared.event.Event.{Event}
use Rattle.octet_model.specs.declared.event.Event.TheVariants.{Read, Write, Update, Marked}
use Rattle.octet_model.specs.Machine.{event_made, heap_after}
use Rattle.octet_model.specs.Plays.{operation_of}
use Rattle.octet_window.specs.declared.course.Step.{Step}
use Rattle.octet_window.specs.Courses.{AreSteps}
use Rattle.octet_window.specs.Noting.{IsEventIn}
use Rattle.octet_window.specs.Values.{behind, Fit, shown_by, shown_before}
use Rattle.octet_window.proofs.Accessing.{wide_after}

-- more steps
pub fit_parts : (steps more : List Step) (values : List ℕ) → Fit (steps ++ more) values → Fit steps values × Fit more (behind steps values)
fit_parts [] more values fit = (tt, fit)
fit_parts (step ∷ steps) more values fit = let r = fit_parts steps more (heap_after (operation_of step.event) values) fit.1 in ((fit.0, r.0), r.1)

pub fit_more : (steps more : List Step) (values : List ℕ) → Fit steps values → Fit more (behind steps values) → Fit (steps ++ more) values
fit_more [] more values fit rest = rest
fit_more (step ∷ steps) more values fit rest = (fit.0, fit_more steps more (heap_after (operation_of step.event) values) fit.1 rest)

pub behind_more : (steps : List Step) (step : Step) (values : List ℕ) → behind (steps ++ step ∷ []) values ≡ heap_after (operation_of step.event) (behind steps values)
behind_more [] step values = refl
behind_more (first ∷ steps) step values = behind_more steps step (heap_after (operation_of first.event) values)

pub step_at : (steps : List Step) (k n m : ℕ) (d : Step) → k < length steps → AreSteps n m steps → ((get_or steps k d).thread < m) × IsEventIn n (get_or steps k d).event
step_at [] k n m d lt are = absurd (omega (arith, lt))
step_at (step ∷ steps) zero n m d lt are = (are.0, are.1)
step_at (step ∷ steps) (suc k) n m d lt are = step_at steps k n m d (omega (arith, lt)) are.2

-- the object is accessed by none, or written first. This is so after the event
abbrev IsUnseenBy : Event → ℕ → Type 0 → Type 0
IsUnseenBy (Read p value) object later = (object ≢ p) × later
IsUnseenBy (Write p value) object later = (object ≡ p) ⊎ later
IsUnseenBy (Update p before after) object later = (object ≢ p) × later
IsUnseenBy (Marked mark) object later = later

abbrev IsUnseen : List Step → ℕ → Type 0
IsUnseen [] object = Unit {0}
IsUnseen (step ∷ steps) object = IsUnseenBy step.event object (IsUnseen steps object)

-- an object has the same value by both, or is unseen
abbrev AreAlike : (ℕ → Type 0) → List ℕ → List ℕ → Type 0
AreAlike IsHidden a b = (object : ℕ) → (slice_index a object ≡ slice_index b object) ⊎ IsHidden object

-- what an event shows, where what comes after it shows the rest
shown_alike : (e : Event) (n : ℕ) (later values : List ℕ) (IsHidden : ℕ → Type 0) → IsEventIn n e → length later ≡ n → event_made (operation_of e) values ≡ e
    → AreAlike IsHidden later (heap_after (operation_of e) values) → AreAlike (λ object. IsUnseenBy e object (IsHidden object)) (shown_by e later) values
shown_alike (Read p v) n later values IsHidden is wide made alike o = elim (cases_eq o p) [
  | inl same ↦ inl (subst (λ (q : ℕ). slice_index (slice_set later p v) q ≡ slice_index values q) (sym same)
      (get_or-set_same later p v 0 (omega (arith, is, wide)) ∙ sym (let value : slice_index values p ≡ v = cc in value)))
  | inr apart ↦ elim (alike o) [
    | inl equal ↦ inl (get_or-set_other later p o v 0 apart ∙ equal)
    | inr hidden ↦ inr (apart, hidden)
  ]
]
shown_alike (Write p v) n later values IsHidden is wide made alike o = elim (cases_eq o p) [
  | inl same ↦ inr (inl same)
  | inr apart ↦ elim (alike o) [
    | inl equal ↦ inl (get_or-set_other later p o 0 0 apart ∙ (equal ∙ get_or-set_other values p o v 0 apart))
    | inr hidden ↦ inr (inr hidden)
  ]
]
shown_alike (Update p v w) n later values IsHidden is wide made alike o = elim (cases_eq o p) [
  | inl same ↦ inl (subst (λ (q : ℕ). slice_index (slice_set later p v) q ≡ slice_index values q) (sym same)
      (get_or-set_same later p v 0 (omega (arith, is.0, wide)) ∙ sym (let value : slice_index values p ≡ v = cc in value)))
  | inr apart ↦ elim (alike o) [
    | inl equal ↦ inl (get_or-set_other later p o v 0 apart ∙ (equal ∙ get_or-set_other values p o w 0 apart))
    | inr hidden ↦ inr (apart, hidden)
  ]
]
shown_alike (Marked mark) n later values IsHidden is wide made alike o = alike o

wide_shown : (e : Event) (values : List ℕ) → length (shown_by e values) ≡ length values
wide_shown (Read p v) values = length-set values p v
wide_shown (Write p v) values = length-set values p 0
wide_shown (Update p v w) values = length-set values p v
wide_shown (Marked mark) values = refl

wide_before : (steps : List Step) (values : List ℕ) → length (shown_before steps values) ≡ length values
wide_before [] values = refl
wide_before (step ∷ steps) values = wide_shown step.event (shown_before steps values) ∙ wide_before steps values

all_alike : (steps : List Step) (n m : ℕ) (none values : List ℕ) → AreSteps n m steps → length none ≡ n → Fit steps values → AreAlike (IsUnseen steps) (shown_before steps none) values
all_alike [] n m none values are wide fit = λ o. inr tt
all_alike (step ∷ steps) n m none values are wide fit =
    shown_alike step.event n (shown_before steps none) values (IsUnseen steps) are.1 (wide_before steps none ∙ wide) fit.0
    (all_alike steps n m none (heap_after (operation_of step.event) values) are.2 wide fit.1)

-- an event finds its values where they are alike, and leaves them alike
both_written : (p n v : ℕ) (a b : List ℕ) (IsHidden Was : ℕ → Type 0) → p < n → length a ≡ n → length b ≡ n → ((o : ℕ) → (o ≢ p) → Was o → IsHidden o)
    → AreAlike Was a b → AreAlike IsHidden (slice_set a p v) (slice_set b p v)
both_written p n v a b IsHidden Was is wide_a wide_b on alike o = elim (cases_eq o p) [
  | inl same ↦ inl (subst (λ (q : ℕ). slice_index (slice_set a p v) q ≡ slice_index (slice_set b p v) q) (sym same)
      (get_or-set_same a p v 0 (omega (arith, is, wide_a)) ∙ sym (get_or-set_same b p v 0 (omega (arith, is, wide_b)))))
  | inr apart ↦ elim (alike o) [
    | inl equal ↦ inl (get_or-set_other a p o v 0 apart ∙ (equal ∙ sym (get_or-set_other b p o v 0 apart)))
    | inr hidden ↦ inr (on o apart hidden)
  ]
]

seen : (p : ℕ) (a b : List ℕ) (Later : Type 0) → (slice_index a p ≡ slice_index b p) ⊎ ((p ≢ p) × Later) → slice_index a p ≡ slice_index b p
seen p a b Later (inl equal) = equal
seen p a b Later (inr hidden) = absurd (hidden.0 refl)

written_later : (p : ℕ) (IsHidden : ℕ → Type 0) (o : ℕ) → (o ≢ p) → (o ≡ p) ⊎ IsHidden o → IsHidden o
written_later p IsHidden o apart (inl same) = absurd (apart same)
written_later p IsHidden o apart (inr hidden) = hidden

still_alike : (e : Event) (n : ℕ) (a b : List ℕ) (IsHidden : ℕ → Type 0) → IsEventIn n e → length a ≡ n → length b ≡ n → event_made (operation_of e) b ≡ e
    → AreAlike (λ object. IsUnseenBy e object (IsHidden object)) a b
    → (event_made (operation_of e) a ≡ e) × AreAlike IsHidden (heap_after (operation_of e) a) (heap_after (operation_of e) b)
still_alike (Read p v) n a b IsHidden is wide_a wide_b made alike =
    (ap (λ (x : ℕ). Read p x) (seen p a b (IsHidden p) (alike p)) ∙ made, λ o. elim (alike o) [ inl equal ↦ inl equal | inr hidden ↦ inr hidden.1 ])
still_alike (Write p v) n a b IsHidden is wide_a wide_b made alike =
    (refl, both_written p n v a b IsHidden (λ o. (o ≡ p) ⊎ IsHidden o) is.0 wide_a wide_b (written_later p IsHidden) alike)
still_alike (Update p v w) n a b IsHidden is wide_a wide_b made alike = (
  ap (λ (x : ℕ). Update p x w) (seen p a b (IsHidden p) (alike p)) ∙ made,
  both_written p n w a b IsHidden (λ o. (o ≢ p) × IsHidden o) is.0 wide_a wide_b (λ o apart hidden. hidden.1) alike,
)
still_alike (Marked mark) n a b IsHidden is wide_a wide_b made alike = (refl, alike)

fit_alike : (steps : List Step) (n m : ℕ) (a b : List ℕ) → AreSteps n m steps → length a ≡ n → length b ≡ n → AreAlike (IsUnseen steps) a b → Fit steps b → Fit steps a
fit_alike [] n m a b are wide_a wide_b alike fit = tt
fit_alike (step ∷ steps) n m a b are wide_a wide_b alike fit =
    let e = step.event in
    let r = still_alike e n a b (IsUnseen steps) are.1 wide_a wide_b fit.0 alike in
    (r.0, fit_alike steps n m (heap_after (operation_of e) a) (heap_after (operation_of e) b) are.2 (wide_after e a ∙ wide_a) (wide_after e b ∙ wide_b) r.1 fit.1)

pub fit_shown : (steps : List Step) (n m : ℕ) (values : List ℕ) → AreSteps n m steps → length values ≡ n → Fit steps values → Fit steps (shown_before steps (replicate n 0))
fit_shown steps n m values are wide fit =
    let none : List ℕ = replicate n 0 in
    fit_alike steps n m (shown_before steps none) values are (wide_before steps none ∙ length-replicate n 0) wide
    (all_alike steps n m none values are (length-replicate n 0) fit) fit

pub wide_all : (steps : List Step) (n : ℕ) → length (shown_before steps (replicate n 0)) ≡ n
wide_all steps n = wide_before steps (replicate n 0) ∙ length-replicate n 0
