-- The lowest thread that may step.
use Rattle.std.proofs.Common.{◌≡◌, ℕ, zero, suc, ◌+◌, ◌<◌, ◌≤◌, ◌⊎◌, ◌&&◌, inl, inr, Bool, true, false, List, [], ◌∷◌, length, Option, Some, None, IsTrue, IsFalse, refl, ap, ◌∙◌, arith}
use Rattle.std.proofs.lemmas.Bool.{cases_eq, cases_lt, le-ltb}
use Rattle.octet_model.specs.Machine.{PlainState, Behavior, next_of, may_proceed, may_step, IsFront}
use Rattle.octet_model.specs.Orders.{first_from, lowest}

first_found : (b : Bool) (number : ℕ) (later : Option ℕ) (found : ℕ) → ◌≡◌ {A = Option ℕ} (elim b [ true ↦ Some number | false ↦ later ]) (Some found) → ((b ≡ true) × (number ≡ found)) ⊎ ((b ≡ false) × (later ≡ Some found))
first_found true number later found is = inl (refl, cc)
first_found false number later found is = inr (refl, is)

first_missing : (b : Bool) (number : ℕ) (later : Option ℕ) → ◌≡◌ {A = Option ℕ} (elim b [ true ↦ Some number | false ↦ later ]) None → (b ≡ false) × (later ≡ None)
first_missing true number later is = absurd cc
first_missing false number later is = (refl, is)

-- the first that passes a test passes it
first_passes : (test : ℕ → Bool) (more number found : ℕ) → first_from test number more ≡ Some found → test found ≡ true
first_passes test zero number found is = absurd cc
first_passes test (suc more) number found is =
    elim (first_found (test number) number (first_from test (suc number) more) found is) [
      | inl here ↦ rw (← here.1) here.0
      | inr later ↦ first_passes test more (suc number) found later.1
    ]

-- where there is none, none passes
none_passes : (test : ℕ → Bool) (more number k : ℕ) → first_from test number more ≡ None → number ≤ k → k < number + more → test k ≡ false
none_passes test zero number k is from below = absurd (omega arith)
none_passes test (suc more) number k is from below =
    let parts = first_missing (test number) number (first_from test (suc number) more) is in
    elim (cases_eq number k) [
      | inl same ↦ rw (← same) parts.0
      | inr differ ↦ none_passes test more (suc number) k parts.1 (omega arith) (omega arith)
    ]

-- and none below the first
none_below : (test : ℕ → Bool) (more number found k : ℕ) → first_from test number more ≡ Some found → number ≤ k → k < found → test k ≡ false
none_below test zero number found k is from below = absurd cc
none_below test (suc more) number found k is from below =
    elim (first_found (test number) number (first_from test (suc number) more) found is) [
      | inl here ↦ absurd (omega (arith, here.1))
      | inr later ↦ elim (cases_eq number k) [
        | inl same ↦ rw (← same) later.0
        | inr differ ↦ none_below test more (suc number) found k later.1 (omega arith) below
      ]
    ]

-- two tests that say the same find the same
pub first_same : (f g : ℕ → Bool) (more number : ℕ) → ((k : ℕ) → f k ≡ g k) → first_from f number more ≡ first_from g number more
first_same f g zero number same = refl
first_same f g (suc more) number same =
    ap (λ (b : Bool). elim b [ true ↦ Some number | false ↦ first_from f (suc number) more ]) (same number)
    ∙ ap (λ (o : Option ℕ). elim (g number) [ true ↦ Some number | false ↦ o ]) (first_same f g more (suc number) same)

module _ (behavior : Behavior) where
  pub lowest_may : (s : PlainState) (t : ℕ) → lowest behavior s ≡ Some t → IsTrue (may_step behavior s t)
  lowest_may s t is = first_passes (may_step behavior s) (length s.journals) 0 t is

  pub none_lower : (s : PlainState) (t : ℕ) → lowest behavior s ≡ Some t → (lower : ℕ) → lower < t → IsFalse (may_step behavior s lower)
  none_lower s t is lower lt = none_below (may_step behavior s) (length s.journals) 0 t lower is (omega arith) lt

  pub none_at_all : (s : PlainState) → lowest behavior s ≡ None → (t : ℕ) → IsFalse (may_step behavior s t)
  none_at_all s is t =
      elim (cases_lt t (length s.journals)) [
        | inl lt ↦ none_passes (may_step behavior s) (length s.journals) 0 t is (omega arith) (omega arith)
        | inr past ↦ ap (λ (b : Bool). b && may_proceed s (next_of behavior s t)) (le-ltb t (length s.journals) past)
      ]

  -- where no thread may step, no front goes on
  pub none_may : (s : PlainState) (order : List ℕ) → lowest behavior s ≡ None → IsFront behavior s order → order ≡ []
  none_may s [] is front = refl
  none_may s (t ∷ order) is front = absurd (let none = none_at_all s is t in let may = front.0 in cc)
