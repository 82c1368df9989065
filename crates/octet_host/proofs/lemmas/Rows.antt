-- Lists with one more element.
use Rattle.std.proofs.Common.{◌≡◌, ℕ, zero, suc, set, ◌+◌, ◌<◌, List, [], ◌∷◌, ◌++◌, length, slice_index_or, subst, arith}

-- what holds of each element holds with one more
pub each_more : {X : Type 0} (P : ℕ → X → Type 0) (xs : List X) (x : X) → ((t : ℕ) (none : X) → t < length xs → P t (slice_index_or xs t none)) → P (length xs) x
    → (t : ℕ) (none : X) → t < length (xs ++ x ∷ []) → P t (slice_index_or (xs ++ x ∷ []) t none)
each_more P [] x each last zero none there = last
each_more P [] x each last (suc t) none there = absurd (omega (arith, there))
each_more P (y ∷ xs) x each last zero none there = each 0 none (omega arith)
each_more P (y ∷ xs) x each last (suc t) none there = each_more (λ n. P (suc n)) xs x (λ n other lt. each (suc n) other (omega (arith, lt))) last t none (omega (arith, there))

-- what holds of the items before a place holds of those up to it, once one of which it holds is there
pub set_more : {X : Type 0} (P : X → Type 0) (xs : List X) (i : ℕ) (x : X) → ((k : ℕ) (d : X) → k < i → k < length xs → P (slice_index_or xs k d)) → P x
    → (k : ℕ) (d : X) → k < suc i → k < length (set xs i x) → P (slice_index_or (set xs i x) k d)
set_more P [] i x before one k d lt there = absurd (omega (arith, there))
set_more P (y ∷ xs) zero x before one zero d lt there = one
set_more P (y ∷ xs) zero x before one (suc k) d lt there = absurd (omega (arith, lt))
set_more P (y ∷ xs) (suc i) x before one zero d lt there = before 0 d (omega arith) (omega arith)
set_more P (y ∷ xs) (suc i) x before one (suc k) d lt there =
    set_more P xs i x (λ j e l h. before (suc j) e (omega (arith, l)) (omega (arith, h))) one k d (omega (arith, lt)) (omega (arith, there))

module _ {X : Type 0} (P : ℕ → X → Type 0) (n : ℕ) {xs ys : List X} {x : X} (next : xs ≡ x ∷ ys) (each : (k : ℕ) (none : X) → k < length xs → P (n + k) (slice_index_or xs k none)) where
  -- what holds of each item from a number on holds of the first one
  pub first_of : P n x
  first_of = subst (λ m. P m x) (omega arith) (subst (λ zs. (k : ℕ) (none : X) → k < length zs → P (n + k) (slice_index_or zs k none)) next each 0 x (omega arith))

  -- and of the others, by the next numbers
  pub rest_of : (k : ℕ) (none : X) → k < length ys → P (n + suc k) (slice_index_or ys k none)
  rest_of k none lt = subst (λ zs. (j : ℕ) (other : X) → j < length zs → P (n + j) (slice_index_or zs j other)) next each (suc k) none (omega (arith, lt))
