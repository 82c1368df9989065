-- What holds of each element of lists that grow together.
use Rattle.std.proofs.Common.{◌≡◌, ℕ, zero, suc, ◌+◌, ◌<◌, List, [], ◌∷◌, ◌++◌, length, slice_index_or, arith, subst}

-- each element has its property, by a number that begins here
abbrev pub AreFrom : {X : Type 0} → (ℕ → X → Type 0) → ℕ → List X → Type 0
AreFrom P first [] = Unit {0}
AreFrom P first (x ∷ xs) = P first x × AreFrom P (first + 1) xs

pub from_each : {X : Type 0} (P : ℕ → X → Type 0) (first : ℕ) (xs : List X) → ((place : ℕ) (none : X) → place < length xs → P (first + place) (slice_index_or xs place none)) → AreFrom P first xs
from_each P first [] each = tt
from_each {X = X} P first (x ∷ xs) each = (
  subst (λ (n : ℕ). P n x) (omega arith) (each 0 x (omega arith)),
  from_each P (first + 1) xs (λ place none there. let same : first + suc place ≡ (first + 1) + place = omega arith in
      subst (λ (n : ℕ). P n (slice_index_or xs place none)) same (each (suc place) none (omega (arith, there)))),
)

-- what holds of each pair holds with one more
pub each_pair_more : {X Y : Type 0} (P : ℕ → X → Y → Type 0) (xs : List X) (ys : List Y) (x : X) (y : Y) → length ys ≡ length xs
    → ((t : ℕ) (none : X) (nobody : Y) → t < length xs → P t (slice_index_or xs t none) (slice_index_or ys t nobody)) → P (length xs) x y
    → (t : ℕ) (none : X) (nobody : Y) → t < length (xs ++ x ∷ []) → P t (slice_index_or (xs ++ x ∷ []) t none) (slice_index_or (ys ++ y ∷ []) t nobody)
each_pair_more P [] [] x y many each last zero none nobody there = last
each_pair_more P [] [] x y many each last (suc t) none nobody there = absurd (omega (arith, there))
each_pair_more P [] (b ∷ ys) x y many each last t none nobody there = absurd (omega (arith, many))
each_pair_more P (a ∷ xs) [] x y many each last t none nobody there = absurd (omega (arith, many))
each_pair_more P (a ∷ xs) (b ∷ ys) x y many each last zero none nobody there = each 0 none nobody (omega arith)
each_pair_more P (a ∷ xs) (b ∷ ys) x y many each last (suc t) none nobody there =
    each_pair_more (λ n. P (suc n)) xs ys x y (omega (arith, many)) (λ n other nobody lt. each (suc n) other nobody (omega (arith, lt))) last t none nobody (omega (arith, there))
