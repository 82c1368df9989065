-- Lists whose members stand in a row of numbers.
use Rattle.std.proofs.Common.{◌≡◌, ℕ, zero, suc, ◌+◌, ◌<◌, ◌≤◌, List, [], ◌∷◌, ◌++◌, length, get_or, take, drop, sym, refl, ap, subst, arith, add-zero}
use Rattle.octet_seats.specs.Rows.{AreInRow}

moved_on : (t k : ℕ) → t + suc k ≡ (t + 1) + k
moved_on t k = omega arith

-- a member further on
pub row_more : {T : Type 0} (Holds : ℕ → T → Type 0) (t k : ℕ) (xs : List T) (x : T) → AreInRow Holds t xs → t + length xs ≡ k → Holds k x → AreInRow Holds t (xs ++ x ∷ [])
row_more {T} Holds t k [] x row is new = let n : t ≡ k = omega arith in (subst (λ (z : ℕ). Holds z x) (sym n) new, tt)
row_more {T} Holds t k (y ∷ ys) x row is new = (row.0, row_more Holds (t + 1) k ys x row.1 (omega arith) new)

pub row_at : {T : Type 0} (Holds : ℕ → T → Type 0) (t : ℕ) (xs : List T) → AreInRow Holds t xs → (k : ℕ) (none : T) → k < length xs → Holds (t + k) (get_or xs k none)
row_at {T} Holds t [] row k none h = absurd (omega arith)
row_at {T} Holds t (x ∷ xs) row zero none h = subst (λ (n : ℕ). Holds n x) (sym (add-zero t)) row.0
row_at {T} Holds t (x ∷ xs) row (suc k) none h = subst (λ (n : ℕ). Holds n (get_or xs k none)) (sym (moved_on t k)) (row_at Holds (t + 1) xs row.1 k none (omega arith))

pub row_from : {T : Type 0} (Holds : ℕ → T → Type 0) (t : ℕ) (xs : List T) → ((k : ℕ) (none : T) → k < length xs → Holds (t + k) (get_or xs k none)) → AreInRow Holds t xs
row_from {T} Holds t [] each = tt
row_from {T} Holds t (x ∷ xs) each = (
  subst (λ (n : ℕ). Holds n x) (add-zero t) (each 0 x (omega arith)),
  row_from Holds (t + 1) xs (λ k none h. subst (λ (n : ℕ). Holds n (get_or xs k none)) (moved_on t k) (each (suc k) none (omega arith))),
)

-- members by their numbers
pub each_of : {T : Type 0} (Holds : ℕ → T → Type 0) (xs : List T) → AreInRow Holds 0 xs → (k : ℕ) (none : T) → k < length xs → Holds k (get_or xs k none)
each_of {T} Holds xs row k none h = let e : 0 + k ≡ k = omega arith in subst (λ (n : ℕ). Holds n (get_or xs k none)) e (row_at Holds 0 xs row k none h)

pub row_of : {T : Type 0} (Holds : ℕ → T → Type 0) (xs : List T) → ((k : ℕ) (none : T) → k < length xs → Holds k (get_or xs k none)) → AreInRow Holds 0 xs
row_of {T} Holds xs each = row_from Holds 0 xs (λ k none h. let e : k ≡ 0 + k = omega arith in subst (λ (n : ℕ). Holds n (get_or xs k none)) e (each k none h))

-- another fact of each member
pub row_so : {T : Type 0} (Holds Then : ℕ → T → Type 0) (t : ℕ) (xs : List T) → ((k : ℕ) (x : T) → t ≤ k → Holds k x → Then k x) → AreInRow Holds t xs → AreInRow Then t xs
row_so {T} Holds Then t [] so row = tt
row_so {T} Holds Then t (x ∷ xs) so row = (so t x (omega arith) row.0, row_so Holds Then (t + 1) xs (λ k y h. so k y (omega arith)) row.1)

-- a list without its first member
pub first_rest : {T : Type 0} (xs ss : List T) (s : T) → 0 < length xs → s ≡ get_or xs 0 s → ss ≡ take 0 xs ++ drop 1 xs → xs ≡ s ∷ ss
first_rest {T} [] ss s h e is = absurd (omega arith)
first_rest {T} (x ∷ xs) ss s h e is = λ i. sym e i ∷ sym is i

-- two lists with the same members
pub same_members : {T : Type 0} (none : T) (xs ys : List T) → length xs ≡ length ys → ((t : ℕ) → t < length xs → get_or xs t none ≡ get_or ys t none) → xs ≡ ys
same_members {T} none [] [] e h = refl
same_members {T} none [] (y ∷ ys) e h = absurd (omega arith)
same_members {T} none (x ∷ xs) [] e h = absurd (omega arith)
same_members {T} none (x ∷ xs) (y ∷ ys) e h = let first = h 0 (omega arith) in let rest = same_members none xs ys (omega arith) (λ t l. h (suc t) (omega arith)) in λ i. first i ∷ rest i

-- the first members of a list
pub take_more : (xs : List ℕ) (i : ℕ) → i < length xs → take i xs ++ get_or xs i 0 ∷ [] ≡ take (suc i) xs
take_more [] i h = absurd (omega arith)
take_more (x ∷ xs) zero h = refl
take_more (x ∷ xs) (suc i) h = ap (λ l. x ∷ l) (take_more xs i (omega arith))

pub take_whole : {T : Type 0} (xs : List T) → take (length xs) xs ≡ xs
take_whole {T} [] = refl
take_whole {T} (x ∷ xs) = ap (λ l. x ∷ l) (take_whole xs)
