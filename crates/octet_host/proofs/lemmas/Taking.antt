-- Threads that are taken back one after the other.
use Rattle.std.proofs.Common.{◌≡◌, ◌∙◌, ℕ, suc, ◌+◌, ◌<◌, List, ◌∷◌, length, slice_index_or, Option, Some, None, sym, ap, subst, inl, inr, arith}
use Rattle.std.specs.Prelude.{Any, IfSome}
use Rattle.std.proofs.lemmas.Bool.{cases_eq}
use Rattle.octet_host.specs.HandedBack.{AreAsOne}

-- so many were taken back, each still and in its place, and these are left
pub record AreTaken {X : Type 0} (Still : X → Type 0) (Is : ℕ → ℕ → X → Type 0) (all : List X) (number : ℕ) (rest : List X) : Type 0 where
  pub count : number + length rest ≡ length all
  pub left : (k : ℕ) (d : X) → slice_index_or rest k d ≡ slice_index_or all (number + k) d
  pub placed : (k : ℕ) (d : X) → k < number → Is k (length all) (slice_index_or all k d)
  pub still : (k : ℕ) (d : X) → k < number → Still (slice_index_or all k d)

module _ {X : Type 0} (Still : X → Type 0) (Is : ℕ → ℕ → X → Type 0) (all : List X) (number : ℕ) (rest others : List X) (it : X) (next : rest ≡ it ∷ others) (taken : AreTaken Still Is all number rest) where
  -- the next one is that of its place
  pub next_is : (d : X) → slice_index_or all number d ≡ it
  next_is d = sym (ap (λ xs. slice_index_or xs 0 d) (sym next) ∙ (taken.left 0 d ∙ ap (λ n. slice_index_or all n d) (omega arith)))

  pub next_in : number < length all
  next_in = omega (arith, taken.count, ap length next)

  -- what holds of it holds of one of all
  pub any_of : (P : X → Type 0) → P it → Any P all
  any_of P is = (number, it, next_in, next_is it, is)

  -- what it shares is shared by one of all
  pub shared_by_one : {H : Type 0} (share : X → H) (last : Option H) → IfSome last (λ whole. share it ≡ whole) → IfSome last (λ whole. Any (λ x. share x ≡ whole) all)
  shared_by_one share None is = tt
  shared_by_one share (Some whole) is = any_of (λ x. share x ≡ whole) is

  -- it is taken back too
  pub one_more : Is number (length all) it → Still it → AreTaken Still Is all (suc number) others
  one_more is still = record {
    count = omega (arith, taken.count, ap length next);
    left = λ k d. ap (λ xs. slice_index_or xs (suc k) d) (sym next) ∙ (taken.left (suc k) d ∙ ap (λ n. slice_index_or all n d) (omega arith));
    placed = λ k d lt. elim (cases_eq k number) [
      | inl same ↦ subst (λ n. Is n (length all) (slice_index_or all n d)) (sym same) (subst (Is number (length all)) (sym (next_is d)) is)
      | inr apart ↦ taken.placed k d (omega (arith, lt, apart))
    ];
    still = λ k d lt. elim (cases_eq k number) [
      | inl same ↦ subst (λ n. Still (slice_index_or all n d)) (sym same) (subst Still (sym (next_is d)) still)
      | inr apart ↦ taken.still k d (omega (arith, lt, apart))
    ];
  }

  -- where it is not what its place asks for, not all are
  pub not_as_one : (Asked : ℕ → ℕ → X → Type 0) → (Asked number (length all) it → ⊥) → AreAsOne Asked all → ⊥
  not_as_one Asked other as_one = other (subst (Asked number (length all)) (next_is it) (as_one.each number it next_in))

-- what follows for each holds of some one
pub any_more : {X : Type 0} (P Q : X → Type 0) → ((x : X) → P x → Q x) → (xs : List X) → Any P xs → Any Q xs
any_more P Q more xs (k, x, lt, at, is) = (k, x, lt, at, more x is)
