-- A status with the bit of a thread put into it: what it answers that thread, and the others.
use Rattle.std.proofs.Common.{◌≡◌, ◌≢◌, ℕ, suc, ◌+◌, ◌-◌, ◌*◌, ◌/◌, ◌%◌, ◌^◌, ◌<◌, inl, inr, Bool, true, false, ◌||◌, sym, ap, ◌∙◌, subst, arith}
use Rattle.std.specs.Prelude.{◌==◌, not, bit_or}
use Rattle.std.specs.Int.Bits.{or_zero_r}
use Rattle.std.proofs.lemmas.Bool.{cases_eq, cases_order}
use Rattle.std.proofs.lemmas.Nat.{or_shr, or_mod, or_lt, pow-add, pow_below, shl-shr, shr_below, mod_below}
use Rattle.octet_state.specs.declared.status_word.StatusWord.{StatusWord}
use Rattle.octet_state.specs.Steps.{asked_by}
use Rattle.octet_state.specs.Asking.{has_bit, answers}

-- one bit of two numbers
bit_of_or : (a b v : ℕ) → bit_or a b / 2 ^ v % 2 ≡ bit_or (a / 2 ^ v % 2) (b / 2 ^ v % 2)
bit_of_or a b v = ap (λ (n : ℕ). n % 2) (or_shr a b v) ∙ or_mod (a / 2 ^ v) (b / 2 ^ v) 1

own_bit : (t : ℕ) → 2 ^ t / 2 ^ t % 2 ≡ 1
own_bit t = let one : 1 * 2 ^ t ≡ 2 ^ t = omega arith in ap (λ (n : ℕ). n / 2 ^ t % 2) (sym one) ∙ ap (λ (n : ℕ). n % 2) (shl-shr 1 t)

other_bit : (t v : ℕ) → v ≢ t → 2 ^ t / 2 ^ v % 2 ≡ 0
other_bit t v differ = elim (cases_order v t) [
  | inl same ↦ absurd (differ same)
  | inr (inl less) ↦
      let k = t - v - 1 in
      let up : suc k + v ≡ t = omega arith in
      let split : 2 ^ t ≡ 2 ^ suc k * 2 ^ v = ap (λ (n : ℕ). 2 ^ n) (sym up) ∙ pow-add 2 (suc k) v in
      ap (λ (n : ℕ). n / 2 ^ v % 2) split ∙ (ap (λ (n : ℕ). n % 2) (shl-shr (2 ^ suc k) v) ∙ even k)
  | inr (inr more) ↦ let none : 2 ^ t / 2 ^ v < 1 = shr_below (2 ^ t) 0 v (subst (λ (n : ℕ). 2 ^ t < 2 ^ n) (let z : v ≡ 0 + v = omega arith in z) (pow_below t v more)) in
      let zero : 2 ^ t / 2 ^ v ≡ 0 = omega arith in ap (λ (n : ℕ). n % 2) zero
]
  where
    even : (k : ℕ) → 2 ^ suc k % 2 ≡ 0
    even k = let twice = pow-add 2 k 1 in let e : 2 ^ suc k ≡ 2 ^ k * 2 = ap (λ (n : ℕ). 2 ^ n) (let z : suc k ≡ k + 1 = omega arith in z) ∙ twice in omega arith

or_one : (x : ℕ) → x < 2 → bit_or x 1 ≡ 1
or_one x h = elim (cases_eq x 0) [
  | inl none ↦ ap (λ (n : ℕ). bit_or n 1) none
  | inr some ↦ let one : x ≡ 1 = omega arith in ap (λ (n : ℕ). bit_or n 1) one
]

pub has_own_bit : (t : ℕ) (w : StatusWord) → has_bit (asked_by t w) t ≡ true
has_own_bit t w = ap (λ (n : ℕ). n == 1) (bit_of_or w.asked (2 ^ t) t ∙ (ap (bit_or (w.asked / 2 ^ t % 2)) (own_bit t) ∙ or_one (w.asked / 2 ^ t % 2) (mod_below (w.asked / 2 ^ t) 2 (omega arith))))

pub has_other_bit : (t v : ℕ) (w : StatusWord) → v ≢ t → has_bit (asked_by t w) v ≡ has_bit w v
has_other_bit t v w differ = ap (λ (n : ℕ). n == 1) (bit_of_or w.asked (2 ^ t) v ∙ (ap (bit_or (w.asked / 2 ^ v % 2)) (other_bit t v differ) ∙ or_zero_r (w.asked / 2 ^ v % 2)))

-- a running thread that was just asked does not answer yet
pub asked_waits : (t : ℕ) (w : StatusWord) → w.blocked ≡ false → answers (asked_by t w) t ≡ false
asked_waits t w runs = λ i. runs i || not (has_own_bit t w i)

-- and what it answers the others has not changed
pub answers_others : (t v : ℕ) (w : StatusWord) → v ≢ t → answers (asked_by t w) v ≡ answers w v
answers_others t v w differ = ap (λ (b : Bool). w.blocked || not b) (has_other_bit t v w differ)

pub bits_fit : (t : ℕ) (w : StatusWord) → t < 16 → w.asked < 2 ^ 16 → (asked_by t w).asked < 2 ^ 16
bits_fit t w h k = or_lt 16 w.asked (2 ^ t) k (pow_below t 16 h)
