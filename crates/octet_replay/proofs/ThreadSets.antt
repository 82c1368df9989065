-- One thread more in a set, or one fewer.
use Rattle.std.proofs.Common.{◌≡◌, ◌≢◌, ℕ, ◌*◌, ◌%◌, ◌^◌, ◌<◌, inl, inr, true, eqb, sym, ap, ◌∙◌, arith}
use Rattle.std.proofs.lemmas.Bool.{cases_eq, cases_lt, eqb-true}
use Rattle.std.proofs.lemmas.Nat.{and_le_l}
use Rattle.std.proofs.lemmas.Nat.Bits.{bit_at_clear_same, bit_at_clear_other, bit_at_above}
use Rattle.std.specs.Int.{bit_at, bit_not, w16}
use Rattle.std.specs.Int.Bits.{bit_and}
use mir.Val.{bits}

-- the set without the thread
abbrev pub cleared : ℕ → ℕ → ℕ
cleared n k = bit_and n (bit_not w16 (1 * 2 ^ k % 2 ^ bits w16))

pub cleared_other : (n k other : ℕ) → n < 2 ^ 16 → k < 16 → other ≢ k → bit_at (cleared n k) other ≡ bit_at n other
cleared_other n k other small within differ =
    elim (cases_lt other 16) [
      | inl lt ↦ bit_at_clear_other w16 n k within other lt differ
      | inr past ↦
          bit_at_above (cleared n k) 16 other (omega (arith, and_le_l n (bit_not w16 (1 * 2 ^ k % 2 ^ bits w16)))) past
          ∙ sym (bit_at_above n 16 other small past)
    ]

pub cleared_less : (n k : ℕ) → k < 16 → eqb (bit_at n k) 1 ≡ true → cleared n k < n
cleared_less n k within there =
    elim (cases_eq (cleared n k) n) [
      | inl same ↦
          let none : bit_at (cleared n k) k ≡ 0 = bit_at_clear_same w16 n k within in
          let one : bit_at n k ≡ 1 = eqb-true (bit_at n k) 1 there in
          absurd (omega (arith, none, one, ap (λ (m : ℕ). bit_at m k) same))
      | inr differ ↦ omega (arith, and_le_l n (bit_not w16 (1 * 2 ^ k % 2 ^ bits w16)))
    ]
