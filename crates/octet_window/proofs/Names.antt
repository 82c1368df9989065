-- The names of objects by their numbers.
use Rattle.std.proofs.Common.{◌≡◌, ℕ, suc, ◌+◌, ◌%◌, ◌^◌, ◌<◌, ◌≤◌, Bool, true, false, ◌&&◌, ◌||◌, nat_le, List, [], ◌∷◌, length, codes, refl, sym, ◌∙◌, arith, subst}
use Rattle.std.specs.List.{list_all}
use Rattle.std.specs.Fmt.{decimal}
use Rattle.std.proofs.lemmas.Bool.{le-leb}
use Rattle.std.proofs.lemmas.Fmt.{decimal_injective, decimal_by_steps, length-decimal-le}
use Rattle.std.proofs.lemmas.List.{append_cancel_left}
use Rattle.std.proofs.lemmas.List.Folds.{list_all-append}
use Rattle.octet_model.specs.Name.{is_name_start, is_name_byte, IsName}
use Rattle.octet_window.specs.Windows.{name_of}

both : (a b : Bool) → a ≡ true → b ≡ true → (a && b) ≡ true
both true b p q = q
both false b p q = absurd (cc)

either : (a b : Bool) → b ≡ true → (a || b) ≡ true
either true b q = refl
either false b q = q

digit_is_name_byte : (d : ℕ) → d < 10 → is_name_byte (48 + d) ≡ true
digit_is_name_byte d lt = either (is_name_start (48 + d)) _ (both (nat_le 48 (48 + d)) (nat_le (48 + d) 57) (le-leb 48 (48 + d) (omega arith)) (le-leb (48 + d) 57 (omega arith)))

digits_are_name_bytes : (n : ℕ) → n < 2 ^ 64 → list_all is_name_byte (decimal n) ≡ true
digits_are_name_bytes n fits =
    decimal_by_steps (λ n ds. list_all is_name_byte ds ≡ true)
    (λ n lt. both (is_name_byte (48 + n)) true (digit_is_name_byte n lt) refl)
    (λ n ds le all. list_all-append is_name_byte ds ((48 + n % 10) ∷ []) ∙ both (list_all is_name_byte ds) _ all (both (is_name_byte (48 + n % 10)) true (digit_is_name_byte (n % 10) (omega arith)) refl))
    n fits

pub name_is_name : (object : ℕ) (text : List ℕ) → object < 65536 → text ≡ name_of object → IsName text
name_is_name object text lt is =
    let short : length (decimal object) ≤ 5 = length-decimal-le 5 object (omega arith) (omega arith) (omega arith) in
    subst IsName (sym is)
    (both (nat_le (suc (length (decimal object))) 32 && true) _ (both (nat_le (suc (length (decimal object))) 32) true (le-leb (suc (length (decimal object))) 32 (omega arith)) refl) (digits_are_name_bytes object (omega arith)))

pub names_differ : (first second : ℕ) → first < 65536 → second < 65536 → name_of first ≡ name_of second → first ≡ second
names_differ first second small too same = decimal_injective first second (omega arith) (omega arith) (append_cancel_left (codes "o") (decimal first) (decimal second) same)
