-- The names of the generated objects are names, and they differ.
use Rattle.std.proofs.Common.{◌≡◌, ℕ, suc, ◌+◌, ◌%◌, ◌^◌, ◌<◌, ◌≤◌, Bool, true, false, ◌&&◌, ◌||◌, nat_le, List, [], ◌∷◌, ◌++◌, map, length, codes, refl, sym, ap, ◌∙◌, arith, subst}
use Rattle.std.specs.List.{range_with_len, list_all}
use Rattle.std.specs.Fmt.{decimal}
use Rattle.std.proofs.lemmas.Bool.{le-leb}
use Rattle.std.proofs.lemmas.Fmt.{decimal_injective, decimal_by_steps, length-decimal-le}
use Rattle.std.proofs.lemmas.List.{append_cancel_left, map-append, map-id}
use Rattle.std.proofs.lemmas.List.Folds.{list_all-append}
use Rattle.std.proofs.lemmas.List.FromFn.{map-range_with_len_more, get_or-map-range_with_len, length-map-range_with_len}
use Rattle.octet_model.specs.Name.{is_name_start, is_name_byte, IsName}
use Rattle.octet_model.specs.Validity.{AreDistinct}
use Rattle.octet_gen.specs.Generated.{generated_name, generated_names, first_numbers}

both : (a b : Bool) → a ≡ true → b ≡ true → (a && b) ≡ true
both true b p q = q
both false b p q = absurd (cc)

either : (a b : Bool) → b ≡ true → (a || b) ≡ true
either true b q = refl
either false b q = q

digit_is_name_byte : (d : ℕ) → d < 10 → is_name_byte (48 + d) ≡ true
digit_is_name_byte d lt = either (is_name_start (48 + d)) _ (both (nat_le 48 (48 + d)) (nat_le (48 + d) 57) (le-leb 48 (48 + d) (omega arith)) (le-leb (48 + d) 57 (omega arith)))

digits_are_name_bytes : (n : ℕ) → n < 2 ^ 64 → list_all is_name_byte (decimal n) ≡ true
digits_are_name_bytes n fits =
    decimal_by_steps (λ n ds. list_all is_name_byte ds ≡ true)
    (λ n lt. both (is_name_byte (48 + n)) true (digit_is_name_byte n lt) refl)
    (λ n ds le all. list_all-append is_name_byte ds ((48 + n % 10) ∷ []) ∙ both (list_all is_name_byte ds) _ all (both (is_name_byte (48 + n % 10)) true (digit_is_name_byte (n % 10) (omega arith)) refl))
    n fits

pub name_is_name : (place : ℕ) (text : List ℕ) → place < 64 → text ≡ generated_name place → IsName text
name_is_name place text lt is =
    let short : length (decimal place) ≤ 2 = length-decimal-le 2 place (omega arith) (omega arith) (omega arith) in
    subst IsName (sym is)
    (both (nat_le (suc (length (decimal place))) 32 && true) _ (both (nat_le (suc (length (decimal place))) 32) true (le-leb (suc (length (decimal place))) 32 (omega arith)) refl) (digits_are_name_bytes place (omega arith)))

pub no_names : [] ≡ generated_names 0
unfolding generated_names
no_names = refl

pub no_numbers : [] ≡ first_numbers 0
unfolding first_numbers
no_numbers = refl

pub names_more : (count : ℕ) → generated_names count ++ generated_name count ∷ [] ≡ generated_names (count + 1)
unfolding generated_names
names_more count = sym (map-range_with_len_more generated_name 0 count count (omega arith))

pub numbers_more : (count : ℕ) → first_numbers count ++ count ∷ [] ≡ first_numbers (count + 1)
unfolding first_numbers
numbers_more count =
    ap (λ ns. ns ++ count ∷ []) (sym (map-id (range_with_len 0 count)))
    ∙ sym (map-range_with_len_more (λ (n : ℕ). n) 0 count count (omega arith)) ∙ map-id (range_with_len 0 (count + 1))

-- what a map gives where one more item is pushed
pub map_pushed : {X Y : Type 0} (f : X → Y) (xs pushed : List X) (x : X) (ys more : List Y) (y : Y) → map f xs ≡ ys → pushed ≡ xs ++ x ∷ [] → f x ≡ y → ys ++ y ∷ [] ≡ more → map f pushed ≡ more
map_pushed f xs pushed x ys more y were is gives all =
    ap (map f) is ∙ map-append f xs (x ∷ []) ∙ ap (λ v. map f xs ++ v ∷ []) gives ∙ ap (λ vs. vs ++ y ∷ []) were ∙ all

pub length-names : (count : ℕ) → length (generated_names count) ≡ count
unfolding generated_names
length-names count = length-map-range_with_len generated_name 0 count

pub names_differ : (count : ℕ) → count < 2 ^ 64 → AreDistinct (generated_names count)
unfolding generated_names
names_differ count fits first second lt below =
    let within : second < count = omega (arith, length-map-range_with_len generated_name 0 count) in
    λ same. let equal : first ≡ second = decimal_injective first second (omega arith) (omega arith) (append_cancel_left (codes "o") (decimal first) (decimal second)
    (sym (get_or-map-range_with_len generated_name 0 count first first [] (omega arith) (omega arith)) ∙ same ∙ get_or-map-range_with_len generated_name 0 count second second [] within (omega arith))) in
    omega arith
