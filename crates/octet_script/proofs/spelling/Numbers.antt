-- What `parse` reads as a number of the language.
use Rattle.std.proofs.Common.{◌≡◌, ℕ, ◌^◌, ◌<◌, ◌≤◌, Bool, true, false, ◌&&◌, cond, List, [], ◌∷◌, length, Some, None, Result, Ok, Err, nat_le, nat_lt, refl, ap, sym, ◌∙◌, arith}
use Rattle.std.specs.List.{list_all}
use Rattle.std.specs.Char.{is_ascii_digit}
use Rattle.std.specs.Result.{result_ok, OkIff}
use Rattle.std.proofs.lemmas.Bool.{leb-true, le-leb, ltb-true, lt-ltb, false≢true}
use Rattle.std.specs.Str.{IsUtf8, all_ascii_digits}
use Rattle.std.specs.Str.Parse.{ParsesUnsigned, digits_value}
use Rattle.std.proofs.lemmas.Str.{IsUtf8-from_ascii}
use Rattle.std.proofs.lemmas.Fmt.{IsAscii-from_digits}
use Rattle.std.proofs.lemmas.Str.Parse.{IsNumeralModel, numerals_by_value, tells_all_ascii_digits, parse_digits}
use Rattle.octet_script.specs.Spelling.{number_of}

pub numerals : IsNumeralModel (λ ds. all_ascii_digits ds ≡ true) (digits_value 10)
numerals = numerals_by_value _ tells_all_ascii_digits

pub digits_all : (word : List ℕ) → list_all is_ascii_digit word ≡ all_ascii_digits word
digits_all [] = refl
digits_all (c ∷ cs) = ap (λ q. is_ascii_digit c && q) (digits_all cs)

unread : (a b c d : Bool) (v : ℕ) → (a ≡ true → b ≡ true → c ≡ true → d ≡ true → ⊥) → None ≡ cond (((a && b) && c) && d) (Some v) None
unread false b c d v never = refl
unread true false c d v never = refl
unread true true false d v never = refl
unread true true true false v never = refl
unread true true true true v never = absurd (never refl refl refl refl)

pub read : (a b c d : Bool) (v x : ℕ) → a ≡ true → b ≡ true → c ≡ true → d ≡ true → x ≡ v → Some x ≡ cond (((a && b) && c) && d) (Some v) None
read a b c d v x ea eb ec ed e = rw (ea, eb, ec, ed) (ap (λ n. Some n) e)

pub number_too_long : (word : List ℕ) → 20 < length word → number_of word ≡ None
number_too_long word long = sym (unread (nat_le 1 (length word)) (nat_le (length word) 20) (all_ascii_digits word) (nat_lt (digits_value 10 word) (2 ^ 64)) (digits_value 10 word) (λ a b c d. omega (arith, leb-true (length word) 20 b)))

pub number_without_digits : (word : List ℕ) → list_all is_ascii_digit word ≡ false → number_of word ≡ None
number_without_digits word bad = sym (unread (nat_le 1 (length word)) (nat_le (length word) 20) (all_ascii_digits word) (nat_lt (digits_value 10 word) (2 ^ 64)) (digits_value 10 word) (λ a b c d. false≢true (sym bad ∙ digits_all word ∙ c)))

number_parsed : {E : Type 0} (word : List ℕ) (r : Result ℕ E) → length word ≤ 20 → all_ascii_digits word ≡ true → OkIff r ((0 < length word) × (digits_value 10 word < 2 ^ 64)) (digits_value 10 word) → result_ok r ≡ number_of word
number_parsed word (Ok x) short digits (fits, is) = read (nat_le 1 (length word)) (nat_le (length word) 20) (all_ascii_digits word) (nat_lt (digits_value 10 word) (2 ^ 64)) (digits_value 10 word) x (le-leb 1 (length word) (omega (arith, fits.0))) (le-leb (length word) 20 short) digits (lt-ltb (digits_value 10 word) (2 ^ 64) fits.1) is
number_parsed word (Err e) short digits none = unread (nat_le 1 (length word)) (nat_le (length word) 20) (all_ascii_digits word) (nat_lt (digits_value 10 word) (2 ^ 64)) (digits_value 10 word) (λ a b c d. none (omega (arith, leb-true 1 (length word) a), ltb-true (digits_value 10 word) (2 ^ 64) d))

pub number_read : {E : Type 0} (word : List ℕ) (r : Result ℕ E) → length word ≤ 20 → list_all is_ascii_digit word ≡ true → ParsesUnsigned 64 10 word r → result_ok r ≡ number_of word
number_read word r short digits parsed =
    let all = sym (digits_all word) ∙ digits in
    number_parsed word r short all (parse_digits numerals 64 word r parsed all)

pub digits_are_utf8 : (word : List ℕ) → list_all is_ascii_digit word ≡ true → IsUtf8 word
digits_are_utf8 word digits = IsUtf8-from_ascii word (IsAscii-from_digits word (numerals.to word (sym (digits_all word) ∙ digits)))
