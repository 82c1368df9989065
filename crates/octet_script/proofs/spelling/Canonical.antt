-- The canonical text of a script spells it.
use Rattle.std.proofs.Common.{◌≡◌, ℕ, zero, suc, ◌+◌, ◌^◌, ◌<◌, ◌≤◌, ◌==◌, ◌&&◌, ◌||◌, ◌⊎◌, Bool, true, false, not, List, [], ◌∷◌, ◌++◌, map, length, take, get_or, Some, refl, ap, sym, ◌∙◌, subst, arith, append_assoc, inl, inr, ⊎_elim, take_all}
use Rattle.std.specs.Prelude.{codes, nat_lt, nat_le, IsTrue}
use Rattle.std.specs.List.{AllZip, flat_map, filter, list_all, list_any, slice_split, before_first, position_or_len}
use Rattle.std.specs.Fmt.{decimal, digits}
use Rattle.std.specs.Str.{bytes_eq, all_ascii_digits}
use Rattle.std.specs.Str.Parse.{AllDigits, digits_value}
use Rattle.std.proofs.lemmas.Bool.{false≢true, leb-true, le-leb, eqb-true, lt-ltb, ltb-true, ne_eqb, not-true}
use Rattle.std.proofs.lemmas.List.{length-map}
use Rattle.std.proofs.lemmas.List.Folds.{list_all-append, list_all-map}
use Rattle.std.proofs.lemmas.Str.{IsUtf8-from_ascii}
use Rattle.std.proofs.lemmas.Str.Parse.{digit_from_value}
use Rattle.std.proofs.lemmas.Fmt.{decimal_is_IsNumeral, digits_decimal, digits_value-decimal, length-decimal-le}
use Rattle.octet_model.specs.declared.command.Command.{Command}
use Rattle.octet_model.specs.declared.command.Command.TheVariants as command
use Rattle.octet_model.specs.declared.object.Object.{Object}
use Rattle.octet_model.specs.declared.script.Script.{Script}
use Rattle.octet_model.specs.Name.{is_name, is_name_start, is_name_byte}
use Rattle.octet_model.specs.Script.{is_command, is_thread, are_distinct}
use Rattle.octet_script.specs.Words.{lines, is_line_end, is_comment_start, is_blank, is_filled, words, words_of_line, lines_with_words}
use Rattle.octet_script.specs.Spelling.{Part, Word, Number, Register, Known, New, IsPart, FuelHead, ObjectHead, head_form, command_form, thread_forms, fuels, declared, Declaration, declaration, object_names, contents, AreForms, Spells, number_of, register_of, object_named, register_word, object_word, canonical_word, canonical_words, canonical_line, canonical_forms, canonical_text}
use Rattle.octet_script.proofs.spelling.Cut.{filled}
use Rattle.octet_script.proofs.spelling.Numbers.{numerals, read}
use Rattle.octet_script.proofs.judging.Steps.{apart, bytes_same, both_true, either_false}
use Rattle.octet_script.proofs.spelling.Spelled.{script_says, script_threads}

-- digits, letters and _ are between these
abbrev within : ℕ → Bool
within b = nat_le 48 b && nat_le b 122

within_from : (b : ℕ) → 48 ≤ b → b ≤ 122 → within b ≡ true
within_from b low high = rw (le-leb 48 b low, le-leb b 122 high) refl

within_bounds : (b : ℕ) → within b ≡ true → (48 ≤ b) × (b ≤ 122)
within_bounds b is =
    let both = both_true (nat_le 48 b) (nat_le b 122) is in
    (leb-true 48 b both.0, leb-true b 122 both.1)

weaker : (p q : ℕ → Bool) → ((b : ℕ) → p b ≡ true → q b ≡ true) → (bs : List ℕ) → list_all p bs ≡ true → list_all q bs ≡ true
weaker p q implies [] all = refl
weaker p q implies (b ∷ bs) all =
    let both = both_true (p b) (list_all p bs) all in
    rw (implies b both.0, weaker p q implies bs both.1) refl

-- a word: at least one byte, and digits, letters and _ alone
record IsClean (word : List ℕ) : Type 0 where
  filled : is_filled word ≡ true
  bytes : list_all within word ≡ true

digits_within : (word : List ℕ) → AllDigits 10 word → list_all within word ≡ true
digits_within [] all = refl
digits_within (c ∷ cs) all =
    let digit = digit_from_value c all.0 in
    rw (within_from c (omega (arith, digit.0)) (omega (arith, digit.1)), digits_within cs all.1) refl

decimal_clean : (n : ℕ) → n < 2 ^ 64 → IsClean (decimal n)
decimal_clean n small =
    let numeral = (decimal_is_IsNumeral n small).0 in
    record { filled = filled (decimal n) numeral.0; bytes = digits_within (decimal n) numeral.1 }

either_true : (a b : Bool) → (a || b) ≡ true → (a ≡ true) ⊎ (b ≡ true)
either_true true b is = inl refl
either_true false b is = inr is

start_within : (c : ℕ) → is_name_start c ≡ true → within c ≡ true
start_within c is =
    ⊎_elim
    (λ letter. ⊎_elim
    (λ upper. let both = both_true (nat_le 65 c) (nat_le c 90) upper in within_from c (omega (arith, leb-true 65 c both.0)) (omega (arith, leb-true c 90 both.1)))
    (λ lower. let both = both_true (nat_le 97 c) (nat_le c 122) lower in within_from c (omega (arith, leb-true 97 c both.0)) (omega (arith, leb-true c 122 both.1)))
    (either_true (nat_le 65 c && nat_le c 90) (nat_le 97 c && nat_le c 122) letter))
    (λ line. within_from c (omega (arith, eqb-true c 95 line)) (omega (arith, eqb-true c 95 line)))
    (either_true ((nat_le 65 c && nat_le c 90) || (nat_le 97 c && nat_le c 122)) (c == 95) is)

byte_within : (c : ℕ) → is_name_byte c ≡ true → within c ≡ true
byte_within c is =
    ⊎_elim
    (λ letter. start_within c letter)
    (λ digit. let both = both_true (nat_le 48 c) (nat_le c 57) digit in within_from c (leb-true 48 c both.0) (omega (arith, leb-true c 57 both.1)))
    (either_true (is_name_start c) (nat_le 48 c && nat_le c 57) is)

name_clean : (name : List ℕ) → is_name name ≡ true → IsClean name
name_clean [] is = absurd (false≢true is)
name_clean (c ∷ cs) is =
    let parts = both_true (nat_le (length (c ∷ cs)) 32 && is_name_start c) (list_all is_name_byte cs) is in
    let front = both_true (nat_le (length (c ∷ cs)) 32) (is_name_start c) parts.0 in
    record { filled = refl; bytes = rw (start_within c front.1, weaker is_name_byte within byte_within cs parts.1) refl }

register_clean : (r : ℕ) → r < 16 → IsClean (register_word r)
register_clean r small =
    let number = decimal_clean r (omega arith) in
    record { filled = refl; bytes = rw (within_from 114 (omega arith) (omega arith)) number.bytes }

-- a number's canonical word is a number of that value
number_again : (n : ℕ) → n < 2 ^ 64 → number_of (decimal n) ≡ Some n
number_again n small =
    let word = decimal n in
    let long = (decimal_is_IsNumeral n small).0.0 in
    let short = length-decimal-le 20 n (omega arith) (omega arith) small in
    let value = digits_value-decimal numerals n small in
    sym (read (nat_le 1 (length word)) (nat_le (length word) 20) (all_ascii_digits word) (nat_lt (digits_value 10 word) (2 ^ 64)) (digits_value 10 word) n
    (le-leb 1 (length word) (omega (arith, long)))
    (le-leb (length word) 20 short)
    (digits_decimal numerals n small)
    (lt-ltb (digits_value 10 word) (2 ^ 64) (omega (arith, value, small)))
    (sym value))

-- a claim on each number below 16
below_16 : (P : ℕ → Type 0) → P 0 → P 1 → P 2 → P 3 → P 4 → P 5 → P 6 → P 7 → P 8 → P 9 → P 10 → P 11 → P 12 → P 13 → P 14 → P 15 → (n : ℕ) → n < 16 → P n
below_16 P a b c d e f g h i j k l m o p q zero small = a
below_16 P a b c d e f g h i j k l m o p q (suc zero) small = b
below_16 P a b c d e f g h i j k l m o p q (suc (suc zero)) small = c
below_16 P a b c d e f g h i j k l m o p q (suc (suc (suc zero))) small = d
below_16 P a b c d e f g h i j k l m o p q (suc (suc (suc (suc zero)))) small = e
below_16 P a b c d e f g h i j k l m o p q (suc (suc (suc (suc (suc zero))))) small = f
below_16 P a b c d e f g h i j k l m o p q (suc (suc (suc (suc (suc (suc zero)))))) small = g
below_16 P a b c d e f g h i j k l m o p q (suc (suc (suc (suc (suc (suc (suc zero))))))) small = h
below_16 P a b c d e f g h i j k l m o p q (suc (suc (suc (suc (suc (suc (suc (suc zero)))))))) small = i
below_16 P a b c d e f g h i j k l m o p q (suc (suc (suc (suc (suc (suc (suc (suc (suc zero))))))))) small = j
below_16 P a b c d e f g h i j k l m o p q (suc (suc (suc (suc (suc (suc (suc (suc (suc (suc zero)))))))))) small = k
below_16 P a b c d e f g h i j k l m o p q (suc (suc (suc (suc (suc (suc (suc (suc (suc (suc (suc zero))))))))))) small = l
below_16 P a b c d e f g h i j k l m o p q (suc (suc (suc (suc (suc (suc (suc (suc (suc (suc (suc (suc zero)))))))))))) small = m
below_16 P a b c d e f g h i j k l m o p q (suc (suc (suc (suc (suc (suc (suc (suc (suc (suc (suc (suc (suc zero))))))))))))) small = o
below_16 P a b c d e f g h i j k l m o p q (suc (suc (suc (suc (suc (suc (suc (suc (suc (suc (suc (suc (suc (suc zero)))))))))))))) small = p
below_16 P a b c d e f g h i j k l m o p q (suc (suc (suc (suc (suc (suc (suc (suc (suc (suc (suc (suc (suc (suc (suc zero))))))))))))))) small = q
below_16 P a b c d e f g h i j k l m o p q (suc (suc (suc (suc (suc (suc (suc (suc (suc (suc (suc (suc (suc (suc (suc (suc n)))))))))))))))) small = absurd (omega arith)

register_again : (r : ℕ) → r < 16 → register_of (register_word r) ≡ Some r
unfolding digits
register_again r small = below_16 (λ n. register_of (register_word n) ≡ Some n) refl refl refl refl refl refl refl refl refl refl refl refl refl refl refl refl r small

any_at : (test : List ℕ → Bool) (names : List (List ℕ)) (o : ℕ) → o < length names → list_any test names ≡ false → test (get_or names o []) ≡ false
any_at test [] o here none = absurd (omega arith)
any_at test (n ∷ names) zero here none = (either_false (test n) (list_any test names) none).0
any_at test (n ∷ names) (suc o) here none = any_at test names o (omega arith) (either_false (test n) (list_any test names) none).1

place_of_name : (names : List (List ℕ)) (o : ℕ) → o < length names → are_distinct names ≡ true → position_or_len (bytes_eq (get_or names o [])) names ≡ o
place_of_name [] o here distinct = absurd (omega arith)
place_of_name (n ∷ names) zero here distinct = rw (bytes_same n n refl) refl
place_of_name (n ∷ names) (suc o) here distinct =
    let parts = both_true (not (list_any (bytes_eq n) names)) (are_distinct names) distinct in
    let differ = any_at (bytes_eq n) names o (omega arith) (not-true (list_any (bytes_eq n) names) parts.0) in
    let other = apart n (get_or names o []) (bytes_eq (get_or names o []) n) refl differ in
    rw other (omega (arith, place_of_name names o (omega arith) parts.1))

object_again : (names : List (List ℕ)) (o : ℕ) → o < length names → are_distinct names ≡ true → object_named names (object_word names o) ≡ Some o
object_again names o here distinct =
    let place = place_of_name names o here distinct in
    let found = lt-ltb o (length names) here in
    rw (place, found) refl

name_at : (names : List (List ℕ)) (o : ℕ) → o < length names → list_all is_name names ≡ true → is_name (get_or names o []) ≡ true
name_at [] o here all = absurd (omega arith)
name_at (n ∷ names) zero here all = (both_true (is_name n) (list_all is_name names) all).0
name_at (n ∷ names) (suc o) here all = name_at names o (omega arith) (both_true (is_name n) (list_all is_name names) all).1

-- the canonical word of a part is clean, and is written for it
record IsGoodPart (names : List (List ℕ)) (part : Part) : Type 0 where
  clean : IsClean (canonical_word names part)
  written : IsPart names part (canonical_word names part)

abbrev AreGoodParts : List (List ℕ) → List Part → Type 0
AreGoodParts names [] = Unit {0}
AreGoodParts names (part ∷ form) = IsGoodPart names part × AreGoodParts names form

abbrev AreGoodForms : List (List ℕ) → List (List Part) → Type 0
AreGoodForms names [] = Unit {0}
AreGoodForms names (form ∷ forms) = (is_filled form ≡ true) × (AreGoodParts names form × AreGoodForms names forms)

good_word : (names : List (List ℕ)) (word : List ℕ) → is_filled word ≡ true → list_all within word ≡ true → IsGoodPart names (Word word)
good_word names word filled bytes = record { clean = record { filled = filled; bytes = bytes }; written = refl }

good_number : (names : List (List ℕ)) (n : ℕ) → nat_lt n (2 ^ 64) ≡ true → IsGoodPart names (Number n)
good_number names n is =
    let small = ltb-true n (2 ^ 64) is in
    record { clean = decimal_clean n small; written = number_again n small }

good_register : (names : List (List ℕ)) (r : ℕ) → nat_lt r 16 ≡ true → IsGoodPart names (Register r)
good_register names r is =
    let small = ltb-true r 16 is in
    record { clean = register_clean r small; written = register_again r small }

-- names of objects that differ
record AreNames (names : List (List ℕ)) : Type 0 where
  distinct : are_distinct names ≡ true
  formed : list_all is_name names ≡ true

good_object : (names : List (List ℕ)) (o : ℕ) → AreNames names → nat_lt o (length names) ≡ true → IsGoodPart names (Known o)
good_object names o are is =
    let here = ltb-true o (length names) is in
    record { clean = name_clean (get_or names o []) (name_at names o here are.formed); written = object_again names o here are.distinct }

good_name : (names : List (List ℕ)) (name : List ℕ) → is_name name ≡ true → IsGoodPart names (New name)
good_name names name is = record { clean = name_clean name is; written = (refl, is) }

good_three : (names : List (List ℕ)) (to left right : ℕ) → (nat_lt to 16 && nat_lt left 16 && nat_lt right 16) ≡ true
    → AreGoodParts names (Register to ∷ Register left ∷ Register right ∷ [])
good_three names to left right is =
    let all = both_true (nat_lt to 16 && nat_lt left 16) (nat_lt right 16) is in
    let both = both_true (nat_lt to 16) (nat_lt left 16) all.0 in
    (good_register names to both.0, (good_register names left both.1, (good_register names right all.1, tt)))

good_command : (names : List (List ℕ)) (c : Command) → AreNames names → is_command (length names) c ≡ true → (is_filled (command_form c) ≡ true) × AreGoodParts names (command_form c)
good_command names (command.Set to number) are is =
    let both = both_true (nat_lt to 16) (nat_lt number (2 ^ 64)) is in
    (refl, (good_word names (codes "set") refl refl, (good_register names to both.0, (good_number names number both.1, tt))))
good_command names (command.Copy to from) are is =
    let both = both_true (nat_lt to 16) (nat_lt from 16) is in
    (refl, (good_word names (codes "copy") refl refl, (good_register names to both.0, (good_register names from both.1, tt))))
good_command names (command.Add to left right) are is = (refl, (good_word names (codes "add") refl refl, good_three names to left right is))
good_command names (command.Sub to left right) are is = (refl, (good_word names (codes "sub") refl refl, good_three names to left right is))
good_command names (command.Mul to left right) are is = (refl, (good_word names (codes "mul") refl refl, good_three names to left right is))
good_command names (command.Xor to left right) are is = (refl, (good_word names (codes "xor") refl refl, good_three names to left right is))
good_command names (command.Less to left right) are is = (refl, (good_word names (codes "less") refl refl, good_three names to left right is))
good_command names (command.Same to left right) are is = (refl, (good_word names (codes "same") refl refl, good_three names to left right is))
good_command names (command.Read to object) are is =
    let both = both_true (nat_lt to 16) (nat_lt object (length names)) is in
    (refl, (good_word names (codes "read") refl refl, (good_register names to both.0, (good_object names object are both.1, tt))))
good_command names (command.Write object from) are is =
    let both = both_true (nat_lt from 16) (nat_lt object (length names)) is in
    (refl, (good_word names (codes "write") refl refl, (good_object names object are both.1, (good_register names from both.0, tt))))
good_command names (command.Bump object from) are is =
    let both = both_true (nat_lt from 16) (nat_lt object (length names)) is in
    (refl, (good_word names (codes "bump") refl refl, (good_object names object are both.1, (good_register names from both.0, tt))))
good_command names (command.Loop test) are is = (refl, (good_word names (codes "while") refl refl, (good_register names test is, tt)))
good_command names (command.Branch test) are is = (refl, (good_word names (codes "if") refl refl, (good_register names test is, tt)))
good_command names command.Close are is = (refl, (good_word names (codes "end") refl refl, tt))
good_command names command.Safe are is = (refl, (good_word names (codes "safe") refl refl, tt))
good_command names command.Pause are is = (refl, (good_word names (codes "pause") refl refl, tt))
good_command names command.Region are is = (refl, (good_word names (codes "region") refl refl, tt))

good_append : (names : List (List ℕ)) (forms more : List (List Part)) → AreGoodForms names forms → AreGoodForms names more → AreGoodForms names (forms ++ more)
good_append names [] more good rest = rest
good_append names (form ∷ forms) more good rest = (good.0, (good.1.0, good_append names forms more good.1.1 rest))

good_commands : (names : List (List ℕ)) (commands : List Command) → AreNames names → list_all (is_command (length names)) commands ≡ true → AreGoodForms names (map command_form commands)
good_commands names [] are all = tt
good_commands names (c ∷ commands) are all =
    let both = both_true (is_command (length names) c) (list_all (is_command (length names)) commands) all in
    let first = good_command names c are both.0 in
    (first.0, (first.1, good_commands names commands are both.1))

good_threads : (names : List (List ℕ)) (threads : List (List Command)) → AreNames names → list_all (is_thread (length names)) threads ≡ true → AreGoodForms names (flat_map thread_forms threads)
good_threads names [] are all = tt
good_threads names (t ∷ threads) are all =
    let both = both_true (is_thread (length names) t) (list_all (is_thread (length names)) threads) all in
    let commands = both_true (list_all (is_command (length names)) t) _ both.0 in
    (refl, ((good_word names (codes "thread") refl refl, tt), good_append names (map command_form t) (flat_map thread_forms threads) (good_commands names t are commands.0) (good_threads names threads are both.1)))

good_objects : (names : List (List ℕ)) (objects : List Object) → list_all is_name (object_names objects) ≡ true → AreGoodForms names (map head_form (map (λ o. ObjectHead o) (map declaration objects)))
good_objects names [] all = tt
good_objects names (object ∷ objects) all =
    let both = both_true (is_name object.name) (list_all is_name (object_names objects)) all in
    (refl, ((good_word names (codes "object") refl refl, (good_name names object.name both.0, (good_number names object.start (lt-ltb object.start (2 ^ 64) object.fits), tt))), good_objects names objects both.1))

-- cut at the first element that passes
split_clean : (p : ℕ → Bool) (xs : List ℕ) (y : ℕ) (ys : List ℕ) → list_all (λ x. not (p x)) xs ≡ true → p y ≡ true → slice_split p (xs ++ y ∷ ys) ≡ xs ∷ slice_split p ys
split_clean p [] y ys none stop = rw stop refl
split_clean p (x ∷ xs) y ys none stop =
    let both = both_true (not (p x)) (list_all (λ z. not (p z)) xs) none in
    rw (not-true (p x) both.0, split_clean p xs y ys both.1 stop) refl

split_whole : (p : ℕ → Bool) (xs : List ℕ) → list_all (λ x. not (p x)) xs ≡ true → slice_split p xs ≡ xs ∷ []
split_whole p [] none = refl
split_whole p (x ∷ xs) none =
    let both = both_true (not (p x)) (list_all (λ z. not (p z)) xs) none in
    rw (not-true (p x) both.0, split_whole p xs both.1) refl

before_none : (p : ℕ → Bool) (xs : List ℕ) → list_all (λ x. not (p x)) xs ≡ true → before_first p xs ≡ xs
before_none p [] none = refl
before_none p (x ∷ xs) none =
    let both = both_true (not (p x)) (list_all (λ z. not (p z)) xs) none in
    let next : 1 + position_or_len p xs ≡ suc (position_or_len p xs) = omega arith in
    rw (both.0, next) (ap (λ rest. x ∷ rest) (before_none p xs both.1))

-- bytes of words, and blanks between them
abbrev is_spoken : ℕ → Bool
is_spoken b = (b == 32) || within b

spoken_within : (b : ℕ) → within b ≡ true → is_spoken b ≡ true
spoken_within b is =
    let apart : (b == 32) ≡ false = ne_eqb b 32 (λ same. omega (arith, same, (within_bounds b is).0)) in
    rw (apart, is) refl

spoken_bounds : (b : ℕ) → is_spoken b ≡ true → (b ≡ 32) ⊎ (48 ≤ b)
spoken_bounds b is = ⊎_elim (λ blank. inl (eqb-true b 32 blank)) (λ word. inr (within_bounds b word).0) (either_true (b == 32) (within b) is)

spoken_low : (b : ℕ) → is_spoken b ≡ true → b ≤ 122
spoken_low b is = ⊎_elim (λ blank. omega (arith, eqb-true b 32 blank)) (λ word. (within_bounds b word).1) (either_true (b == 32) (within b) is)

no_end : (b : ℕ) → is_spoken b ≡ true → not (is_line_end b) ≡ true
no_end b is =
    let apart : (b == 10) ≡ false = ne_eqb b 10 (λ same. ⊎_elim (λ blank. omega (arith, same, blank)) (λ high. omega (arith, same, high)) (spoken_bounds b is)) in
    rw apart refl

no_comment : (b : ℕ) → is_spoken b ≡ true → not (is_comment_start b) ≡ true
no_comment b is =
    let apart : (b == 35) ≡ false = ne_eqb b 35 (λ same. ⊎_elim (λ blank. omega (arith, same, blank)) (λ high. omega (arith, same, high)) (spoken_bounds b is)) in
    rw apart refl

no_blank : (b : ℕ) → within b ≡ true → not (is_blank b) ≡ true
no_blank b is =
    let low = (within_bounds b is).0 in
    let a : (b == 32) ≡ false = ne_eqb b 32 (λ same. omega (arith, same, low)) in
    let c : (b == 9) ≡ false = ne_eqb b 9 (λ same. omega (arith, same, low)) in
    let d : (b == 13) ≡ false = ne_eqb b 13 (λ same. omega (arith, same, low)) in
    rw (a, c, d) refl

joined_spoken : (names : List (List ℕ)) (form : List Part) → AreGoodParts names form → list_all is_spoken (canonical_words names form) ≡ true
joined_spoken names [] good = refl
joined_spoken names (part ∷ []) good = weaker within is_spoken spoken_within (canonical_word names part) good.0.clean.bytes
joined_spoken names (part ∷ next ∷ form) good =
    let word = weaker within is_spoken spoken_within (canonical_word names part) good.0.clean.bytes in
    let rest = joined_spoken names (next ∷ form) good.1 in
    list_all-append is_spoken (canonical_word names part) (32 ∷ canonical_words names (next ∷ form)) ∙ rw (word, rest) refl

joined_split : (names : List (List ℕ)) (form : List Part) → is_filled form ≡ true → AreGoodParts names form → slice_split is_blank (canonical_words names form) ≡ map (canonical_word names) form
joined_split names [] filled good = absurd (false≢true filled)
joined_split names (part ∷ []) filled good = split_whole is_blank (canonical_word names part) (weaker within (λ b. not (is_blank b)) no_blank (canonical_word names part) good.0.clean.bytes)
joined_split names (part ∷ next ∷ form) filled good =
    split_clean is_blank (canonical_word names part) 32 (canonical_words names (next ∷ form)) (weaker within (λ b. not (is_blank b)) no_blank (canonical_word names part) good.0.clean.bytes) refl
    ∙ ap (λ ws. canonical_word names part ∷ ws) (joined_split names (next ∷ form) refl good.1)

all_filled : (names : List (List ℕ)) (form : List Part) → AreGoodParts names form → filter is_filled (map (canonical_word names) form) ≡ map (canonical_word names) form
all_filled names [] good = refl
all_filled names (part ∷ form) good = rw (good.0.clean.filled) (ap (λ ws. canonical_word names part ∷ ws) (all_filled names form good.1))

line_again : (names : List (List ℕ)) (form : List Part) → is_filled form ≡ true → AreGoodParts names form → words_of_line (canonical_words names form) ≡ map (canonical_word names) form
line_again names form filled good =
    let all = weaker is_spoken (λ b. not (is_comment_start b)) no_comment (canonical_words names form) (joined_spoken names form good) in
    ap words (before_none is_comment_start (canonical_words names form) all)
    ∙ ap (filter is_filled) (joined_split names form filled good)
    ∙ all_filled names form good

map_filled : (names : List (List ℕ)) (form : List Part) → is_filled form ≡ true → is_filled (map (canonical_word names) form) ≡ true
map_filled names [] filled = absurd (false≢true filled)
map_filled names (part ∷ form) filled = refl

lines_again : (names : List (List ℕ)) (forms : List (List Part)) → AreGoodForms names forms → lines_with_words (flat_map (canonical_line names) forms) ≡ map (map (canonical_word names)) forms
lines_again names [] good = refl
lines_again names (form ∷ forms) good =
    let rest = flat_map (canonical_line names) forms in
    let line = canonical_words names form in
    let ends = weaker is_spoken (λ b. not (is_line_end b)) no_end line (joined_spoken names form good.1.0) in
    let cut : lines (canonical_line names form ++ rest) ≡ line ∷ lines rest = ap lines (append_assoc line (10 ∷ []) rest) ∙ split_clean is_line_end line 10 rest ends refl in
    let said = line_again names form good.0 good.1.0 in
    let filled = map_filled names form good.0 in
    ap (λ ls. filter is_filled (map words_of_line ls)) cut ∙ rw said (rw filled (ap (λ more. map (canonical_word names) form ∷ more) (lines_again names forms good.1.1)))

parts_written : (names : List (List ℕ)) (form : List Part) → AreGoodParts names form → AllZip (IsPart names) form (map (canonical_word names) form)
parts_written names [] good = tt
parts_written names (part ∷ form) good = (good.0.written, parts_written names form good.1)

forms_written : (names : List (List ℕ)) (forms : List (List Part)) → AreGoodForms names forms → AreForms names forms (map (map (canonical_word names)) forms)
forms_written names [] good = tt
forms_written names (form ∷ forms) good = (parts_written names form good.1.0, forms_written names forms good.1.1)

fuels_of_objects : (objects : List Declaration) → fuels (map (λ o. ObjectHead o) objects) ≡ []
fuels_of_objects [] = refl
fuels_of_objects (o ∷ objects) = fuels_of_objects objects

objects_of_objects : (objects : List Declaration) → declared (map (λ o. ObjectHead o) objects) ≡ objects
objects_of_objects [] = refl
objects_of_objects (o ∷ objects) = ap (λ os. o ∷ os) (objects_of_objects objects)

-- every byte is ASCII
ascii_all : (bs : List ℕ) → list_all (λ b. nat_le b 127) bs ≡ true → (i : ℕ) → get_or bs i 0 < 128
ascii_all [] all i = omega arith
ascii_all (b ∷ bs) all zero = omega (arith, leb-true b 127 (both_true (nat_le b 127) (list_all (λ c. nat_le c 127) bs) all).0)
ascii_all (b ∷ bs) all (suc i) = ascii_all bs (both_true (nat_le b 127) (list_all (λ c. nat_le c 127) bs) all).1 i

ascii_line : (names : List (List ℕ)) (forms : List (List Part)) → AreGoodForms names forms → list_all (λ b. nat_le b 127) (flat_map (canonical_line names) forms) ≡ true
ascii_line names [] good = refl
ascii_line names (form ∷ forms) good =
    let line = weaker is_spoken (λ b. nat_le b 127) (λ b is. le-leb b 127 (omega (arith, spoken_low b is))) (canonical_words names form) (joined_spoken names form good.1.0) in
    let whole : list_all (λ b. nat_le b 127) (canonical_line names form) ≡ true = list_all-append (λ b. nat_le b 127) (canonical_words names form) (10 ∷ []) ∙ rw line refl in
    list_all-append (λ b. nat_le b 127) (canonical_line names form) (flat_map (canonical_line names) forms) ∙ rw (whole, ascii_line names forms good.1.1) refl

good_script : (script : Script) → list_all is_name (object_names script.objects) ≡ true → AreGoodForms (object_names script.objects) (canonical_forms (contents script))
good_script script named =
    let names = object_names script.objects in
    let says = script_says script in
    let size : length script.objects ≡ length names = sym (length-map (map declaration script.objects) (λ (o : Declaration). o.name) ∙ length-map script.objects declaration) in
    let threads = subst (λ n. list_all (is_thread n) script.threads ≡ true) size (script_threads script) in
    let are : AreNames names = record { distinct = says.names; formed = named } in
    let heads = map head_form (map (λ o. ObjectHead o) (map declaration script.objects)) in
    (refl, ((good_word names (codes "fuel") refl refl, (good_number names script.fuel (lt-ltb script.fuel (2 ^ 64) (omega (arith, says.high))), tt)), good_append names heads (flat_map thread_forms script.threads) (good_objects names script.objects named) (good_threads names script.threads are threads)))

pub canonical_spells : (script : Script) → IsTrue (list_all is_name (object_names script.objects)) → Spells (canonical_text script) script
canonical_spells script named =
    let names = object_names script.objects in
    let forms = canonical_forms (contents script) in
    let good = good_script script named in
    record {
      heads = FuelHead script.fuel ∷ map (λ o. ObjectHead o) (map declaration script.objects);
      utf8 = IsUtf8-from_ascii (canonical_text script) (ascii_all (canonical_text script) (ascii_line names forms good));
      fuel = rw (fuels_of_objects (map declaration script.objects)) refl;
      objects = objects_of_objects (map declaration script.objects);
      lines = subst (AreForms names forms) (sym (lines_again names forms good)) (forms_written names forms good);
    }

named_all : (objects : List Object) → list_all (λ (o : Object). is_name o.name) objects ≡ list_all is_name (object_names objects)
named_all objects = sym (list_all-map is_name (λ (o : Declaration). o.name) (map declaration objects) ∙ list_all-map (λ (o : Declaration). is_name o.name) declaration objects)

-- a text that was written with each name in its form
pub printed_spells : (script : Script) (objects : List Object) (index : ℕ) (text : List ℕ) → objects ≡ script.objects → length objects ≤ index → list_all (λ (o : Object). is_name o.name) (take index objects) ≡ true → text ≡ canonical_text script → Spells text script
printed_spells script objects index text are all named is =
    let every : list_all is_name (object_names script.objects) ≡ true = sym (named_all script.objects) ∙ ap (list_all (λ (o : Object). is_name o.name)) (sym are ∙ sym (take_all index objects all)) ∙ named in
    subst (λ bytes. Spells bytes script) (sym is) (canonical_spells script every)
