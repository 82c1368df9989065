-- What follows where lines are judged on.
use Rattle.std.proofs.Common.{◌∙◌, ◌≡◌, ℕ, ◌^◌, ◌<◌, ◌==◌, Bool, true, false, not, cond, ◌&&◌, ◌||◌, List, [], ◌∷◌, length, Option, Some, None, Result, Ok, Err, refl, sym, arith}
use Rattle.std.specs.Prelude.{nat_lt, nat_le}
use Rattle.std.specs.Option.{ok_or, is_some}
use Rattle.std.specs.Str.{bytes_eq, all_ascii_digits}
use Rattle.std.specs.Str.Parse.{digits_value}
use Rattle.std.proofs.lemmas.Slice.Eq.{bytes_eq-Decides}
use Rattle.std.proofs.lemmas.Bool.{false≢true, eqb-true, ltb-true}
use Rattle.octet_model.specs.Name.{is_name}
use Rattle.octet_script.specs.declared.cause.ScriptFault.{ScriptFault}
use Rattle.octet_script.specs.declared.cause.ScriptFault.TheVariants.{Refused}
use Rattle.octet_script.specs.declared.cause.ScriptCause.TheVariants.{BadName, NameTwice, UnknownWord, WrongCount, Misplaced}
use Rattle.octet_script.specs.Spelling.{number_of, is_number, register_of, register_words, object_named}
use Rattle.octet_script.specs.Parsing.{◌>>=◌, Draft, keyword, word_count, is_misplaced, judged_line, judged_keyword, judged_arguments, judged_name, all_closed}
use Rattle.octet_script.specs.declared.keyword.Keyword.{Keyword}
use Rattle.octet_script.proofs.spelling.Cut.{position_some}

pub bind_ok : {A B : Type 0} (r : Result A ScriptFault) (f : A → Result B ScriptFault) (y : B) → (r >>= f) ≡ Ok y → (x : A) × (r ≡ Ok x) × (f x ≡ Ok y)
bind_ok (Ok x) f y is = (x, refl, is)
bind_ok (Err e) f y is = cc

pub guard_ok : {A : Type 0} (b : Bool) (e : ScriptFault) (r : Result A ScriptFault) (y : A) → cond b (Err e) r ≡ Ok y → (b ≡ false) × (r ≡ Ok y)
guard_ok true e r y is = cc
guard_ok false e r y is = (refl, is)

pub ok_or_ok : {A : Type 0} (o : Option A) (e : ScriptFault) (x : A) → ok_or o e ≡ Ok x → o ≡ Some x
ok_or_ok (Some a) e x is = cc
ok_or_ok None e x is = cc

pub closed_ok : (openers : List ℕ) → all_closed openers ≡ Ok tt → openers ≡ []
closed_ok [] is = refl
closed_ok (o ∷ os) is = cc

pub not_false : (b : Bool) → not b ≡ false → b ≡ true
not_false true is = refl
not_false false is = sym is

pub eqb_true : (m n : ℕ) → (m == n) ≡ true → m ≡ n
eqb_true m n is = omega (arith, eqb-true m n is)

pub same_bytes : (a b : List ℕ) → bytes_eq a b ≡ true → a ≡ b
same_bytes a b is = (bytes_eq-Decides a b).0 is

pub bytes_same : (a b : List ℕ) → a ≡ b → bytes_eq a b ≡ true
bytes_same a b is = (bytes_eq-Decides a b).1 is

-- that bytes differ goes both ways
pub apart : (a b : List ℕ) (q : Bool) → bytes_eq b a ≡ q → bytes_eq a b ≡ false → q ≡ false
apart a b false e differ = refl
apart a b true e differ = absurd (false≢true (sym differ ∙ bytes_same a b (sym (same_bytes b a e))))

pub register_small : (word : List ℕ) (r : ℕ) → register_of word ≡ Some r → r < 16
register_small word r is = (position_some (bytes_eq word) register_words r is).1

pub object_there : (names : List (List ℕ)) (word : List ℕ) (o : ℕ) → object_named names word ≡ Some o → o < length names
object_there names word o is = (position_some (bytes_eq word) names o is).1

chosen_value : (b : Bool) (v n : ℕ) → cond b (Some v) None ≡ Some n → (b ≡ true) × (v ≡ n)
chosen_value true v n is = (refl, cc)
chosen_value false v n is = cc

pub both_true : (a b : Bool) → (a && b) ≡ true → (a ≡ true) × (b ≡ true)
both_true true b is = (refl, is)
both_true false b is = absurd (false≢true is)

pub either_false : (a b : Bool) → (a || b) ≡ false → (a ≡ false) × (b ≡ false)
either_false true b is = absurd (false≢true (sym is))
either_false false b is = (refl, is)

pub number_small : (word : List ℕ) (n : ℕ) → number_of word ≡ Some n → n < 2 ^ 64
number_small word n is =
    let chosen = chosen_value (is_number word) (digits_value 10 word) n is in
    let last = both_true (nat_le 1 (length word) && nat_le (length word) 20 && all_ascii_digits word) (nat_lt (digits_value 10 word) (2 ^ 64)) chosen.0 in
    omega (arith, ltb-true (digits_value 10 word) (2 ^ 64) last.1, chosen.1)

pub none_of : {A : Type 0} (o : Option A) → is_some o ≡ false → o ≡ None
none_of None is = refl
none_of (Some x) is = absurd (false≢true (sym is))

pub name_new : (names : List (List ℕ)) (line : ℕ) (word name : List ℕ) → judged_name names line word ≡ Ok name → (is_name word ≡ true) × (object_named names word ≡ None) × (word ≡ name)
name_new names line word name is =
    let good = guard_ok (not (is_name word)) (Refused line BadName) _ name is in
    let fresh = guard_ok (is_some (object_named names word)) (Refused line NameTwice) (Ok word) name good.1 in
    (not_false (is_name word) good.0, none_of (object_named names word) fresh.0, cc)

-- a line that is taken has a keyword, as many words as it says, and stands where it may
pub record TakesKeyword (p q : Draft) (line : ℕ) (words : List (List ℕ)) (first : List ℕ) : Type 0 where
  pub word : Keyword
  pub is_word : keyword first ≡ Some word
  pub count : length words ≡ word_count word
  pub placed : is_misplaced p.started word ≡ false
  pub arguments : judged_arguments p line words word ≡ Ok q

in_keyword : (o : Option Keyword) (e : ScriptFault) (f : Keyword → Result Draft ScriptFault) (q : Draft) → ◌≡◌ {A = Result Draft ScriptFault} (elim o [ None ↦ Err e | Some k ↦ f k ]) (Ok q) → (k : Keyword) × (o ≡ Some k) × (f k ≡ Ok q)
in_keyword None e f q is = cc
in_keyword (Some k) e f q is = (k, refl, is)

pub keyword_ok : (p q : Draft) (line : ℕ) (first : List ℕ) (others : List (List ℕ)) → judged_line p line (first ∷ others) ≡ Ok q → TakesKeyword p q line (first ∷ others) first
keyword_ok p q line first others is =
    let words = first ∷ others in
    let found = in_keyword (keyword first) (Refused line UnknownWord) (judged_keyword p line words) q is in
    let k = found.0 in
    let counted = guard_ok (not (length words == word_count k)) (Refused line WrongCount) _ q found.2 in
    let placed = guard_ok (is_misplaced p.started k) (Refused line Misplaced) (judged_arguments p line words k) q counted.1 in
    record {
      word = k;
      is_word = found.1;
      count = eqb_true (length words) (word_count k) (not_false (length words == word_count k) counted.0);
      placed = placed.0;
      arguments = placed.1;
    }
