-- How lines are judged on, and where that stops.
use Rattle.std.proofs.Common.{◌≡◌, ℕ, ◌+◌, ◌<◌, true, false, List, [], ◌∷◌, length, take, drop, Some, None, Ok, Err, refl, ap, ◌∙◌, arith, length-drop}
use Rattle.std.specs.Prelude.{nat_lt}
use Rattle.std.specs.List.{position}
use Rattle.std.specs.Str.{IsUtf8}
use Rattle.std.specs.Str.Lossy.{utf8_valid_len}
use Rattle.std.proofs.lemmas.Str.{utf8_valid_len-IsUtf8}
use Rattle.std.proofs.lemmas.Bool.{le-ltb}
use Rattle.std.proofs.lemmas.List.{drop-drop}
use Rattle.std.proofs.lemmas.List.Splits.{slice_split_first}
use Rattle.std.specs.Option.{is_some}
use Rattle.octet_model.specs.Name.{is_name}
use Rattle.octet_script.specs.Spelling.{object_named}
use Rattle.octet_script.specs.declared.cause.ScriptCause.TheVariants.{NameTwice}
use Rattle.octet_script.specs.declared.cause.ScriptFault.TheVariants.{Refused}
use Rattle.octet_script.specs.Words.{lines, is_line_end}
use Rattle.octet_script.specs.Parsing.{judged_bytes, judged_name}
use Rattle.octet_script.proofs.spelling.Cut.{position_some, position_none, split_none}

pub valid_bytes : (text : List ℕ) → IsUtf8 text → judged_bytes text ≡ Ok tt
valid_bytes text valid =
    let all = utf8_valid_len-IsUtf8 text valid in
    let none : nat_lt (utf8_valid_len text) (length text) ≡ false = le-ltb (utf8_valid_len text) (length text) (omega (arith, all)) in
    rw none refl

pub line_cut : (text line rest after : List ℕ) (end : ℕ) → position is_line_end text ≡ Some end → line ≡ take end text → rest ≡ drop end text → after ≡ drop 1 rest → (lines text ≡ line ∷ lines after) × (length after < length text)
line_cut text line rest after end found line_is rest_is after_is =
    let here = position_some is_line_end text end found in
    let parts = slice_split_first is_line_end text 0 (omega (arith, here.0, here.1)) in
    let cut : lines text ≡ take end text ∷ lines (drop (end + 1) text) = parts ∙ ap (λ k. take k text ∷ lines (drop (k + 1) text)) here.0 in
    let behind : after ≡ drop (end + 1) text = after_is ∙ ap (drop 1) rest_is ∙ drop-drop 1 end text ∙ ap (λ k. drop k text) (omega arith) in
    (cut ∙ cc, omega (arith, ap length behind, length-drop (end + 1) text, here.1))

pub line_last : (text : List ℕ) → position is_line_end text ≡ None → lines text ≡ text ∷ []
line_last text none = split_none is_line_end text (position_none is_line_end text none)

pub name_twice : (names : List (List ℕ)) (line : ℕ) (word : List ℕ) → is_name word ≡ true → is_some (object_named names word) ≡ true → judged_name names line word ≡ Err (Refused line NameTwice)
name_twice names line word good twice = rw (good, twice) refl
