-- A text that is not UTF-8, has no thread or leaves something open is refused.
use Rattle.std.proofs.Common.{◌≡◌, ◌≢◌, ℕ, suc, ◌+◌, ◌*◌, ◌==◌, ◌||◌, Bool, true, false, cond, List, [], ◌∷◌, ◌++◌, length, take, Some, Result, Ok, Err, refl, ap, sym, ◌∙◌, subst, arith, inl, inr}
use Rattle.std.specs.Prelude.{codes, nat_lt, nat_le, count_by}
use Rattle.std.specs.List.{All}
use Rattle.std.specs.Option.{is_some}
use Rattle.std.specs.Str.{IsValidUpTo}
use Rattle.std.proofs.lemmas.Str.{utf8_valid_len-IsValidUpTo}
use Rattle.std.proofs.lemmas.Bool.{lt-ltb}
use Rattle.std.proofs.lemmas.List.Elements.{All-head, All-tail}
use Rattle.std.proofs.lemmas.List.Splits.{length-slice_split}
use Rattle.octet_model.specs.declared.command.Command.{Command}
use Rattle.octet_model.specs.declared.command.Command.TheVariants as command
use Rattle.octet_script.specs.declared.cause.ScriptCause.TheVariants.{NotUtf8, Unclosed, NoThread, EndWithoutOpen, BadFuel, TooMany}
use Rattle.octet_script.specs.declared.cause.ScriptFault.{ScriptFault}
use Rattle.octet_script.specs.declared.cause.ScriptFault.TheVariants.{Refused}
use Rattle.octet_script.specs.declared.keyword.Keyword.{Keyword}
use Rattle.octet_script.specs.declared.keyword.Keyword.TheVariants.{Fuel, Object, Thread, Command as CommandWord}
use Rattle.octet_script.specs.declared.keyword.Verb.{Verb}
use Rattle.octet_script.specs.declared.keyword.Verb.TheVariants as verb
use Rattle.octet_script.specs.declared.keyword.Arithmetic.{Arithmetic}
use Rattle.octet_script.specs.declared.keyword.Arithmetic.TheVariants as operation
use Rattle.octet_script.specs.Words.{lines, is_line_end, words_of_line}
use Rattle.octet_script.specs.Parsing.{◌>>=◌, Draft, start, parsed, judged_lines, judged_line, judged_arguments, judged_end, keyword, word_count, names_of, fuel_of, threads_of, number_at, register_at, object_at, name_at, with_fuel, with_command, begun, added, closed, all_closed, command_of, arithmetic_command}
use Rattle.octet_script.specs.BrokenRules.{IsReached, IsRefused}
use Rattle.octet_script.specs.WholeTexts.{IsAccepted, IsThreadLine, IsEndLine, first_of, IsOpener, Body, Nothing, Plain, Nested, lines_of, IsBody, IsBodyAfter, LeaveOpen, LeaveNothingOpen}
use Rattle.octet_script.proofs.judging.Judged.{valid_bytes}
use Rattle.octet_script.proofs.judging.Steps.{bind_ok, closed_ok, keyword_ok}
use Rattle.octet_script.proofs.judging.Valid.{start_valid, lines_valid, is_plain, with_plain}
use Rattle.octet_script.proofs.judging.Sound.{keyword_word, word_of_keyword}
use Rattle.octet_script.proofs.judging.BrokenRules.{open_thread, bad_end}

pub not_utf8 : (text : List ℕ) (bytes : ℕ) → IsValidUpTo text bytes → parsed text ≡ Err (Refused (length (lines (take bytes text))) NotUtf8)
not_utf8 text bytes valid =
    let count = utf8_valid_len-IsValidUpTo text bytes valid in
    let short = lt-ltb bytes (length text) valid.short in
    let number : 1 + count_by is_line_end (take bytes text) ≡ length (lines (take bytes text)) = omega (arith, length-slice_split is_line_end (take bytes text)) in
    rw (count, short, number) refl

-- where a step goes well, what its outcome makes has what each outcome makes
each_ok : {A B : Type 0} (r : Result A ScriptFault) (f : A → Result B ScriptFault) (P : B → Type 0) → ((x : A) (y : B) → f x ≡ Ok y → P y) → (y : B) → (r >>= f) ≡ Ok y → P y
each_ok (Ok x) f P all y is = all x y is
each_ok (Err e) f P all y is = cc

of_ok : {B : Type 0} (P : B → Type 0) (x : B) → P x → (y : B) → ◌≡◌ {A = Result B ScriptFault} (Ok x) (Ok y) → P y
of_ok P x holds y is =
    let same : x ≡ y = cc in
    subst P same holds

guarded : {B : Type 0} (b : Bool) (e : ScriptFault) (r : Result B ScriptFault) (P : B → Type 0) → ((y : B) → r ≡ Ok y → P y) → (y : B) → cond b (Err e) r ≡ Ok y → P y
guarded true e r P all y is = cc
guarded false e r P all y is = all y is

-- what the first word of an accepted line does to what is open
abbrev openers_after : Keyword → ℕ → List ℕ → List ℕ
openers_after (CommandWord verb.While) line openers = line ∷ openers
openers_after (CommandWord verb.If) line openers = line ∷ openers
openers_after (CommandWord verb.End) line [] = []
openers_after (CommandWord verb.End) line (opener ∷ openers) = openers
openers_after k line openers = openers

abbrev started_after : Keyword → Bool → Bool
started_after Thread started = true
started_after k started = started

abbrev Changes : Keyword → Draft → ℕ → Draft → Type 0
Changes k p line q = (q.openers ≡ openers_after k line p.openers) × (q.started ≡ started_after k p.started)

added_plain : (p : Draft) (line : ℕ) (c : Command) → is_plain c ≡ true → (q : Draft) → with_command p line c ≡ Ok q → (q.openers ≡ p.openers) × (q.started ≡ p.started)
added_plain p line c plain q is =
    of_ok (λ r. (r.openers ≡ p.openers) × (r.started ≡ p.started)) (added p c p.openers) (refl, refl) q (sym (with_plain p line c plain) ∙ is)

plain_operation : (op : Arithmetic) (to left right : ℕ) → is_plain (arithmetic_command op to left right) ≡ true
plain_operation operation.Add to left right = refl
plain_operation operation.Sub to left right = refl
plain_operation operation.Mul to left right = refl
plain_operation operation.Xor to left right = refl
plain_operation operation.Less to left right = refl
plain_operation operation.Same to left right = refl

closes : (p : Draft) (line : ℕ) (openers : List ℕ) → p.openers ≡ openers → (q : Draft) → closed p line openers ≡ Ok q → (q.openers ≡ openers_after (CommandWord verb.End) line openers) × (q.started ≡ p.started)
closes p line [] are q is = cc
closes p line (opener ∷ openers) are q is = of_ok (λ r. (r.openers ≡ openers) × (r.started ≡ p.started)) (added p command.Close openers) (refl, refl) q is

command_changes : (p : Draft) (line : ℕ) (words : List (List ℕ)) (v : Verb) (c : Command) → command_of (names_of p) line words v ≡ Ok c → (q : Draft) → with_command p line c ≡ Ok q → Changes (CommandWord v) p line q
command_changes p line words verb.Set c is =
    each_ok (register_at line words 1) _ (λ d. (q : Draft) → with_command p line d ≡ Ok q → Changes (CommandWord verb.Set) p line q) (λ to.
    each_ok (number_at line words 2) _ (λ d. (q : Draft) → with_command p line d ≡ Ok q → Changes (CommandWord verb.Set) p line q) (λ n.
    of_ok (λ d. (q : Draft) → with_command p line d ≡ Ok q → Changes (CommandWord verb.Set) p line q) (command.Set to n) (added_plain p line (command.Set to n) refl))) c is
command_changes p line words verb.Copy c is =
    each_ok (register_at line words 1) _ (λ d. (q : Draft) → with_command p line d ≡ Ok q → Changes (CommandWord verb.Copy) p line q) (λ to.
    each_ok (register_at line words 2) _ (λ d. (q : Draft) → with_command p line d ≡ Ok q → Changes (CommandWord verb.Copy) p line q) (λ from.
    of_ok (λ d. (q : Draft) → with_command p line d ≡ Ok q → Changes (CommandWord verb.Copy) p line q) (command.Copy to from) (added_plain p line (command.Copy to from) refl))) c is
command_changes p line words (verb.Arithmetic op) c is =
    each_ok (register_at line words 1) _ (λ d. (q : Draft) → with_command p line d ≡ Ok q → Changes (CommandWord (verb.Arithmetic op)) p line q) (λ to.
    each_ok (register_at line words 2) _ (λ d. (q : Draft) → with_command p line d ≡ Ok q → Changes (CommandWord (verb.Arithmetic op)) p line q) (λ left.
    each_ok (register_at line words 3) _ (λ d. (q : Draft) → with_command p line d ≡ Ok q → Changes (CommandWord (verb.Arithmetic op)) p line q) (λ right.
    of_ok (λ d. (q : Draft) → with_command p line d ≡ Ok q → Changes (CommandWord (verb.Arithmetic op)) p line q) (arithmetic_command op to left right) (added_plain p line (arithmetic_command op to left right) (plain_operation op to left right))))) c is
command_changes p line words verb.Read c is =
    each_ok (register_at line words 1) _ (λ d. (q : Draft) → with_command p line d ≡ Ok q → Changes (CommandWord verb.Read) p line q) (λ to.
    each_ok (object_at (names_of p) line words 2) _ (λ d. (q : Draft) → with_command p line d ≡ Ok q → Changes (CommandWord verb.Read) p line q) (λ object.
    of_ok (λ d. (q : Draft) → with_command p line d ≡ Ok q → Changes (CommandWord verb.Read) p line q) (command.Read to object) (added_plain p line (command.Read to object) refl))) c is
command_changes p line words verb.Write c is =
    each_ok (object_at (names_of p) line words 1) _ (λ d. (q : Draft) → with_command p line d ≡ Ok q → Changes (CommandWord verb.Write) p line q) (λ object.
    each_ok (register_at line words 2) _ (λ d. (q : Draft) → with_command p line d ≡ Ok q → Changes (CommandWord verb.Write) p line q) (λ from.
    of_ok (λ d. (q : Draft) → with_command p line d ≡ Ok q → Changes (CommandWord verb.Write) p line q) (command.Write object from) (added_plain p line (command.Write object from) refl))) c is
command_changes p line words verb.Bump c is =
    each_ok (object_at (names_of p) line words 1) _ (λ d. (q : Draft) → with_command p line d ≡ Ok q → Changes (CommandWord verb.Bump) p line q) (λ object.
    each_ok (register_at line words 2) _ (λ d. (q : Draft) → with_command p line d ≡ Ok q → Changes (CommandWord verb.Bump) p line q) (λ from.
    of_ok (λ d. (q : Draft) → with_command p line d ≡ Ok q → Changes (CommandWord verb.Bump) p line q) (command.Bump object from) (added_plain p line (command.Bump object from) refl))) c is
command_changes p line words verb.While c is =
    each_ok (register_at line words 1) _ (λ d. (q : Draft) → with_command p line d ≡ Ok q → Changes (CommandWord verb.While) p line q) (λ test.
    of_ok (λ d. (q : Draft) → with_command p line d ≡ Ok q → Changes (CommandWord verb.While) p line q) (command.Loop test)
    (of_ok (λ r. Changes (CommandWord verb.While) p line r) (added p (command.Loop test) (line ∷ p.openers)) (refl, refl))) c is
command_changes p line words verb.If c is =
    each_ok (register_at line words 1) _ (λ d. (q : Draft) → with_command p line d ≡ Ok q → Changes (CommandWord verb.If) p line q) (λ test.
    of_ok (λ d. (q : Draft) → with_command p line d ≡ Ok q → Changes (CommandWord verb.If) p line q) (command.Branch test)
    (of_ok (λ r. Changes (CommandWord verb.If) p line r) (added p (command.Branch test) (line ∷ p.openers)) (refl, refl))) c is
command_changes p line words verb.End c is =
    of_ok (λ d. (q : Draft) → with_command p line d ≡ Ok q → Changes (CommandWord verb.End) p line q) command.Close (closes p line p.openers refl) c is
command_changes p line words verb.Safe c is =
    of_ok (λ d. (q : Draft) → with_command p line d ≡ Ok q → Changes (CommandWord verb.Safe) p line q) command.Safe (added_plain p line command.Safe refl) c is
command_changes p line words verb.Pause c is =
    of_ok (λ d. (q : Draft) → with_command p line d ≡ Ok q → Changes (CommandWord verb.Pause) p line q) command.Pause (added_plain p line command.Pause refl) c is
command_changes p line words verb.Region c is =
    of_ok (λ d. (q : Draft) → with_command p line d ≡ Ok q → Changes (CommandWord verb.Region) p line q) command.Region (added_plain p line command.Region refl) c is

arguments_change : (p : Draft) (line : ℕ) (words : List (List ℕ)) (k : Keyword) (q : Draft) → judged_arguments p line words k ≡ Ok q → Changes k p line q
arguments_change p line words Fuel =
    each_ok (number_at line words 1) (with_fuel p line) (Changes Fuel p line) (λ fuel.
    guarded (is_some p.fuel || fuel == 0 || nat_lt 262144 fuel) (Refused line BadFuel) _ (Changes Fuel p line)
    (of_ok (Changes Fuel p line) (record p { fuel = Some fuel }) (refl, refl)))
arguments_change p line words Object =
    each_ok (name_at (names_of p) line words 1) _ (Changes Object p line) (λ name.
    each_ok (number_at line words 2) _ (Changes Object p line) (λ value.
    guarded (nat_le 1024 (length p.objects)) (Refused line TooMany) _ (Changes Object p line)
    (of_ok (Changes Object p line) (record p { objects = p.objects ++ record { name = name; start = value } ∷ [] }) (refl, refl))))
arguments_change p line words Thread =
    each_ok (all_closed p.openers) _ (Changes Thread p line) (λ _.
    guarded (nat_le 16 (length (threads_of p))) (Refused line TooMany) _ (Changes Thread p line)
    (guarded (nat_lt 262144 (suc (length (threads_of p)) * fuel_of p)) (Refused line BadFuel) _ (Changes Thread p line)
    (of_ok (Changes Thread p line) (record p { started = true; threads = threads_of p; commands = [] }) (refl, refl))))
arguments_change p line words (CommandWord v) = λ q is.
    let c = bind_ok (command_of (names_of p) line words v) (with_command p line) q is in
    command_changes p line words v c.0 c.1 q c.2

-- an accepted line with words changes what its first word says
line_changes : (p q : Draft) (line : ℕ) (first : List ℕ) (others : List (List ℕ)) → judged_line p line (first ∷ others) ≡ Ok q → (k : Keyword) × (first ≡ keyword_word k) × Changes k p line q
line_changes p q line first others is =
    let taken = keyword_ok p q line first others is in
    (taken.word, word_of_keyword first taken.word taken.is_word, arguments_change p line (first ∷ others) taken.word q taken.arguments)

-- a word is the word of one keyword
one_keyword : (k : Keyword) (word : List ℕ) (own : Keyword) → word ≡ keyword_word k → keyword word ≡ Some own → keyword (keyword_word k) ≡ Some k → k ≡ own
one_keyword k word own is found known =
    let same : Some k ≡ Some own = sym known ∙ ap keyword (sym is) ∙ found in
    cc

known : (k : Keyword) → keyword (keyword_word k) ≡ Some k
known Fuel = refl
known Object = refl
known Thread = refl
known (CommandWord verb.Set) = refl
known (CommandWord verb.Copy) = refl
known (CommandWord (verb.Arithmetic operation.Add)) = refl
known (CommandWord (verb.Arithmetic operation.Sub)) = refl
known (CommandWord (verb.Arithmetic operation.Mul)) = refl
known (CommandWord (verb.Arithmetic operation.Xor)) = refl
known (CommandWord (verb.Arithmetic operation.Less)) = refl
known (CommandWord (verb.Arithmetic operation.Same)) = refl
known (CommandWord verb.Read) = refl
known (CommandWord verb.Write) = refl
known (CommandWord verb.Bump) = refl
known (CommandWord verb.While) = refl
known (CommandWord verb.If) = refl
known (CommandWord verb.End) = refl
known (CommandWord verb.Safe) = refl
known (CommandWord verb.Pause) = refl
known (CommandWord verb.Region) = refl

-- a line whose first word is this keyword's
changes_by : (own : Keyword) (p q : Draft) (line : ℕ) (words : List (List ℕ)) → [] ≢ keyword_word own → first_of words ≡ keyword_word own → judged_line p line words ≡ Ok q → Changes own p line q
changes_by own p q line [] some begins is = absurd (some begins)
changes_by own p q line (first ∷ others) some begins is =
    let found = line_changes p q line first others is in
    let same = one_keyword found.0 first own found.1 (ap keyword begins ∙ known own) (known found.0) in
    subst (λ k. Changes k p line q) same found.2

opener_opens : (p q : Draft) (number : ℕ) (line : List ℕ) → IsOpener line → judged_line p number (words_of_line line) ≡ Ok q → q.openers ≡ number ∷ p.openers
opener_opens p q number line (inl begins) is = (changes_by (CommandWord verb.While) p q number (words_of_line line) (λ e. cc) begins is).0
opener_opens p q number line (inr begins) is = (changes_by (CommandWord verb.If) p q number (words_of_line line) (λ e. cc) begins is).0

plain_by : (k : Keyword) (p q : Draft) (number : ℕ) → keyword_word k ≢ codes "while" → keyword_word k ≢ codes "if" → keyword_word k ≢ codes "end" → Changes k p number q → q.openers ≡ p.openers
plain_by Fuel p q number no_while no_if no_end is = is.0
plain_by Object p q number no_while no_if no_end is = is.0
plain_by Thread p q number no_while no_if no_end is = is.0
plain_by (CommandWord verb.Set) p q number no_while no_if no_end is = is.0
plain_by (CommandWord verb.Copy) p q number no_while no_if no_end is = is.0
plain_by (CommandWord (verb.Arithmetic op)) p q number no_while no_if no_end is = is.0
plain_by (CommandWord verb.Read) p q number no_while no_if no_end is = is.0
plain_by (CommandWord verb.Write) p q number no_while no_if no_end is = is.0
plain_by (CommandWord verb.Bump) p q number no_while no_if no_end is = is.0
plain_by (CommandWord verb.While) p q number no_while no_if no_end is = absurd (no_while refl)
plain_by (CommandWord verb.If) p q number no_while no_if no_end is = absurd (no_if refl)
plain_by (CommandWord verb.End) p q number no_while no_if no_end is = absurd (no_end refl)
plain_by (CommandWord verb.Safe) p q number no_while no_if no_end is = is.0
plain_by (CommandWord verb.Pause) p q number no_while no_if no_end is = is.0
plain_by (CommandWord verb.Region) p q number no_while no_if no_end is = is.0

plain_words : (words : List (List ℕ)) (p q : Draft) (number : ℕ) → first_of words ≢ codes "while" → first_of words ≢ codes "if" → first_of words ≢ codes "end" → judged_line p number words ≡ Ok q → q.openers ≡ p.openers
plain_words [] p q number no_while no_if no_end is =
    let same : p ≡ q = cc in
    ap (λ r. r.openers) (sym same)
plain_words (first ∷ others) p q number no_while no_if no_end is =
    let found = line_changes p q number first others is in
    plain_by found.0 p q number (λ e. no_while (found.1 ∙ e)) (λ e. no_if (found.1 ∙ e)) (λ e. no_end (found.1 ∙ e)) found.2

end_closes : (p q : Draft) (number opener : ℕ) (openers : List ℕ) (line : List ℕ) → IsEndLine line → p.openers ≡ opener ∷ openers → judged_line p number (words_of_line line) ≡ Ok q → q.openers ≡ openers
end_closes p q number opener openers line is_end left is =
    (changes_by (CommandWord verb.End) p q number (words_of_line line) (λ e. cc) (ap first_of is_end) is).0 ∙ ap (openers_after (CommandWord verb.End) number) left

goes_on : {A B : Type 0} (r : Result A ScriptFault) (f : A → Result B ScriptFault) (x : A) (y : B) → r ≡ Ok x → f x ≡ Ok y → (r >>= f) ≡ Ok y
goes_on r f x y here next = ap (λ s. s >>= f) here ∙ next

-- where lines are accepted, so is each part of them
pub parted : (front more : List (List ℕ)) (p q : Draft) (number : ℕ) → judged_lines (front ++ more) p number ≡ Ok q → (r : Draft) × (judged_lines front p number ≡ Ok r) × (judged_lines more r (number + length front) ≡ Ok q)
parted [] more p q number is = (p, refl, ap (judged_lines more p) (omega arith) ∙ is)
parted (line ∷ front) more p q number is =
    let here = bind_ok (judged_line p number (words_of_line line)) (λ r. judged_lines (front ++ more) r (suc number)) q is in
    let rest = parted front more here.0 q (suc number) here.2 in
    let at : number + suc (length front) ≡ suc number + length front = omega arith in
    (rest.0, goes_on (judged_line p number (words_of_line line)) (λ s. judged_lines front s (suc number)) here.0 rest.0 here.1 rest.1, ap (judged_lines more rest.0) at ∙ rest.2)

-- what a body opens it ends again
body_keeps : (body : Body) (p q : Draft) (number : ℕ) → IsBody body → judged_lines (lines_of body) p number ≡ Ok q → q.openers ≡ p.openers
body_keeps Nothing p q number is_body is =
    let same : p ≡ q = cc in
    ap (λ r. r.openers) (sym same)
body_keeps (Plain line after) p q number is_body is =
    let here = bind_ok (judged_line p number (words_of_line line)) (λ r. judged_lines (lines_of after) r (suc number)) q is in
    body_keeps after here.0 q (suc number) is_body.1 here.2
    ∙ plain_words (words_of_line line) p here.0 number is_body.0.no_while is_body.0.no_if is_body.0.no_end here.1
body_keeps (Nested opener inside closer after) p q number is_body is =
    let opening = bind_ok (judged_line p number (words_of_line opener)) (λ r. judged_lines (lines_of inside ++ closer ∷ lines_of after) r (suc number)) q is in
    let within = parted (lines_of inside) (closer ∷ lines_of after) opening.0 q (suc number) opening.2 in
    let at = suc number + length (lines_of inside) in
    let close = bind_ok (judged_line within.0 at (words_of_line closer)) (λ r. judged_lines (lines_of after) r (suc at)) q within.2 in
    let opened = body_keeps inside opening.0 within.0 (suc number) is_body.1 within.1 ∙ opener_opens p opening.0 number opener is_body.0 opening.1 in
    body_keeps after close.0 q (suc at) is_body.3 close.2
    ∙ end_closes within.0 close.0 at number p.openers closer is_body.2 opened close.1

-- lines as the first of them and what comes after it
from_first : (IsFirst : List ℕ → Type 0) (front before : List (List ℕ)) (said : Draft) (parts : IsBodyAfter IsFirst front before) → judged_lines before start 1 ≡ Ok said
    → (p q : Draft) × (judged_lines front start 1 ≡ Ok p) × (judged_line p (1 + length front) (words_of_line parts.first) ≡ Ok q) × (judged_lines (lines_of parts.body) q (suc (1 + length front)) ≡ Ok said)
from_first IsFirst front before said parts accepted =
    let all = parted front (parts.first ∷ lines_of parts.body) start said 1 (ap (λ ls. judged_lines ls start 1) (sym parts.cut) ∙ accepted) in
    let at = 1 + length front in
    let here = bind_ok (judged_line all.0 at (words_of_line parts.first)) (λ r. judged_lines (lines_of parts.body) r (suc at)) said all.2 in
    (all.0, here.0, all.1, here.1, here.2)

left_open : (front before : List (List ℕ)) (said : Draft) → LeaveOpen front before → judged_lines before start 1 ≡ Ok said → (openers : List ℕ) × (said.openers ≡ (1 + length front) ∷ openers)
left_open front before said parts accepted =
    let all = from_first IsOpener front before said parts accepted in
    (all.0.openers, body_keeps parts.body all.1 said (suc (1 + length front)) parts.is_body all.4 ∙ opener_opens all.0 all.1 (1 + length front) parts.first parts.is_first all.3)

nothing_left : (openers : List ℕ) (last : ℕ) (said : Draft) (opener : ℕ) → said.openers ≡ opener ∷ openers → judged_end said last ≡ Err (Refused opener Unclosed)
nothing_left openers last said opener left = rw left refl

ended : (text : List ℕ) (said : Draft) (e : ScriptFault) → IsAccepted text said → judged_end said (length (lines text)) ≡ Err e → parsed text ≡ Err e
ended text said e whole fails =
    let valid = valid_bytes text whole.utf8 in
    rw (valid, whole.accepted) fails

pub open_at_end : (text : List ℕ) (said : Draft) (front : List (List ℕ)) → IsAccepted text said → LeaveOpen front (lines text) → parsed text ≡ Err (Refused (1 + length front) Unclosed)
open_at_end text said front whole parts =
    let left = left_open front (lines text) said parts whole.accepted in
    ended text said (Refused (1 + length front) Unclosed) whole (nothing_left left.0 (length (lines text)) said (1 + length front) left.1)

pub open_before_thread : (text : List ℕ) (before : List (List ℕ)) (line : List ℕ) (said : Draft) (front : List (List ℕ)) → IsReached text before line said → IsThreadLine line → LeaveOpen front before → parsed text ≡ Err (Refused (1 + length front) Unclosed)
open_before_thread text before line said front reached is_thread parts =
    let left = left_open front before said parts reached.accepted in
    open_thread text before line said (codes "thread") (1 + length front) left.0 reached is_thread (record { begins = refl; count = refl; placed = refl }) left.1

stays_started : (k : Keyword) (started : Bool) → started ≡ true → started_after k started ≡ true
stays_started Thread started is = refl
stays_started Fuel started is = is
stays_started Object started is = is
stays_started (CommandWord v) started is = is

line_stays : (words : List (List ℕ)) (p q : Draft) (number : ℕ) → judged_line p number words ≡ Ok q → p.started ≡ true → q.started ≡ true
line_stays [] p q number is started =
    let same : p ≡ q = cc in
    ap (λ r. r.started) (sym same) ∙ started
line_stays (first ∷ others) p q number is started =
    let found = line_changes p q number first others is in
    found.2.1 ∙ stays_started found.0 p.started started

lines_stay : (ls : List (List ℕ)) (p q : Draft) (number : ℕ) → judged_lines ls p number ≡ Ok q → p.started ≡ true → q.started ≡ true
lines_stay [] p q number is started =
    let same : p ≡ q = cc in
    ap (λ r. r.started) (sym same) ∙ started
lines_stay (line ∷ more) p q number is started =
    let here = bind_ok (judged_line p number (words_of_line line)) (λ r. judged_lines more r (suc number)) q is in
    lines_stay more here.0 q (suc number) here.2 (line_stays (words_of_line line) p here.0 number here.1 started)

-- where a thread is accepted, nothing before it is open
thread_follows : (p q : Draft) (line : ℕ) → judged_arguments p line (codes "thread" ∷ []) Thread ≡ Ok q → p.openers ≡ []
thread_follows p q line is =
    let closed = bind_ok (all_closed p.openers) (λ _. begun p line) q is in
    closed_ok p.openers closed.1

thread_begins : (p q : Draft) (number : ℕ) (line : List ℕ) → IsThreadLine line → judged_line p number (words_of_line line) ≡ Ok q → (q.openers ≡ []) × (q.started ≡ true)
thread_begins p q number line is_thread is =
    let changes = changes_by Thread p q number (words_of_line line) (λ e. cc) (ap first_of is_thread) is in
    let here : judged_line p number (codes "thread" ∷ []) ≡ Ok q = ap (judged_line p number) (sym is_thread) ∙ is in
    (changes.0 ∙ thread_follows p q number here, changes.1)

pub end_of_nothing : (text : List ℕ) (before : List (List ℕ)) (line : List ℕ) (said : Draft) → IsReached text before line said → IsEndLine line → LeaveNothingOpen before → IsRefused text before EndWithoutOpen
end_of_nothing text before line said reached is_end (front, parts) =
    let all = from_first IsThreadLine front before said parts reached.accepted in
    let begun = thread_begins all.0 all.1 (1 + length front) parts.first parts.is_first all.3 in
    let none = body_keeps parts.body all.1 said (suc (1 + length front)) parts.is_body all.4 ∙ begun.0 in
    let started = lines_stay (lines_of parts.body) all.1 said (suc (1 + length front)) all.4 begun.1 in
    bad_end text before line said (codes "end") reached is_end (record { begins = refl; count = refl; placed = rw started refl }) none

-- only the line of a thread starts one
unless_thread : (k : Keyword) (first : List ℕ) (others : List (List ℕ)) (p q : Draft) → first ≡ keyword_word k → length (first ∷ others) ≡ word_count k → (first ∷ others ≡ codes "thread" ∷ [] → ⊥) → q.started ≡ started_after k p.started → q.started ≡ p.started
unless_thread Thread first [] p q word count other is = absurd (other (ap (λ w. w ∷ []) word))
unless_thread Thread first (a ∷ others) p q word count other is = absurd (omega (arith, count))
unless_thread Fuel first others p q word count other is = is
unless_thread Object first others p q word count other is = is
unless_thread (CommandWord v) first others p q word count other is = is

line_starts_none : (words : List (List ℕ)) (p q : Draft) (number : ℕ) → (words ≡ codes "thread" ∷ [] → ⊥) → judged_line p number words ≡ Ok q → q.started ≡ p.started
line_starts_none [] p q number other is =
    let same : p ≡ q = cc in
    ap (λ r. r.started) (sym same)
line_starts_none (first ∷ others) p q number other is =
    let taken = keyword_ok p q number first others is in
    let changes = arguments_change p number (first ∷ others) taken.word q taken.arguments in
    unless_thread taken.word first others p q (word_of_keyword first taken.word taken.is_word) taken.count other changes.1

lines_start_none : (ls : List (List ℕ)) (p q : Draft) (number : ℕ) → All (λ line. IsThreadLine line → ⊥) ls → judged_lines ls p number ≡ Ok q → q.started ≡ p.started
lines_start_none [] p q number others is =
    let same : p ≡ q = cc in
    ap (λ r. r.started) (sym same)
lines_start_none (line ∷ more) p q number others is =
    let here = bind_ok (judged_line p number (words_of_line line)) (λ r. judged_lines more r (suc number)) q is in
    lines_start_none more here.0 q (suc number) (All-tail (λ l. IsThreadLine l → ⊥) line more others) here.2
    ∙ line_starts_none (words_of_line line) p here.0 number (All-head (λ l. IsThreadLine l → ⊥) line more others) here.1

ends_without : (said : Draft) (last : ℕ) → said.started ≡ false → said.openers ≡ [] → judged_end said last ≡ Err (Refused last NoThread)
ends_without said last none closed = rw (none, closed) refl

pub no_thread : (text : List ℕ) (said : Draft) → IsAccepted text said → All (λ line. IsThreadLine line → ⊥) (lines text) → parsed text ≡ Err (Refused (length (lines text)) NoThread)
no_thread text said whole others =
    let none = lines_start_none (lines text) start said 1 others whole.accepted in
    let valid = lines_valid (lines text) start said 1 whole.accepted start_valid in
    let last = length (lines text) in
    ended text said (Refused last NoThread) whole (ends_without said last none (valid.nothing none).2)
