-- A line whose rules are broken is refused, for the first of its rules that is broken.
use Rattle.std.proofs.Common.{◌≡◌, ◌≢◌, ◌⊎◌, ℕ, suc, ◌+◌, ◌*◌, ◌<◌, ◌≤◌, ◌==◌, ◌||◌, Bool, true, false, not, cond, eqb, List, [], ◌∷◌, ◌++◌, length, Option, Some, None, Result, Ok, Err, refl, ap, sym, ◌∙◌, arith, inl, inr}
use Rattle.std.specs.Prelude.{nat_lt}
use Rattle.std.specs.Option.{ok_or, is_some}
use Rattle.std.proofs.lemmas.Bool.{false≢true, eqb-false, ne_eqb, lt-ltb, le-leb, lt-leb}
use Rattle.octet_model.specs.declared.command.Command.TheVariants as command
use Rattle.octet_model.specs.Name.{is_name}
use Rattle.octet_script.specs.declared.cause.ScriptCause.{ScriptCause}
use Rattle.octet_script.specs.declared.cause.ScriptCause.TheVariants.{UnknownWord, WrongCount, BadNumber, BadName, NameTwice, NoSuchObject, BadRegister, Misplaced, Unclosed, EndWithoutOpen, TooMany, BadFuel}
use Rattle.octet_script.specs.declared.cause.ScriptFault.{ScriptFault}
use Rattle.octet_script.specs.declared.cause.ScriptFault.TheVariants.{Refused}
use Rattle.octet_script.specs.declared.keyword.Keyword.{Keyword}
use Rattle.octet_script.specs.declared.keyword.Keyword.TheVariants.{Fuel, Object, Thread, Command as CommandWord}
use Rattle.octet_script.specs.declared.keyword.Verb.{Verb}
use Rattle.octet_script.specs.declared.keyword.Verb.TheVariants as verb
use Rattle.octet_script.specs.Words.{lines, words_of_line}
use Rattle.octet_script.specs.Spelling.{number_of, register_of, object_named}
use Rattle.octet_script.specs.Parsing.{◌>>=◌, Draft, start, parsed, judged_lines, judged_line, judged_keyword, judged_arguments, keyword, word_count, is_misplaced, names_of, fuel_of, threads_of, command_of, arithmetic_command, number_at, with_command, with_object, with_fuel, with_thread}
use Rattle.octet_script.specs.BrokenRules.{IsReached, IsRefused, IsLineOf, kinds, unless_some, or_else, first_fault}
use Rattle.octet_script.proofs.judging.Judged.{valid_bytes}
use Rattle.octet_script.proofs.judging.Steps.{bind_ok}

cond_yes : {A : Type 0} (b : Bool) (x y : A) → b ≡ true → cond b x y ≡ x
cond_yes true x y is = refl
cond_yes false x y is = absurd (false≢true is)

cond_no : {A : Type 0} (b : Bool) (x y : A) → b ≡ false → cond b x y ≡ y
cond_no true x y is = absurd (false≢true (sym is))
cond_no false x y is = refl

same_eqb : (m n : ℕ) → m ≡ n → eqb m n ≡ true
same_eqb m n same =
    elim (eqb m n) as (λ b. eqb m n ≡ b → b ≡ true) [
      | true ↦ λ is. refl
      | false ↦ λ is. absurd (omega (arith, eqb-false m n is, same))
    ] refl

fails : {A B : Type 0} (r : Result A ScriptFault) (f : A → Result B ScriptFault) (e : ScriptFault) → r ≡ Err e → (r >>= f) ≡ Err e
fails r f e is = ap (λ s. s >>= f) is

-- accepted lines are passed over
passed : (before more : List (List ℕ)) (p q : Draft) (n : ℕ) → judged_lines before p n ≡ Ok q → judged_lines (before ++ more) p n ≡ judged_lines more q (n + length before)
passed [] more p q n is =
    let same : p ≡ q = cc in
    let number : n ≡ n + 0 = omega arith in
    ap (λ r. judged_lines more r n) same ∙ ap (λ k. judged_lines more q k) number
passed (line ∷ before) more p q n is =
    let here = bind_ok (judged_line p n (words_of_line line)) (λ r. judged_lines before r (suc n)) q is in
    let number : suc n + length before ≡ n + suc (length before) = omega arith in
    rw here.1 (passed before more here.0 q (suc n) here.2 ∙ ap (λ k. judged_lines more q k) number)

-- where the line after accepted ones is refused, the text is
refused_at : (text : List ℕ) (before : List (List ℕ)) (line : List ℕ) (said : Draft) (fault : ScriptFault) → IsReached text before line said → judged_line said (1 + length before) (words_of_line line) ≡ Err fault → parsed text ≡ Err fault
refused_at text before line said fault reached refused =
    let valid = valid_bytes text reached.utf8 in
    let line_fails : judged_lines (line ∷ reached.after) said (1 + length before) ≡ Err fault = fails (judged_line said (1 + length before) (words_of_line line)) (λ q. judged_lines reached.after q (suc (1 + length before))) fault refused in
    let all : judged_lines (lines text) start 1 ≡ Err fault = ap (λ ls. judged_lines ls start 1) reached.cut ∙ passed before (line ∷ reached.after) start said 1 reached.accepted ∙ line_fails in
    rw (valid, all) refl

no_keyword : (o : Option Keyword) (e : ScriptFault) (f : Keyword → Result Draft ScriptFault) → o ≡ None → ◌≡◌ {A = Result Draft ScriptFault} (elim o [ None ↦ Err e | Some k ↦ f k ]) (Err e)
no_keyword None e f is = refl
no_keyword (Some k) e f is = absurd cc

a_keyword : (o : Option Keyword) (k : Keyword) (e : ScriptFault) (f : Keyword → Result Draft ScriptFault) → o ≡ Some k → ◌≡◌ {A = Result Draft ScriptFault} (elim o [ None ↦ Err e | Some x ↦ f x ]) (f k)
a_keyword None k e f is = absurd cc
a_keyword (Some x) k e f is =
    let same : x ≡ k = cc in
    ap f same

pub unknown_word : (text : List ℕ) (before : List (List ℕ)) (line : List ℕ) (said : Draft) (first : List ℕ) (arguments : List (List ℕ)) → IsReached text before line said → words_of_line line ≡ first ∷ arguments → keyword first ≡ None → IsRefused text before UnknownWord
unknown_word text before line said first arguments reached words none =
    let n = 1 + length before in
    refused_at text before line said (Refused n UnknownWord) reached
    (ap (judged_line said n) words ∙ no_keyword (keyword first) (Refused n UnknownWord) (judged_keyword said n (first ∷ arguments)) none)

keyword_judged : (said : Draft) (n : ℕ) (line first : List ℕ) (arguments : List (List ℕ)) (k : Keyword) → words_of_line line ≡ first ∷ arguments → keyword first ≡ Some k → judged_line said n (words_of_line line) ≡ judged_keyword said n (first ∷ arguments) k
keyword_judged said n line first arguments k words is = ap (judged_line said n) words ∙ a_keyword (keyword first) k (Refused n UnknownWord) (judged_keyword said n (first ∷ arguments)) is

pub wrong_count : (text : List ℕ) (before : List (List ℕ)) (line : List ℕ) (said : Draft) (first : List ℕ) (arguments : List (List ℕ)) (k : Keyword) → IsReached text before line said → words_of_line line ≡ first ∷ arguments → keyword first ≡ Some k → suc (length arguments) ≢ word_count k → IsRefused text before WrongCount
wrong_count text before line said first arguments k reached words is other =
    let n = 1 + length before in
    refused_at text before line said (Refused n WrongCount) reached
    (keyword_judged said n line first arguments k words is ∙ cond_yes (not (length (first ∷ arguments) == word_count k)) _ _ (ap not (ne_eqb (suc (length arguments)) (word_count k) other)))

counted : (said : Draft) (n : ℕ) (line first : List ℕ) (arguments : List (List ℕ)) (k : Keyword) → words_of_line line ≡ first ∷ arguments → keyword first ≡ Some k → suc (length arguments) ≡ word_count k
    → judged_line said n (words_of_line line) ≡ cond (is_misplaced said.started k) (Err (Refused n Misplaced)) (judged_arguments said n (first ∷ arguments) k)
counted said n line first arguments k words is count =
    keyword_judged said n line first arguments k words is ∙ cond_no (not (length (first ∷ arguments) == word_count k)) _ _ (ap not (same_eqb (suc (length arguments)) (word_count k) count))

pub misplaced : (text : List ℕ) (before : List (List ℕ)) (line : List ℕ) (said : Draft) (first : List ℕ) (arguments : List (List ℕ)) (k : Keyword) → IsReached text before line said → words_of_line line ≡ first ∷ arguments → keyword first ≡ Some k → suc (length arguments) ≡ word_count k → is_misplaced said.started k ≡ true → IsRefused text before Misplaced
misplaced text before line said first arguments k reached words is count place =
    let n = 1 + length before in
    refused_at text before line said (Refused n Misplaced) reached
    (counted said n line first arguments k words is count ∙ cond_yes (is_misplaced said.started k) _ _ place)

placed : (said : Draft) (n : ℕ) (line first : List ℕ) (arguments : List (List ℕ)) (k : Keyword) → words_of_line line ≡ first ∷ arguments → IsLineOf said k first arguments → judged_line said n (words_of_line line) ≡ judged_arguments said n (first ∷ arguments) k
placed said n line first arguments k words is = counted said n line first arguments k words is.begins is.count ∙ cond_no (is_misplaced said.started k) _ _ is.placed

never : {A : Type 0} (x : A) → None ≡ Some x → ⊥
never x is = cc

step : {A B : Type 0} (n : ℕ) (o : Option A) (bad cause : ScriptCause) (later : Option ScriptCause) (f : A → Result B ScriptFault) → or_else (unless_some bad o) later ≡ Some cause → ((x : A) → later ≡ Some cause → f x ≡ Err (Refused n cause)) → (ok_or o (Refused n bad) >>= f) ≡ Err (Refused n cause)
step n (Some x) bad cause later f is go = go x is
step n None bad cause later f is go =
    let same : bad ≡ cause = cc in
    ap (λ (c : ScriptCause). Err (Refused n c)) same

-- the last argument
last_step : {A B : Type 0} (n : ℕ) (o : Option A) (bad cause : ScriptCause) (f : A → Result B ScriptFault) → or_else (unless_some bad o) None ≡ Some cause → (ok_or o (Refused n bad) >>= f) ≡ Err (Refused n cause)
last_step n o bad cause f is = step n o bad cause None f is (λ x none. absurd (never cause none))

name_step : {B : Type 0} (n : ℕ) (good twice : Bool) (word : List ℕ) (cause : ScriptCause) (later : Option ScriptCause) (f : List ℕ → Result B ScriptFault) → or_else (cond (not good) (Some BadName) (cond twice (Some NameTwice) None)) later ≡ Some cause → (later ≡ Some cause → f word ≡ Err (Refused n cause)) → (cond (not good) (Err (Refused n BadName)) (cond twice (Err (Refused n NameTwice)) (Ok word)) >>= f) ≡ Err (Refused n cause)
name_step n false twice word cause later f is go =
    let same : BadName ≡ cause = cc in
    ap (λ (c : ScriptCause). Err (Refused n c)) same
name_step n true true word cause later f is go =
    let same : NameTwice ≡ cause = cc in
    ap (λ (c : ScriptCause). Err (Refused n c)) same
name_step n true false word cause later f is go = go is

with_one : (P : List (List ℕ) → Type 0) → ((a : List ℕ) → P (a ∷ [])) → (l : List (List ℕ)) → suc (length l) ≡ 2 → P l
with_one P all [] count = absurd (omega (arith, count))
with_one P all (a ∷ []) count = all a
with_one P all (a ∷ b ∷ l) count = absurd (omega (arith, count))

with_two : (P : List (List ℕ) → Type 0) → ((a b : List ℕ) → P (a ∷ b ∷ [])) → (l : List (List ℕ)) → suc (length l) ≡ 3 → P l
with_two P all [] count = absurd (omega (arith, count))
with_two P all (a ∷ []) count = absurd (omega (arith, count))
with_two P all (a ∷ b ∷ []) count = all a b
with_two P all (a ∷ b ∷ d ∷ l) count = absurd (omega (arith, count))

with_three : (P : List (List ℕ) → Type 0) → ((a b d : List ℕ) → P (a ∷ b ∷ d ∷ [])) → (l : List (List ℕ)) → suc (length l) ≡ 4 → P l
with_three P all [] count = absurd (omega (arith, count))
with_three P all (a ∷ []) count = absurd (omega (arith, count))
with_three P all (a ∷ b ∷ []) count = absurd (omega (arith, count))
with_three P all (a ∷ b ∷ d ∷ []) count = all a b d
with_three P all (a ∷ b ∷ d ∷ e ∷ l) count = absurd (omega (arith, count))

command_refused : (names : List (List ℕ)) (n : ℕ) (first : List ℕ) (v : Verb) (arguments : List (List ℕ)) (cause : ScriptCause) → suc (length arguments) ≡ word_count (CommandWord v) → first_fault names (kinds (CommandWord v)) arguments ≡ Some cause → command_of names n (first ∷ arguments) v ≡ Err (Refused n cause)
command_refused names n first verb.Set arguments cause count is =
    with_two (λ l. first_fault names (kinds (CommandWord verb.Set)) l ≡ Some cause → command_of names n (first ∷ l) verb.Set ≡ Err (Refused n cause))
    (λ a b e. step n (register_of a) BadRegister cause _ _ e (λ to later. last_step n (number_of b) BadNumber cause (λ number. Ok (command.Set to number)) later)) arguments count is
command_refused names n first verb.Copy arguments cause count is =
    with_two (λ l. first_fault names (kinds (CommandWord verb.Copy)) l ≡ Some cause → command_of names n (first ∷ l) verb.Copy ≡ Err (Refused n cause))
    (λ a b e. step n (register_of a) BadRegister cause _ _ e (λ to later. last_step n (register_of b) BadRegister cause (λ from. Ok (command.Copy to from)) later)) arguments count is
command_refused names n first (verb.Arithmetic op) arguments cause count is =
    with_three (λ l. first_fault names (kinds (CommandWord (verb.Arithmetic op))) l ≡ Some cause → command_of names n (first ∷ l) (verb.Arithmetic op) ≡ Err (Refused n cause))
    (λ a b d e. step n (register_of a) BadRegister cause _ _ e (λ to more. step n (register_of b) BadRegister cause _ _ more (λ left later. last_step n (register_of d) BadRegister cause (λ right. Ok (arithmetic_command op to left right)) later))) arguments count is
command_refused names n first verb.Read arguments cause count is =
    with_two (λ l. first_fault names (kinds (CommandWord verb.Read)) l ≡ Some cause → command_of names n (first ∷ l) verb.Read ≡ Err (Refused n cause))
    (λ a b e. step n (register_of a) BadRegister cause _ _ e (λ to later. last_step n (object_named names b) NoSuchObject cause (λ object. Ok (command.Read to object)) later)) arguments count is
command_refused names n first verb.Write arguments cause count is =
    with_two (λ l. first_fault names (kinds (CommandWord verb.Write)) l ≡ Some cause → command_of names n (first ∷ l) verb.Write ≡ Err (Refused n cause))
    (λ a b e. step n (object_named names a) NoSuchObject cause _ _ e (λ object later. last_step n (register_of b) BadRegister cause (λ from. Ok (command.Write object from)) later)) arguments count is
command_refused names n first verb.Bump arguments cause count is =
    with_two (λ l. first_fault names (kinds (CommandWord verb.Bump)) l ≡ Some cause → command_of names n (first ∷ l) verb.Bump ≡ Err (Refused n cause))
    (λ a b e. step n (object_named names a) NoSuchObject cause _ _ e (λ object later. last_step n (register_of b) BadRegister cause (λ from. Ok (command.Bump object from)) later)) arguments count is
command_refused names n first verb.While arguments cause count is =
    with_one (λ l. first_fault names (kinds (CommandWord verb.While)) l ≡ Some cause → command_of names n (first ∷ l) verb.While ≡ Err (Refused n cause))
    (λ a e. last_step n (register_of a) BadRegister cause (λ test. Ok (command.Loop test)) e) arguments count is
command_refused names n first verb.If arguments cause count is =
    with_one (λ l. first_fault names (kinds (CommandWord verb.If)) l ≡ Some cause → command_of names n (first ∷ l) verb.If ≡ Err (Refused n cause))
    (λ a e. last_step n (register_of a) BadRegister cause (λ test. Ok (command.Branch test)) e) arguments count is
command_refused names n first verb.End arguments cause count is = absurd (never cause is)
command_refused names n first verb.Safe arguments cause count is = absurd (never cause is)
command_refused names n first verb.Pause arguments cause count is = absurd (never cause is)
command_refused names n first verb.Region arguments cause count is = absurd (never cause is)

arguments_refused : (said : Draft) (n : ℕ) (first : List ℕ) (arguments : List (List ℕ)) (k : Keyword) (cause : ScriptCause) → suc (length arguments) ≡ word_count k → first_fault (names_of said) (kinds k) arguments ≡ Some cause → judged_arguments said n (first ∷ arguments) k ≡ Err (Refused n cause)
arguments_refused said n first arguments Fuel cause count is =
    with_one (λ l. first_fault (names_of said) (kinds Fuel) l ≡ Some cause → judged_arguments said n (first ∷ l) Fuel ≡ Err (Refused n cause))
    (λ a e. last_step n (number_of a) BadNumber cause (with_fuel said n) e) arguments count is
arguments_refused said n first arguments Object cause count is =
    with_two (λ l. first_fault (names_of said) (kinds Object) l ≡ Some cause → judged_arguments said n (first ∷ l) Object ≡ Err (Refused n cause))
    (λ a b e. name_step n (is_name a) (is_some (object_named (names_of said) a)) a cause (or_else (unless_some BadNumber (number_of b)) None) (λ name. number_at n (first ∷ a ∷ b ∷ []) 2 >>= λ value. with_object said n name value) e
    (λ later. last_step n (number_of b) BadNumber cause (λ value. with_object said n a value) later)) arguments count is
arguments_refused said n first arguments Thread cause count is = absurd (never cause is)
arguments_refused said n first arguments (CommandWord v) cause count is =
    fails (command_of (names_of said) n (first ∷ arguments) v) (with_command said n) (Refused n cause) (command_refused (names_of said) n first v arguments cause count is)

pub bad_argument : (text : List ℕ) (before : List (List ℕ)) (line : List ℕ) (said : Draft) (first : List ℕ) (arguments : List (List ℕ)) (k : Keyword) (cause : ScriptCause) → IsReached text before line said → words_of_line line ≡ first ∷ arguments → IsLineOf said k first arguments → first_fault (names_of said) (kinds k) arguments ≡ Some cause → IsRefused text before cause
bad_argument text before line said first arguments k cause reached words is fault =
    let n = 1 + length before in
    refused_at text before line said (Refused n cause) reached (placed said n line first arguments k words is ∙ arguments_refused said n first arguments k cause is.count fault)

some_or : (o : Option ℕ) (x : ℕ) (e : ScriptFault) → o ≡ Some x → ok_or o e ≡ Ok x
some_or o x e is = ap (λ (p : Option ℕ). ok_or p e) is

bad_fuels : (given : Bool) (fuel : ℕ) → (given ≡ true) ⊎ ((fuel ≡ 0) ⊎ (262144 < fuel)) → (given || fuel == 0 || nat_lt 262144 fuel) ≡ true
bad_fuels given fuel (inl twice) = rw twice refl
bad_fuels true fuel (inr why) = refl
bad_fuels false fuel (inr (inl none)) = rw none refl
bad_fuels false fuel (inr (inr many)) = rw (lt-ltb 262144 fuel many) (elim (fuel == 0) as (λ b. (b || true) ≡ true) [ true ↦ refl | false ↦ refl ])

pub bad_fuel : (text : List ℕ) (before : List (List ℕ)) (line : List ℕ) (said : Draft) (first word : List ℕ) (fuel : ℕ) → IsReached text before line said → words_of_line line ≡ first ∷ word ∷ [] → IsLineOf said Fuel first (word ∷ []) → number_of word ≡ Some fuel → (is_some said.fuel ≡ true) ⊎ ((fuel ≡ 0) ⊎ (262144 < fuel)) → IsRefused text before BadFuel
bad_fuel text before line said first word fuel reached words is number why =
    let n = 1 + length before in
    refused_at text before line said (Refused n BadFuel) reached
    (placed said n line first (word ∷ []) Fuel words is
    ∙ ap (λ r. r >>= with_fuel said n) (some_or (number_of word) fuel (Refused n BadNumber) number)
    ∙ cond_yes (is_some said.fuel || fuel == 0 || nat_lt 262144 fuel) _ _ (bad_fuels (is_some said.fuel) fuel why))

end_alone : (said : Draft) (n : ℕ) → said.openers ≡ [] → with_command said n command.Close ≡ Err (Refused n EndWithoutOpen)
end_alone said n none = rw none refl

pub bad_end : (text : List ℕ) (before : List (List ℕ)) (line : List ℕ) (said : Draft) (first : List ℕ) → IsReached text before line said → words_of_line line ≡ first ∷ [] → IsLineOf said (CommandWord verb.End) first [] → said.openers ≡ [] → IsRefused text before EndWithoutOpen
bad_end text before line said first reached words is none =
    let n = 1 + length before in
    refused_at text before line said (Refused n EndWithoutOpen) reached (placed said n line first [] (CommandWord verb.End) words is ∙ end_alone said n none)

thread_open : (said : Draft) (n opener : ℕ) (openers : List ℕ) → said.openers ≡ opener ∷ openers → with_thread said n ≡ Err (Refused opener Unclosed)
thread_open said n opener openers left = rw left refl

pub open_thread : (text : List ℕ) (before : List (List ℕ)) (line : List ℕ) (said : Draft) (first : List ℕ) (opener : ℕ) (openers : List ℕ) → IsReached text before line said → words_of_line line ≡ first ∷ [] → IsLineOf said Thread first [] → said.openers ≡ opener ∷ openers → parsed text ≡ Err (Refused opener Unclosed)
open_thread text before line said first opener openers reached words is left =
    refused_at text before line said (Refused opener Unclosed) reached (placed said (1 + length before) line first [] Thread words is ∙ thread_open said (1 + length before) opener openers left)

pub many_threads : (text : List ℕ) (before : List (List ℕ)) (line : List ℕ) (said : Draft) (first : List ℕ) → IsReached text before line said → words_of_line line ≡ first ∷ [] → IsLineOf said Thread first [] → said.openers ≡ [] → 16 ≤ length (threads_of said) → IsRefused text before TooMany
many_threads text before line said first reached words is none many =
    let n = 1 + length before in
    let here : with_thread said n ≡ Err (Refused n TooMany) = rw (none, le-leb 16 (length (threads_of said)) many) refl in
    refused_at text before line said (Refused n TooMany) reached (placed said n line first [] Thread words is ∙ here)

pub fuel_of_all : (text : List ℕ) (before : List (List ℕ)) (line : List ℕ) (said : Draft) (first : List ℕ) → IsReached text before line said → words_of_line line ≡ first ∷ [] → IsLineOf said Thread first [] → said.openers ≡ [] → length (threads_of said) < 16 → 262144 < suc (length (threads_of said)) * fuel_of said → IsRefused text before BadFuel
fuel_of_all text before line said first reached words is none few much =
    let n = 1 + length before in
    let here : with_thread said n ≡ Err (Refused n BadFuel) = rw (none, lt-leb 16 (length (threads_of said)) few, lt-ltb 262144 (suc (length (threads_of said)) * fuel_of said) much) refl in
    refused_at text before line said (Refused n BadFuel) reached (placed said n line first [] Thread words is ∙ here)

none≢some : {A : Type 0} (x : A) → Some x ≡ None → ⊥
none≢some x is = cc

good_step : {A B : Type 0} (o : Option A) (bad : ScriptCause) (fault : ScriptFault) (later : Option ScriptCause) (f : A → Result B ScriptFault) (r : Result B ScriptFault) → or_else (unless_some bad o) later ≡ None → ((x : A) → f x ≡ r) → (ok_or o fault >>= f) ≡ r
good_step (Some x) bad fault later f r is go = go x
good_step None bad fault later f r is go = absurd (none≢some bad is)

good_name : {B : Type 0} (n : ℕ) (good twice : Bool) (word : List ℕ) (later : Option ScriptCause) (f : List ℕ → Result B ScriptFault) (r : Result B ScriptFault) → or_else (cond (not good) (Some BadName) (cond twice (Some NameTwice) None)) later ≡ None → (later ≡ None → f word ≡ r) → (cond (not good) (Err (Refused n BadName)) (cond twice (Err (Refused n NameTwice)) (Ok word)) >>= f) ≡ r
good_name n false twice word later f r is go = absurd (none≢some BadName is)
good_name n true true word later f r is go = absurd (none≢some NameTwice is)
good_name n true false word later f r is go = go is

object_over : (said : Draft) (n : ℕ) (name : List ℕ) (value : ℕ) → 1024 ≤ length said.objects → with_object said n name value ≡ Err (Refused n TooMany)
object_over said n name value many = rw (le-leb 1024 (length said.objects) many) refl

object_arguments : (said : Draft) (n : ℕ) (first : List ℕ) (arguments : List (List ℕ)) → suc (length arguments) ≡ word_count Object → first_fault (names_of said) (kinds Object) arguments ≡ None → 1024 ≤ length said.objects → judged_arguments said n (first ∷ arguments) Object ≡ Err (Refused n TooMany)
object_arguments said n first arguments count is many =
    with_two (λ l. first_fault (names_of said) (kinds Object) l ≡ None → judged_arguments said n (first ∷ l) Object ≡ Err (Refused n TooMany))
    (λ a b e. good_name n (is_name a) (is_some (object_named (names_of said) a)) a (or_else (unless_some BadNumber (number_of b)) None) (λ name. number_at n (first ∷ a ∷ b ∷ []) 2 >>= λ value. with_object said n name value) (Err (Refused n TooMany)) e
    (λ later. good_step (number_of b) BadNumber (Refused n BadNumber) None (λ value. with_object said n a value) (Err (Refused n TooMany)) later (λ value. object_over said n a value many))) arguments count is

pub many_objects : (text : List ℕ) (before : List (List ℕ)) (line : List ℕ) (said : Draft) (first : List ℕ) (arguments : List (List ℕ)) → IsReached text before line said → words_of_line line ≡ first ∷ arguments → IsLineOf said Object first arguments → first_fault (names_of said) (kinds Object) arguments ≡ None → 1024 ≤ length said.objects → IsRefused text before TooMany
many_objects text before line said first arguments reached words is good many =
    let n = 1 + length before in
    refused_at text before line said (Refused n TooMany) reached (placed said n line first arguments Object words is ∙ object_arguments said n first arguments is.count good many)
