-- A text that is judged good spells what it says.
use Rattle.std.proofs.Common.{◌≡◌, ℕ, zero, suc, ◌*◌, ◌≤◌, ◌==◌, ◌||◌, Bool, true, false, cond, List, [], ◌∷◌, ◌++◌, map, length, take, Option, Some, None, Ok, Err, refl, ap, sym, ◌∙◌, subst, arith, append_assoc, take_all}
use Rattle.std.specs.Prelude.{codes, nat_lt, nat_le, unwrap_or}
use Rattle.std.specs.Option.{option_to_list, is_some}
use Rattle.std.specs.List.{AllZip, flat_map, filter}
use Rattle.std.specs.Str.{IsUtf8, is_utf8, bytes_eq}
use Rattle.std.specs.Str.Lossy.{utf8_valid_len, valid_len_up_to}
use Rattle.std.proofs.lemmas.Str.{IsUtf8-from_is_utf8}
use Rattle.std.proofs.lemmas.Bool.{ltb-false}
use Rattle.std.proofs.lemmas.List.{map-append, append-nil}
use Rattle.std.proofs.lemmas.List.Concat.{flat_map-append}
use Rattle.octet_model.specs.declared.command.Command.{Command}
use Rattle.octet_model.specs.declared.command.Command.TheVariants as command
use Rattle.octet_model.specs.Name.{IsName, is_name}
use Rattle.octet_script.specs.declared.cause.ScriptFault.{ScriptFault}
use Rattle.octet_script.specs.declared.cause.ScriptFault.TheVariants.{Refused}
use Rattle.octet_script.specs.declared.cause.ScriptCause.TheVariants.{BadNumber, BadRegister, NoSuchObject, NoThread, BadFuel, TooMany}
use Rattle.octet_script.specs.declared.keyword.Keyword.{Keyword}
use Rattle.octet_script.specs.declared.keyword.Keyword.TheVariants.{Fuel, Object as ObjectWord, Thread, Command as CommandWord}
use Rattle.octet_script.specs.declared.keyword.Verb.{Verb}
use Rattle.octet_script.specs.declared.keyword.Verb.TheVariants as verb
use Rattle.octet_script.specs.declared.keyword.Arithmetic.{Arithmetic}
use Rattle.octet_script.specs.declared.keyword.Arithmetic.TheVariants as operation
use Rattle.octet_script.specs.Words.{lines, words_of_line, is_filled}
use Rattle.octet_script.specs.Spelling.{Word, Register, IsPart, Head, FuelHead, ObjectHead, head_form, command_form, thread_forms, script_forms, fuels, declared, Declaration, declared_names, IsFuel, Contents, AreForms, SpellsContents, number_of, register_of, object_named}
use Rattle.octet_script.specs.Parsing.{◌>>=◌, Draft, start, keywords, named_in, keyword, word_count, is_misplaced, parsed, judged_bytes, judged_end, judged_lines, judged_line, judged_arguments, number_at, register_at, object_at, name_at, word_at, with_fuel, with_object, with_command, begun, added, closed, all_closed, command_of, arithmetic_command, threads_of, contents_of, fuel_of, names_of}
use Rattle.octet_script.specs.Building.{IsValidSoFar}
use Rattle.octet_script.proofs.judging.Steps.{bind_ok, guard_ok, ok_or_ok, not_false, none_of, either_false, same_bytes, name_new, keyword_ok}
use Rattle.octet_script.proofs.judging.Valid.{start_valid, line_valid, none_yet, is_plain, with_plain}

-- the word of a keyword
abbrev pub arithmetic_word : Arithmetic → List ℕ
arithmetic_word operation.Add = codes "add"
arithmetic_word operation.Sub = codes "sub"
arithmetic_word operation.Mul = codes "mul"
arithmetic_word operation.Xor = codes "xor"
arithmetic_word operation.Less = codes "less"
arithmetic_word operation.Same = codes "same"

abbrev pub keyword_word : Keyword → List ℕ
keyword_word Fuel = codes "fuel"
keyword_word ObjectWord = codes "object"
keyword_word Thread = codes "thread"
keyword_word (CommandWord verb.Set) = codes "set"
keyword_word (CommandWord verb.Copy) = codes "copy"
keyword_word (CommandWord verb.Read) = codes "read"
keyword_word (CommandWord verb.Write) = codes "write"
keyword_word (CommandWord verb.Bump) = codes "bump"
keyword_word (CommandWord verb.While) = codes "while"
keyword_word (CommandWord verb.If) = codes "if"
keyword_word (CommandWord verb.End) = codes "end"
keyword_word (CommandWord verb.Safe) = codes "safe"
keyword_word (CommandWord verb.Pause) = codes "pause"
keyword_word (CommandWord verb.Region) = codes "region"
keyword_word (CommandWord (verb.Arithmetic op)) = arithmetic_word op

-- each keyword of the list stands beside its word
abbrev AreWords : List (List ℕ × Keyword) → Type 0
AreWords [] = Unit {0}
AreWords ((own, k) ∷ more) = (own ≡ keyword_word k) × AreWords more

named_step : (own word : List ℕ) (k found : Keyword) (rest : Option Keyword) (q : Bool) → bytes_eq word own ≡ q → own ≡ keyword_word k → (rest ≡ Some found → word ≡ keyword_word found) → cond q (Some k) rest ≡ Some found → word ≡ keyword_word found
named_step own word k found rest true same is ih e =
    let alike : k ≡ found = cc in
    same_bytes word own same ∙ is ∙ ap keyword_word alike
named_step own word k found rest false same is ih e = ih e

named_word : (table : List (List ℕ × Keyword)) (word : List ℕ) (found : Keyword) → AreWords table → named_in table word ≡ Some found → word ≡ keyword_word found
named_word [] word found are e = cc
named_word ((own, k) ∷ more) word found are e = named_step own word k found (named_in more word) (bytes_eq word own) refl are.0 (named_word more word found are.1) e

pub word_of_keyword : (word : List ℕ) (k : Keyword) → keyword word ≡ Some k → word ≡ keyword_word k
word_of_keyword word k e = named_word keywords word k ((refl, (refl, (refl, (refl, (refl, (refl, (refl, (refl, (refl, (refl, (refl, (refl, (refl, (refl, (refl, (refl, (refl, (refl, (refl, (refl, tt))))))))))))))))))))) e

operation_form : (op : Arithmetic) (to left right : ℕ) → command_form (arithmetic_command op to left right) ≡ Word (arithmetic_word op) ∷ Register to ∷ Register left ∷ Register right ∷ []
operation_form operation.Add to left right = refl
operation_form operation.Sub to left right = refl
operation_form operation.Mul to left right = refl
operation_form operation.Xor to left right = refl
operation_form operation.Less to left right = refl
operation_form operation.Same to left right = refl

register_part : (line : ℕ) (words : List (List ℕ)) (place r : ℕ) → register_at line words place ≡ Ok r → register_of (word_at words place) ≡ Some r
register_part line words place r is = ok_or_ok (register_of (word_at words place)) (Refused line BadRegister) r is

number_part : (line : ℕ) (words : List (List ℕ)) (place n : ℕ) → number_at line words place ≡ Ok n → number_of (word_at words place) ≡ Some n
number_part line words place n is = ok_or_ok (number_of (word_at words place)) (Refused line BadNumber) n is

object_part : (names : List (List ℕ)) (line : ℕ) (words : List (List ℕ)) (place o : ℕ) → object_at names line words place ≡ Ok o → object_named names (word_at words place) ≡ Some o
object_part names line words place o is = ok_or_ok (object_named names (word_at words place)) (Refused line NoSuchObject) o is

-- the words of a command that was read
command_written : (names : List (List ℕ)) (line : ℕ) (first : List ℕ) (others : List (List ℕ)) (v : Verb) (c : Command) → first ≡ keyword_word (CommandWord v) → length (first ∷ others) ≡ word_count (CommandWord v) → command_of names line (first ∷ others) v ≡ Ok c → AllZip (IsPart names) (command_form c) (first ∷ others)
command_written names line first (a ∷ b ∷ []) verb.Set c word count is =
    let words = first ∷ a ∷ b ∷ [] in
    let to = bind_ok (register_at line words 1) (λ to. number_at line words 2 >>= λ n. Ok (command.Set to n)) c is in
    let n = bind_ok (number_at line words 2) (λ n. Ok (command.Set to.0 n)) c to.2 in
    let same : command.Set to.0 n.0 ≡ c = cc in
    subst (λ d. AllZip (IsPart names) (command_form d) words) same (word, (register_part line words 1 to.0 to.1, (number_part line words 2 n.0 n.1, tt)))
command_written names line first ([]) verb.Set c word count is = absurd (omega arith)
command_written names line first (a ∷ []) verb.Set c word count is = absurd (omega arith)
command_written names line first (a ∷ b ∷ e ∷ more) verb.Set c word count is = absurd (omega arith)
command_written names line first (a ∷ b ∷ []) verb.Copy c word count is =
    let words = first ∷ a ∷ b ∷ [] in
    let to = bind_ok (register_at line words 1) (λ to. register_at line words 2 >>= λ from. Ok (command.Copy to from)) c is in
    let from = bind_ok (register_at line words 2) (λ from. Ok (command.Copy to.0 from)) c to.2 in
    let same : command.Copy to.0 from.0 ≡ c = cc in
    subst (λ d. AllZip (IsPart names) (command_form d) words) same (word, (register_part line words 1 to.0 to.1, (register_part line words 2 from.0 from.1, tt)))
command_written names line first ([]) verb.Copy c word count is = absurd (omega arith)
command_written names line first (a ∷ []) verb.Copy c word count is = absurd (omega arith)
command_written names line first (a ∷ b ∷ e ∷ more) verb.Copy c word count is = absurd (omega arith)
command_written names line first (a ∷ b ∷ e ∷ []) (verb.Arithmetic op) c word count is =
    let words = first ∷ a ∷ b ∷ e ∷ [] in
    let to = bind_ok (register_at line words 1) (λ to. register_at line words 2 >>= λ left. register_at line words 3 >>= λ right. Ok (arithmetic_command op to left right)) c is in
    let left = bind_ok (register_at line words 2) (λ left. register_at line words 3 >>= λ right. Ok (arithmetic_command op to.0 left right)) c to.2 in
    let right = bind_ok (register_at line words 3) (λ right. Ok (arithmetic_command op to.0 left.0 right)) c left.2 in
    let same : arithmetic_command op to.0 left.0 right.0 ≡ c = cc in
    let form = sym (operation_form op to.0 left.0 right.0) ∙ ap command_form same in
    subst (λ parts. AllZip (IsPart names) parts words) form (word, (register_part line words 1 to.0 to.1, (register_part line words 2 left.0 left.1, (register_part line words 3 right.0 right.1, tt))))
command_written names line first ([]) (verb.Arithmetic op) c word count is = absurd (omega arith)
command_written names line first (a ∷ []) (verb.Arithmetic op) c word count is = absurd (omega arith)
command_written names line first (a ∷ b ∷ []) (verb.Arithmetic op) c word count is = absurd (omega arith)
command_written names line first (a ∷ b ∷ e ∷ f ∷ more) (verb.Arithmetic op) c word count is = absurd (omega arith)
command_written names line first (a ∷ b ∷ []) verb.Read c word count is =
    let words = first ∷ a ∷ b ∷ [] in
    let to = bind_ok (register_at line words 1) (λ to. object_at names line words 2 >>= λ object. Ok (command.Read to object)) c is in
    let object = bind_ok (object_at names line words 2) (λ object. Ok (command.Read to.0 object)) c to.2 in
    let same : command.Read to.0 object.0 ≡ c = cc in
    subst (λ d. AllZip (IsPart names) (command_form d) words) same (word, (register_part line words 1 to.0 to.1, (object_part names line words 2 object.0 object.1, tt)))
command_written names line first ([]) verb.Read c word count is = absurd (omega arith)
command_written names line first (a ∷ []) verb.Read c word count is = absurd (omega arith)
command_written names line first (a ∷ b ∷ e ∷ more) verb.Read c word count is = absurd (omega arith)
command_written names line first (a ∷ b ∷ []) verb.Write c word count is =
    let words = first ∷ a ∷ b ∷ [] in
    let object = bind_ok (object_at names line words 1) (λ object. register_at line words 2 >>= λ from. Ok (command.Write object from)) c is in
    let from = bind_ok (register_at line words 2) (λ from. Ok (command.Write object.0 from)) c object.2 in
    let same : command.Write object.0 from.0 ≡ c = cc in
    subst (λ d. AllZip (IsPart names) (command_form d) words) same (word, (object_part names line words 1 object.0 object.1, (register_part line words 2 from.0 from.1, tt)))
command_written names line first ([]) verb.Write c word count is = absurd (omega arith)
command_written names line first (a ∷ []) verb.Write c word count is = absurd (omega arith)
command_written names line first (a ∷ b ∷ e ∷ more) verb.Write c word count is = absurd (omega arith)
command_written names line first (a ∷ b ∷ []) verb.Bump c word count is =
    let words = first ∷ a ∷ b ∷ [] in
    let object = bind_ok (object_at names line words 1) (λ object. register_at line words 2 >>= λ from. Ok (command.Bump object from)) c is in
    let from = bind_ok (register_at line words 2) (λ from. Ok (command.Bump object.0 from)) c object.2 in
    let same : command.Bump object.0 from.0 ≡ c = cc in
    subst (λ d. AllZip (IsPart names) (command_form d) words) same (word, (object_part names line words 1 object.0 object.1, (register_part line words 2 from.0 from.1, tt)))
command_written names line first ([]) verb.Bump c word count is = absurd (omega arith)
command_written names line first (a ∷ []) verb.Bump c word count is = absurd (omega arith)
command_written names line first (a ∷ b ∷ e ∷ more) verb.Bump c word count is = absurd (omega arith)
command_written names line first (a ∷ []) verb.While c word count is =
    let words = first ∷ a ∷ [] in
    let test = bind_ok (register_at line words 1) (λ test. Ok (command.Loop test)) c is in
    let same : command.Loop test.0 ≡ c = cc in
    subst (λ d. AllZip (IsPart names) (command_form d) words) same (word, (register_part line words 1 test.0 test.1, tt))
command_written names line first ([]) verb.While c word count is = absurd (omega arith)
command_written names line first (a ∷ b ∷ more) verb.While c word count is = absurd (omega arith)
command_written names line first (a ∷ []) verb.If c word count is =
    let words = first ∷ a ∷ [] in
    let test = bind_ok (register_at line words 1) (λ test. Ok (command.Branch test)) c is in
    let same : command.Branch test.0 ≡ c = cc in
    subst (λ d. AllZip (IsPart names) (command_form d) words) same (word, (register_part line words 1 test.0 test.1, tt))
command_written names line first ([]) verb.If c word count is = absurd (omega arith)
command_written names line first (a ∷ b ∷ more) verb.If c word count is = absurd (omega arith)
command_written names line first [] verb.End c word count is =
    let same : command.Close ≡ c = cc in
    subst (λ d. AllZip (IsPart names) (command_form d) (first ∷ [])) same (word, tt)
command_written names line first (a ∷ more) verb.End c word count is = absurd (omega arith)
command_written names line first [] verb.Safe c word count is =
    let same : command.Safe ≡ c = cc in
    subst (λ d. AllZip (IsPart names) (command_form d) (first ∷ [])) same (word, tt)
command_written names line first (a ∷ more) verb.Safe c word count is = absurd (omega arith)
command_written names line first [] verb.Pause c word count is =
    let same : command.Pause ≡ c = cc in
    subst (λ d. AllZip (IsPart names) (command_form d) (first ∷ [])) same (word, tt)
command_written names line first (a ∷ more) verb.Pause c word count is = absurd (omega arith)
command_written names line first [] verb.Region c word count is =
    let same : command.Region ≡ c = cc in
    subst (λ d. AllZip (IsPart names) (command_form d) (first ∷ [])) same (word, tt)
command_written names line first (a ∷ more) verb.Region c word count is = absurd (omega arith)

-- the lines so far are written for what they have said
pub record Told (p : Draft) (said : List (List (List ℕ))) : Type 0 where
  pub heads : List Head
  pub fuel : fuels heads ≡ option_to_list p.fuel
  pub objects : declared heads ≡ p.objects
  pub lines : AreForms (names_of p) (script_forms heads (threads_of p)) said

all_push : {A B : Type 0} (R : A → B → Type 0) (xs : List A) (ys : List B) (x : A) (y : B) → AllZip R xs ys → R x y → AllZip R (xs ++ x ∷ []) (ys ++ y ∷ [])
all_push R [] [] x y all one = (one, tt)
all_push R [] (b ∷ ys) x y all one = absurd all
all_push R (a ∷ xs) [] x y all one = absurd all
all_push R (a ∷ xs) (b ∷ ys) x y all one = (all.0, all_push R xs ys x y all.1 one)

-- a head's line is written alike whatever the names are
head_any : (names others : List (List ℕ)) (h : Head) (words : List (List ℕ)) → AllZip (IsPart names) (head_form h) words → AllZip (IsPart others) (head_form h) words
head_any names others (FuelHead fuel) [] all = all
head_any names others (FuelHead fuel) (a ∷ []) all = all
head_any names others (FuelHead fuel) (a ∷ b ∷ []) all = all
head_any names others (FuelHead fuel) (a ∷ b ∷ e ∷ more) all = all
head_any names others (ObjectHead object) [] all = all
head_any names others (ObjectHead object) (a ∷ []) all = all
head_any names others (ObjectHead object) (a ∷ b ∷ []) all = all
head_any names others (ObjectHead object) (a ∷ b ∷ e ∷ []) all = all
head_any names others (ObjectHead object) (a ∷ b ∷ e ∷ f ∷ more) all = all

heads_any : (names others : List (List ℕ)) (heads : List Head) (said : List (List (List ℕ))) → AreForms names (map head_form heads) said → AreForms others (map head_form heads) said
heads_any names others [] [] all = all
heads_any names others [] (s ∷ said) all = all
heads_any names others (h ∷ heads) [] all = all
heads_any names others (h ∷ heads) (s ∷ said) all = (head_any names others h s all.0, heads_any names others heads said all.1)

fuels_push : (heads : List Head) (fuel : ℕ) → fuels (heads ++ FuelHead fuel ∷ []) ≡ fuels heads ++ fuel ∷ []
fuels_push [] fuel = refl
fuels_push (FuelHead f ∷ heads) fuel = ap (λ fs. f ∷ fs) (fuels_push heads fuel)
fuels_push (ObjectHead o ∷ heads) fuel = fuels_push heads fuel

fuels_same : (heads : List Head) (object : Declaration) → fuels (heads ++ ObjectHead object ∷ []) ≡ fuels heads
fuels_same [] object = refl
fuels_same (FuelHead f ∷ heads) object = ap (λ fs. f ∷ fs) (fuels_same heads object)
fuels_same (ObjectHead o ∷ heads) object = fuels_same heads object

declared_push : (heads : List Head) (object : Declaration) → declared (heads ++ ObjectHead object ∷ []) ≡ declared heads ++ object ∷ []
declared_push [] object = refl
declared_push (FuelHead f ∷ heads) object = declared_push heads object
declared_push (ObjectHead o ∷ heads) object = ap (λ os. o ∷ os) (declared_push heads object)

declared_same : (heads : List Head) (fuel : ℕ) → declared (heads ++ FuelHead fuel ∷ []) ≡ declared heads
declared_same [] fuel = refl
declared_same (FuelHead f ∷ heads) fuel = declared_same heads fuel
declared_same (ObjectHead o ∷ heads) fuel = ap (λ os. o ∷ os) (declared_same heads fuel)

-- before the first thread there are heads alone
heads_only : (heads : List Head) (threads : List (List Command)) → threads ≡ [] → script_forms heads threads ≡ map head_form heads
heads_only heads threads none = rw none (append-nil (map head_form heads))

head_push : (heads : List Head) (h : Head) (threads : List (List Command)) → threads ≡ [] → map head_form heads ++ head_form h ∷ [] ≡ script_forms (heads ++ h ∷ []) threads
head_push heads h threads none = sym (map-append head_form heads (h ∷ [])) ∙ sym (heads_only (heads ++ h ∷ []) threads none)

thread_push : (heads : List Head) (threads : List (List Command)) → script_forms heads threads ++ (Word (codes "thread") ∷ []) ∷ [] ≡ script_forms heads (threads ++ [] ∷ [])
thread_push heads threads =
    append_assoc (map head_form heads) (flat_map thread_forms threads) ((Word (codes "thread") ∷ []) ∷ [])
    ∙ ap (λ forms. map head_form heads ++ forms) (sym (flat_map-append thread_forms threads ([] ∷ [])))

command_push : (heads : List Head) (threads : List (List Command)) (commands : List Command) (c : Command) → script_forms heads (threads ++ commands ∷ []) ++ command_form c ∷ [] ≡ script_forms heads (threads ++ (commands ++ c ∷ []) ∷ [])
command_push heads threads commands c =
    let before = flat_map-append thread_forms threads (commands ∷ []) in
    let after = flat_map-append thread_forms threads ((commands ++ c ∷ []) ∷ []) in
    let more = map-append command_form commands (c ∷ []) in
    rw (before, after, more) (simp (append_assoc, append-nil))

fuel_written : (names : List (List ℕ)) (line : ℕ) (first : List ℕ) (others : List (List ℕ)) (fuel : ℕ) → first ≡ codes "fuel" → length (first ∷ others) ≡ 2 → number_at line (first ∷ others) 1 ≡ Ok fuel → AllZip (IsPart names) (head_form (FuelHead fuel)) (first ∷ others)
fuel_written names line first (a ∷ []) fuel word count is = (word, (number_part line (first ∷ a ∷ []) 1 fuel is, tt))
fuel_written names line first [] fuel word count is = absurd (omega arith)
fuel_written names line first (a ∷ b ∷ more) fuel word count is = absurd (omega arith)

object_written : (names : List (List ℕ)) (line : ℕ) (first : List ℕ) (others : List (List ℕ)) (object : Declaration) → first ≡ codes "object" → length (first ∷ others) ≡ 3 → word_at (first ∷ others) 1 ≡ object.name → IsName object.name → number_at line (first ∷ others) 2 ≡ Ok object.start → AllZip (IsPart names) (head_form (ObjectHead object)) (first ∷ others)
object_written names line first (a ∷ b ∷ []) object word count name good is = (word, ((name, good), (number_part line (first ∷ a ∷ b ∷ []) 2 object.start is, tt)))
object_written names line first [] object word count name good is = absurd (omega arith)
object_written names line first (a ∷ []) object word count name good is = absurd (omega arith)
object_written names line first (a ∷ b ∷ e ∷ more) object word count name good is = absurd (omega arith)

thread_written : (names : List (List ℕ)) (first : List ℕ) (others : List (List ℕ)) → first ≡ codes "thread" → length (first ∷ others) ≡ 1 → AllZip (IsPart names) (Word (codes "thread") ∷ []) (first ∷ others)
thread_written names first [] word count = (word, tt)
thread_written names first (a ∷ more) word count = absurd (omega arith)

lines_of_heads : (p : Draft) (said : List (List (List ℕ))) (told : Told p said) → threads_of p ≡ [] → AreForms (names_of p) (map head_form told.heads) said
lines_of_heads p said told none = subst (λ forms. AreForms (names_of p) forms said) (heads_only told.heads (threads_of p) none) told.lines

fuel_told : (p : Draft) (fuel : ℕ) (words : List (List ℕ)) (said : List (List (List ℕ))) → threads_of p ≡ [] → p.fuel ≡ None → AllZip (IsPart (names_of p)) (head_form (FuelHead fuel)) words → Told p said → Told (record p { fuel = Some fuel }) (said ++ words ∷ [])
fuel_told p fuel words said nothing none written told = record {
  heads = told.heads ++ FuelHead fuel ∷ [];
  fuel = fuels_push told.heads fuel ∙ rw (told.fuel, none) refl;
  objects = declared_same told.heads fuel ∙ told.objects;
  lines = subst (λ forms. AreForms (names_of p) forms (said ++ words ∷ [])) (head_push told.heads (FuelHead fuel) (threads_of p) nothing) (all_push (AllZip (IsPart (names_of p))) (map head_form told.heads) said (head_form (FuelHead fuel)) words (lines_of_heads p said told nothing) written);
}

object_told : (p : Draft) (object : Declaration) (words : List (List ℕ)) (said : List (List (List ℕ))) → threads_of p ≡ [] → AllZip (IsPart (declared_names (p.objects ++ object ∷ []))) (head_form (ObjectHead object)) words → Told p said → Told (record p { objects = p.objects ++ object ∷ [] }) (said ++ words ∷ [])
object_told p object words said nothing written told =
    let names = declared_names (p.objects ++ object ∷ []) in
    record {
      heads = told.heads ++ ObjectHead object ∷ [];
      fuel = fuels_same told.heads object ∙ told.fuel;
      objects = declared_push told.heads object ∙ ap (λ os. os ++ object ∷ []) told.objects;
      lines = subst (λ forms. AreForms names forms (said ++ words ∷ [])) (head_push told.heads (ObjectHead object) (threads_of p) nothing) (all_push (AllZip (IsPart names)) (map head_form told.heads) said (head_form (ObjectHead object)) words (heads_any (names_of p) names told.heads said (lines_of_heads p said told nothing)) written);
    }

thread_told : (p : Draft) (words : List (List ℕ)) (said : List (List (List ℕ))) → AllZip (IsPart (names_of p)) (Word (codes "thread") ∷ []) words → Told p said → Told (record p { started = true; threads = threads_of p; commands = [] }) (said ++ words ∷ [])
thread_told p words said written told = record {
  heads = told.heads;
  fuel = told.fuel;
  objects = told.objects;
  lines = subst (λ forms. AreForms (names_of p) forms (said ++ words ∷ [])) (thread_push told.heads (threads_of p)) (all_push (AllZip (IsPart (names_of p))) (script_forms told.heads (threads_of p)) said (Word (codes "thread") ∷ []) words told.lines written);
}

pub started_threads : (p : Draft) → p.started ≡ true → threads_of p ≡ p.threads ++ p.commands ∷ []
started_threads p started = rw started refl

command_told : (p : Draft) (c : Command) (openers : List ℕ) (words : List (List ℕ)) (said : List (List (List ℕ))) → p.started ≡ true → AllZip (IsPart (names_of p)) (command_form c) words → Told p said → Told (added p c openers) (said ++ words ∷ [])
command_told p c openers words said started written told =
    let before = ap (script_forms told.heads) (started_threads p started) in
    let after = ap (script_forms told.heads) (started_threads (added p c openers) started) in
    let forms = ap (λ fs. fs ++ command_form c ∷ []) before ∙ command_push told.heads p.threads p.commands c ∙ sym after in
    record {
      heads = told.heads;
      fuel = told.fuel;
      objects = told.objects;
      lines = subst (λ fs. AreForms (names_of p) fs (said ++ words ∷ [])) forms (all_push (AllZip (IsPart (names_of p))) (script_forms told.heads (threads_of p)) said (command_form c) words told.lines written);
    }

closed_adds : (p q : Draft) (line : ℕ) (openers : List ℕ) → closed p line openers ≡ Ok q → (left : List ℕ) × (added p command.Close left ≡ q)
closed_adds p q line [] is = cc
closed_adds p q line (o ∷ os) is = (os, cc)

plain_adds : (p q : Draft) (line : ℕ) (c : Command) → is_plain c ≡ true → with_command p line c ≡ Ok q → (left : List ℕ) × (added p c left ≡ q)
plain_adds p q line c plain is =
    let here = with_plain p line c plain in
    (p.openers, cc)

command_adds : (p q : Draft) (line : ℕ) (c : Command) → with_command p line c ≡ Ok q → (left : List ℕ) × (added p c left ≡ q)
command_adds p q line (command.Loop test) is = (line ∷ p.openers, cc)
command_adds p q line (command.Branch test) is = (line ∷ p.openers, cc)
command_adds p q line command.Close is = closed_adds p q line p.openers is
command_adds p q line (command.Set a b) is = plain_adds p q line (command.Set a b) refl is
command_adds p q line (command.Copy a b) is = plain_adds p q line (command.Copy a b) refl is
command_adds p q line (command.Add a b e) is = plain_adds p q line (command.Add a b e) refl is
command_adds p q line (command.Sub a b e) is = plain_adds p q line (command.Sub a b e) refl is
command_adds p q line (command.Mul a b e) is = plain_adds p q line (command.Mul a b e) refl is
command_adds p q line (command.Xor a b e) is = plain_adds p q line (command.Xor a b e) refl is
command_adds p q line (command.Less a b e) is = plain_adds p q line (command.Less a b e) refl is
command_adds p q line (command.Same a b e) is = plain_adds p q line (command.Same a b e) refl is
command_adds p q line (command.Read a b) is = plain_adds p q line (command.Read a b) refl is
command_adds p q line (command.Write a b) is = plain_adds p q line (command.Write a b) refl is
command_adds p q line (command.Bump a b) is = plain_adds p q line (command.Bump a b) refl is
command_adds p q line command.Safe is = plain_adds p q line command.Safe refl is
command_adds p q line command.Pause is = plain_adds p q line command.Pause refl is
command_adds p q line command.Region is = plain_adds p q line command.Region refl is

arguments_told : (p q : Draft) (line : ℕ) (first : List ℕ) (others : List (List ℕ)) (said : List (List (List ℕ))) (k : Keyword) → first ≡ keyword_word k → length (first ∷ others) ≡ word_count k → is_misplaced p.started k ≡ false → judged_arguments p line (first ∷ others) k ≡ Ok q → IsValidSoFar p → Told p said → Told q (said ++ (first ∷ others) ∷ [])
arguments_told p q line first others said Fuel word count placed is valid told =
    let words = first ∷ others in
    let step = bind_ok (number_at line words 1) (with_fuel p line) q is in
    let fuel = step.0 in
    let after = record p { fuel = Some fuel } in
    let good = guard_ok (is_some p.fuel || fuel == 0 || nat_lt 262144 fuel) (Refused line BadFuel) (Ok after) q step.2 in
    let some = either_false (is_some p.fuel) (fuel == 0) (either_false (is_some p.fuel || fuel == 0) (nat_lt 262144 fuel) good.0).0 in
    let same : after ≡ q = cc in
    let nothing = none_yet p placed (valid.nothing placed).0 in
    subst (λ r. Told r (said ++ words ∷ [])) same (fuel_told p fuel words said nothing (none_of p.fuel some.0) (fuel_written (names_of p) line first others fuel word count step.1) told)
arguments_told p q line first others said ObjectWord word count placed is valid told =
    let words = first ∷ others in
    let named = bind_ok (name_at (names_of p) line words 1) (λ name. number_at line words 2 >>= λ first_value. with_object p line name first_value) q is in
    let numbered = bind_ok (number_at line words 2) (λ first_value. with_object p line named.0 first_value) q named.2 in
    let new = name_new (names_of p) line (word_at words 1) named.0 named.1 in
    let object : Declaration = record { name = named.0; start = numbered.0 } in
    let after = record p { objects = p.objects ++ object ∷ [] } in
    let good = guard_ok (nat_le 1024 (length p.objects)) (Refused line TooMany) (Ok after) q numbered.2 in
    let same : after ≡ q = cc in
    let nothing = none_yet p placed (valid.nothing placed).0 in
    let is_good : IsName named.0 = ap is_name (sym new.2) ∙ new.0 in
    subst (λ r. Told r (said ++ words ∷ [])) same (object_told p object words said nothing (object_written (declared_names (p.objects ++ object ∷ [])) line first others object word count new.2 is_good numbered.1) told)
arguments_told p q line first others said Thread word count placed is valid told =
    let words = first ∷ others in
    let closed = bind_ok (all_closed p.openers) (λ _. begun p line) q is in
    let after = record p { started = true; threads = threads_of p; commands = [] } in
    let few = guard_ok (nat_le 16 (length (threads_of p))) (Refused line TooMany) _ q closed.2 in
    let enough = guard_ok (nat_lt 262144 (suc (length (threads_of p)) * fuel_of p)) (Refused line BadFuel) (Ok after) q few.1 in
    let same : after ≡ q = cc in
    subst (λ r. Told r (said ++ words ∷ [])) same (thread_told p words said (thread_written (names_of p) first others word count) told)
arguments_told p q line first others said (CommandWord v) word count placed is valid told =
    let words = first ∷ others in
    let c = bind_ok (command_of (names_of p) line words v) (with_command p line) q is in
    let adds = command_adds p q line c.0 c.2 in
    subst (λ r. Told r (said ++ words ∷ [])) adds.1 (command_told p c.0 adds.0 words said (not_false p.started placed) (command_written (names_of p) line first others v c.0 word count c.1) told)

line_told : (p q : Draft) (line : ℕ) (first : List ℕ) (others : List (List ℕ)) (said : List (List (List ℕ))) → judged_line p line (first ∷ others) ≡ Ok q → IsValidSoFar p → Told p said → Told q (said ++ (first ∷ others) ∷ [])
line_told p q line first others said is valid told =
    let k = keyword_ok p q line first others is in
    arguments_told p q line first others said k.word (word_of_keyword first k.word k.is_word) k.count k.placed k.arguments valid told

step_told : (p q r : Draft) (line : ℕ) (words : List (List ℕ)) (said rest : List (List (List ℕ))) → judged_line p line words ≡ Ok q → IsValidSoFar p → Told p said → ((told : List (List (List ℕ))) → Told q told → Told r (told ++ rest)) → Told r (said ++ cond (is_filled words) (words ∷ rest) rest)
step_told p q r line [] said rest is valid told go =
    let same : p ≡ q = cc in
    go said (subst (λ s. Told s said) same told)
step_told p q r line (first ∷ others) said rest is valid told go =
    subst (Told r) (append_assoc said ((first ∷ others) ∷ []) rest) (go (said ++ (first ∷ others) ∷ []) (line_told p q line first others said is valid told))

lines_told : (raw : List (List ℕ)) (p q : Draft) (number : ℕ) (said : List (List (List ℕ))) → judged_lines raw p number ≡ Ok q → IsValidSoFar p → Told p said → Told q (said ++ filter is_filled (map words_of_line raw))
lines_told [] p q number said is valid told =
    let same : p ≡ q = cc in
    subst (Told q) (sym (append-nil said)) (subst (λ s. Told s said) same told)
lines_told (line ∷ more) p q number said is valid told =
    let here = bind_ok (judged_line p number (words_of_line line)) (λ r. judged_lines more r (suc number)) q is in
    let next = line_valid p here.0 number (words_of_line line) here.1 valid in
    step_told p here.0 q number (words_of_line line) said (filter is_filled (map words_of_line more)) here.1 valid told (λ before now. lines_told more here.0 q (suc number) before here.2 next now)

start_told : Told start []
start_told = record { heads = []; fuel = refl; objects = refl; lines = tt }

front_valid : (bs : List ℕ) (m : ℕ) → IsUtf8 (take (valid_len_up_to bs m) bs)
front_valid bs zero = ([], (refl, refl))
front_valid bs (suc m) = front_case bs m (is_utf8 (take (suc m) bs)) refl (front_valid bs m)
  where
    front_case : (bs : List ℕ) (m : ℕ) (q : Bool) → is_utf8 (take (suc m) bs) ≡ q → IsUtf8 (take (valid_len_up_to bs m) bs) → IsUtf8 (take (cond q (suc m) (valid_len_up_to bs m)) bs)
    front_case bs m true is ih = IsUtf8-from_is_utf8 (take (suc m) bs) is
    front_case bs m false is ih = ih

whole_valid : (text : List ℕ) → length text ≤ utf8_valid_len text → IsUtf8 text
unfolding utf8_valid_len
whole_valid text all = subst IsUtf8 (take_all (valid_len_up_to text (length text)) text all) (front_valid text (length text))

choose_ok : {A : Type 0} (b : Bool) (x y : A) (e : ScriptFault) → cond b (Ok x) (Err e) ≡ Ok y → (b ≡ true) × (x ≡ y)
choose_ok true x y e is = (refl, cc)
choose_ok false x y e is = cc

fuel_said : (given : Option ℕ) → IsFuel (option_to_list given) (unwrap_or given 16384)
fuel_said None = refl
fuel_said (Some fuel) = refl

-- a text that is judged good spells what it says
pub judged_spells : (text : List ℕ) (said : Contents) → parsed text ≡ Ok said → SpellsContents text said
judged_spells text said is =
    let last = length (lines text) in
    let valid = bind_ok (judged_bytes text) (λ _. judged_lines (lines text) start 1 >>= λ p. judged_end p last) said is in
    let read = bind_ok (judged_lines (lines text) start 1) (λ p. judged_end p last) said valid.2 in
    let p = read.0 in
    let ended = bind_ok (all_closed p.openers) (λ _. cond p.started (Ok (contents_of p)) (Err (Refused last NoThread))) said read.2 in
    let started = choose_ok p.started (contents_of p) said (Refused last NoThread) ended.2 in
    let bytes = guard_ok (nat_lt (utf8_valid_len text) (length text)) _ (Ok tt) tt valid.1 in
    let told = lines_told (lines text) start p 1 [] read.1 start_valid start_told in
    subst (SpellsContents text) started.1 (record {
      heads = told.heads;
      utf8 = whole_valid text (ltb-false (utf8_valid_len text) (length text) bytes.0);
      fuel = subst (λ given. IsFuel given (fuel_of p)) (sym told.fuel) (fuel_said p.fuel);
      objects = told.objects;
      lines = told.lines;
    })
