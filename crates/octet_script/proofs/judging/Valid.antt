-- What has been judged so far is valid so far.
use Rattle.std.proofs.Common.{◌≡◌, ℕ, zero, suc, ◌+◌, ◌*◌, ◌^◌, ◌<◌, ◌≤◌, ◌==◌, Bool, true, false, not, cond, ◌&&◌, ◌||◌, List, [], ◌∷◌, ◌++◌, map, length, Option, Some, None, Ok, refl, ap, sym, ◌∙◌, subst, arith, append_assoc}
use Rattle.std.specs.Prelude.{nat_lt, nat_le, unwrap_or, IsTrue, IfSome}
use Rattle.std.specs.Option.{is_some}
use Rattle.std.specs.List.{list_all, list_any, position_or_len}
use Rattle.std.specs.Str.{bytes_eq}
use Rattle.std.proofs.lemmas.Bool.{false≢true, eqb-false, ltb-false, leb-false, lt-ltb, le-leb}
use Rattle.std.proofs.lemmas.Simd.{map-map}
use Rattle.std.proofs.lemmas.List.{length-map, length-append, map-append, append-nil}
use Rattle.std.proofs.lemmas.List.Folds.{list_all-append, list_any-append}
use Rattle.octet_model.specs.declared.command.Command.{Command}
use Rattle.octet_model.specs.declared.command.Command.TheVariants as command
use Rattle.octet_model.specs.declared.object.Object.{Object}
use Rattle.octet_model.specs.Script.{is_command, is_nested, is_thread, is_script, are_distinct}
use Rattle.octet_script.specs.declared.cause.ScriptFault.TheVariants.{Refused}
use Rattle.octet_script.specs.declared.cause.ScriptCause.TheVariants.{BadFuel, TooMany, BadNumber, BadRegister, NoSuchObject}
use Rattle.octet_script.specs.declared.keyword.Keyword.{Keyword}
use Rattle.octet_script.specs.declared.keyword.Keyword.TheVariants.{Fuel, Object as ObjectWord, Thread, Command as CommandWord}
use Rattle.octet_script.specs.declared.keyword.Verb.{Verb}
use Rattle.octet_script.specs.declared.keyword.Verb.TheVariants as verb
use Rattle.octet_script.specs.declared.keyword.Arithmetic.{Arithmetic}
use Rattle.octet_script.specs.declared.keyword.Arithmetic.TheVariants as operation
use Rattle.octet_script.specs.Words.{words_of_line}
use Rattle.octet_script.specs.Spelling.{Declaration, declaration, declared_names, object_named, number_of, register_of}
use Rattle.octet_script.specs.Parsing.{◌>>=◌, Draft, start, is_misplaced, judged_lines, judged_line, judged_arguments, number_at, register_at, object_at, name_at, word_at, with_fuel, with_object, with_command, with_thread, begun, added, closed, all_closed, command_of, arithmetic_command, threads_of, fuel_of, names_of}
use Rattle.octet_script.specs.Building.{IsValidSoFar}
use Rattle.octet_script.proofs.spelling.Cut.{position_none}
use Rattle.octet_script.proofs.judging.Steps.{apart, bind_ok, guard_ok, ok_or_ok, closed_ok, not_false, either_false, name_new, number_small, register_small, object_there, keyword_ok}

pub start_valid : IsValidSoFar start
start_valid = record {
  fuel = tt;
  objects = omega arith;
  names = refl;
  count = omega arith;
  enough = omega arith;
  threads = refl;
  commands = refl;
  nested = λ rest. refl;
  nothing = λ none. (refl, refl, refl);
}

pub none_yet : (p : Draft) → p.started ≡ false → p.threads ≡ [] → threads_of p ≡ []
none_yet p started none = rw (started, none) refl

no_work : (threads : List (List Command)) (fuel : ℕ) → threads ≡ [] → length threads * fuel ≤ 262144
no_work threads fuel none = rw none (omega arith)

fuel_given : (p : Draft) (fuel : ℕ) → p.started ≡ false → 1 ≤ fuel → fuel ≤ 262144 → IsValidSoFar p → IsValidSoFar (record p { fuel = Some fuel })
fuel_given p fuel started low high valid = record {
  fuel = (low, high);
  objects = valid.objects;
  names = valid.names;
  count = valid.count;
  enough = no_work (threads_of p) fuel (none_yet p started (valid.nothing started).0);
  threads = valid.threads;
  commands = valid.commands;
  nested = valid.nested;
  nothing = valid.nothing;
}

fuel_valid : (p q : Draft) (line : ℕ) (words : List (List ℕ)) → p.started ≡ false → judged_arguments p line words Fuel ≡ Ok q → IsValidSoFar p → IsValidSoFar q
fuel_valid p q line words started is valid =
    let step = bind_ok (number_at line words 1) (with_fuel p line) q is in
    let fuel = step.0 in
    let good = guard_ok (is_some p.fuel || fuel == 0 || nat_lt 262144 fuel) (Refused line BadFuel) (Ok (record p { fuel = Some fuel })) q step.2 in
    let high = either_false (is_some p.fuel || fuel == 0) (nat_lt 262144 fuel) good.0 in
    let low = either_false (is_some p.fuel) (fuel == 0) high.0 in
    let same : record p { fuel = Some fuel } ≡ q = cc in
    subst IsValidSoFar same (fuel_given p fuel started (omega (arith, eqb-false fuel 0 low.1)) (omega (arith, ltb-false 262144 fuel high.1)) valid)

fresh_step : (n : List ℕ) (names : List (List ℕ)) (name : List ℕ) (q r : Bool) → bytes_eq name n ≡ q → list_any (bytes_eq n) names ≡ r → (length names ≤ position_or_len (bytes_eq name) names → are_distinct names ≡ true → are_distinct (names ++ name ∷ []) ≡ true) → suc (length names) ≤ cond (not q) (1 + position_or_len (bytes_eq name) names) 0 → (not r && are_distinct names) ≡ true → are_distinct (n ∷ (names ++ name ∷ [])) ≡ true
fresh_step n names name true r eq er ih h d = absurd (omega arith)
fresh_step n names name false true eq er ih h d = absurd (false≢true d)
fresh_step n names name false false eq er ih h d =
    let differ = apart name n (bytes_eq n name) refl eq in
    rw (list_any-append (bytes_eq n) names (name ∷ []), er, differ) (ih (omega arith) d)

fresh : (names : List (List ℕ)) (name : List ℕ) → length names ≤ position_or_len (bytes_eq name) names → are_distinct names ≡ true → are_distinct (names ++ name ∷ []) ≡ true
fresh [] name h d = refl
fresh (n ∷ names) name h d = fresh_step n names name (bytes_eq name n) (list_any (bytes_eq n) names) refl refl (fresh names name) h d

object_declared : (p : Draft) (name : List ℕ) (first : ℕ) → p.started ≡ false → length p.objects < 1024 → object_named (names_of p) name ≡ None → IsValidSoFar p → IsValidSoFar (record p { objects = p.objects ++ record { name = name; start = first } ∷ [] })
object_declared p name first started few new valid =
    let none = valid.nothing started in
    let object : Declaration = record { name = name; start = first } in
    record {
      fuel = valid.fuel;
      objects = omega (arith, length-append p.objects (object ∷ []));
      names = ap are_distinct (map-append (λ (o : Declaration). o.name) p.objects (object ∷ [])) ∙ fresh (names_of p) name (position_none (bytes_eq name) (names_of p) new) valid.names;
      count = valid.count;
      enough = valid.enough;
      threads = rw none.0 refl;
      commands = rw none.1 refl;
      nested = valid.nested;
      nothing = valid.nothing;
    }

object_valid : (p q : Draft) (line : ℕ) (words : List (List ℕ)) → p.started ≡ false → judged_arguments p line words ObjectWord ≡ Ok q → IsValidSoFar p → IsValidSoFar q
object_valid p q line words started is valid =
    let named = bind_ok (name_at (names_of p) line words 1) (λ name. number_at line words 2 >>= λ first. with_object p line name first) q is in
    let name = named.0 in
    let numbered = bind_ok (number_at line words 2) (λ first. with_object p line name first) q named.2 in
    let new = name_new (names_of p) line (word_at words 1) name named.1 in
    let none : object_named (names_of p) name ≡ None = ap (object_named (names_of p)) (sym new.2) ∙ new.1 in
    let first = numbered.0 in
    let after = record p { objects = p.objects ++ record { name = name; start = first } ∷ [] } in
    let good = guard_ok (nat_le 1024 (length p.objects)) (Refused line TooMany) (Ok after) q numbered.2 in
    let same : after ≡ q = cc in
    subst IsValidSoFar same (object_declared p name first started (leb-false 1024 (length p.objects) good.0) none valid)

-- where none is open, the present thread is whole
present_whole : (p : Draft) → p.openers ≡ [] → IsValidSoFar p → is_thread (length p.objects) p.commands ≡ true
present_whole p none valid =
    let nested : is_nested 0 p.commands ≡ true = ap (is_nested 0) (sym (append-nil p.commands)) ∙ valid.nested [] ∙ ap (λ openers. is_nested (length openers) []) none in
    rw (valid.commands, nested) refl

all_whole : (p : Draft) (s : Bool) → p.started ≡ s → p.openers ≡ [] → IsValidSoFar p → list_all (is_thread (length p.objects)) (threads_of p) ≡ true
all_whole p true started none valid =
    rw started (list_all-append (is_thread (length p.objects)) p.threads (p.commands ∷ []) ∙ rw (valid.threads, present_whole p none valid) refl)
all_whole p false started none valid = rw started valid.threads

thread_begun : (p : Draft) → p.openers ≡ [] → length (threads_of p) < 16 → suc (length (threads_of p)) * fuel_of p ≤ 262144 → IsValidSoFar p → IsValidSoFar (record p { started = true; threads = threads_of p; commands = [] })
thread_begun p none few enough valid =
    let more : suc (length (threads_of p)) ≡ length (threads_of p ++ [] ∷ []) = omega (arith, length-append (threads_of p) ([] ∷ [])) in
    record {
      fuel = valid.fuel;
      objects = valid.objects;
      names = valid.names;
      count = omega arith;
      enough = subst (λ n. n * fuel_of p ≤ 262144) more enough;
      threads = all_whole p p.started refl none valid;
      commands = refl;
      nested = λ rest. ap (λ openers. is_nested (length openers) rest) (sym none);
      nothing = λ never. absurd (false≢true (sym never));
    }

thread_valid : (p q : Draft) (line : ℕ) → with_thread p line ≡ Ok q → IsValidSoFar p → IsValidSoFar q
thread_valid p q line is valid =
    let closed = bind_ok (all_closed p.openers) (λ _. begun p line) q is in
    let none = closed_ok p.openers closed.1 in
    let after = record p { started = true; threads = threads_of p; commands = [] } in
    let few = guard_ok (nat_le 16 (length (threads_of p))) (Refused line TooMany) _ q closed.2 in
    let enough = guard_ok (nat_lt 262144 (suc (length (threads_of p)) * fuel_of p)) (Refused line BadFuel) (Ok after) q few.1 in
    let same : after ≡ q = cc in
    subst IsValidSoFar same (thread_begun p none (leb-false 16 (length (threads_of p)) few.0) (ltb-false 262144 (suc (length (threads_of p)) * fuel_of p) enough.0) valid)

-- a command that opens and ends nothing
abbrev pub is_plain : Command → Bool
is_plain (command.Loop test) = false
is_plain (command.Branch test) = false
is_plain command.Close = false
is_plain c = true

pub plain_nested : (depth : ℕ) (c : Command) → is_plain c ≡ true → (rest : List Command) → is_nested depth (c ∷ rest) ≡ is_nested depth rest
plain_nested zero (command.Set a b) is rest = refl
plain_nested zero (command.Copy a b) is rest = refl
plain_nested zero (command.Add a b e) is rest = refl
plain_nested zero (command.Sub a b e) is rest = refl
plain_nested zero (command.Mul a b e) is rest = refl
plain_nested zero (command.Xor a b e) is rest = refl
plain_nested zero (command.Less a b e) is rest = refl
plain_nested zero (command.Same a b e) is rest = refl
plain_nested zero (command.Read a b) is rest = refl
plain_nested zero (command.Write a b) is rest = refl
plain_nested zero (command.Bump a b) is rest = refl
plain_nested zero command.Safe is rest = refl
plain_nested zero command.Pause is rest = refl
plain_nested zero command.Region is rest = refl
plain_nested zero (command.Loop a) is rest = absurd (false≢true is)
plain_nested zero (command.Branch a) is rest = absurd (false≢true is)
plain_nested zero command.Close is rest = absurd (false≢true is)
plain_nested (suc depth) (command.Set a b) is rest = refl
plain_nested (suc depth) (command.Copy a b) is rest = refl
plain_nested (suc depth) (command.Add a b e) is rest = refl
plain_nested (suc depth) (command.Sub a b e) is rest = refl
plain_nested (suc depth) (command.Mul a b e) is rest = refl
plain_nested (suc depth) (command.Xor a b e) is rest = refl
plain_nested (suc depth) (command.Less a b e) is rest = refl
plain_nested (suc depth) (command.Same a b e) is rest = refl
plain_nested (suc depth) (command.Read a b) is rest = refl
plain_nested (suc depth) (command.Write a b) is rest = refl
plain_nested (suc depth) (command.Bump a b) is rest = refl
plain_nested (suc depth) command.Safe is rest = refl
plain_nested (suc depth) command.Pause is rest = refl
plain_nested (suc depth) command.Region is rest = refl
plain_nested (suc depth) (command.Loop a) is rest = absurd (false≢true is)
plain_nested (suc depth) (command.Branch a) is rest = absurd (false≢true is)
plain_nested (suc depth) command.Close is rest = absurd (false≢true is)

pub loop_nested : (depth test : ℕ) (rest : List Command) → is_nested depth (command.Loop test ∷ rest) ≡ is_nested (suc depth) rest
loop_nested zero test rest = refl
loop_nested (suc depth) test rest = refl

pub branch_nested : (depth test : ℕ) (rest : List Command) → is_nested depth (command.Branch test ∷ rest) ≡ is_nested (suc depth) rest
branch_nested zero test rest = refl
branch_nested (suc depth) test rest = refl

pub with_plain : (p : Draft) (line : ℕ) (c : Command) → is_plain c ≡ true → with_command p line c ≡ Ok (added p c p.openers)
with_plain p line (command.Set a b) is = refl
with_plain p line (command.Copy a b) is = refl
with_plain p line (command.Add a b e) is = refl
with_plain p line (command.Sub a b e) is = refl
with_plain p line (command.Mul a b e) is = refl
with_plain p line (command.Xor a b e) is = refl
with_plain p line (command.Less a b e) is = refl
with_plain p line (command.Same a b e) is = refl
with_plain p line (command.Read a b) is = refl
with_plain p line (command.Write a b) is = refl
with_plain p line (command.Bump a b) is = refl
with_plain p line command.Safe is = refl
with_plain p line command.Pause is = refl
with_plain p line command.Region is = refl
with_plain p line (command.Loop a) is = absurd (false≢true is)
with_plain p line (command.Branch a) is = absurd (false≢true is)
with_plain p line command.Close is = absurd (false≢true is)

same_count : (p : Draft) (c : Command) (openers : List ℕ) → p.started ≡ true → length (threads_of (added p c openers)) ≡ length (threads_of p)
same_count p c openers started = rw started (length-append p.threads ((p.commands ++ c ∷ []) ∷ []) ∙ sym (length-append p.threads (p.commands ∷ [])))

added_valid : (p : Draft) (c : Command) (openers : List ℕ) → p.started ≡ true → is_command (length p.objects) c ≡ true → ((rest : List Command) → is_nested (length p.openers) (c ∷ rest) ≡ is_nested (length openers) rest) → IsValidSoFar p → IsValidSoFar (added p c openers)
added_valid p c openers started good nests valid =
    let same = same_count p c openers started in
    record {
      fuel = valid.fuel;
      objects = valid.objects;
      names = valid.names;
      count = omega (arith, same, valid.count);
      enough = subst (λ n. n * fuel_of p ≤ 262144) (sym same) valid.enough;
      threads = valid.threads;
      commands = list_all-append (is_command (length p.objects)) p.commands (c ∷ []) ∙ rw (valid.commands, good) refl;
      nested = λ rest. ap (is_nested 0) (append_assoc p.commands (c ∷ []) rest) ∙ valid.nested (c ∷ rest) ∙ nests rest;
      nothing = λ never. absurd (false≢true (sym never ∙ started));
    }

plain_valid : (p q : Draft) (line : ℕ) (c : Command) → is_plain c ≡ true → with_command p line c ≡ Ok q → p.started ≡ true → is_command (length p.objects) c ≡ true → IsValidSoFar p → IsValidSoFar q
plain_valid p q line c plain is started good valid =
    let here = with_plain p line c plain in
    let same : added p c p.openers ≡ q = cc in
    subst IsValidSoFar same (added_valid p c p.openers started good (plain_nested (length p.openers) c plain) valid)

closed_valid : (p q : Draft) (line : ℕ) (openers : List ℕ) → p.openers ≡ openers → closed p line openers ≡ Ok q → p.started ≡ true → IsValidSoFar p → IsValidSoFar q
closed_valid p q line [] lines is started valid = cc
closed_valid p q line (o ∷ os) lines is started valid =
    let same : added p command.Close os ≡ q = cc in
    subst IsValidSoFar same (added_valid p command.Close os started refl (λ rest. ap (λ openers. is_nested (length openers) (command.Close ∷ rest)) lines) valid)

command_valid : (p q : Draft) (line : ℕ) (c : Command) → with_command p line c ≡ Ok q → p.started ≡ true → is_command (length p.objects) c ≡ true → IsValidSoFar p → IsValidSoFar q
command_valid p q line (command.Loop test) is started good valid =
    let same : added p (command.Loop test) (line ∷ p.openers) ≡ q = cc in
    subst IsValidSoFar same (added_valid p (command.Loop test) (line ∷ p.openers) started good (loop_nested (length p.openers) test) valid)
command_valid p q line (command.Branch test) is started good valid =
    let same : added p (command.Branch test) (line ∷ p.openers) ≡ q = cc in
    subst IsValidSoFar same (added_valid p (command.Branch test) (line ∷ p.openers) started good (branch_nested (length p.openers) test) valid)
command_valid p q line command.Close is started good valid = closed_valid p q line p.openers refl is started valid
command_valid p q line (command.Set a b) is started good valid = plain_valid p q line (command.Set a b) refl is started good valid
command_valid p q line (command.Copy a b) is started good valid = plain_valid p q line (command.Copy a b) refl is started good valid
command_valid p q line (command.Add a b e) is started good valid = plain_valid p q line (command.Add a b e) refl is started good valid
command_valid p q line (command.Sub a b e) is started good valid = plain_valid p q line (command.Sub a b e) refl is started good valid
command_valid p q line (command.Mul a b e) is started good valid = plain_valid p q line (command.Mul a b e) refl is started good valid
command_valid p q line (command.Xor a b e) is started good valid = plain_valid p q line (command.Xor a b e) refl is started good valid
command_valid p q line (command.Less a b e) is started good valid = plain_valid p q line (command.Less a b e) refl is started good valid
command_valid p q line (command.Same a b e) is started good valid = plain_valid p q line (command.Same a b e) refl is started good valid
command_valid p q line (command.Read a b) is started good valid = plain_valid p q line (command.Read a b) refl is started good valid
command_valid p q line (command.Write a b) is started good valid = plain_valid p q line (command.Write a b) refl is started good valid
command_valid p q line (command.Bump a b) is started good valid = plain_valid p q line (command.Bump a b) refl is started good valid
command_valid p q line command.Safe is started good valid = plain_valid p q line command.Safe refl is started good valid
command_valid p q line command.Pause is started good valid = plain_valid p q line command.Pause refl is started good valid
command_valid p q line command.Region is started good valid = plain_valid p q line command.Region refl is started good valid

register_read : (line : ℕ) (words : List (List ℕ)) (place r : ℕ) → register_at line words place ≡ Ok r → nat_lt r 16 ≡ true
register_read line words place r is = lt-ltb r 16 (register_small (word_at words place) r (ok_or_ok (register_of (word_at words place)) (Refused line BadRegister) r is))

number_read : (line : ℕ) (words : List (List ℕ)) (place n : ℕ) → number_at line words place ≡ Ok n → nat_lt n (2 ^ 64) ≡ true
number_read line words place n is = lt-ltb n (2 ^ 64) (number_small (word_at words place) n (ok_or_ok (number_of (word_at words place)) (Refused line BadNumber) n is))

object_read : (names : List (List ℕ)) (line : ℕ) (words : List (List ℕ)) (place o : ℕ) → object_at names line words place ≡ Ok o → nat_lt o (length names) ≡ true
object_read names line words place o is = lt-ltb o (length names) (object_there names (word_at words place) o (ok_or_ok (object_named names (word_at words place)) (Refused line NoSuchObject) o is))

operation_good : (k : ℕ) (op : Arithmetic) (to left right : ℕ) → nat_lt to 16 ≡ true → nat_lt left 16 ≡ true → nat_lt right 16 ≡ true → is_command k (arithmetic_command op to left right) ≡ true
operation_good k operation.Add to left right a b c = rw (a, b, c) refl
operation_good k operation.Sub to left right a b c = rw (a, b, c) refl
operation_good k operation.Mul to left right a b c = rw (a, b, c) refl
operation_good k operation.Xor to left right a b c = rw (a, b, c) refl
operation_good k operation.Less to left right a b c = rw (a, b, c) refl
operation_good k operation.Same to left right a b c = rw (a, b, c) refl

command_good : (names : List (List ℕ)) (line : ℕ) (words : List (List ℕ)) (v : Verb) (c : Command) → command_of names line words v ≡ Ok c → is_command (length names) c ≡ true
command_good names line words verb.Set c is =
    let to = bind_ok (register_at line words 1) (λ to. number_at line words 2 >>= λ n. Ok (command.Set to n)) c is in
    let n = bind_ok (number_at line words 2) (λ n. Ok (command.Set to.0 n)) c to.2 in
    let same : command.Set to.0 n.0 ≡ c = cc in
    ap (is_command (length names)) (sym same) ∙ rw (register_read line words 1 to.0 to.1, number_read line words 2 n.0 n.1) refl
command_good names line words verb.Copy c is =
    let to = bind_ok (register_at line words 1) (λ to. register_at line words 2 >>= λ from. Ok (command.Copy to from)) c is in
    let from = bind_ok (register_at line words 2) (λ from. Ok (command.Copy to.0 from)) c to.2 in
    let same : command.Copy to.0 from.0 ≡ c = cc in
    ap (is_command (length names)) (sym same) ∙ rw (register_read line words 1 to.0 to.1, register_read line words 2 from.0 from.1) refl
command_good names line words (verb.Arithmetic op) c is =
    let to = bind_ok (register_at line words 1) (λ to. register_at line words 2 >>= λ left. register_at line words 3 >>= λ right. Ok (arithmetic_command op to left right)) c is in
    let left = bind_ok (register_at line words 2) (λ left. register_at line words 3 >>= λ right. Ok (arithmetic_command op to.0 left right)) c to.2 in
    let right = bind_ok (register_at line words 3) (λ right. Ok (arithmetic_command op to.0 left.0 right)) c left.2 in
    let same : arithmetic_command op to.0 left.0 right.0 ≡ c = cc in
    ap (is_command (length names)) (sym same) ∙ operation_good (length names) op to.0 left.0 right.0 (register_read line words 1 to.0 to.1) (register_read line words 2 left.0 left.1) (register_read line words 3 right.0 right.1)
command_good names line words verb.Read c is =
    let to = bind_ok (register_at line words 1) (λ to. object_at names line words 2 >>= λ object. Ok (command.Read to object)) c is in
    let object = bind_ok (object_at names line words 2) (λ object. Ok (command.Read to.0 object)) c to.2 in
    let same : command.Read to.0 object.0 ≡ c = cc in
    ap (is_command (length names)) (sym same) ∙ rw (register_read line words 1 to.0 to.1, object_read names line words 2 object.0 object.1) refl
command_good names line words verb.Write c is =
    let object = bind_ok (object_at names line words 1) (λ object. register_at line words 2 >>= λ from. Ok (command.Write object from)) c is in
    let from = bind_ok (register_at line words 2) (λ from. Ok (command.Write object.0 from)) c object.2 in
    let same : command.Write object.0 from.0 ≡ c = cc in
    ap (is_command (length names)) (sym same) ∙ rw (register_read line words 2 from.0 from.1, object_read names line words 1 object.0 object.1) refl
command_good names line words verb.Bump c is =
    let object = bind_ok (object_at names line words 1) (λ object. register_at line words 2 >>= λ from. Ok (command.Bump object from)) c is in
    let from = bind_ok (register_at line words 2) (λ from. Ok (command.Bump object.0 from)) c object.2 in
    let same : command.Bump object.0 from.0 ≡ c = cc in
    ap (is_command (length names)) (sym same) ∙ rw (register_read line words 2 from.0 from.1, object_read names line words 1 object.0 object.1) refl
command_good names line words verb.While c is =
    let test = bind_ok (register_at line words 1) (λ test. Ok (command.Loop test)) c is in
    let same : command.Loop test.0 ≡ c = cc in
    ap (is_command (length names)) (sym same) ∙ register_read line words 1 test.0 test.1
command_good names line words verb.If c is =
    let test = bind_ok (register_at line words 1) (λ test. Ok (command.Branch test)) c is in
    let same : command.Branch test.0 ≡ c = cc in
    ap (is_command (length names)) (sym same) ∙ register_read line words 1 test.0 test.1
command_good names line words verb.End c is = ap (is_command (length names)) (let same : c ≡ command.Close = cc in same)
command_good names line words verb.Safe c is = ap (is_command (length names)) (let same : c ≡ command.Safe = cc in same)
command_good names line words verb.Pause c is = ap (is_command (length names)) (let same : c ≡ command.Pause = cc in same)
command_good names line words verb.Region c is = ap (is_command (length names)) (let same : c ≡ command.Region = cc in same)

arguments_valid : (p q : Draft) (line : ℕ) (words : List (List ℕ)) (k : Keyword) → is_misplaced p.started k ≡ false → judged_arguments p line words k ≡ Ok q → IsValidSoFar p → IsValidSoFar q
arguments_valid p q line words Fuel placed is valid = fuel_valid p q line words placed is valid
arguments_valid p q line words ObjectWord placed is valid = object_valid p q line words placed is valid
arguments_valid p q line words Thread placed is valid = thread_valid p q line is valid
arguments_valid p q line words (CommandWord v) placed is valid =
    let c = bind_ok (command_of (names_of p) line words v) (with_command p line) q is in
    let good = ap (λ k. is_command k c.0) (sym (length-map p.objects (λ (o : Declaration). o.name))) ∙ command_good (names_of p) line words v c.0 c.1 in
    command_valid p q line c.0 c.2 (not_false p.started placed) good valid

pub line_valid : (p q : Draft) (line : ℕ) (words : List (List ℕ)) → judged_line p line words ≡ Ok q → IsValidSoFar p → IsValidSoFar q
line_valid p q line [] is valid =
    let same : p ≡ q = cc in
    subst IsValidSoFar same valid
line_valid p q line (first ∷ others) is valid =
    let k = keyword_ok p q line first others is in
    arguments_valid p q line (first ∷ others) k.word k.placed k.arguments valid

pub lines_valid : (ls : List (List ℕ)) (p q : Draft) (number : ℕ) → judged_lines ls p number ≡ Ok q → IsValidSoFar p → IsValidSoFar q
lines_valid [] p q number is valid =
    let same : p ≡ q = cc in
    subst IsValidSoFar same valid
lines_valid (line ∷ more) p q number is valid =
    let here = bind_ok (judged_line p number (words_of_line line)) (λ r. judged_lines more r (suc number)) q is in
    lines_valid more here.0 q (suc number) here.2 (line_valid p here.0 number (words_of_line line) here.1 valid)

all_true : (a b c d e f g h : Bool) → a ≡ true → b ≡ true → c ≡ true → d ≡ true → e ≡ true → f ≡ true → g ≡ true → h ≡ true → (((((((a && b) && c) && d) && e) && f) && g) && h) ≡ true
all_true a b c d e f g h ea eb ec ed ee ef eg eh = rw (ea, eb, ec, ed, ee, ef, eg, eh) refl

fuel_bounds : (fuel : Option ℕ) → IfSome fuel (λ f. (1 ≤ f) × (f ≤ 262144)) → (1 ≤ unwrap_or fuel 16384) × (unwrap_or fuel 16384 ≤ 262144)
fuel_bounds None h = (omega arith, omega arith)
fuel_bounds (Some f) h = h

some_thread : (p : Draft) → p.started ≡ true → 1 ≤ length (threads_of p)
some_thread p started = rw started (omega (arith, length-append p.threads (p.commands ∷ [])))

pub same_names : (objects : List Object) → map (λ (o : Object). o.name) objects ≡ declared_names (map declaration objects)
same_names objects = sym (map-map (λ (o : Declaration). o.name) declaration objects)

pub script_valid : (p : Draft) (fuel : ℕ) (objects : List Object) (threads : List (List Command)) → IsValidSoFar p → fuel ≡ fuel_of p → map declaration objects ≡ p.objects → threads ≡ threads_of p → p.started ≡ true → p.openers ≡ [] → IsTrue (is_script fuel objects threads)
script_valid p fuel objects threads valid fuel_is objects_are threads_are started none =
    let bounds = fuel_bounds p.fuel valid.fuel in
    let count : length objects ≡ length p.objects = sym (length-map objects declaration) ∙ ap length objects_are in
    let names : are_distinct (map (λ (o : Object). o.name) objects) ≡ true = ap are_distinct (same_names objects ∙ ap declared_names objects_are) ∙ valid.names in
    let size = ap length threads_are in
    let work : length threads * fuel ≤ 262144 = rw (threads_are, fuel_is) valid.enough in
    let whole : list_all (is_thread (length objects)) threads ≡ true = rw (threads_are, count) (all_whole p true started none valid) in
    all_true (nat_le 1 fuel) (nat_le fuel 262144) (nat_le (length objects) 1024) (are_distinct (map (λ (o : Object). o.name) objects)) (nat_le 1 (length threads)) (nat_le (length threads) 16) (nat_le (length threads * fuel) 262144) (list_all (is_thread (length objects)) threads)
    (le-leb 1 fuel (omega (arith, bounds.0, fuel_is)))
    (le-leb fuel 262144 (omega (arith, bounds.1, fuel_is)))
    (le-leb (length objects) 1024 (omega (arith, count, valid.objects)))
    names
    (le-leb 1 (length threads) (omega (arith, size, some_thread p started)))
    (le-leb (length threads) 16 (omega (arith, size, valid.count)))
    (le-leb (length threads * fuel) 262144 work)
    whole
