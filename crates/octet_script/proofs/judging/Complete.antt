-- A text that spells what a script says is judged good, and says that.
use Rattle.std.proofs.Common.{◌≡◌, ℕ, suc, ◌+◌, ◌*◌, ◌<◌, ◌≤◌, ◌==◌, Bool, true, false, not, cond, List, [], ◌∷◌, ◌++◌, map, length, Option, Some, None, Result, Ok, Err, refl, ap, sym, ◌∙◌, subst, arith, append_assoc}
use Rattle.std.specs.Prelude.{codes, unwrap_or}
use Rattle.std.specs.Option.{option_to_list}
use Rattle.std.specs.List.{AllZip, flat_map, filter, list_all, list_any, position_or_len}
use Rattle.std.specs.Str.{bytes_eq}
use Rattle.std.proofs.lemmas.Bool.{false≢true, le-ltb, lt-leb, ne_eqb, not-true}
use Rattle.std.proofs.lemmas.List.Folds.{list_any-append}
use Rattle.std.proofs.Math.Nat.{mul-le-mul_right}
use Rattle.std.proofs.lemmas.List.{map-append, append-nil, length-append}
use Rattle.octet_model.specs.declared.command.Command.{Command}
use Rattle.octet_model.specs.declared.command.Command.TheVariants as command
use Rattle.octet_model.specs.Script.{is_nested, are_distinct}
use Rattle.octet_script.specs.declared.cause.ScriptFault.{ScriptFault}
use Rattle.octet_script.specs.declared.cause.ScriptFault.TheVariants.{Refused}
use Rattle.octet_script.specs.declared.cause.ScriptCause.TheVariants.{NoThread}
use Rattle.octet_script.specs.Words.{lines, words_of_line, is_filled}
use Rattle.octet_script.specs.Spelling.{Word, IsPart, Head, FuelHead, ObjectHead, head_form, command_form, thread_forms, fuels, declared, Declaration, declared_names, IsFuel, Contents, AreForms, SpellsContents, object_named}
use Rattle.octet_script.specs.Parsing.{◌>>=◌, Draft, start, parsed, judged_end, judged_lines, judged_line, with_fuel, with_command, with_thread, added, all_closed, threads_of, contents_of, fuel_of, names_of}
use Rattle.octet_script.proofs.judging.Judged.{valid_bytes}
use Rattle.octet_script.proofs.judging.Steps.{apart, both_true, either_false}
use Rattle.octet_script.proofs.judging.Sound.{started_threads}
use Rattle.octet_script.proofs.judging.Valid.{none_yet, is_plain, with_plain, plain_nested, loop_nested, branch_nested}

-- a command's line is judged to be that command
command_judged : (p : Draft) (line : ℕ) (c : Command) (first : List ℕ) (others : List (List ℕ)) → p.started ≡ true → AllZip (IsPart (names_of p)) (command_form c) (first ∷ others) → judged_line p line (first ∷ others) ≡ with_command p line c
command_judged p line (command.Set to number) first (a ∷ b ∷ []) started w = rw (w.0, started, w.1.0, w.1.1.0) refl
command_judged p line (command.Set to number) first ([]) started w = absurd w.1
command_judged p line (command.Set to number) first (a ∷ []) started w = absurd w.1.1
command_judged p line (command.Set to number) first (a ∷ b ∷ e ∷ more) started w = absurd w.1.1.1
command_judged p line (command.Copy to from) first (a ∷ b ∷ []) started w = rw (w.0, started, w.1.0, w.1.1.0) refl
command_judged p line (command.Copy to from) first ([]) started w = absurd w.1
command_judged p line (command.Copy to from) first (a ∷ []) started w = absurd w.1.1
command_judged p line (command.Copy to from) first (a ∷ b ∷ e ∷ more) started w = absurd w.1.1.1
command_judged p line (command.Add to left right) first (a ∷ b ∷ e ∷ []) started w = rw (w.0, started, w.1.0, w.1.1.0, w.1.1.1.0) refl
command_judged p line (command.Add to left right) first ([]) started w = absurd w.1
command_judged p line (command.Add to left right) first (a ∷ []) started w = absurd w.1.1
command_judged p line (command.Add to left right) first (a ∷ b ∷ []) started w = absurd w.1.1.1
command_judged p line (command.Add to left right) first (a ∷ b ∷ e ∷ f ∷ more) started w = absurd w.1.1.1.1
command_judged p line (command.Sub to left right) first (a ∷ b ∷ e ∷ []) started w = rw (w.0, started, w.1.0, w.1.1.0, w.1.1.1.0) refl
command_judged p line (command.Sub to left right) first ([]) started w = absurd w.1
command_judged p line (command.Sub to left right) first (a ∷ []) started w = absurd w.1.1
command_judged p line (command.Sub to left right) first (a ∷ b ∷ []) started w = absurd w.1.1.1
command_judged p line (command.Sub to left right) first (a ∷ b ∷ e ∷ f ∷ more) started w = absurd w.1.1.1.1
command_judged p line (command.Mul to left right) first (a ∷ b ∷ e ∷ []) started w = rw (w.0, started, w.1.0, w.1.1.0, w.1.1.1.0) refl
command_judged p line (command.Mul to left right) first ([]) started w = absurd w.1
command_judged p line (command.Mul to left right) first (a ∷ []) started w = absurd w.1.1
command_judged p line (command.Mul to left right) first (a ∷ b ∷ []) started w = absurd w.1.1.1
command_judged p line (command.Mul to left right) first (a ∷ b ∷ e ∷ f ∷ more) started w = absurd w.1.1.1.1
command_judged p line (command.Xor to left right) first (a ∷ b ∷ e ∷ []) started w = rw (w.0, started, w.1.0, w.1.1.0, w.1.1.1.0) refl
command_judged p line (command.Xor to left right) first ([]) started w = absurd w.1
command_judged p line (command.Xor to left right) first (a ∷ []) started w = absurd w.1.1
command_judged p line (command.Xor to left right) first (a ∷ b ∷ []) started w = absurd w.1.1.1
command_judged p line (command.Xor to left right) first (a ∷ b ∷ e ∷ f ∷ more) started w = absurd w.1.1.1.1
command_judged p line (command.Less to left right) first (a ∷ b ∷ e ∷ []) started w = rw (w.0, started, w.1.0, w.1.1.0, w.1.1.1.0) refl
command_judged p line (command.Less to left right) first ([]) started w = absurd w.1
command_judged p line (command.Less to left right) first (a ∷ []) started w = absurd w.1.1
command_judged p line (command.Less to left right) first (a ∷ b ∷ []) started w = absurd w.1.1.1
command_judged p line (command.Less to left right) first (a ∷ b ∷ e ∷ f ∷ more) started w = absurd w.1.1.1.1
command_judged p line (command.Same to left right) first (a ∷ b ∷ e ∷ []) started w = rw (w.0, started, w.1.0, w.1.1.0, w.1.1.1.0) refl
command_judged p line (command.Same to left right) first ([]) started w = absurd w.1
command_judged p line (command.Same to left right) first (a ∷ []) started w = absurd w.1.1
command_judged p line (command.Same to left right) first (a ∷ b ∷ []) started w = absurd w.1.1.1
command_judged p line (command.Same to left right) first (a ∷ b ∷ e ∷ f ∷ more) started w = absurd w.1.1.1.1
command_judged p line (command.Read to object) first (a ∷ b ∷ []) started w = rw (w.0, started, w.1.0, w.1.1.0) refl
command_judged p line (command.Read to object) first ([]) started w = absurd w.1
command_judged p line (command.Read to object) first (a ∷ []) started w = absurd w.1.1
command_judged p line (command.Read to object) first (a ∷ b ∷ e ∷ more) started w = absurd w.1.1.1
command_judged p line (command.Write object from) first (a ∷ b ∷ []) started w = rw (w.0, started, w.1.0, w.1.1.0) refl
command_judged p line (command.Write object from) first ([]) started w = absurd w.1
command_judged p line (command.Write object from) first (a ∷ []) started w = absurd w.1.1
command_judged p line (command.Write object from) first (a ∷ b ∷ e ∷ more) started w = absurd w.1.1.1
command_judged p line (command.Bump object from) first (a ∷ b ∷ []) started w = rw (w.0, started, w.1.0, w.1.1.0) refl
command_judged p line (command.Bump object from) first ([]) started w = absurd w.1
command_judged p line (command.Bump object from) first (a ∷ []) started w = absurd w.1.1
command_judged p line (command.Bump object from) first (a ∷ b ∷ e ∷ more) started w = absurd w.1.1.1
command_judged p line (command.Loop test) first (a ∷ []) started w = rw (w.0, started, w.1.0) refl
command_judged p line (command.Loop test) first ([]) started w = absurd w.1
command_judged p line (command.Loop test) first (a ∷ b ∷ more) started w = absurd w.1.1
command_judged p line (command.Branch test) first (a ∷ []) started w = rw (w.0, started, w.1.0) refl
command_judged p line (command.Branch test) first ([]) started w = absurd w.1
command_judged p line (command.Branch test) first (a ∷ b ∷ more) started w = absurd w.1.1
command_judged p line command.Close first [] started w = rw (w.0, started) refl
command_judged p line command.Close first (a ∷ more) started w = absurd w.1
command_judged p line command.Safe first [] started w = rw (w.0, started) refl
command_judged p line command.Safe first (a ∷ more) started w = absurd w.1
command_judged p line command.Pause first [] started w = rw (w.0, started) refl
command_judged p line command.Pause first (a ∷ more) started w = absurd w.1
command_judged p line command.Region first [] started w = rw (w.0, started) refl
command_judged p line command.Region first (a ∷ more) started w = absurd w.1

-- the command is taken, and the openers that are left are closed by the rest
pub record TakesCommand (p : Draft) (line : ℕ) (c : Command) (rest : List Command) : Type 0 where
  pub openers : List ℕ
  pub taken : with_command p line c ≡ Ok (added p c openers)
  pub nested : is_nested (length openers) rest ≡ true

close_taken : (p : Draft) (line : ℕ) (rest : List Command) (openers : List ℕ) → p.openers ≡ openers → is_nested (length openers) (command.Close ∷ rest) ≡ true → TakesCommand p line command.Close rest
close_taken p line rest [] left nested = absurd (false≢true nested)
close_taken p line rest (o ∷ os) left nested = record { openers = os; taken = rw left refl; nested = nested }

plain_taken : (p : Draft) (line : ℕ) (c : Command) (rest : List Command) → is_plain c ≡ true → is_nested (length p.openers) (c ∷ rest) ≡ true → TakesCommand p line c rest
plain_taken p line c rest plain nested = record {
  openers = p.openers;
  taken = with_plain p line c plain;
  nested = sym (plain_nested (length p.openers) c plain rest) ∙ nested;
}

command_taken : (p : Draft) (line : ℕ) (c : Command) (rest : List Command) → is_nested (length p.openers) (c ∷ rest) ≡ true → TakesCommand p line c rest
command_taken p line (command.Loop test) rest nested = record { openers = line ∷ p.openers; taken = refl; nested = sym (loop_nested (length p.openers) test rest) ∙ nested }
command_taken p line (command.Branch test) rest nested = record { openers = line ∷ p.openers; taken = refl; nested = sym (branch_nested (length p.openers) test rest) ∙ nested }
command_taken p line command.Close rest nested = close_taken p line rest p.openers refl nested
command_taken p line (command.Set a b) rest nested = plain_taken p line (command.Set a b) rest refl nested
command_taken p line (command.Copy a b) rest nested = plain_taken p line (command.Copy a b) rest refl nested
command_taken p line (command.Add a b e) rest nested = plain_taken p line (command.Add a b e) rest refl nested
command_taken p line (command.Sub a b e) rest nested = plain_taken p line (command.Sub a b e) rest refl nested
command_taken p line (command.Mul a b e) rest nested = plain_taken p line (command.Mul a b e) rest refl nested
command_taken p line (command.Xor a b e) rest nested = plain_taken p line (command.Xor a b e) rest refl nested
command_taken p line (command.Less a b e) rest nested = plain_taken p line (command.Less a b e) rest refl nested
command_taken p line (command.Same a b e) rest nested = plain_taken p line (command.Same a b e) rest refl nested
command_taken p line (command.Read a b) rest nested = plain_taken p line (command.Read a b) rest refl nested
command_taken p line (command.Write a b) rest nested = plain_taken p line (command.Write a b) rest refl nested
command_taken p line (command.Bump a b) rest nested = plain_taken p line (command.Bump a b) rest refl nested
command_taken p line command.Safe rest nested = plain_taken p line command.Safe rest refl nested
command_taken p line command.Pause rest nested = plain_taken p line command.Pause rest refl nested
command_taken p line command.Region rest nested = plain_taken p line command.Region rest refl nested

-- all lines are taken, and this is what they say
pub record Ends (said : Contents) (r : Result Draft ScriptFault) : Type 0 where
  pub last : Draft
  pub taken : r ≡ Ok last
  pub started : last.started ≡ true
  pub none_open : last.openers ≡ []
  pub says : contents_of last ≡ said

-- in a thread, with these of its commands to come, and these threads
pub record Ready (p : Draft) (commands : List Command) (threads : List (List Command)) (said : List (List (List ℕ))) : Type 0 where
  pub started : p.started ≡ true
  pub nested : is_nested (length p.openers) commands ≡ true
  pub others : list_all (is_nested 0) threads ≡ true
  pub count : suc (length p.threads) + length threads ≤ 16
  pub enough : (suc (length p.threads) + length threads) * fuel_of p ≤ 262144
  pub lines : AreForms (names_of p) (map command_form commands ++ flat_map thread_forms threads) said

abbrev to_say : Draft → List Command → List (List Command) → Contents
to_say p commands threads = record { fuel = fuel_of p; objects = p.objects; threads = p.threads ++ (p.commands ++ commands) ∷ threads }

nested_end : (openers : List ℕ) → is_nested (length openers) [] ≡ true → openers ≡ []
nested_end [] nested = refl
nested_end (o ∷ os) nested = absurd (false≢true nested)

started_says : (p : Draft) → p.started ≡ true → contents_of p ≡ record { fuel = fuel_of p; objects = p.objects; threads = p.threads ++ p.commands ∷ [] }
started_says p started = rw started refl

ends_here : (p : Draft) (commands : List Command) (threads : List (List Command)) → Ready p commands threads [] → Ends (to_say p commands threads) (Ok p)
ends_here p [] [] ready = record {
  last = p;
  taken = refl;
  started = ready.started;
  none_open = nested_end p.openers ready.nested;
  says = started_says p ready.started ∙ ap (λ commands. record { fuel = fuel_of p; objects = p.objects; threads = p.threads ++ commands ∷ [] }) (sym (append-nil p.commands));
}
ends_here p [] (t ∷ ts) ready = absurd ready.lines
ends_here p (c ∷ cs) threads ready = absurd ready.lines

abbrev GoesOn : List (List ℕ) → Type 0
GoesOn ls = (commands : List Command) (threads : List (List Command)) (p : Draft) (number : ℕ) → Ready p commands threads (filter is_filled (map words_of_line ls)) → Ends (to_say p commands threads) (judged_lines ls p number)

-- a line of a command
command_step : (ls : List (List ℕ)) (first : List ℕ) (others : List (List ℕ)) (c : Command) (commands : List Command) (threads : List (List Command)) (p : Draft) (number : ℕ) → GoesOn ls → Ready p (c ∷ commands) threads ((first ∷ others) ∷ filter is_filled (map words_of_line ls)) → Ends (to_say p (c ∷ commands) threads) (judged_line p number (first ∷ others) >>= λ q. judged_lines ls q (suc number))
command_step ls first others c commands threads p number go ready =
    let takes = command_taken p number c commands ready.nested in
    let q = added p c takes.openers in
    let good : judged_line p number (first ∷ others) ≡ Ok q = command_judged p number c first others ready.started ready.lines.0 ∙ takes.taken in
    let next : Ready q commands threads (filter is_filled (map words_of_line ls)) = record {
      started = ready.started;
      nested = takes.nested;
      others = ready.others;
      count = ready.count;
      enough = ready.enough;
      lines = ready.lines.1;
    } in
    let ends = go commands threads q (suc number) next in
    let same = ap (λ cs. record { fuel = fuel_of p; objects = p.objects; threads = p.threads ++ cs ∷ threads }) (append_assoc p.commands (c ∷ []) commands) in
    rw good (subst (λ said. Ends said (judged_lines ls q (suc number))) same ends)

thread_judged : (p : Draft) (line : ℕ) (first : List ℕ) (others : List (List ℕ)) → AllZip (IsPart (names_of p)) (Word (codes "thread") ∷ []) (first ∷ others) → judged_line p line (first ∷ others) ≡ with_thread p line
thread_judged p line first [] w = rw w.0 refl
thread_judged p line first (a ∷ more) w = absurd w.1

thread_taken : (p : Draft) (line : ℕ) → p.openers ≡ [] → length (threads_of p) < 16 → suc (length (threads_of p)) * fuel_of p ≤ 262144 → with_thread p line ≡ Ok (record p { started = true; threads = threads_of p; commands = [] })
thread_taken p line none few enough =
    let count = lt-leb 16 (length (threads_of p)) few in
    let fuel = le-ltb 262144 (suc (length (threads_of p)) * fuel_of p) enough in
    rw (none, count, fuel) refl

started_count : (p : Draft) → p.started ≡ true → length (threads_of p) ≡ suc (length p.threads)
started_count p started = ap length (started_threads p started) ∙ length-append p.threads (p.commands ∷ []) ∙ omega arith

-- so much work for some of the threads, where it is for all
less_work : (some all fuel : ℕ) → some ≤ all → all * fuel ≤ 262144 → some * fuel ≤ 262144
less_work some all fuel fewer work = omega (arith, mul-le-mul_right fuel fewer, work)

-- a line of a thread
thread_step : (ls : List (List ℕ)) (first : List ℕ) (others : List (List ℕ)) (t : List Command) (ts : List (List Command)) (p : Draft) (number : ℕ) → GoesOn ls → Ready p [] (t ∷ ts) ((first ∷ others) ∷ filter is_filled (map words_of_line ls)) → Ends (to_say p [] (t ∷ ts)) (judged_line p number (first ∷ others) >>= λ q. judged_lines ls q (suc number))
thread_step ls first others t ts p number go ready =
    let none = nested_end p.openers ready.nested in
    let size = started_count p ready.started in
    let threads = started_threads p ready.started in
    let few : length (threads_of p) < 16 = omega (arith, size, ready.count) in
    let enough = less_work (suc (length (threads_of p))) (suc (length p.threads) + suc (length ts)) (fuel_of p) (omega (arith, size)) ready.enough in
    let q = record p { started = true; threads = threads_of p; commands = [] } in
    let good : judged_line p number (first ∷ others) ≡ Ok q = thread_judged p number first others ready.lines.0 ∙ thread_taken p number none few enough in
    let nested = both_true (is_nested 0 t) (list_all (is_nested 0) ts) ready.others in
    let next : Ready q t ts (filter is_filled (map words_of_line ls)) = record {
      started = refl;
      nested = ap (λ openers. is_nested (length openers) t) none ∙ nested.0;
      others = nested.1;
      count = omega (arith, size, ready.count);
      enough = less_work (suc (length (threads_of p)) + length ts) (suc (length p.threads) + suc (length ts)) (fuel_of p) (omega (arith, size)) ready.enough;
      lines = ready.lines.1;
    } in
    let ends = go t ts q (suc number) next in
    let all : threads_of p ++ t ∷ ts ≡ p.threads ++ (p.commands ++ []) ∷ (t ∷ ts) =
    ap (λ before. before ++ t ∷ ts) threads ∙ append_assoc p.threads (p.commands ∷ []) (t ∷ ts) ∙ ap (λ commands. p.threads ++ commands ∷ (t ∷ ts)) (sym (append-nil p.commands)) in
    let same = ap (λ every. record { fuel = fuel_of p; objects = p.objects; threads = every }) all in
    rw good (subst (λ said. Ends said (judged_lines ls q (suc number))) same ends)

line_step : (words : List (List ℕ)) (ls : List (List ℕ)) (commands : List Command) (threads : List (List Command)) (p : Draft) (number : ℕ) → GoesOn ls → Ready p commands threads (cond (is_filled words) (words ∷ filter is_filled (map words_of_line ls)) (filter is_filled (map words_of_line ls))) → Ends (to_say p commands threads) (judged_line p number words >>= λ q. judged_lines ls q (suc number))
line_step [] ls commands threads p number go ready = go commands threads p (suc number) ready
line_step (first ∷ others) ls (c ∷ commands) threads p number go ready = command_step ls first others c commands threads p number go ready
line_step (first ∷ others) ls [] (t ∷ ts) p number go ready = thread_step ls first others t ts p number go ready
line_step (first ∷ others) ls [] [] p number go ready = absurd ready.lines

goes_on : (ls : List (List ℕ)) → GoesOn ls
goes_on [] commands threads p number ready = ends_here p commands threads ready
goes_on (line ∷ ls) commands threads p number ready = line_step (words_of_line line) ls commands threads p number (goes_on ls) ready

-- before the first thread, with these heads to come, and these threads
pub record Starting (p : Draft) (heads : List Head) (first : List Command) (threads : List (List Command)) (fuel : ℕ) (objects : List Declaration) (said : List (List (List ℕ))) : Type 0 where
  pub started : p.started ≡ false
  pub no_threads : p.threads ≡ []
  pub none_open : p.openers ≡ []
  pub given : IsFuel (option_to_list p.fuel ++ fuels heads) fuel
  pub low : 1 ≤ fuel
  pub high : fuel ≤ 262144
  pub all_objects : p.objects ++ declared heads ≡ objects
  pub few : length objects ≤ 1024
  pub names : are_distinct (declared_names objects) ≡ true
  pub nested : list_all (is_nested 0) (first ∷ threads) ≡ true
  pub count : suc (length threads) ≤ 16
  pub enough : suc (length threads) * fuel ≤ 262144
  pub lines : AreForms (declared_names objects) (map head_form heads ++ flat_map thread_forms (first ∷ threads)) said

fuel_judged : (names : List (List ℕ)) (p : Draft) (line fuel : ℕ) (first : List ℕ) (others : List (List ℕ)) → p.started ≡ false → AllZip (IsPart names) (head_form (FuelHead fuel)) (first ∷ others) → judged_line p line (first ∷ others) ≡ with_fuel p line fuel
fuel_judged names p line fuel first (a ∷ []) started w = rw (w.0, started, w.1.0) refl
fuel_judged names p line fuel first [] started w = absurd w.1
fuel_judged names p line fuel first (a ∷ b ∷ more) started w = absurd w.1.1

fuel_taken : (p : Draft) (line fuel : ℕ) → p.fuel ≡ None → 1 ≤ fuel → fuel ≤ 262144 → with_fuel p line fuel ≡ Ok (record p { fuel = Some fuel })
fuel_taken p line fuel none low high =
    let not_zero : (fuel == 0) ≡ false = ne_eqb fuel 0 (λ is. omega (arith, is, low)) in
    let not_over = le-ltb 262144 fuel high in
    rw (none, not_zero, not_over) refl

object_judged : (names : List (List ℕ)) (p : Draft) (line : ℕ) (object : Declaration) (first : List ℕ) (others : List (List ℕ)) → p.started ≡ false → AllZip (IsPart names) (head_form (ObjectHead object)) (first ∷ others) → object_named (names_of p) object.name ≡ None → length p.objects < 1024 → judged_line p line (first ∷ others) ≡ Ok (record p { objects = p.objects ++ object ∷ [] })
object_judged names p line object first (a ∷ b ∷ []) started w fresh few =
    let room = lt-leb 1024 (length p.objects) few in
    rw (w.0, started, w.1.0.0, w.1.0.1, fresh, w.1.1.0, room) refl
object_judged names p line object first [] started w fresh few = absurd w.1
object_judged names p line object first (a ∷ []) started w fresh few = absurd w.1.1
object_judged names p line object first (a ∷ b ∷ e ∷ more) started w fresh few = absurd w.1.1.1

any_in_middle : (test : List ℕ → Bool) (before : List (List ℕ)) (name : List ℕ) (behind : List (List ℕ)) → list_any test (before ++ name ∷ behind) ≡ false → test name ≡ false
any_in_middle test before name behind none =
    let both = either_false (list_any test before) (list_any test (name ∷ behind)) (sym (list_any-append test before (name ∷ behind)) ∙ none) in
    (either_false (test name) (list_any test behind) both.1).0

fresh_here : (name n : List ℕ) (names : List (List ℕ)) (q : Bool) → bytes_eq name n ≡ q → bytes_eq n name ≡ false → length names ≤ position_or_len (bytes_eq name) names → suc (length names) ≤ cond (not q) (1 + position_or_len (bytes_eq name) names) 0
fresh_here name n names true same differ rest = absurd (false≢true (sym (apart n name true same differ)))
fresh_here name n names false same differ rest = omega arith

not_before : (names : List (List ℕ)) (name : List ℕ) (more : List (List ℕ)) → are_distinct (names ++ name ∷ more) ≡ true → length names ≤ position_or_len (bytes_eq name) names
not_before [] name more distinct = omega arith
not_before (n ∷ names) name more distinct =
    let parts = both_true (not (list_any (bytes_eq n) (names ++ name ∷ more))) (are_distinct (names ++ name ∷ more)) distinct in
    let none = not-true (list_any (bytes_eq n) (names ++ name ∷ more)) parts.0 in
    fresh_here name n names (bytes_eq name n) refl (any_in_middle (bytes_eq n) names name more none) (not_before names name more parts.1)

name_fresh : (objects : List Declaration) (object : Declaration) (more : List Declaration) → are_distinct (declared_names (objects ++ object ∷ more)) ≡ true → object_named (declared_names objects) object.name ≡ None
name_fresh objects object more distinct =
    let names = declared_names objects in
    let split = map-append (λ (o : Declaration). o.name) objects (object ∷ more) in
    let before = not_before names object.name (declared_names more) (ap are_distinct (sym split) ∙ distinct) in
    let none = le-ltb (position_or_len (bytes_eq object.name) names) (length names) before in
    rw none refl

fuel_first : (given : Option ℕ) (f : ℕ) (more : List ℕ) (fuel : ℕ) → IsFuel (option_to_list given ++ f ∷ more) fuel → (given ≡ None) × (fuel ≡ f)
fuel_first None f [] fuel is = (refl, is)
fuel_first None f (g ∷ more) fuel is = absurd is
fuel_first (Some x) f more fuel is = absurd is

fuel_last : (given : Option ℕ) (fuel : ℕ) → IsFuel (option_to_list given ++ []) fuel → fuel ≡ unwrap_or given 16384
fuel_last None fuel is = is
fuel_last (Some x) fuel is = is

abbrev StartsOn : List Command → List (List Command) → ℕ → List Declaration → List (List ℕ) → Type 0
StartsOn first threads fuel objects ls = (heads : List Head) (p : Draft) (number : ℕ) → Starting p heads first threads fuel objects (filter is_filled (map words_of_line ls)) → Ends (record { fuel = fuel; objects = objects; threads = first ∷ threads }) (judged_lines ls p number)

fuel_step : (ls : List (List ℕ)) (word : List ℕ) (others : List (List ℕ)) (f : ℕ) (heads : List Head) (t : List Command) (ts : List (List Command)) (fuel : ℕ) (objects : List Declaration) (p : Draft) (number : ℕ) → StartsOn t ts fuel objects ls → Starting p (FuelHead f ∷ heads) t ts fuel objects ((word ∷ others) ∷ filter is_filled (map words_of_line ls)) → Ends (record { fuel = fuel; objects = objects; threads = t ∷ ts }) (judged_line p number (word ∷ others) >>= λ q. judged_lines ls q (suc number))
fuel_step ls word others f heads t ts fuel objects p number go starting =
    let given = fuel_first p.fuel f (fuels heads) fuel starting.given in
    let q = record p { fuel = Some f } in
    let good : judged_line p number (word ∷ others) ≡ Ok q = fuel_judged (declared_names objects) p number f word others starting.started starting.lines.0 ∙ fuel_taken p number f given.0 (omega (arith, given.1, starting.low)) (omega (arith, given.1, starting.high)) in
    let next : Starting q heads t ts fuel objects (filter is_filled (map words_of_line ls)) = record {
      started = starting.started;
      no_threads = starting.no_threads;
      none_open = starting.none_open;
      given = subst (λ given. IsFuel (option_to_list given ++ f ∷ fuels heads) fuel) given.0 starting.given;
      low = starting.low;
      high = starting.high;
      all_objects = starting.all_objects;
      few = starting.few;
      names = starting.names;
      nested = starting.nested;
      count = starting.count;
      enough = starting.enough;
      lines = starting.lines.1;
    } in
    rw good (go heads q (suc number) next)

object_step : (ls : List (List ℕ)) (word : List ℕ) (others : List (List ℕ)) (object : Declaration) (heads : List Head) (t : List Command) (ts : List (List Command)) (fuel : ℕ) (objects : List Declaration) (p : Draft) (number : ℕ) → StartsOn t ts fuel objects ls → Starting p (ObjectHead object ∷ heads) t ts fuel objects ((word ∷ others) ∷ filter is_filled (map words_of_line ls)) → Ends (record { fuel = fuel; objects = objects; threads = t ∷ ts }) (judged_line p number (word ∷ others) >>= λ q. judged_lines ls q (suc number))
object_step ls word others object heads t ts fuel objects p number go starting =
    let q = record p { objects = p.objects ++ object ∷ [] } in
    let size = ap length starting.all_objects in
    let few : length p.objects < 1024 = omega (arith, size, length-append p.objects (object ∷ declared heads), starting.few) in
    let fresh = name_fresh p.objects object (declared heads) (ap (λ os. are_distinct (declared_names os)) starting.all_objects ∙ starting.names) in
    let good : judged_line p number (word ∷ others) ≡ Ok q = object_judged (declared_names objects) p number object word others starting.started starting.lines.0 fresh few in
    let next : Starting q heads t ts fuel objects (filter is_filled (map words_of_line ls)) = record {
      started = starting.started;
      no_threads = starting.no_threads;
      none_open = starting.none_open;
      given = starting.given;
      low = starting.low;
      high = starting.high;
      all_objects = append_assoc p.objects (object ∷ []) (declared heads) ∙ starting.all_objects;
      few = starting.few;
      names = starting.names;
      nested = starting.nested;
      count = starting.count;
      enough = starting.enough;
      lines = starting.lines.1;
    } in
    rw good (go heads q (suc number) next)

-- the first thread
first_step : (ls : List (List ℕ)) (word : List ℕ) (others : List (List ℕ)) (t : List Command) (ts : List (List Command)) (fuel : ℕ) (objects : List Declaration) (p : Draft) (number : ℕ) → Starting p [] t ts fuel objects ((word ∷ others) ∷ filter is_filled (map words_of_line ls)) → Ends (record { fuel = fuel; objects = objects; threads = t ∷ ts }) (judged_line p number (word ∷ others) >>= λ q. judged_lines ls q (suc number))
first_step ls word others t ts fuel objects p number starting =
    let same_objects : p.objects ≡ objects = sym (append-nil p.objects) ∙ starting.all_objects in
    let same_fuel = fuel_last p.fuel fuel starting.given in
    let none = none_yet p starting.started starting.no_threads in
    let size : length (threads_of p) ≡ 0 = ap length none in
    let rest = filter is_filled (map words_of_line ls) in
    let lines : AreForms (names_of p) (flat_map thread_forms (t ∷ ts)) ((word ∷ others) ∷ rest) = subst (λ os. AreForms (declared_names os) (flat_map thread_forms (t ∷ ts)) ((word ∷ others) ∷ rest)) (sym same_objects) starting.lines in
    let q = record p { started = true; threads = threads_of p; commands = [] } in
    let work : suc (length ts) * fuel_of p ≤ 262144 = subst (λ f. suc (length ts) * f ≤ 262144) same_fuel starting.enough in
    let enough = less_work (suc (length (threads_of p))) (suc (length ts)) (fuel_of p) (omega (arith, size)) work in
    let good : judged_line p number (word ∷ others) ≡ Ok q = thread_judged p number word others lines.0 ∙ thread_taken p number starting.none_open (omega (arith, size)) enough in
    let nested = both_true (is_nested 0 t) (list_all (is_nested 0) ts) starting.nested in
    let next : Ready q t ts rest = record {
      started = refl;
      nested = ap (λ openers. is_nested (length openers) t) starting.none_open ∙ nested.0;
      others = nested.1;
      count = omega (arith, size, starting.count);
      enough = less_work (suc (length (threads_of p)) + length ts) (suc (length ts)) (fuel_of p) (omega (arith, size)) work;
      lines = lines.1;
    } in
    let ends = goes_on ls t ts q (suc number) next in
    let all : threads_of p ++ t ∷ ts ≡ t ∷ ts = ap (λ before. before ++ t ∷ ts) none in
    let same : to_say q t ts ≡ record { fuel = fuel; objects = objects; threads = t ∷ ts } = λ i. record { fuel = sym same_fuel i; objects = same_objects i; threads = all i } in
    rw good (subst (λ said. Ends said (judged_lines ls q (suc number))) same ends)

head_step : (words : List (List ℕ)) (ls : List (List ℕ)) (heads : List Head) (t : List Command) (ts : List (List Command)) (fuel : ℕ) (objects : List Declaration) (p : Draft) (number : ℕ) → StartsOn t ts fuel objects ls → Starting p heads t ts fuel objects (cond (is_filled words) (words ∷ filter is_filled (map words_of_line ls)) (filter is_filled (map words_of_line ls))) → Ends (record { fuel = fuel; objects = objects; threads = t ∷ ts }) (judged_line p number words >>= λ q. judged_lines ls q (suc number))
head_step [] ls heads t ts fuel objects p number go starting = go heads p (suc number) starting
head_step (word ∷ others) ls [] t ts fuel objects p number go starting = first_step ls word others t ts fuel objects p number starting
head_step (word ∷ others) ls (FuelHead f ∷ heads) t ts fuel objects p number go starting = fuel_step ls word others f heads t ts fuel objects p number go starting
head_step (word ∷ others) ls (ObjectHead object ∷ heads) t ts fuel objects p number go starting = object_step ls word others object heads t ts fuel objects p number go starting

starts_on : (ls : List (List ℕ)) (t : List Command) (ts : List (List Command)) (fuel : ℕ) (objects : List Declaration) → StartsOn t ts fuel objects ls
starts_on [] t ts fuel objects [] p number starting = absurd starting.lines
starts_on [] t ts fuel objects (h ∷ heads) p number starting = absurd starting.lines
starts_on (line ∷ ls) t ts fuel objects heads p number starting = head_step (words_of_line line) ls heads t ts fuel objects p number (starts_on ls t ts fuel objects) starting

-- what a valid script says
pub record IsValidContents (said : Contents) : Type 0 where
  pub low : 1 ≤ said.fuel
  pub high : said.fuel ≤ 262144
  pub few : length said.objects ≤ 1024
  pub names : are_distinct (declared_names said.objects) ≡ true
  pub some : 1 ≤ length said.threads
  pub count : length said.threads ≤ 16
  pub enough : length said.threads * said.fuel ≤ 262144
  pub nested : list_all (is_nested 0) said.threads ≡ true

pick_ok : {A : Type 0} (b : Bool) (x : A) (e : ScriptFault) → b ≡ true → cond b (Ok x) (Err e) ≡ Ok x
pick_ok b x e is = rw is refl

end_good : (p : Draft) (last : ℕ) (said : Contents) → p.openers ≡ [] → p.started ≡ true → contents_of p ≡ said → judged_end p last ≡ Ok said
end_good p last said none started says =
    ap (λ openers. all_closed openers >>= λ _. cond p.started (Ok (contents_of p)) (Err (Refused last NoThread))) none
    ∙ pick_ok p.started (contents_of p) (Refused last NoThread) started
    ∙ ap (λ s. Ok s) says

lines_good : (text : List ℕ) (fuel : ℕ) (objects : List Declaration) (threads : List (List Command)) → IsValidContents (record { fuel = fuel; objects = objects; threads = threads }) → SpellsContents text (record { fuel = fuel; objects = objects; threads = threads }) → Ends (record { fuel = fuel; objects = objects; threads = threads }) (judged_lines (lines text) start 1)
lines_good text fuel objects [] valid spells = absurd (omega (arith, valid.some))
lines_good text fuel objects (t ∷ ts) valid spells = starts_on (lines text) t ts fuel objects spells.heads start 1 (record {
  started = refl;
  no_threads = refl;
  none_open = refl;
  given = spells.fuel;
  low = valid.low;
  high = valid.high;
  all_objects = spells.objects;
  few = valid.few;
  names = valid.names;
  nested = valid.nested;
  count = valid.count;
  enough = valid.enough;
  lines = spells.lines;
})

-- a text that spells what a valid script says is judged good
pub spelled_judged : (text : List ℕ) (said : Contents) → IsValidContents said → SpellsContents text said → parsed text ≡ Ok said
spelled_judged text said valid spells =
    let ends = lines_good text said.fuel said.objects said.threads valid spells in
    let bytes = valid_bytes text spells.utf8 in
    let end = end_good ends.last (length (lines text)) said ends.none_open ends.started ends.says in
    rw (bytes, ends.taken) end
