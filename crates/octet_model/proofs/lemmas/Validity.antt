-- The computing tests of scripts and logs hold exactly where the plain facts do.
use Rattle.std.proofs.Common.{◌≡◌, ℕ, zero, suc, ◌+◌, ◌*◌, ◌^◌, ◌<◌, ◌≤◌, Bool, true, false, cond, ◌&&◌, nat_le, IsTrue, List, [], ◌∷◌, length, take, map, refl, ap, ◌∙◌, arith, subst}
use Rattle.std.proofs.lemmas.Bool.{leb-true, le-leb}
use Rattle.std.proofs.lemmas.Bool.Decides.{Decides-like, Decides-not, Decides-and, Decides-ltb, Decides-eqb, Decides-by_and, Decides-by_or}
use Rattle.std.proofs.Math.Seq.{take-nil}
use Rattle.std.proofs.lemmas.List.{get_or_default}
use Rattle.std.proofs.lemmas.List.Sums.{sum_by-cons}
use Rattle.std.proofs.lemmas.Slice.Eq.{bytes_eq-Decides}
use Rattle.std.specs.Bool.{Decides}
use Rattle.std.specs.List.{HoldsAt, list_all, list_any, sum_by, count_by}
use Rattle.std.specs.Str.{bytes_eq}
use Rattle.octet_model.specs.declared.command.Command.{Command}
use Rattle.octet_model.specs.declared.command.Command.TheVariants.{Set, Copy, Add, Sub, Mul, Xor, Less, Same, Read, Write, Bump, Loop, Branch, Close, Safe, Pause, Region}
use Rattle.octet_model.specs.declared.event.Mark.{Mark}
use Rattle.octet_model.specs.declared.event.Mark.TheVariants.{Join, Draw, Fence}
use Rattle.octet_model.specs.declared.log.Gapped.{Gapped}
use Rattle.octet_model.specs.declared.log.ThreadLog.{ThreadLog}
use Rattle.octet_model.specs.declared.limits.TheConstants.{MAX_ACCESSES, MAX_FUEL, MAX_OBJECTS, MAX_THREADS, REGISTERS}
use Rattle.octet_model.specs.declared.object.Object.{Object}
use Rattle.octet_model.specs.Thread.{is_opener}
use Rattle.octet_model.specs.Orders.{thread_log_of}
use Rattle.octet_model.specs.Script.{is_register, is_command, is_nested, are_distinct, is_thread, is_script}
use Rattle.octet_model.specs.Log.{is_mark, is_thread_log, are_thread_logs, is_log}
use Rattle.octet_model.specs.Validity.{IsRegister, IsCommand, is_closer, IsValidThread, AreDistinct, IsValidScript, IsMark, IsValidThreadLog, IsValidLog}

at_most : (a b : ℕ) → Decides (nat_le a b) (a ≤ b)
at_most a b = (leb-true a b, le-leb a b)

-- three parts of a test
three : {P Q R : Type 0} (x y z : Bool) → Decides x P → Decides y Q → Decides z R → Decides (x && y && z) (P × Q × R)
three x y z p q r = Decides-like _ (λ h. (h.0.0, h.0.1, h.1)) (λ h. ((h.0, h.1), h.2)) (Decides-and (x && y) z (Decides-and x y p q) r)

-- a command that names registers alone
registers_alone : {test : Bool} {P : Type 0} → Decides test P → Decides test (P × Unit {0} × Unit {0})
registers_alone = Decides-like _ (λ h. (h, tt, tt)) (λ h. h.0)

three_registers : (a b c : ℕ) → Decides (is_register a && is_register b && is_register c) ((IsRegister a × IsRegister b × IsRegister c) × Unit {0} × Unit {0})
three_registers a b c = registers_alone (three _ _ _ (Decides-ltb a REGISTERS) (Decides-ltb b REGISTERS) (Decides-ltb c REGISTERS))

always : Decides true (Unit {0} × Unit {0} × Unit {0})
always = (λ h. (tt, tt, tt), λ h. refl)

command_decides : (objects : ℕ) (c : Command) → Decides (is_command objects c) (IsCommand objects c)
command_decides objects (Set to number) = Decides-like _ (λ h. (h.0, h.1, tt)) (λ h. (h.0, h.1)) (Decides-and _ _ (Decides-ltb to REGISTERS) (Decides-ltb number (2 ^ 64)))
command_decides objects (Copy to from) = registers_alone (Decides-and _ _ (Decides-ltb to REGISTERS) (Decides-ltb from REGISTERS))
command_decides objects (Add to left right) = three_registers to left right
command_decides objects (Sub to left right) = three_registers to left right
command_decides objects (Mul to left right) = three_registers to left right
command_decides objects (Xor to left right) = three_registers to left right
command_decides objects (Less to left right) = three_registers to left right
command_decides objects (Same to left right) = three_registers to left right
command_decides objects (Read to object) = Decides-like _ (λ h. (h.0, tt, h.1)) (λ h. (h.0, h.2)) (Decides-and _ _ (Decides-ltb to REGISTERS) (Decides-ltb object objects))
command_decides objects (Write object from) = Decides-like _ (λ h. (h.0, tt, h.1)) (λ h. (h.0, h.2)) (Decides-and _ _ (Decides-ltb from REGISTERS) (Decides-ltb object objects))
command_decides objects (Bump object from) = Decides-like _ (λ h. (h.0, tt, h.1)) (λ h. (h.0, h.2)) (Decides-and _ _ (Decides-ltb from REGISTERS) (Decides-ltb object objects))
command_decides objects (Loop test) = registers_alone (Decides-ltb test REGISTERS)
command_decides objects (Branch test) = registers_alone (Decides-ltb test REGISTERS)
command_decides objects Close = always
command_decides objects Safe = always
command_decides objects Pause = always
command_decides objects Region = always

-- nested, after a number of openers that are still open
record NestedFrom (depth : ℕ) (commands : List Command) : Type 0 where
  each_closes_one : (place : ℕ) → count_by is_closer (take place commands) ≤ depth + count_by is_opener (take place commands)
  each_is_closed : count_by is_closer commands ≡ depth + count_by is_opener commands

abbrev one_if : Bool → ℕ
one_if b = cond b 1 0

counts : (p : Command → Bool) (c : Command) (rest : List Command) → count_by p (c ∷ rest) ≡ one_if (p c) + count_by p rest
counts p c rest = sum_by-cons (λ (x : Command). one_if (p x)) c rest

-- one command more, which takes the number of open openers from one to another
module _ (before after : ℕ) (c : Command) (rest : List Command) (even : after + one_if (is_closer c) ≡ before + one_if (is_opener c)) where
  past_one : NestedFrom before (c ∷ rest) → NestedFrom after rest
  past_one nested = record {
    each_closes_one = λ place. omega (arith, nested.each_closes_one (suc place), counts is_closer c (take place rest), counts is_opener c (take place rest), even);
    each_is_closed = omega (arith, nested.each_is_closed, counts is_closer c rest, counts is_opener c rest, even);
  }

  with_one : NestedFrom after rest → NestedFrom before (c ∷ rest)
  with_one nested = record {
    each_closes_one = at_place;
    each_is_closed = omega (arith, nested.each_is_closed, counts is_closer c rest, counts is_opener c rest, even);
  }
    where
      at_place : (place : ℕ) → count_by is_closer (take place (c ∷ rest)) ≤ before + count_by is_opener (take place (c ∷ rest))
      at_place zero = omega arith
      at_place (suc place) = omega (arith, nested.each_closes_one place, counts is_closer c (take place rest), counts is_opener c (take place rest), even)

never : {P : Type 0} → (P → ⊥) → Decides false P
never none = (λ h. absurd cc, λ h. absurd (none h))

nested_decides : (depth : ℕ) (commands : List Command) → Decides (is_nested depth commands) (NestedFrom depth commands)
nested_decides zero [] = (λ h. record { each_closes_one = λ place. omega (arith, ap (count_by is_closer) (take-nil {A = Command} place)); each_is_closed = refl }, λ h. refl)
nested_decides (suc depth) [] = never (λ nested. omega (arith, nested.each_is_closed))
nested_decides zero (Loop test ∷ rest) = Decides-like _ (with_one 0 1 (Loop test) rest refl) (past_one 0 1 (Loop test) rest refl) (nested_decides 1 rest)
nested_decides (suc depth) (Loop test ∷ rest) = Decides-like _ (with_one (suc depth) (suc (suc depth)) (Loop test) rest (omega arith)) (past_one (suc depth) (suc (suc depth)) (Loop test) rest (omega arith)) (nested_decides (suc (suc depth)) rest)
nested_decides zero (Branch test ∷ rest) = Decides-like _ (with_one 0 1 (Branch test) rest refl) (past_one 0 1 (Branch test) rest refl) (nested_decides 1 rest)
nested_decides (suc depth) (Branch test ∷ rest) = Decides-like _ (with_one (suc depth) (suc (suc depth)) (Branch test) rest (omega arith)) (past_one (suc depth) (suc (suc depth)) (Branch test) rest (omega arith)) (nested_decides (suc (suc depth)) rest)
nested_decides zero (Close ∷ rest) = never (λ nested. omega (arith, nested.each_closes_one 1))
nested_decides (suc depth) (Close ∷ rest) = Decides-like _ (with_one (suc depth) depth Close rest (omega arith)) (past_one (suc depth) depth Close rest (omega arith)) (nested_decides depth rest)
nested_decides zero (c ∷ rest) = Decides-like _ (with_one 0 0 c rest refl) (past_one 0 0 c rest refl) (nested_decides 0 rest)
nested_decides (suc depth) (c ∷ rest) = Decides-like _ (with_one (suc depth) (suc depth) c rest refl) (past_one (suc depth) (suc depth) c rest refl) (nested_decides (suc depth) rest)

thread_decides : (objects : ℕ) (commands : List Command) → Decides (is_thread objects commands) (IsValidThread objects commands)
thread_decides objects commands =
    Decides-like _
    (λ h. record { in_range = h.0; nested = record { each_closes_one = λ place. omega (arith, h.1.each_closes_one place); each_is_closed = omega (arith, h.1.each_is_closed) } })
    (λ v. (v.in_range, record { each_closes_one = λ place. omega (arith, v.nested.each_closes_one place); each_is_closed = omega (arith, v.nested.each_is_closed) }))
    (Decides-and _ _ (Decides-by_and (is_command objects) (IsCommand objects) (list_all (is_command objects)) (command_decides objects) refl (λ c rest. refl) commands) (nested_decides 0 commands))

distinct_decides : (texts : List (List ℕ)) → Decides (are_distinct texts) (AreDistinct texts)
distinct_decides [] = (λ h first second lt below. absurd (omega arith), λ h. refl)
distinct_decides (text ∷ texts) =
    Decides-like _ (λ h. with_text h.0 h.1) (λ differ. (λ there. differ 0 (suc there.0) (omega arith) (omega (arith, there.1)) (there.2 []), λ first second lt below. differ (suc first) (suc second) (omega arith) (omega arith)))
    (Decides-and _ _ (Decides-not _ (Decides-by_or (bytes_eq text) (λ other. text ≡ other) (list_any (bytes_eq text)) (bytes_eq-Decides text) refl (λ other rest. refl) texts)) (distinct_decides texts))
  where
    with_text : (((k : ℕ) × (k < length texts) × HoldsAt (λ other. text ≡ other) texts k) → ⊥) → AreDistinct texts → AreDistinct (text ∷ texts)
    with_text none differ zero zero lt below = absurd (omega arith)
    with_text none differ zero (suc second) lt below = λ same. none (second, omega arith, λ d. same ∙ get_or_default texts second [] d (omega arith))
    with_text none differ (suc first) zero lt below = absurd (omega arith)
    with_text none differ (suc first) (suc second) lt below = differ first second (omega arith) (omega arith)

-- the test of a script holds exactly where it is valid
pub script_decides : (fuel : ℕ) (objects : List Object) (threads : List (List Command)) → Decides (is_script fuel objects threads) (IsValidScript fuel objects threads)
script_decides fuel objects threads =
    let names = distinct_decides (map (λ object. object.name) objects) in
    let each = Decides-by_and (is_thread (length objects)) (IsValidThread (length objects)) (list_all (is_thread (length objects))) (thread_decides (length objects)) refl (λ c rest. refl) threads in
    Decides-like _
    (λ h. record {
      some_fuel = h.0.0.0.0.0.0.0;
      most_fuel = h.0.0.0.0.0.0.1;
      most_objects = h.0.0.0.0.0.1;
      names_differ = h.0.0.0.0.1;
      some_threads = h.0.0.0.1;
      most_threads = h.0.0.1;
      fuel_of_all = h.0.1;
      each = h.1;
    })
    (λ v. (((((((v.some_fuel, v.most_fuel), v.most_objects), v.names_differ), v.some_threads), v.most_threads), v.fuel_of_all), v.each))
    (Decides-and _ _ (Decides-and _ _ (Decides-and _ _ (Decides-and _ _ (Decides-and _ _ (Decides-and _ _ (Decides-and _ _
    (at_most 1 fuel) (at_most fuel MAX_FUEL)) (at_most (length objects) MAX_OBJECTS)) names) (at_most 1 (length threads))) (at_most (length threads) MAX_THREADS)) (at_most (length threads * fuel) MAX_FUEL)) each)

-- a script that passes the test is valid
pub valid_script : (fuel : ℕ) (objects : List Object) (threads : List (List Command)) → IsTrue (is_script fuel objects threads) → IsValidScript fuel objects threads
valid_script fuel objects threads = (script_decides fuel objects threads).0

mark_decides : (threads thread : ℕ) (mark : Mark) → Decides (is_mark threads thread mark) (IsMark threads thread mark)
mark_decides threads thread (Join from upto) = three _ _ _ (Decides-ltb from threads) (Decides-not _ (Decides-eqb from thread)) (Decides-ltb upto (2 ^ 64))
mark_decides threads thread (Draw number) = Decides-and _ _ (at_most 1 number) (Decides-ltb number (2 ^ 64))
mark_decides threads thread (Fence number) = Decides-and _ _ (at_most 1 number) (Decides-ltb number (2 ^ 64))

thread_log_decides : (threads thread : ℕ) (log : ThreadLog) → Decides (is_thread_log threads thread log) (IsValidThreadLog threads thread log)
thread_log_decides threads thread log =
    Decides-like _ (λ h. record { few_marks = h.0; gaps = h.1; marks = h.2 }) (λ v. (v.few_marks, v.gaps, v.marks))
    (three _ _ _ (Decides-ltb (length log.marks) (2 ^ 31)) (at_most (sum_by (λ m. m.gap) log.marks) log.accesses)
    (Decides-by_and (λ (m : Gapped). is_mark threads thread m.mark) (λ m. IsMark threads thread m.mark) (list_all (λ m. is_mark threads thread m.mark)) (λ m. mark_decides threads thread m.mark) refl (λ m rest. refl) log.marks))

-- the logs from a thread on
abbrev AreValidFrom : ℕ → ℕ → List ThreadLog → Type 0
AreValidFrom threads thread logs = (k : ℕ) → k < length logs → IsValidThreadLog threads (thread + k) (thread_log_of logs k)

logs_decide : (threads thread : ℕ) (logs : List ThreadLog) → Decides (are_thread_logs threads thread logs) (AreValidFrom threads thread logs)
logs_decide threads thread [] = (λ h k lt. absurd (omega arith), λ h. refl)
logs_decide threads thread (log ∷ logs) =
    Decides-like _ (λ h. each h.0 h.1)
    (λ v. (subst (λ (n : ℕ). IsValidThreadLog threads n log) (omega arith) (v 0 (omega arith)), λ k lt. subst (λ (n : ℕ). IsValidThreadLog threads n (thread_log_of logs k)) (omega arith) (v (suc k) (omega arith))))
    (Decides-and _ _ (thread_log_decides threads thread log) (logs_decide threads (suc thread) logs))
  where
    each : IsValidThreadLog threads thread log → AreValidFrom threads (suc thread) logs → AreValidFrom threads thread (log ∷ logs)
    each first rest zero lt = subst (λ (n : ℕ). IsValidThreadLog threads n log) (omega arith) first
    each first rest (suc k) lt = subst (λ (n : ℕ). IsValidThreadLog threads n (thread_log_of logs k)) (omega arith) (rest k (omega arith))

-- the test of a log holds exactly where it is valid
pub log_decides : (log : List ThreadLog) → Decides (is_log log) (IsValidLog log)
log_decides log =
    Decides-like _
    (λ h. record {
      some_threads = h.0.0.0;
      most_threads = h.0.0.1;
      accesses_of_all = h.0.1;
      each = λ k lt. subst (λ (n : ℕ). IsValidThreadLog (length log) n (thread_log_of log k)) (omega arith) (h.1 k lt);
    })
    (λ v. (((v.some_threads, v.most_threads), v.accesses_of_all), λ k lt. subst (λ (n : ℕ). IsValidThreadLog (length log) n (thread_log_of log k)) (omega arith) (v.each k lt)))
    (Decides-and _ _ (Decides-and _ _ (Decides-and _ _ (at_most 1 (length log)) (at_most (length log) MAX_THREADS)) (at_most (sum_by (λ thread. thread.accesses) log) MAX_ACCESSES)) (logs_decide (length log) 0 log))

-- a log that passes the test is valid
pub valid_log : (log : List ThreadLog) → IsTrue (is_log log) → IsValidLog log
valid_log log = (log_decides log).0
