-- Which refusal a text meets first: the lines are judged in order, and within a line the rules in this file's order.
use Rattle.std.specs.Prelude.{◌≡◌, ℕ, suc, ◌+◌, ◌*◌, ◌==◌, ◌||◌, if◌then◌else◌, Bool, true, false, not, nat_le, nat_lt, List, [], ◌∷◌, ◌++◌, codes, length, take, count_by, Option, Some, None, is_some, unwrap_or, Result, Ok, Err, slice_index_or}
use Rattle.std.specs.Option.{ok_or}
use Rattle.std.specs.Str.{bytes_eq}
use Rattle.std.specs.Str.Lossy.{utf8_valid_len}
use Rattle.octet_model.specs.declared.command.Command.{Command}
use Rattle.octet_model.specs.declared.command.Command.TheVariants as command
use Rattle.octet_model.specs.declared.limits.TheConstants.{DEFAULT_FUEL, MAX_FUEL, MAX_OBJECTS, MAX_THREADS}
use Rattle.octet_model.specs.Name.{is_name}
use Rattle.octet_script.specs.declared.cause.ScriptCause.TheVariants.{NotUtf8, UnknownWord, WrongCount, BadNumber, BadName, NameTwice, NoSuchObject, BadRegister, Misplaced, Unclosed, EndWithoutOpen, TooMany, NoThread, BadFuel}
use Rattle.octet_script.specs.declared.cause.ScriptFault.{ScriptFault}
use Rattle.octet_script.specs.declared.cause.ScriptFault.TheVariants.{Refused, OutOfMemory}
use Rattle.octet_script.specs.declared.keyword.Keyword.{Keyword}
use Rattle.octet_script.specs.declared.keyword.Keyword.TheVariants.{Fuel, Object, Thread, Command as CommandWord}
use Rattle.octet_script.specs.declared.keyword.Verb.{Verb}
use Rattle.octet_script.specs.declared.keyword.Verb.TheVariants.{Set, Copy, Arithmetic, Read, Write, Bump, While, If, End, Safe, Pause, Region}
use Rattle.octet_script.specs.declared.keyword.Arithmetic.{Arithmetic as ArithmeticType}
use Rattle.octet_script.specs.declared.keyword.Arithmetic.TheVariants.{Add, Sub, Mul, Xor, Less, Same}
use Rattle.octet_script.specs.Words.{lines, is_line_end, words_of_line}
use Rattle.octet_script.specs.Spelling.{number_of, register_of, object_named, Declaration, declared_names, Contents}

-- what the lines so far have said
pub record Draft : Type 0 where
  -- what a fuel line gave
  pub fuel : Option ℕ
  pub objects : List Declaration
  -- whether a `thread` came
  pub started : Bool
  -- the threads before the present one
  pub threads : List (List Command)
  -- the present thread's commands
  pub commands : List Command
  -- the lines of its open `while`s and `if`s, the innermost first
  pub openers : List ℕ

-- the draft before the first line
abbrev pub start : Draft
start = record { fuel = None; objects = []; started = false; threads = []; commands = []; openers = [] }

-- the names of the objects so far
abbrev pub names_of : Draft → List (List ℕ)
names_of p = declared_names p.objects

-- the fuel that was given, else the default
abbrev pub fuel_of : Draft → ℕ
fuel_of p = unwrap_or p.fuel DEFAULT_FUEL

-- the threads so far, with the present one
abbrev pub threads_of : Draft → List (List Command)
threads_of p = if p.started then p.threads ++ p.commands ∷ [] else p.threads

-- what the lines of a draft say as a whole
abbrev pub contents_of : Draft → Contents
contents_of p = record { fuel = fuel_of p; objects = p.objects; threads = threads_of p }

-- the second judgement with what the first gave, unless the first is refused
infixl 10 ◌>>=◌
abbrev pub ◌>>=◌ : {A B : Type 0} → Result A ScriptFault → (A → Result B ScriptFault) → Result B ScriptFault
(Ok x) >>= f = f x
(Err e) >>= f = Err e

-- rule 1, the keywords: a first word that is none of them is an unknown word
abbrev pub keywords : List (List ℕ × Keyword)
keywords =
    (codes "fuel", Fuel)
    ∷ (codes "object", Object)
    ∷ (codes "thread", Thread)
    ∷ (codes "set", CommandWord Set)
    ∷ (codes "copy", CommandWord Copy)
    ∷ (codes "add", CommandWord (Arithmetic Add))
    ∷ (codes "sub", CommandWord (Arithmetic Sub))
    ∷ (codes "mul", CommandWord (Arithmetic Mul))
    ∷ (codes "xor", CommandWord (Arithmetic Xor))
    ∷ (codes "less", CommandWord (Arithmetic Less))
    ∷ (codes "same", CommandWord (Arithmetic Same))
    ∷ (codes "read", CommandWord Read)
    ∷ (codes "write", CommandWord Write)
    ∷ (codes "bump", CommandWord Bump)
    ∷ (codes "while", CommandWord While)
    ∷ (codes "if", CommandWord If)
    ∷ (codes "end", CommandWord End)
    ∷ (codes "safe", CommandWord Safe)
    ∷ (codes "pause", CommandWord Pause)
    ∷ (codes "region", CommandWord Region) ∷ []

-- the keyword that a word names in the list
abbrev pub named_in : List (List ℕ × Keyword) → List ℕ → Option Keyword
named_in [] word = None
named_in ((own, k) ∷ more) word = if bytes_eq word own then Some k else named_in more word

-- the keyword that a word is
abbrev pub keyword : List ℕ → Option Keyword
keyword word = named_in keywords word

-- rule 2, the number of words that a line of this keyword has: any other number is a wrong count
abbrev pub word_count : Keyword → ℕ
word_count Fuel = 2
word_count Object = 3
word_count Thread = 1
word_count (CommandWord Set) = 3
word_count (CommandWord Copy) = 3
word_count (CommandWord (Arithmetic operation)) = 4
word_count (CommandWord Read) = 3
word_count (CommandWord Write) = 3
word_count (CommandWord Bump) = 3
word_count (CommandWord While) = 2
word_count (CommandWord If) = 2
word_count (CommandWord End) = 1
word_count (CommandWord Safe) = 1
word_count (CommandWord Pause) = 1
word_count (CommandWord Region) = 1

-- rule 3, the test whether a line is misplaced:
-- the fuel and objects stand before the first thread, commands after it
abbrev pub is_misplaced : Bool → Keyword → Bool
is_misplaced started Fuel = started
is_misplaced started Object = started
is_misplaced started Thread = false
is_misplaced started (CommandWord verb) = not started

-- rule 4, the word at a place: the arguments are judged from left to right
abbrev pub word_at : List (List ℕ) → ℕ → List ℕ
word_at words place = slice_index_or words place []

-- the number at a place, or the refusal of its word
abbrev pub number_at : ℕ → List (List ℕ) → ℕ → Result ℕ ScriptFault
number_at line words place = ok_or (number_of (word_at words place)) (Refused line BadNumber)

-- the register at a place, or the refusal of its word
abbrev pub register_at : ℕ → List (List ℕ) → ℕ → Result ℕ ScriptFault
register_at line words place = ok_or (register_of (word_at words place)) (Refused line BadRegister)

-- the object that is named at a place, or the refusal of its word
abbrev pub object_at : List (List ℕ) → ℕ → List (List ℕ) → ℕ → Result ℕ ScriptFault
object_at names line words place = ok_or (object_named names (word_at words place)) (Refused line NoSuchObject)

-- the word as a name that no object has, or its refusal
abbrev pub judged_name : List (List ℕ) → ℕ → List ℕ → Result (List ℕ) ScriptFault
judged_name names line word =
    if not (is_name word) then Err (Refused line BadName)
    else (if is_some (object_named names word) then Err (Refused line NameTwice)
    else Ok word)

-- the new name at a place, or the refusal of its word
abbrev pub name_at : List (List ℕ) → ℕ → List (List ℕ) → ℕ → Result (List ℕ) ScriptFault
name_at names line words place = judged_name names line (word_at words place)

-- the command of an arithmetic operation
abbrev pub arithmetic_command : ArithmeticType → ℕ → ℕ → ℕ → Command
arithmetic_command Add = command.Add
arithmetic_command Sub = command.Sub
arithmetic_command Mul = command.Mul
arithmetic_command Xor = command.Xor
arithmetic_command Less = command.Less
arithmetic_command Same = command.Same

-- the command that the words of a line say, or the refusal of its first bad argument
abbrev pub command_of : List (List ℕ) → ℕ → List (List ℕ) → Verb → Result Command ScriptFault
command_of names line words Set = do
  to ← register_at line words 1
  number ← number_at line words 2
  Ok (command.Set to number)
command_of names line words Copy = do
  to ← register_at line words 1
  from ← register_at line words 2
  Ok (command.Copy to from)
command_of names line words (Arithmetic operation) = do
  to ← register_at line words 1
  left ← register_at line words 2
  right ← register_at line words 3
  Ok (arithmetic_command operation to left right)
command_of names line words Read = do
  to ← register_at line words 1
  object ← object_at names line words 2
  Ok (command.Read to object)
command_of names line words Write = do
  object ← object_at names line words 1
  from ← register_at line words 2
  Ok (command.Write object from)
command_of names line words Bump = do
  object ← object_at names line words 1
  from ← register_at line words 2
  Ok (command.Bump object from)
command_of names line words While = do
  test ← register_at line words 1
  Ok (command.Loop test)
command_of names line words If = do
  test ← register_at line words 1
  Ok (command.Branch test)
command_of names line words End = Ok command.Close
command_of names line words Safe = Ok command.Safe
command_of names line words Pause = Ok command.Pause
command_of names line words Region = Ok command.Region

-- rule 5, the draft with one more object, of at most 1,024
abbrev pub with_object : Draft → ℕ → List ℕ → ℕ → Result Draft ScriptFault
with_object p line name start =
    if nat_le MAX_OBJECTS (length p.objects) then Err (Refused line TooMany)
    else Ok (record p { objects = p.objects ++ record { name = name; start = start } ∷ [] })

-- rule 6, the draft with its fuel, given once, from 1 to 262,144
abbrev pub with_fuel : Draft → ℕ → ℕ → Result Draft ScriptFault
with_fuel p line fuel =
    if is_some p.fuel || fuel == 0 || nat_lt MAX_FUEL fuel then Err (Refused line BadFuel)
    else Ok (record p { fuel = Some fuel })

-- rule 7, the draft with one more command. An `end` ends the innermost open `while` or `if` of its thread
abbrev pub added : Draft → Command → List ℕ → Draft
added p c openers = record p { commands = p.commands ++ c ∷ []; openers = openers }

-- the draft after an `end`, which is refused where nothing is open
abbrev pub closed : Draft → ℕ → List ℕ → Result Draft ScriptFault
closed p line [] = Err (Refused line EndWithoutOpen)
closed p line (opener ∷ openers) = Ok (added p command.Close openers)

-- the draft after a command in this line
abbrev pub with_command : Draft → ℕ → Command → Result Draft ScriptFault
with_command p line (command.Loop test) = Ok (added p (command.Loop test) (line ∷ p.openers))
with_command p line (command.Branch test) = Ok (added p (command.Branch test) (line ∷ p.openers))
with_command p line command.Close = closed p line p.openers
with_command p line c = Ok (added p c p.openers)

-- rule 8, the draft with one more thread: at most 16 threads, with fuel for all,
-- and none before it is left open
abbrev pub begun : Draft → ℕ → Result Draft ScriptFault
begun p line =
    if nat_le MAX_THREADS (length (threads_of p)) then Err (Refused line TooMany)
    else (if nat_lt MAX_FUEL (suc (length (threads_of p)) * fuel_of p) then Err (Refused line BadFuel)
    else Ok (record p { started = true; threads = threads_of p; commands = [] }))

-- the refusal of the innermost `while` or `if` that is open, if there is one
abbrev pub all_closed : List ℕ → Result (Unit {0}) ScriptFault
all_closed [] = Ok tt
all_closed (opener ∷ openers) = Err (Refused opener Unclosed)

-- the draft after a `thread` line
abbrev pub with_thread : Draft → ℕ → Result Draft ScriptFault
with_thread p line = all_closed p.openers >>= λ _. begun p line

-- the draft by rules 4 to 8, for a line with this keyword
abbrev pub judged_arguments : Draft → ℕ → List (List ℕ) → Keyword → Result Draft ScriptFault
judged_arguments p line words Fuel = do
  fuel ← number_at line words 1
  with_fuel p line fuel
judged_arguments p line words Object = do
  name ← name_at (names_of p) line words 1
  start ← number_at line words 2
  with_object p line name start
judged_arguments p line words Thread = with_thread p line
judged_arguments p line words (CommandWord verb) = do
  c ← command_of (names_of p) line words verb
  with_command p line c

-- the draft by rules 2 to 8, for a line with this keyword
abbrev pub judged_keyword : Draft → ℕ → List (List ℕ) → Keyword → Result Draft ScriptFault
judged_keyword p line words k =
    if not (length words == word_count k) then Err (Refused line WrongCount)
    else (if is_misplaced p.started k then Err (Refused line Misplaced)
    else judged_arguments p line words k)

-- the draft by all rules, for the words of a line. A line without words means nothing
abbrev pub judged_line : Draft → ℕ → List (List ℕ) → Result Draft ScriptFault
judged_line p line [] = Ok p
judged_line p line (first ∷ others) =
    elim (keyword first) [ None ↦ Err (Refused line UnknownWord) | Some k ↦ judged_keyword p line (first ∷ others) k ]

-- the draft after the lines from this number on, in order
abbrev pub judged_lines : List (List ℕ) → Draft → ℕ → Result Draft ScriptFault
judged_lines [] p number = Ok p
judged_lines (line ∷ more) p number = judged_line p number (words_of_line line) >>= λ q. judged_lines more q (suc number)

-- what the text says at its end, or the refusal due there. Its last line has this number
abbrev pub judged_end : Draft → ℕ → Result Contents ScriptFault
judged_end p last = all_closed p.openers >>= λ _. if p.started then Ok (contents_of p) else Err (Refused last NoThread)

-- the refusal of the line in which a text stops being valid UTF-8, if the text does
abbrev pub judged_bytes : List ℕ → Result (Unit {0}) ScriptFault
judged_bytes text =
    if nat_lt (utf8_valid_len text) (length text)
    then Err (Refused (1 + count_by is_line_end (take (utf8_valid_len text) text)) NotUtf8)
    else Ok tt

-- what a text says, or its first refusal
abbrev pub parsed : List ℕ → Result Contents ScriptFault
parsed text = do
  valid ← judged_bytes text
  p ← judged_lines (lines text) start 1
  judged_end p (length (lines text))

-- a fault is the refusal that is due, or out of memory
abbrev pub Fails : {Y : Type 0} → ScriptFault → Result Y ScriptFault → Type 0
Fails OutOfMemory judged = Unit {0}
Fails (Refused line cause) judged = judged ≡ Err (Refused line cause)

-- the function returned what is due, as `view` sees its result, unless memory ran out
abbrev pub Gives : {X Y : Type 0} → (X → Y) → Result X ScriptFault → Result Y ScriptFault → Type 0
Gives view (Ok x) judged = judged ≡ Ok (view x)
Gives view (Err e) judged = Fails e judged
