-- The rules of a line, each said of its words. The first line that breaks a rule is refused,
-- for the first rule that it breaks.
use Rattle.std.specs.Prelude.{◌≡◌, ◌≢◌, ◌⊎◌, ℕ, ◌+◌, ◌*◌, ◌<◌, ◌≤◌, suc, not, if◌then◌else◌, true, false, List, [], ◌∷◌, ◌++◌, length, Option, Some, None, is_some, Ok, Err}
use Rattle.std.specs.Str.{IsUtf8}
use Rattle.octet_model.specs.declared.limits.TheConstants.{MAX_FUEL, MAX_OBJECTS, MAX_THREADS}
use Rattle.octet_model.specs.Name.{is_name}
use Rattle.octet_script.specs.declared.cause.ScriptCause.{ScriptCause}
use Rattle.octet_script.specs.declared.cause.ScriptCause.TheVariants.{UnknownWord, WrongCount, BadNumber, BadName, NameTwice, NoSuchObject, BadRegister, Misplaced, Unclosed, EndWithoutOpen, TooMany, BadFuel}
use Rattle.octet_script.specs.declared.cause.ScriptFault.TheVariants.{Refused}
use Rattle.octet_script.specs.declared.keyword.Keyword.{Keyword}
use Rattle.octet_script.specs.declared.keyword.Keyword.TheVariants.{Fuel, Object, Thread, Command as CommandWord}
use Rattle.octet_script.specs.declared.keyword.Verb.TheVariants.{Set, Copy, Arithmetic, Read, Write, Bump, While, If, End, Safe, Pause, Region}
use Rattle.octet_script.specs.Words.{lines, words_of_line}
use Rattle.octet_script.specs.Spelling.{number_of, register_of, object_named}
use Rattle.octet_script.specs.Parsing.{Draft, start, parsed, judged_lines, keyword, word_count, is_misplaced, names_of, fuel_of, threads_of}

-- the line stands in the text after the lines before it, which were accepted and said this
pub record IsReached (text : List ℕ) (before : List (List ℕ)) (line : List ℕ) (said : Draft) : Type 0 where
  pub after : List (List ℕ)
  pub utf8 : IsUtf8 text
  pub cut : lines text ≡ before ++ line ∷ after
  pub accepted : judged_lines before start 1 ≡ Ok said

-- the text is refused for this cause, in the line after these
abbrev pub IsRefused : List ℕ → List (List ℕ) → ScriptCause → Type 0
IsRefused text before cause = parsed text ≡ Err (Refused (1 + length before) cause)

-- the words of a line that begins with the keyword, has as many words as the keyword wants,
-- and stands where it may
pub record IsLineOf (said : Draft) (k : Keyword) (first : List ℕ) (arguments : List (List ℕ)) : Type 0 where
  pub begins : keyword first ≡ Some k
  pub count : suc (length arguments) ≡ word_count k
  pub placed : is_misplaced said.started k ≡ false

-- the kind of word that an argument must be
pub data Kind : Type 0 where
  ANumber : Kind
  ARegister : Kind
  AnObject : Kind
  ANewName : Kind

-- the kinds of the arguments of a keyword
abbrev pub kinds : Keyword → List Kind
kinds Fuel = ANumber ∷ []
kinds Object = ANewName ∷ ANumber ∷ []
kinds Thread = []
kinds (CommandWord Set) = ARegister ∷ ANumber ∷ []
kinds (CommandWord Copy) = ARegister ∷ ARegister ∷ []
kinds (CommandWord (Arithmetic operation)) = ARegister ∷ ARegister ∷ ARegister ∷ []
kinds (CommandWord Read) = ARegister ∷ AnObject ∷ []
kinds (CommandWord Write) = AnObject ∷ ARegister ∷ []
kinds (CommandWord Bump) = AnObject ∷ ARegister ∷ []
kinds (CommandWord While) = ARegister ∷ []
kinds (CommandWord If) = ARegister ∷ []
kinds (CommandWord End) = []
kinds (CommandWord Safe) = []
kinds (CommandWord Pause) = []
kinds (CommandWord Region) = []

-- the cause, where there is no value
abbrev pub unless_some : {A : Type 0} → ScriptCause → Option A → Option ScriptCause
unless_some cause (Some x) = None
unless_some cause None = Some cause

-- the cause to refuse a word that is not of its kind, where objects have these names
abbrev pub fault_of : List (List ℕ) → Kind → List ℕ → Option ScriptCause
fault_of names ANumber word = unless_some BadNumber (number_of word)
fault_of names ARegister word = unless_some BadRegister (register_of word)
fault_of names AnObject word = unless_some NoSuchObject (object_named names word)
fault_of names ANewName word = if not (is_name word) then Some BadName else (if is_some (object_named names word) then Some NameTwice else None)

-- the first cause, else the later one
abbrev pub or_else : Option ScriptCause → Option ScriptCause → Option ScriptCause
or_else (Some cause) later = Some cause
or_else None later = later

-- the cause to refuse the first argument that is not of its kind
abbrev pub first_fault : List (List ℕ) → List Kind → List (List ℕ) → Option ScriptCause
first_fault names (kind ∷ kinds) (word ∷ words) = or_else (fault_of names kind word) (first_fault names kinds words)
first_fault names _ _ = None

-- a first word that is no keyword is refused as unknown
abbrev pub UnknownWordIsRefused : Type 0
UnknownWordIsRefused = (text : List ℕ) (before : List (List ℕ)) (line : List ℕ) (said : Draft) (first : List ℕ) (arguments : List (List ℕ)) → IsReached text before line said → words_of_line line ≡ first ∷ arguments
    → keyword first ≡ None → IsRefused text before UnknownWord

-- a line with another number of words than its keyword wants is refused
abbrev pub WrongCountIsRefused : Type 0
WrongCountIsRefused = (text : List ℕ) (before : List (List ℕ)) (line : List ℕ) (said : Draft) (first : List ℕ) (arguments : List (List ℕ)) (k : Keyword) → IsReached text before line said → words_of_line line ≡ first ∷ arguments
    → keyword first ≡ Some k → suc (length arguments) ≢ word_count k → IsRefused text before WrongCount

-- a fuel or object line after a thread began is misplaced. A command before the first thread is misplaced too
abbrev pub MisplacedIsRefused : Type 0
MisplacedIsRefused = (text : List ℕ) (before : List (List ℕ)) (line : List ℕ) (said : Draft) (first : List ℕ) (arguments : List (List ℕ)) (k : Keyword) → IsReached text before line said → words_of_line line ≡ first ∷ arguments
    → keyword first ≡ Some k → suc (length arguments) ≡ word_count k → is_misplaced said.started k ≡ true → IsRefused text before Misplaced

-- a line is refused for its first argument that is not of its kind
abbrev pub BadArgumentIsRefused : Type 0
BadArgumentIsRefused = (text : List ℕ) (before : List (List ℕ)) (line : List ℕ) (said : Draft) (first : List ℕ) (arguments : List (List ℕ)) (k : Keyword) (cause : ScriptCause) → IsReached text before line said → words_of_line line ≡ first ∷ arguments
    → IsLineOf said k first arguments → first_fault (names_of said) (kinds k) arguments ≡ Some cause → IsRefused text before cause

-- a fuel is bad that was given before, is 0 or passes the limit
abbrev pub FuelIsRefused : Type 0
FuelIsRefused = (text : List ℕ) (before : List (List ℕ)) (line : List ℕ) (said : Draft) (first word : List ℕ) (fuel : ℕ) → IsReached text before line said → words_of_line line ≡ first ∷ word ∷ []
    → IsLineOf said Fuel first (word ∷ []) → number_of word ≡ Some fuel → (is_some said.fuel ≡ true) ⊎ ((fuel ≡ 0) ⊎ (MAX_FUEL < fuel)) → IsRefused text before BadFuel

-- an object past the limit is too many
abbrev pub ObjectIsRefused : Type 0
ObjectIsRefused = (text : List ℕ) (before : List (List ℕ)) (line : List ℕ) (said : Draft) (first : List ℕ) (arguments : List (List ℕ)) → IsReached text before line said → words_of_line line ≡ first ∷ arguments
    → IsLineOf said Object first arguments → first_fault (names_of said) (kinds Object) arguments ≡ None → MAX_OBJECTS ≤ length said.objects → IsRefused text before TooMany

-- an `end` where nothing is open ends nothing
abbrev pub EndIsRefused : Type 0
EndIsRefused = (text : List ℕ) (before : List (List ℕ)) (line : List ℕ) (said : Draft) (first : List ℕ) → IsReached text before line said → words_of_line line ≡ first ∷ []
    → IsLineOf said (CommandWord End) first [] → said.openers ≡ [] → IsRefused text before EndWithoutOpen

-- a thread after a thread that left a `while` or `if` open is refused in the line of the innermost of these
abbrev pub OpenThreadIsRefused : Type 0
OpenThreadIsRefused = (text : List ℕ) (before : List (List ℕ)) (line : List ℕ) (said : Draft) (first : List ℕ) (opener : ℕ) (openers : List ℕ) → IsReached text before line said → words_of_line line ≡ first ∷ []
    → IsLineOf said Thread first [] → said.openers ≡ opener ∷ openers → parsed text ≡ Err (Refused opener Unclosed)

-- a thread past the limit is too many
abbrev pub ThreadIsRefused : Type 0
ThreadIsRefused = (text : List ℕ) (before : List (List ℕ)) (line : List ℕ) (said : Draft) (first : List ℕ) → IsReached text before line said → words_of_line line ≡ first ∷ []
    → IsLineOf said Thread first [] → said.openers ≡ [] → MAX_THREADS ≤ length (threads_of said) → IsRefused text before TooMany

-- a thread with which the fuel of all passes the limit has bad fuel
abbrev pub FuelOfAllIsRefused : Type 0
FuelOfAllIsRefused = (text : List ℕ) (before : List (List ℕ)) (line : List ℕ) (said : Draft) (first : List ℕ) → IsReached text before line said → words_of_line line ≡ first ∷ []
    → IsLineOf said Thread first [] → said.openers ≡ [] → length (threads_of said) < MAX_THREADS → MAX_FUEL < suc (length (threads_of said)) * fuel_of said → IsRefused text before BadFuel
