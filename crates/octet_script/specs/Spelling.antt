-- The grammar of scripts: which texts spell a script, and the one canonical text of a script.
use Rattle.std.specs.Prelude.{◌≡◌, ℕ, ◌^◌, ◌&&◌, if◌then◌else◌, Bool, nat_le, nat_lt, List, [], ◌∷◌, ◌++◌, codes, length, map, Option, Some, None, slice_index_or}
use Rattle.std.specs.List.{AllZip, flat_map, position, join_with_byte}
use Rattle.std.specs.Fmt.{decimal}
use Rattle.std.specs.Str.{IsUtf8, bytes_eq, all_ascii_digits}
use Rattle.std.specs.Str.Parse.{digits_value}
use Rattle.octet_model.specs.declared.command.Command.{Command}
use Rattle.octet_model.specs.declared.command.Command.TheVariants.{Set, Copy, Add, Sub, Mul, Xor, Less, Same, Read, Write, Bump, Loop, Branch, Close, Safe, Pause, Region}
use Rattle.octet_model.specs.declared.object.Object.{Object}
use Rattle.octet_model.specs.declared.script.Script.{Script}
use Rattle.octet_model.specs.declared.limits.TheConstants.{DEFAULT_FUEL}
use Rattle.octet_model.specs.Name.{IsName}
use Rattle.octet_script.specs.Words.{lines_with_words}

-- the test for a number: 1 to 20 digits, with a value below 2 ^ 64
abbrev pub is_number : List ℕ → Bool
is_number word = nat_le 1 (length word) && nat_le (length word) 20 && all_ascii_digits word && nat_lt (digits_value 10 word) (2 ^ 64)

-- the number that a word is
abbrev pub number_of : List ℕ → Option ℕ
number_of word = if is_number word then Some (digits_value 10 word) else None

-- the words of the sixteen registers, in order
abbrev pub register_words : List (List ℕ)
register_words =
    codes "r0" ∷ codes "r1" ∷ codes "r2" ∷ codes "r3" ∷ codes "r4" ∷ codes "r5" ∷ codes "r6" ∷ codes "r7"
    ∷ codes "r8" ∷ codes "r9" ∷ codes "r10" ∷ codes "r11" ∷ codes "r12" ∷ codes "r13" ∷ codes "r14" ∷ codes "r15" ∷ []

-- the register that a word is
abbrev pub register_of : List ℕ → Option ℕ
register_of word = position (bytes_eq word) register_words

-- the object that has the word as its name
abbrev pub object_named : List (List ℕ) → List ℕ → Option ℕ
object_named names word = position (bytes_eq word) names

-- what stands at a place of a line: a word of the language, a number, a register, an object,
-- or the name of a new object
pub data Part : Type 0 where
  Word : (word : List ℕ) → Part
  Number : (number : ℕ) → Part
  Register : (register : ℕ) → Part
  Known : (object : ℕ) → Part
  New : (name : List ℕ) → Part

-- the word is written for the part, where objects have these names
abbrev pub IsPart : List (List ℕ) → Part → List ℕ → Type 0
IsPart names (Word own) word = word ≡ own
IsPart names (Number number) word = number_of word ≡ Some number
IsPart names (Register register) word = register_of word ≡ Some register
IsPart names (Known object) word = object_named names word ≡ Some object
IsPart names (New name) word = (word ≡ name) × IsName name

-- the parts of a command's line
abbrev pub command_form : Command → List Part
command_form (Set to number) = Word (codes "set") ∷ Register to ∷ Number number ∷ []
command_form (Copy to from) = Word (codes "copy") ∷ Register to ∷ Register from ∷ []
command_form (Add to left right) = Word (codes "add") ∷ Register to ∷ Register left ∷ Register right ∷ []
command_form (Sub to left right) = Word (codes "sub") ∷ Register to ∷ Register left ∷ Register right ∷ []
command_form (Mul to left right) = Word (codes "mul") ∷ Register to ∷ Register left ∷ Register right ∷ []
command_form (Xor to left right) = Word (codes "xor") ∷ Register to ∷ Register left ∷ Register right ∷ []
command_form (Less to left right) = Word (codes "less") ∷ Register to ∷ Register left ∷ Register right ∷ []
command_form (Same to left right) = Word (codes "same") ∷ Register to ∷ Register left ∷ Register right ∷ []
command_form (Read to object) = Word (codes "read") ∷ Register to ∷ Known object ∷ []
command_form (Write object from) = Word (codes "write") ∷ Known object ∷ Register from ∷ []
command_form (Bump object from) = Word (codes "bump") ∷ Known object ∷ Register from ∷ []
command_form (Loop test) = Word (codes "while") ∷ Register test ∷ []
command_form (Branch test) = Word (codes "if") ∷ Register test ∷ []
command_form Close = Word (codes "end") ∷ []
command_form Safe = Word (codes "safe") ∷ []
command_form Pause = Word (codes "pause") ∷ []
command_form Region = Word (codes "region") ∷ []

-- a name and the value that its object starts with
pub record Declaration : Type 0 where
  pub name : List ℕ
  pub start : ℕ

-- what a line declares of an object: its name and its starting value
abbrev pub declaration : Object → Declaration
declaration object = record { name = object.name; start = object.start }

-- a line before the first thread: of the fuel, or of an object
pub data Head : Type 0 where
  FuelHead : (fuel : ℕ) → Head
  ObjectHead : (object : Declaration) → Head

-- the parts of a head's line
abbrev pub head_form : Head → List Part
head_form (FuelHead fuel) = Word (codes "fuel") ∷ Number fuel ∷ []
head_form (ObjectHead object) = Word (codes "object") ∷ New object.name ∷ Number object.start ∷ []

-- the parts of a thread's lines: `thread` and the thread's commands
abbrev pub thread_forms : List Command → List (List Part)
thread_forms commands = (Word (codes "thread") ∷ []) ∷ map command_form commands

-- the parts of all lines of a script, in order
abbrev pub script_forms : List Head → List (List Command) → List (List Part)
script_forms heads threads = map head_form heads ++ flat_map thread_forms threads

-- the fuels that the heads give
abbrev pub fuels : List Head → List ℕ
fuels [] = []
fuels (FuelHead fuel ∷ heads) = fuel ∷ fuels heads
fuels (ObjectHead object ∷ heads) = fuels heads

-- the objects that the heads declare, in order
abbrev pub declared : List Head → List Declaration
declared [] = []
declared (FuelHead fuel ∷ heads) = declared heads
declared (ObjectHead object ∷ heads) = object ∷ declared heads

-- the names of declared objects
abbrev pub declared_names : List Declaration → List (List ℕ)
declared_names objects = map (λ o. o.name) objects

-- the names of the objects
abbrev pub object_names : List Object → List (List ℕ)
object_names objects = declared_names (map declaration objects)

-- the fuel is what the one fuel line gives. Without a fuel line it is 16,384
abbrev pub IsFuel : List ℕ → ℕ → Type 0
IsFuel [] fuel = fuel ≡ DEFAULT_FUEL
IsFuel (given ∷ []) fuel = fuel ≡ given
IsFuel (given ∷ again ∷ more) fuel = ⊥

-- what a script says
pub record Contents : Type 0 where
  pub fuel : ℕ
  pub objects : List Declaration
  pub threads : List (List Command)

-- what a script says, as its text spells it
abbrev pub contents : Script → Contents
contents script = record { fuel = script.fuel; objects = map declaration script.objects; threads = script.threads }

-- each word of each line is written for its part
abbrev pub AreForms : List (List ℕ) → List (List Part) → List (List (List ℕ)) → Type 0
AreForms names forms lines = AllZip (AllZip (IsPart names)) forms lines

-- the lines of the text that have words are the heads, then the threads in order.
-- The heads are the objects in order and the fuel, mixed in any way. A fuel of 16,384 may be left out
pub record SpellsContents (text : List ℕ) (said : Contents) : Type 0 where
  pub heads : List Head
  pub utf8 : IsUtf8 text
  pub fuel : IsFuel (fuels heads) said.fuel
  pub objects : declared heads ≡ said.objects
  pub lines : AreForms (declared_names said.objects) (script_forms heads said.threads) (lines_with_words text)

-- the text spells the script
abbrev pub Spells : List ℕ → Script → Type 0
Spells text script = SpellsContents text (contents script)

-- the word of a register
abbrev pub register_word : ℕ → List ℕ
register_word register = codes "r" ++ decimal register

-- the name of an object
abbrev pub object_word : List (List ℕ) → ℕ → List ℕ
object_word names object = slice_index_or names object []

-- the word that a canonical text has for a part
abbrev pub canonical_word : List (List ℕ) → Part → List ℕ
canonical_word names (Word word) = word
canonical_word names (Number number) = decimal number
canonical_word names (Register register) = register_word register
canonical_word names (Known object) = object_word names object
canonical_word names (New name) = name

-- the words of a canonical line, with one blank between words
abbrev pub canonical_words : List (List ℕ) → List Part → List ℕ
canonical_words names form = join_with_byte 32 (map (canonical_word names) form)

-- a canonical line: its words, and LF at the end
abbrev pub canonical_line : List (List ℕ) → List Part → List ℕ
canonical_line names form = canonical_words names form ++ codes "\n"

-- the parts of all canonical lines: the fuel, then each object, then each thread
abbrev pub canonical_forms : Contents → List (List Part)
canonical_forms said = script_forms (FuelHead said.fuel ∷ map (λ o. ObjectHead o) said.objects) said.threads

-- the one canonical text of a script
abbrev pub canonical_text : Script → List ℕ
canonical_text script = flat_map (canonical_line (declared_names (contents script).objects)) (canonical_forms (contents script))
