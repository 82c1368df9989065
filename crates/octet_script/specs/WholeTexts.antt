-- The rules of a whole text: it is UTF-8, it has a thread, and each `while` and `if` is ended in its thread.
use Rattle.std.specs.Prelude.{◌≡◌, ◌≢◌, ◌⊎◌, ℕ, ◌+◌, List, [], ◌∷◌, ◌++◌, codes, length, take, Ok, Err}
use Rattle.std.specs.List.{All}
use Rattle.std.specs.Str.{IsUtf8, IsValidUpTo}
use Rattle.octet_script.specs.declared.cause.ScriptCause.TheVariants.{NotUtf8, Unclosed, NoThread, EndWithoutOpen}
use Rattle.octet_script.specs.declared.cause.ScriptFault.TheVariants.{Refused}
use Rattle.octet_script.specs.Words.{lines, words_of_line}
use Rattle.octet_script.specs.Parsing.{Draft, start, parsed, judged_lines}
use Rattle.octet_script.specs.BrokenRules.{IsReached, IsRefused}

-- every line of the text is accepted, and together the lines said this
pub record IsAccepted (text : List ℕ) (said : Draft) : Type 0 where
  pub utf8 : IsUtf8 text
  pub accepted : judged_lines (lines text) start 1 ≡ Ok said

-- the line begins a thread
abbrev pub IsThreadLine : List ℕ → Type 0
IsThreadLine line = words_of_line line ≡ codes "thread" ∷ []

-- the line is an `end`
abbrev pub IsEndLine : List ℕ → Type 0
IsEndLine line = words_of_line line ≡ codes "end" ∷ []

-- the first word, empty where there is none
abbrev pub first_of : List (List ℕ) → List ℕ
first_of [] = []
first_of (word ∷ words) = word

-- the first word of a line, empty where the line has none
abbrev pub first_word : List ℕ → List ℕ
first_word line = first_of (words_of_line line)

-- the line is a `while` or an `if`, which an `end` ends
abbrev pub IsOpener : List ℕ → Type 0
IsOpener line = (first_word line ≡ codes "while") ⊎ (first_word line ≡ codes "if")

-- the line is no `while`, no `if` and no `end`
pub record IsPlain (line : List ℕ) : Type 0 where
  pub no_while : first_word line ≢ codes "while"
  pub no_if : first_word line ≢ codes "if"
  pub no_end : first_word line ≢ codes "end"

-- a body of lines: each line is plain, or opens what a later line of the body ends
pub data Body : Type 0 where
  Nothing : Body
  Plain : (line : List ℕ) → (after : Body) → Body
  Nested : (opener : List ℕ) → (inside : Body) → (closer : List ℕ) → (after : Body) → Body

-- the lines of a body, in order
abbrev pub lines_of : Body → List (List ℕ)
lines_of Nothing = []
lines_of (Plain line after) = line ∷ lines_of after
lines_of (Nested opener inside closer after) = opener ∷ (lines_of inside ++ closer ∷ lines_of after)

-- the lines of a body are what their places say: plain lines, openers and their ends
abbrev pub IsBody : Body → Type 0
IsBody Nothing = Unit {0}
IsBody (Plain line after) = IsPlain line × IsBody after
IsBody (Nested opener inside closer after) = IsOpener opener × IsBody inside × IsEndLine closer × IsBody after

-- the lines after `front` are a first line of this kind and a body, in which everything that is opened is ended
pub record IsBodyAfter (IsFirst : List ℕ → Type 0) (front : List (List ℕ)) (before : List (List ℕ)) : Type 0 where
  pub first : List ℕ
  pub body : Body
  pub cut : before ≡ front ++ first ∷ lines_of body
  pub is_first : IsFirst first
  pub is_body : IsBody body

-- the innermost `while` or `if` that these lines leave open stands after the lines of `front`
abbrev pub LeaveOpen : List (List ℕ) → List (List ℕ) → Type 0
LeaveOpen front before = IsBodyAfter IsOpener front before

-- the lines leave nothing open in their last thread
abbrev pub LeaveNothingOpen : List (List ℕ) → Type 0
LeaveNothingOpen before = (front : List (List ℕ)) × IsBodyAfter IsThreadLine front before

-- a text that is not UTF-8 is refused in the line in which its longest valid front ends,
-- whatever stands in its lines
abbrev pub NotUtf8IsRefused : Type 0
NotUtf8IsRefused = (text : List ℕ) (bytes : ℕ) → IsValidUpTo text bytes → parsed text ≡ Err (Refused (length (lines (take bytes text))) NotUtf8)

-- a text without a thread is refused at its last line
abbrev pub NoThreadIsRefused : Type 0
NoThreadIsRefused = (text : List ℕ) (said : Draft) → IsAccepted text said → All (λ line. IsThreadLine line → ⊥) (lines text) → parsed text ≡ Err (Refused (length (lines text)) NoThread)

-- a `while` or `if` that its text leaves open is refused in its own line
abbrev pub OpenAtEndIsRefused : Type 0
OpenAtEndIsRefused = (text : List ℕ) (said : Draft) (front : List (List ℕ)) → IsAccepted text said → LeaveOpen front (lines text) → parsed text ≡ Err (Refused (1 + length front) Unclosed)

-- a `while` or `if` that a thread leaves open before the next thread is refused in its own line
abbrev pub OpenBeforeThreadIsRefused : Type 0
OpenBeforeThreadIsRefused = (text : List ℕ) (before : List (List ℕ)) (line : List ℕ) (said : Draft) (front : List (List ℕ)) → IsReached text before line said → IsThreadLine line → LeaveOpen front before → parsed text ≡ Err (Refused (1 + length front) Unclosed)

-- an `end` in a thread that has nothing open is refused
abbrev pub EndOfNothingIsRefused : Type 0
EndOfNothingIsRefused = (text : List ℕ) (before : List (List ℕ)) (line : List ℕ) (said : Draft) → IsReached text before line said → IsEndLine line → LeaveNothingOpen before → IsRefused text before EndWithoutOpen
