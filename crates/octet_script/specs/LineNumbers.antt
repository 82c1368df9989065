-- On which line of its text each command of a script stands.
use Rattle.std.specs.Prelude.{ℕ, suc, Bool, false, List, [], ◌∷◌, codes, drop, map}
use Rattle.std.specs.List.{slice_split, filter}
use Rattle.std.specs.Str.{bytes_eq}
use Rattle.octet_script.specs.Words.{lines, is_filled, words_of_line}

-- a line's number, and its words
pub record NumberedLine : Type 0 where
  pub number : ℕ
  pub words : List (List ℕ)

-- the lines with their numbers, counted from this number
abbrev pub numbered_from : ℕ → List (List ℕ) → List NumberedLine
numbered_from number [] = []
numbered_from number (line ∷ more) = record { number = number; words = words_of_line line } ∷ numbered_from (suc number) more

-- the test whether the first word is `thread`
abbrev pub begin_thread : List (List ℕ) → Bool
begin_thread [] = false
begin_thread (first ∷ others) = bytes_eq first (codes "thread")

-- the test whether a line begins a thread
abbrev pub is_thread_line : NumberedLine → Bool
is_thread_line line = begin_thread line.words

-- the test whether a line has words
abbrev pub has_words : NumberedLine → Bool
has_words line = is_filled line.words

-- the numbers of the lines that have words
abbrev pub numbers_of : List NumberedLine → List ℕ
numbers_of part = map (λ line. line.number) (filter has_words part)

-- the numbers of the lines of each thread's commands, counted from 1.
-- They are the lines with words after its `thread` line, up to the next one
abbrev pub command_lines : List ℕ → List (List ℕ)
command_lines text = map numbers_of (drop 1 (slice_split is_thread_line (numbered_from 1 (lines text))))
