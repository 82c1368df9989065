-- How commands get their lines' numbers, line by line.
use Rattle.std.specs.Prelude.{◌≡◌, ℕ, if◌then◌else◌, List, [], ◌∷◌, ◌++◌, drop}
use Rattle.std.specs.List.{onto_first}
use Rattle.octet_script.specs.declared.numbering.Numbering.{Numbering}
use Rattle.octet_script.specs.LineNumbers.{begin_thread}

-- the parts with the present thread's numbers put before the first part
abbrev pub onto_part : List ℕ → List (List ℕ) → List (List ℕ)
onto_part present [] = present ∷ []
onto_part present (part ∷ parts) = (present ++ part) ∷ parts

-- the numbers of all threads, if the lines to come give these parts. The first part ends at the next `thread`.
-- Numbers before the first `thread` belong to no thread
abbrev pub numbers_with : Numbering → List (List ℕ) → List (List ℕ)
numbers_with n parts = n.threads ++ (if n.started then onto_part n.present parts else drop 1 parts)

-- the parts with a line of this number and these words put before them
abbrev pub with_line : ℕ → List (List ℕ) → List (List ℕ) → List (List ℕ)
with_line number [] parts = parts
with_line number (first ∷ others) parts = if begin_thread (first ∷ others) then [] ∷ parts else onto_first number parts

-- the numbering after takes in a line of this number and these words
abbrev pub TakesIn : Numbering → ℕ → List (List ℕ) → Numbering → Type 0
TakesIn before number words after = (part : List ℕ) (parts : List (List ℕ)) → numbers_with after (part ∷ parts) ≡ numbers_with before (with_line number words (part ∷ parts))
