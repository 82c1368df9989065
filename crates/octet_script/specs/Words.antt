-- The lines of a text, and the words of a line.
use denote.Ref.{Bor}
use Rattle.std.specs.Prelude.{ℕ, ◌||◌, ◌==◌, List, [], ◌∷◌, Bool, true, false, map}
use Rattle.std.specs.List.{slice_split, before_first, filter}

-- the test for LF, which ends a line. The bytes after the last LF are a line too
abbrev pub is_line_end : ℕ → Bool
is_line_end b = b == 10

-- the lines of a text
abbrev pub lines : List ℕ → List (List ℕ)
lines text = slice_split is_line_end text

-- the test for #, which begins a comment
abbrev pub is_comment_start : ℕ → Bool
is_comment_start b = b == 35

-- the bytes of a line before its first #, which alone are read
abbrev pub uncommented : List ℕ → List ℕ
uncommented line = before_first is_comment_start line

-- the test for a blank, a tab or CR
abbrev pub is_blank : ℕ → Bool
is_blank b = b == 32 || b == 9 || b == 13

-- the test whether a list has an item
abbrev pub is_filled : {X : Type 0} → List X → Bool
is_filled [] = false
is_filled (x ∷ xs) = true

-- the words of a text: the bytes between blanks, tabs and CRs
abbrev pub words : List ℕ → List (List ℕ)
words text = filter is_filled (slice_split is_blank text)

-- the words of a line
abbrev pub words_of_line : List ℕ → List (List ℕ)
words_of_line line = words (uncommented line)

-- the words of each line that has any
abbrev pub lines_with_words : List ℕ → List (List (List ℕ))
lines_with_words text = filter is_filled (map words_of_line (lines text))

-- words as slices, seen as their bytes
abbrev pub texts : List (Bor (List ℕ)) → List (List ℕ)
texts words = map (λ word. word.now) words
