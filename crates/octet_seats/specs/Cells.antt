-- Words that lie eight apart, and the values of the cells among them.
use Rattle.std.specs.Prelude.{ℕ, zero, suc, ◌+◌, ◌*◌, List, [], ◌∷◌, ◌++◌, slice_index}

-- the words laid out, each eight words from the next. Threads at work on different words do not disturb each other
abbrev pub spread : List ℕ → List ℕ
spread [] = []
spread (word ∷ words) = word ∷ 0 ∷ 0 ∷ 0 ∷ 0 ∷ 0 ∷ 0 ∷ 0 ∷ spread words

-- the values of so many cells: the first lies at this place, and each further one eight words on
abbrev pub cells_in : List ℕ → ℕ → ℕ → List ℕ
cells_in words first zero = []
cells_in words first (suc cells) = cells_in words first cells ++ slice_index words (first + 8 * cells) ∷ []
