-- Counts in rows, with a column for each thread that a script may have.
use Rattle.std.specs.Prelude.{ℕ, ◌+◌, ◌*◌, List, get_or}
use Rattle.octet_model.specs.declared.limits.TheConstants.{MAX_THREADS}

-- the count of this row and column
abbrev pub cell : List ℕ → ℕ → ℕ → ℕ
cell counts row column = get_or counts (MAX_THREADS * row + column) 0
