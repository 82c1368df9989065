-- How many accesses may lie between two marks.
use Rattle.std.specs.Prelude.{ℕ}

-- the greatest gap of a mark, a number of 32 bits
abbrev pub MAX_GAP : ℕ
MAX_GAP = 4294967295
