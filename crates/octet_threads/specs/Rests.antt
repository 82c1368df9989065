-- How long a worker rests.
use Rattle.std.specs.Prelude.{ℕ, nat_le, if◌then◌else◌}
use Rattle.octet_threads.specs.declared.tuning.TheConstants.{ACCESSES_OF_CALM, SHORTEST_REST}

-- the length of the next rest: the shortest again, if many accesses were made since the last one that had to wait
abbrev pub rest_after : ℕ → ℕ → ℕ
rest_after since rest = if nat_le ACCESSES_OF_CALM since then SHORTEST_REST else rest
