use Rattle.std.proofs.Common.{◌≡◌, ◌++◌, drop}
use Rattle.std.specs.List.{flat_map}
use Rattle.std.specs.Int.{to_be_bytes, w64}
use Rattle.octet_marks.proofs.bodies.push_starts.Given as goal

-- what is written, and then the values that are left
abbrev pub invariant-loop-start : goal.invariant-loop-start
invariant-loop-start l = l.out.items ++ flat_map (to_be_bytes w64) (drop l.start-index l.starts) ≡ l.fn.out.items ++ flat_map (to_be_bytes w64) l.starts
