use Rattle.std.proofs.Common.{◌≡◌, ◌++◌, drop}
use Rattle.std.specs.List.{flat_map}
use Rattle.octet_log.specs.v2.Pieces.{piece_bytes, whole_pieces}
use Rattle.octet_log.proofs.v2.encoder.push_pieces.Given as goal

-- what is written and the pieces of the threads that are left are the pieces' bytes
abbrev pub invariant-loop-thread : goal.invariant-loop-thread
invariant-loop-thread l = l.out.items ++ flat_map piece_bytes (whole_pieces l.thread (drop l.thread l.logs)) ≡ l.fn.out.items ++ flat_map piece_bytes (whole_pieces 0 l.logs)
