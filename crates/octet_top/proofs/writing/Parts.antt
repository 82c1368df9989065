-- The parts in which a log is written while its threads run.
use Rattle.std.proofs.Common.{ℕ, List, [], ◌∷◌, ◌++◌, map, length}
use Rattle.octet_model.specs.declared.log.ThreadLog.{ThreadLog}
use Rattle.octet_log.specs.v2.Pieces.{Piece, head_bytes, piece_bytes, tail_bytes}
use Rattle.octet_commands.specs.Delivery.{Act, Begin, Add, Finish}

-- the head and the tail are added as they are, and the marks in pieces
abbrev pub log_parts : List ℕ → List Piece → List ThreadLog → List (List ℕ)
log_parts digest pieces logs = head_bytes (length logs) digest ∷ (map piece_bytes pieces ++ tail_bytes logs ∷ [])

abbrev pub parts_acts : List ℕ → List (List ℕ) → List Act
parts_acts name parts = Begin name ∷ (map Add parts ++ Finish ∷ [])
