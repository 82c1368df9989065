-- Which bytes spell a log, in either version.
use Rattle.std.specs.Prelude.{◌≡◌, ℕ, List, Option, Some, None}
use Rattle.octet_model.specs.declared.log.ThreadLog.{ThreadLog}
use Rattle.octet_model.specs.Texts.{log_bytes}
use Rattle.octet_log.specs.v2.Pieces.{SpellsPieces}

-- the bytes spell the log: in version 1, without a digest, or in version 2, with that digest
abbrev pub IsSpelling : List ℕ → Option (List ℕ) → List ThreadLog → Type 0
IsSpelling bytes None logs = bytes ≡ log_bytes logs
IsSpelling bytes (Some digest) logs = SpellsPieces bytes digest logs
