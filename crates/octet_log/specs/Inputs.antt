-- Bytes as they are handed to a decoder, and the cause of a log's front.
use Rattle.std.specs.Prelude.{ℕ, ◌<◌, ◌≤◌, List, length, slice_index, nat_lt, if◌then◌else◌}
use Rattle.octet_model.specs.declared.limits.TheConstants.{MAX_LOG_FILE}
use Rattle.octet_log.specs.declared.cause.LogCause.{LogCause}
use Rattle.octet_log.specs.declared.cause.LogCause.TheVariants.{NoMagic, CutShort}

-- each item is a byte
abbrev pub AreBytes : List ℕ → Type 0
AreBytes bytes = (i : ℕ) → slice_index bytes i < 256

-- bytes as they may be handed to a decoder
pub record IsInput (bytes : List ℕ) : Type 0 where
  pub fits : AreBytes bytes
  pub short : length bytes ≤ MAX_LOG_FILE

-- the cause to refuse a spelling without its last bytes: no magic within its first four bytes,
-- and cut short after them
abbrev pub cut_cause : List ℕ → LogCause
cut_cause front = if nat_lt (length front) 4 then NoMagic else CutShort (length front)
