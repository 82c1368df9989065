-- The laws of version 1: a number has one spelling in a field, bytes spell one log, and no log is a front of another.
use Rattle.std.specs.Prelude.{◌≡◌, ℕ, ◌<◌, ◌↔◌, List, [], ◌∷◌, ◌++◌, length, Ok, Err, IsTrue}
use Rattle.std.specs.Int.{Width, byte_len, from_be_bytes, to_be_bytes}
use Rattle.octet_model.specs.declared.log.ThreadLog.{ThreadLog}
use Rattle.octet_model.specs.Log.{is_log}
use Rattle.octet_model.specs.Texts.{log_bytes}
use Rattle.octet_log.specs.declared.cause.LogCause.TheVariants.{Trailing}
use Rattle.octet_log.specs.v1.Decoding.{decoded}
use Rattle.octet_log.specs.Inputs.{AreBytes, IsInput, cut_cause}

-- a number below the limit is read again from its field
abbrev pub NumberIsReadAgain : Width → ℕ → Type 0
NumberIsReadAgain w limit = (number : ℕ) → number < limit → from_be_bytes w (to_be_bytes w number) ≡ number

-- the bytes of a field are the only spelling of their number
abbrev pub NumberHasOneSpelling : Width → Type 0
NumberHasOneSpelling w = (bytes : List ℕ) (number : ℕ) → length bytes ≡ byte_len w → AreBytes bytes → from_be_bytes w bytes ≡ number → bytes ≡ to_be_bytes w number

-- the bytes decode as a log exactly where they spell it and it is valid
abbrev pub DecodesLogs : Type 0
DecodesLogs = (bytes : List ℕ) (logs : List ThreadLog) → IsInput bytes → (decoded bytes ≡ Ok logs) ↔ (bytes ≡ log_bytes logs × IsTrue (is_log logs))

-- two valid logs with one spelling are equal
abbrev pub BytesSpellOneLog : Type 0
BytesSpellOneLog = (one other : List ThreadLog) → IsTrue (is_log one) → IsTrue (is_log other) → log_bytes one ≡ log_bytes other → one ≡ other

-- the spelling of one log is never a proper front of another's
abbrev pub NoLogIsAPrefix : Type 0
NoLogIsAPrefix = (one other : List ThreadLog) (rest : List ℕ) → IsTrue (is_log one) → IsTrue (is_log other) → log_bytes other ≡ log_bytes one ++ rest → rest ≡ []

-- a log's spelling without some of its last bytes is cut where it ends
abbrev pub FrontIsCut : Type 0
FrontIsCut = (logs : List ThreadLog) (front : List ℕ) (next : ℕ) (rest : List ℕ) → IsTrue (is_log logs) → log_bytes logs ≡ front ++ next ∷ rest → decoded front ≡ Err (cut_cause front)

-- a byte after a log's spelling is trailing, at its place
abbrev pub ByteAfterIsTrailing : Type 0
ByteAfterIsTrailing = (logs : List ThreadLog) (next : ℕ) (rest : List ℕ) → IsTrue (is_log logs) → decoded (log_bytes logs ++ next ∷ rest) ≡ Err (Trailing (length (log_bytes logs)))
