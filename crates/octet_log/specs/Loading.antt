-- Bytes of either version judged: the log that they spell, with its digest if they have one, or the first cause
-- to refuse them.
use Rattle.std.specs.Prelude.{ℕ, ◌+◌, List, [], ◌∷◌, ◌++◌, length, take, drop, codes, Option, Some, None, Result, Ok, if◌then◌else◌, IsTrue}
use Rattle.std.specs.Str.{bytes_eq}
use Rattle.octet_model.specs.declared.log.ThreadLog.{ThreadLog}
use Rattle.octet_model.specs.Log.{is_log}
use Rattle.octet_log.specs.declared.cause.LogCause.{LogCause}
use Rattle.octet_log.specs.declared.cause.LogFault.{LogFault}
use Rattle.octet_log.specs.Judging.{◌>>=◌, Gives}
use Rattle.octet_log.specs.v1.Decoding.{decoded}
use Rattle.octet_log.specs.Spellings.{IsSpelling}
use Rattle.octet_log.specs.v2.Decoding.{second_at}

-- the word OCTL and the version 2
abbrev pub second_word : List ℕ
second_word = codes "OCTL" ++ 2 ∷ []

-- a log, with a digest or without one
pub record Reading : Type 0 where
  pub logs : List ThreadLog
  pub digest : Option (List ℕ)

-- what all of the bytes spell: in version 2 where they begin with its word, else in version 1
unfoldable pub loaded : List ℕ → Result Reading LogCause
loaded bytes =
    if bytes_eq (take 5 bytes) second_word
    then (second_at (length bytes) (drop 5 bytes) >>= λ read. Ok (record { logs = read.0; digest = Some read.1 }))
    else (decoded bytes >>= λ logs. Ok (record { logs = logs; digest = None }))

-- a spelling of a valid log is read as that log with its digest, unless memory ran out
abbrev pub LoadsSpelling : {X : Type 0} → (X → Reading) → List ℕ → Result X LogFault → Type 0
LoadsSpelling view bytes result = (logs : List ThreadLog) (digest : Option (List ℕ)) → IsTrue (is_log logs) → IsSpelling bytes digest logs → Gives view result (Ok (record { logs = logs; digest = digest }))
