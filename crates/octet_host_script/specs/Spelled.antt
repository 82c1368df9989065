-- What bytes spell.
use Rattle.std.specs.Prelude.{◌≡◌, ℕ, List, Option, Some, None}
use Rattle.sha2.specs.Sha256.{sha256}
use Rattle.octet_model.specs.declared.log.ThreadLog.{ThreadLog}
use Rattle.octet_model.specs.declared.script.Script.{Script}
use Rattle.octet_log.specs.Spellings.{IsSpelling}
use Rattle.octet_script.specs.Spelling.{Spells}

-- a log of this digest, or of none, is of the script of this text
abbrev pub IsOf : List ℕ → Option (List ℕ) → Type 0
IsOf text None = Unit {0}
IsOf text (Some digest) = digest ≡ sha256 text

-- the bytes spell this script, and this log, which has the digest of the script's text or none
pub record IsSpelled (script_bytes log_bytes : List ℕ) (script : Script) (log : List ThreadLog) : Type 0 where
  pub digest : Option (List ℕ)
  pub of : IsOf script_bytes digest
  pub text : Spells script_bytes script
  pub bytes : IsSpelling log_bytes digest log
