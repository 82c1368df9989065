-- Whether a log is of the script that it is taken with, by the log's digest.
-- A line says that the log is of another script.
use Rattle.std.specs.Prelude.{ℕ, ◌≡◌, ◌≢◌, List, ◌++◌, codes, Option, None, Some, Result, Ok, Err}
use Rattle.hex.specs.Hex.{encode_lower}
use Rattle.sha2.specs.Sha256.{sha256}
use Rattle.octet_log.specs.declared.loader.Digest.{Digest}
use Rattle.octet_replay.specs.declared.fitting.FitFault.{FitFault}
use Rattle.octet_replay.specs.declared.fitting.FitFault.TheVariants.{WrongScript}

-- the log may be of the script: it has no digest, or the digest of the script's text
abbrev pub IsOfScript : List ℕ → Option Digest → Type 0
IsOfScript text None = Unit {0}
IsOfScript text (Some digest) = digest.bytes ≡ sha256 text

-- the log's digest is not that of the script's text, and the fault tells both
abbrev pub IsOfAnother : List ℕ → Option Digest → FitFault → Type 0
IsOfAnother text digest (WrongScript script log) = (digest ≡ Some log) × (script.bytes ≡ sha256 text) × (log.bytes ≢ sha256 text)

-- the answer to whether a log with that digest fits a text
abbrev pub IsFitted : List ℕ → Option Digest → Result (Unit {0}) FitFault → Type 0
IsFitted text digest (Ok done) = IsOfScript text digest
IsFitted text digest (Err fault) = IsOfAnother text digest fault

-- the line with both digests, each as 64 lower-case hexadecimal digits
abbrev pub wrong_script_line : FitFault → List ℕ
wrong_script_line (WrongScript script log) = codes "fit: digest " ++ encode_lower script.bytes ++ codes " of the script, " ++ encode_lower log.bytes ++ codes " of the log\n"
