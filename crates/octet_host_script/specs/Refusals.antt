-- Why no heap is opened, or a recording is not followed.
use Rattle.std.specs.Prelude.{◌≡◌, ◌≢◌, ◌⊎◌, ℕ, ◌<◌, List, length, Option, Some, IsTrue}
use Rattle.sha2.specs.Sha256.{sha256}
use Rattle.octet_model.specs.declared.limits.TheConstants.{MAX_SCRIPT_FILE, MAX_LOG_FILE}
use Rattle.octet_model.specs.declared.log.ThreadLog.{ThreadLog}
use Rattle.octet_model.specs.declared.script.Script.{Script}
use Rattle.octet_model.specs.Log.{is_log}
use Rattle.octet_log.specs.Spellings.{IsSpelling}
use Rattle.octet_rerun.specs.declared.fault.RerunFault.{RerunFault}
use Rattle.octet_rerun.specs.Reruns.{Refuses}
use Rattle.octet_script.specs.Spelling.{Spells}
use Rattle.octet_host_script.specs.declared.fault.FollowFault.{FollowFault}
use Rattle.octet_host_script.specs.declared.fault.FollowFault.TheVariants.{OutOfMemory, TooLong, BadText, BadLog, Misfit, Unordered}
use Rattle.octet_host_script.specs.declared.fault.OpenFault.{OpenFault}
use Rattle.octet_host_script.specs.declared.fault.OpenFault.TheVariants as opening
use Rattle.octet_host_script.specs.Faults.{rerun_fault}
use Rattle.octet_host_script.specs.Spelled.{IsSpelled}

-- the text spells no script
abbrev pub SpellsNoScript : List ℕ → Type 0
SpellsNoScript text = (script : Script) → Spells text script → ⊥

-- why no heap is opened as a text declares it
abbrev pub RefusesToOpen : List ℕ → OpenFault → Type 0
RefusesToOpen text opening.OutOfMemory = Unit {0}
RefusesToOpen text opening.BadText = (MAX_SCRIPT_FILE < length text) ⊎ SpellsNoScript text

-- the bytes spell no log, with a digest or without one
abbrev pub SpellsNoLog : List ℕ → Type 0
SpellsNoLog bytes = (log : List ThreadLog) (digest : Option (List ℕ)) → IsTrue (is_log log) → IsSpelling bytes digest log → ⊥

-- the bytes spell a log with the digest of another text
pub record NamesAnother (text bytes : List ℕ) : Type 0 where
  pub digest : List ℕ
  pub log : List ThreadLog
  pub spelled : IsSpelling bytes (Some digest) log
  pub other : digest ≢ sha256 text

-- the bytes spell a script and its log, which are refused for this reason
pub record AreRefused (text bytes : List ℕ) (fault : FollowFault) : Type 0 where
  pub script : Script
  pub log : List ThreadLog
  pub spelled : IsSpelled text bytes script log
  pub why : RerunFault
  pub refuses : Refuses script log why
  pub is : rerun_fault why ≡ fault

-- why the recording that these bytes are to be is not followed
abbrev pub RefusesToFollow : List ℕ → List ℕ → FollowFault → Type 0
RefusesToFollow text bytes OutOfMemory = Unit {0}
RefusesToFollow text bytes TooLong = (MAX_SCRIPT_FILE < length text) ⊎ (MAX_LOG_FILE < length bytes)
RefusesToFollow text bytes BadText = SpellsNoScript text
RefusesToFollow text bytes BadLog = SpellsNoLog bytes
RefusesToFollow text bytes Misfit = NamesAnother text bytes ⊎ AreRefused text bytes Misfit
RefusesToFollow text bytes Unordered = AreRefused text bytes Unordered
