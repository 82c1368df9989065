-- How a command begins that needs a log which is of the script, or one which orders all conflicts.
use Rattle.std.specs.Prelude.{ℕ, ◌≡◌, ◌≢◌, ◌⊎◌, List, Option, Result, Ok, Err}
use Rattle.octet_base.specs.Desk.{DeskState}
use Rattle.octet_model.specs.declared.event.Place.{Place}
use Rattle.octet_replay.specs.declared.fault.ReplayFault.{ReplayFault}
use Rattle.octet_replay.specs.declared.fault.ReplayFault.TheVariants.{OutOfMemory}
use Rattle.octet_replay.specs.Judged.{HasCause}
use Rattle.octet_replay.specs.declared.fitting.FitFault.{FitFault}
use Rattle.octet_replay.specs.Fit.{IsOfScript, IsOfAnother}
use Rattle.octet_clock.specs.declared.verdict.Verdict.TheVariants.{Ordered, Unordered}
use Rattle.octet_clock.specs.Verified.{IsVerified}
use Rattle.octet_commands.specs.declared.inputs.Pair.{Pair}
use Rattle.octet_commands.specs.Answer.{Answer, RefusesBy, does_not_fit, verdict_said, wrong_script}
use Rattle.octet_commands.specs.declared.refusal.Refused.{Refused}
use Rattle.octet_commands.specs.Inputs.{IsPairRead, Ends, TakesBoth, WasRefused}

-- a script and a log are taken and read, or reading them is refused
pub record IsPairTaken (script log : List ℕ) (object : Option (List ℕ)) (before : DeskState) (result : Result Pair Refused) (after : DeskState) : Type 0 where
  pub ends : Ends (IsPairRead script log object before.contents) before.take_faults result after.take_faults
  pub calls : TakesBoth script log object (WasRefused result) before after

-- a script and a log are taken, and the log is of the script or has no digest. Otherwise reading is refused,
-- or the log is of another script, which is said if there was memory for it
abbrev pub IsFittingTaken : List ℕ → List ℕ → Option (List ℕ) → DeskState → Result Pair Refused → DeskState → Type 0
IsFittingTaken script log object before (Ok pair) after = IsPairTaken script log object before (Ok pair) after × IsOfScript pair.source.text pair.loaded.digest
IsFittingTaken script log object before (Err refusal) after =
    IsPairTaken script log object before (Err refusal) after
    ⊎ ((pair : Pair) × (fault : FitFault) × IsPairTaken script log object before (Ok pair) after × IsOfAnother pair.source.text pair.loaded.digest fault × RefusesBy (λ answer. answer ≡ wrong_script fault) refusal)

-- the answer says why the log does not fit, or which two conflicting accesses it does not order
abbrev pub RefusesOrder : Pair → Answer → Type 0
RefusesOrder pair answer =
    ((fault : ReplayFault) × (fault ≢ OutOfMemory) × HasCause pair.source.script pair.loaded.log.threads fault × (answer ≡ does_not_fit fault))
    ⊎ ((first : Place) × (second : Place) × IsVerified pair.source.script pair.loaded.log.threads (Unordered first second) × (answer ≡ verdict_said (Unordered first second)))

-- the log fits and orders all conflicts, or the answer says why not, if there was memory for it
abbrev pub IsChecked : Pair → Result (Unit {0}) Refused → Type 0
IsChecked pair (Ok done) = IsVerified pair.source.script pair.loaded.log.threads Ordered
IsChecked pair (Err refusal) = RefusesBy (RefusesOrder pair) refusal
