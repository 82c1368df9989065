-- What is known of a claim about every run of a script.
use Rattle.std.specs.Prelude.{ℕ, ◌≢◌, ◌<◌, List, length, get_or, Option, None, Some}
use Rattle.octet_model.specs.declared.outcome.Recorded.{Recorded}
use Rattle.octet_model.specs.declared.script.Script.{Script}
use Rattle.octet_outcomes.specs.declared.endings.Ending.{Ending}
use Rattle.octet_outcomes.specs.Endings.{no_ending}
use Rattle.octet_commands.specs.declared.always.Judged.{Judged}
use Rattle.octet_commands.specs.declared.always.Judged.TheVariants.{Always, Otherwise, Unsure}
use Rattle.octet_commands.specs.Outcomes.{Fails, Holds, Refutes}
use Rattle.octet_commands.specs.Request.{Claim}

-- one of the endings leaves another number in the object
pub record OneLeavesOther (endings : List Ending) (object number : ℕ) : Type 0 where
  pub place : ℕ
  pub there : place < length endings
  pub other : get_or (get_or endings place no_ending).heap object 0 ≢ number

-- it holds; or it fails, with a recording that refutes it, if there is one; or that is not known
abbrev pub IsJudgedBy : Type 0 → Type 0 → (Recorded → Type 0) → Judged → Type 0
IsJudgedBy Holding Failing Refuting Always = Holding
IsJudgedBy Holding Failing Refuting (Otherwise None) = Failing
IsJudgedBy Holding Failing Refuting (Otherwise (Some find)) = Failing × Refuting find.recorded
IsJudgedBy Holding Failing Refuting (Unsure seen) = Unit {0}

-- the same of a claim, with the object that was chosen
abbrev pub IsJudged : Script → Claim → Option ℕ → Judged → Type 0
IsJudged script claim wanted judged = IsJudgedBy (Holds script claim wanted) (Fails script claim wanted) (Refutes script claim wanted) judged
