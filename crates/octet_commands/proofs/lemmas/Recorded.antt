-- What each way to run a script records is faithful, and a whole outcome of it.
use Rattle.std.proofs.Common.{◌≡◌, ◌≤◌, ℕ, List, map, length, Option, Some, IfSome, Result, Ok, Err, IfOk, arith, sym, subst}
use Rattle.std.specs.Char.{digit_value}
use Rattle.octet_model.specs.declared.list.OutOfMemory.{OutOfMemory}
use Rattle.octet_model.specs.declared.script.Script.{Script}
use Rattle.octet_model.specs.declared.log.Log.{Log}
use Rattle.octet_model.specs.declared.log.ThreadLog.{ThreadLog}
use Rattle.octet_model.specs.declared.outcome.Outcome.{Outcome}
use Rattle.octet_model.specs.declared.outcome.Recorded.{Recorded}
use Rattle.octet_model.specs.declared.limits.TheConstants.{MAX_LOG_FILE}
use Rattle.octet_model.specs.Texts.{log_bytes}
use Rattle.octet_model.specs.Orders.{execution, IsFaithful}
use Rattle.octet_model.proofs.lemmas.LogLength.{faithful_log_is_short}
use Rattle.octet_log.specs.declared.limits.TheConstants.{MAX_MARKS}
use Rattle.octet_log.specs.v2.Pieces.{marks_in}
use Rattle.octet_commands.proofs.lemmas.Lengths.{first_has_few}
use Rattle.octet_machine.specs.Turns.{IsPlayed}
use Rattle.octet_replay.specs.Laws.{IsWholeOutcome}
use Rattle.octet_replay.proofs.lemmas.WholeOutcomes.{whole, faithful_whole}
use Rattle.octet_commands.specs.Request.{Way}
use Rattle.octet_commands.specs.declared.request.Way.TheVariants.{AsTheyCome, BehindLock, ByPicks}
use Rattle.octet_commands.specs.Commands.{Records}

pub recorded_faithfully : (way : Way) (script : Script) (log : Log) (outcome : Outcome) → Records way script log outcome → IsFaithful script log.threads outcome
recorded_faithfully AsTheyCome script log outcome recorded = recorded
recorded_faithfully BehindLock script log outcome recorded = recorded
recorded_faithfully (ByPicks picks) script log outcome recorded = recorded.0

pub recorded_short : (way : Way) (script : Script) (log : Log) (outcome : Outcome) → Records way script log outcome → length (log_bytes log.threads) ≤ MAX_LOG_FILE
recorded_short way script log outcome recorded = omega (arith, faithful_log_is_short script log.threads outcome (recorded_faithfully way script log outcome recorded) log.valid)

pub recorded_whole : (way : Way) (script : Script) (log : Log) (outcome : Outcome) → Records way script log outcome → IsWholeOutcome script outcome
recorded_whole way script log outcome recorded = faithful_whole script log.threads outcome (recorded_faithfully way script log outcome recorded)

-- what plays picks records by them
pub recorded_by_picks : (digits picks : List ℕ) (script : Script) (result : Result Recorded OutOfMemory) → picks ≡ map digit_value digits
    → IfOk result (λ r. IsPlayed script picks r) → IfOk result (λ r. IsFaithful script r.log.threads r.outcome) → IfOk result (λ r. Records (ByPicks digits) script r.log r.outcome)
recorded_by_picks digits picks script (Ok r) same played faithful = (faithful, subst (λ (p : List ℕ). IsPlayed script p r) same played)
recorded_by_picks digits picks script (Err none) same played faithful = tt

-- and has few marks
pub faithful_few : (script : Script) (log : Log) (outcome : Outcome) → IsFaithful script log.threads outcome → marks_in log.threads ≤ MAX_MARKS
faithful_few script log outcome faithful = first_has_few log.threads (omega (arith, faithful_log_is_short script log.threads outcome faithful log.valid))

-- what a log's order comes to is a whole outcome of its script
pub executed_whole : (script : Script) (log : List ThreadLog) (order : List ℕ) (outcome : Outcome) → outcome ≡ execution script log order → IsWholeOutcome script outcome
executed_whole script log order outcome is = subst (IsWholeOutcome script) (sym is) (whole script log order)

pub executed_if : (script : Script) (log : List ThreadLog) (order : List ℕ) (found : Option Outcome) (outcome : Outcome) → found ≡ Some outcome
    → IfSome found (λ o. o ≡ execution script log order) → IsWholeOutcome script outcome
executed_if script log order found outcome is executed = executed_whole script log order outcome (subst (λ (o : Option Outcome). IfSome o (λ o. o ≡ execution script log order)) is executed)
