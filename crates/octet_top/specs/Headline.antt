-- What status 0 of a run comes with: a faithful recording.
use Rattle.std.specs.Prelude.{ℕ, ◌≡◌, ◌≤◌, ◌++◌, List, length, Some}
use Rattle.std.specs.FinMap.{get}
use Rattle.octet_base.specs.Desk.{Contents, DeskState}
use Rattle.octet_model.specs.declared.limits.TheConstants.{MAX_LOG_FILE}
use Rattle.octet_model.specs.declared.script.Script.{Script}
use Rattle.octet_model.specs.declared.log.Log.{Log}
use Rattle.octet_model.specs.declared.outcome.Outcome.{Outcome}
use Rattle.octet_model.specs.Texts.{outcome_text}
use Rattle.octet_model.specs.Orders.{IsFaithful}
use Rattle.octet_script.specs.Spelling.{Spells}
use Rattle.octet_log.specs.Spellings.{IsSpelling}
use Rattle.octet_commands.specs.declared.reply.Status.TheVariants.{Done}
use Rattle.octet_commands.specs.Answer.{code_of}
use Rattle.octet_commands.specs.Request.{Way, digest_kept, request_in}
use Rattle.octet_commands.specs.declared.request.Request.TheVariants.{Run}

-- the script's file, as it was, spells a script. The log's file, as it is now, spells a log within its limit.
-- The text of an outcome was said, and the three are a faithful recording
pub record IsFaithfulRun (way : Way) (script_name log_name : List ℕ) (before after : Contents) : Type 0 where
  pub text : List ℕ
  pub script : Script
  pub log : Log
  pub outcome : Outcome
  pub bytes : List ℕ
  pub taken : get before.files script_name ≡ Some text
  pub spelled : Spells text script
  pub written : get after.files log_name ≡ Some bytes
  pub held : IsSpelling bytes (digest_kept way text) log.threads
  pub within_limit : length bytes ≤ MAX_LOG_FILE
  pub contents : after.said ≡ before.said ++ outcome_text script outcome
  pub faithful : IsFaithful script log.threads outcome

-- a run of a script for which all was done is a faithful run, where the desk tells its contents
abbrev pub RunsFaithfully : List (List ℕ) → DeskState → DeskState → ℕ → Type 0
RunsFaithfully words before after code =
    (way : Way) (script_name log_name : List ℕ) (contents contents' : Contents) → request_in words ≡ Some (Run way script_name log_name) → code ≡ code_of Done → before.contents ≡ Some contents → after.contents ≡ Some contents'
    → IsFaithfulRun way script_name log_name contents contents'
