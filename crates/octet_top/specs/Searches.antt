-- What the top call promises of searches through all interleavings.
use Rattle.std.specs.Prelude.{ℕ, ◌≡◌, ◌<◌, ◌⊎◌, ◌++◌, true, List, codes, map, get_or, Contains, Option, Some, Ok}
use Rattle.std.specs.FinMap.{get}
use Rattle.std.specs.List.{All, list_all}
use Rattle.sha2.specs.Sha256.{sha256}
use Rattle.octet_base.specs.Desk.{Contents, DeskState}
use Rattle.octet_model.specs.declared.log.ThreadLog.{ThreadLog}
use Rattle.octet_model.specs.declared.outcome.Outcome.{Outcome}
use Rattle.octet_model.specs.declared.outcome.Recorded.{Recorded}
use Rattle.octet_model.specs.declared.script.Script.{Script}
use Rattle.octet_model.specs.Orders.{is_done, IsFaithful}
use Rattle.octet_outcomes.specs.declared.outcomes.Seen.{Seen}
use Rattle.octet_outcomes.specs.declared.outcomes.Seen.TheVariants.{Memory}
use Rattle.octet_outcomes.specs.Interleavings.{IsFinal}
use Rattle.octet_commands.specs.declared.inputs.Source.{Source}
use Rattle.octet_commands.specs.declared.outcomes.Told.{Told}
use Rattle.octet_commands.specs.declared.reply.Status.TheVariants.{Done, NotAll, Otherwise}
use Rattle.octet_commands.specs.declared.request.Request.TheVariants.{Outcomes, Always}
use Rattle.octet_commands.specs.Answer.{code_of}
use Rattle.octet_commands.specs.Commands.{second_bytes, IsLogFile}
use Rattle.octet_commands.specs.Inputs.{IsScriptChosen, IsScriptRead}
use Rattle.octet_commands.specs.Outcomes.{cut_line, otherwise_text, past_fuel, search_text, CanAlwaysEnd, Fails, Holds, IsTold, Refutes, SomeIsStuck}
use Rattle.octet_commands.specs.Request.{request_in, Claim, claimed_of}
use Rattle.octet_commands.specs.declared.request.Claim.TheVariants.{Leaves}

-- what holds of every run of a script that was recorded faithfully and whose threads are all done, by its final heap
abbrev pub OfRecorded : Script → (List ℕ → Type 0) → Type 0
OfRecorded script Holds = (log : List ThreadLog) (outcome : Outcome) → IsFaithful script log outcome → list_all is_done outcome.ends ≡ true → Holds outcome.heap

-- a script was taken, and all final heaps of its interleavings were said. Each is one of the plain machine with fuel enough,
-- and each recorded run whose threads are all done ends with one of them. Where no moment is stuck, every one leads to an end
pub record IsSearched (script_name : List ℕ) (before after : Contents) : Type 0 where
  pub source : Source
  pub read : IsScriptRead script_name (Some before) (Ok source)
  pub told : List Told
  pub moments : ℕ
  pub stuck : ℕ
  pub each : All (IsTold source.script) told
  pub final : All (λ t. IsFinal source.script t.heap) told
  pub all : OfRecorded source.script (Contains (map (λ t. t.heap) told))
  pub some_stuck : 0 < stuck → SomeIsStuck source.script
  pub none_stuck : stuck ≡ 0 → CanAlwaysEnd source.script
  pub contents : after.said ≡ before.said ++ search_text source.script told moments stuck

-- `outcomes` with all done has searched its script, where the desk tells its contents
abbrev pub FindsOutcomes : List (List ℕ) → DeskState → DeskState → ℕ → Type 0
FindsOutcomes words before after code =
    (script_name : List ℕ) (most : ℕ) (contents contents' : Contents) → request_in words ≡ Some (Outcomes script_name most) → code ≡ code_of Done → before.contents ≡ Some contents → after.contents ≡ Some contents'
    → IsSearched script_name contents contents'

-- a script was taken, and final heaps of its interleavings were said, and that these are not all:
-- more moments were found than were asked for, or memory was refused
pub record IsCutOff (script_name : List ℕ) (most : ℕ) (before after : Contents) : Type 0 where
  pub source : Source
  pub read : IsScriptRead script_name (Some before) (Ok source)
  pub told : List Told
  pub moments : ℕ
  pub stuck : ℕ
  pub seen : Seen
  pub each : All (IsTold source.script) told
  pub final : All (λ t. IsFinal source.script t.heap) told
  pub some_stuck : 0 < stuck → SomeIsStuck source.script
  pub cause : (most < moments) ⊎ (seen ≡ Memory)
  pub contents : after.said ≡ before.said ++ (search_text source.script told moments stuck ++ cut_line seen)

-- `outcomes` with the status 13 was cut off, where the desk tells its contents
abbrev pub CutsOff : List (List ℕ) → DeskState → DeskState → ℕ → Type 0
CutsOff words before after code =
    (script_name : List ℕ) (most : ℕ) (contents contents' : Contents) → request_in words ≡ Some (Outcomes script_name most) → code ≡ code_of NotAll → before.contents ≡ Some contents → after.contents ≡ Some contents'
    → IsCutOff script_name most contents contents'

-- the claim, said of each recorded run whose threads are all done. That every run can end says nothing of those
abbrev pub HoldsOfRecorded : Script → Claim → Option ℕ → Type 0
HoldsOfRecorded script (Leaves name number) (Some object) = OfRecorded script (λ heap. get_or heap object 0 ≡ number)
HoldsOfRecorded script _ _ = Unit {0}

-- a script was taken, with the object that the claim names, and it was said that the claim holds. It holds of every run,
-- and so of each that is recorded
pub record IsAlways (claim : Claim) (script_name : List ℕ) (before after : Contents) : Type 0 where
  pub source : Source
  pub wanted : Option ℕ
  pub read : IsScriptChosen script_name (claimed_of claim) (Some before) (Ok (source, wanted))
  pub holds : Holds source.script claim wanted
  pub recorded : HoldsOfRecorded source.script claim wanted
  pub contents : after.said ≡ before.said ++ codes "always\n"

-- `always` with all done has shown its claim, where the desk tells its contents
abbrev pub ShowsAlways : List (List ℕ) → DeskState → DeskState → ℕ → Type 0
ShowsAlways words before after code =
    (claim : Claim) (script_name log_name : List ℕ) (most : ℕ) (contents contents' : Contents) → request_in words ≡ Some (Always claim script_name log_name most) → code ≡ code_of Done → before.contents ≡ Some contents → after.contents ≡ Some contents'
    → IsAlways claim script_name contents contents'

-- the log of a run of which the claim does not hold was written in version 2, with the script's digest.
-- The preemptions and the outcome were said
pub record IsRefuted (claim : Claim) (source : Source) (wanted : Option ℕ) (log_name : List ℕ) (before after : Contents) : Type 0 where
  pub preemptions : ℕ
  pub recorded : Recorded
  pub refutes : Refutes source.script claim wanted recorded
  pub written : get after.files log_name ≡ Some (second_bytes source.text recorded.log.threads)
  pub file : IsLogFile (second_bytes source.text recorded.log.threads) (Some (sha256 source.text)) recorded.log.threads
  pub contents : after.said ≡ before.said ++ otherwise_text source.script preemptions recorded.outcome

-- a script was taken, with the object that the claim names. There is a run of which the claim does not hold:
-- one was recorded, or it was said that the script's fuel is not enough
pub record IsNotAlways (claim : Claim) (script_name log_name : List ℕ) (before after : Contents) : Type 0 where
  pub source : Source
  pub wanted : Option ℕ
  pub read : IsScriptChosen script_name (claimed_of claim) (Some before) (Ok (source, wanted))
  pub fails : Fails source.script claim wanted
  pub shown : IsRefuted claim source wanted log_name before after ⊎ (after.said ≡ before.said ++ past_fuel.text)

-- `always` with the status 14 has found that its claim does not hold, where the desk tells its contents
abbrev pub RefutesAlways : List (List ℕ) → DeskState → DeskState → ℕ → Type 0
RefutesAlways words before after code =
    (claim : Claim) (script_name log_name : List ℕ) (most : ℕ) (contents contents' : Contents) → request_in words ≡ Some (Always claim script_name log_name most) → code ≡ code_of Otherwise → before.contents ≡ Some contents → after.contents ≡ Some contents'
    → IsNotAlways claim script_name log_name contents contents'
