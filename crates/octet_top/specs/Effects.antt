-- What the top call leaves, whatever its status.
use Rattle.std.specs.Prelude.{ℕ, ◌≡◌, ◌≢◌, ◌⊎◌, ◌++◌, List, [], ◌∷◌, take, length, Some, Ok, Option, None}
use Rattle.std.specs.FinMap.{get, insert}
use Rattle.octet_base.specs.Desk.{Contents, DeskState, Rose}
use Rattle.octet_model.specs.Orders.{IsFaithful}
use Rattle.sha2.specs.Sha256.{sha256}
use Rattle.octet_model.specs.declared.log.Log.{Log}
use Rattle.octet_model.specs.declared.outcome.Outcome.{Outcome}
use Rattle.octet_log.specs.Spellings.{IsSpelling}
use Rattle.octet_model.specs.Texts.{outcome_text}
use Rattle.octet_log.specs.declared.loader.Loaded.{Loaded}
use Rattle.octet_replay.specs.Fit.{IsOfScript}
use Rattle.octet_commands.specs.declared.inputs.Source.{Source}
use Rattle.octet_commands.specs.declared.inputs.Pair.{Pair}
use Rattle.octet_commands.specs.declared.reply.Status.{Status}
use Rattle.octet_commands.specs.declared.reply.Status.TheVariants.{Done, Read, Write, Memory, Cycle, NoEvent, NotFound, NotAll, Otherwise}
use Rattle.octet_commands.specs.declared.request.PairTask.{PairTask}
use Rattle.octet_commands.specs.declared.request.PairTask.TheVariants.{Regions, Slice}
use Rattle.octet_commands.specs.Answer.{Answer, code_of, read_failed}
use Rattle.octet_commands.specs.Request.{Request, claimed_of, named_by, request_in, outputs_in}
use Rattle.octet_commands.specs.declared.request.Request.TheVariants.{Tidy, Show, Marks, OfPair, Parallel, Convert, Run, Gen, Hunt, Outcomes, Always}
use Rattle.octet_commands.specs.declared.request.Way.TheVariants.{AsTheyCome}
use Rattle.octet_commands.specs.Inputs.{IsScriptRead, IsLogRead, IsScriptChosen, IsPairRead}
use Rattle.octet_commands.specs.Commands.{IsAnswer}
use Rattle.octet_commands.specs.Marks.{IsMarksRead, FileFails}
use Rattle.octet_commands.specs.Outputs.{IsWhole, IsCutShort, IsPartlyWritten}

-- the number is one of the fifteen statuses
abbrev pub IsStatus : ℕ → Type 0
IsStatus code = (status : Status) × (code ≡ code_of status)

-- the words are those of `run`
abbrev pub AsksRun : List (List ℕ) → Type 0
AsksRun words = (script : List ℕ) × (log : List ℕ) × (request_in words ≡ Some (Run AsTheyCome script log))

-- a failed write is counted only with the status Write, or with Memory for the words of `run`.
-- A failed take is counted only with the status Read, Write or Memory
pub record CountsFailures (words : List (List ℕ)) (before after : DeskState) (code : ℕ) : Type 0 where
  pub writes : code ≢ code_of Write → (after.write_faults ≡ before.write_faults) ⊎ (AsksRun words × (code ≡ code_of Memory))
  pub takes : code ≢ code_of Read → code ≢ code_of Write → code ≢ code_of Memory → after.take_faults ≡ before.take_faults

-- the answer says that reading failed. `marks` has said the text of first pieces before
abbrev pub SaysFailed : Option Request → Option Contents → Answer → Type 0
SaysFailed (Some (Marks file)) contents answer = FileFails file contents answer
SaysFailed request contents answer = answer ≡ read_failed

-- the answer is that of the words, or it says that reading failed, where a take did
abbrev pub IsGivenAnswer : List (List ℕ) → Contents → ℕ → ℕ → Answer → Type 0
IsGivenAnswer words contents before after answer = IsAnswer words (Some contents) answer ⊎ (SaysFailed (request_in words) (Some contents) answer × Rose before after)

-- the status says that a call failed, or that memory was refused
abbrev pub IsCut : ℕ → Type 0
IsCut code = (code ≡ code_of Write) ⊎ (code ≡ code_of Memory)

-- an answer is given whole, and the status is its own. Otherwise giving the answer was cut short,
-- by a call that failed or by refused memory
abbrev pub IsDelivered : Answer → Contents → Contents → ℕ → Type 0
IsDelivered answer before after code =
    (IsWhole answer before after × (code ≡ code_of answer.status))
    ⊎ (IsCutShort answer before after × IsCut code)

-- memory was refused before anything was written or said
pub record IsUntouched (before after : Contents) (code : ℕ) : Type 0 where
  pub status : code ≡ code_of Memory
  pub files : after.files ≡ before.files
  pub said : after.said ≡ before.said

-- the words are those of `run`, the script was read, and nothing was said. The file of its log is as before,
-- or has some first bytes of a spelling, with the digest of the script's text, of a log with as many threads
pub record LeavesLog (words : List (List ℕ)) (before after : Contents) : Type 0 where
  pub script_name : List ℕ
  pub log_name : List ℕ
  pub asked : request_in words ≡ Some (Run AsTheyCome script_name log_name)
  pub source : Source
  pub read : IsScriptRead script_name (Some before) (Ok source)
  pub log : Log
  pub bytes : List ℕ
  pub as_many : length log.threads ≡ length source.script.threads
  pub spelled : IsSpelling bytes (Some (sha256 source.text)) log.threads
  pub file : IsPartlyWritten (log_name, bytes) before.files after.files
  pub said : after.said ≡ before.said

-- what the call leaves in the files and in what was said, where the desk tells them
abbrev pub Leaves : List (List ℕ) → DeskState → DeskState → ℕ → Type 0
Leaves words before after code =
    (contents contents' : Contents) → before.contents ≡ Some contents → after.contents ≡ Some contents'
    → IsUntouched contents contents' code
    ⊎ (((answer : Answer) × IsGivenAnswer words contents before.take_faults after.take_faults answer × IsDelivered answer contents contents' code)
    ⊎ (LeavesLog words contents contents' × IsCut code))

-- a run was cut while its outcome was said. Its log was written whole,
-- and some first bytes of the outcome's text were said
pub record LeavesText (script_name log_name : List ℕ) (before after : Contents) : Type 0 where
  pub source : Source
  pub read : IsScriptRead script_name (Some before) (Ok source)
  pub log : Log
  pub outcome : Outcome
  pub bytes : List ℕ
  pub faithful : IsFaithful source.script log.threads outcome
  pub spelled : IsSpelling bytes (Some (sha256 source.text)) log.threads
  pub count : ℕ
  pub files : after.files ≡ insert before.files log_name bytes
  pub said : after.said ≡ before.said ++ take count (outcome_text source.script outcome)

-- no file was written, and at most some first bytes of the line of a status other than Done were said
pub record LeavesLine (words : List (List ℕ)) (faults after_faults : ℕ) (before after : Contents) : Type 0 where
  pub files : after.files ≡ before.files
  pub said : (after.said ≡ before.said) ⊎ ((answer : Answer) × IsGivenAnswer words before faults after_faults answer × (answer.status ≢ Done) × ((n : ℕ) × (after.said ≡ before.said ++ take n answer.text)))

-- what a run that was cut leaves: part of its log, part of its outcome's text, or part of a line
abbrev pub CutsRun : List (List ℕ) → DeskState → DeskState → ℕ → Type 0
CutsRun words before after code =
    (script_name log_name : List ℕ) (contents contents' : Contents) → request_in words ≡ Some (Run AsTheyCome script_name log_name) → IsCut code → before.contents ≡ Some contents → after.contents ≡ Some contents'
    → LeavesLog words contents contents' ⊎ (LeavesText script_name log_name contents contents' ⊎ LeavesLine words before.take_faults after.take_faults contents contents')

-- the name is one of these
abbrev pub IsOneOf : List ℕ → List (List ℕ) → Type 0
IsOneOf name [] = ⊥
IsOneOf name (other ∷ others) = (name ≡ other) ⊎ IsOneOf name others

-- each file that the words do not name to be written is as before
abbrev pub KeepsOthers : List (List ℕ) → DeskState → DeskState → Type 0
KeepsOthers words before after =
    (contents contents' : Contents) (name : List ℕ) → before.contents ≡ Some contents → after.contents ≡ Some contents' → ¬ IsOneOf name (outputs_in (request_in words)) → get contents'.files name ≡ get contents.files name

-- all files are as before, unless all was done, a run was found that ends otherwise, a call failed or memory was refused
abbrev pub KeepsFiles : DeskState → DeskState → ℕ → Type 0
KeepsFiles before after code =
    (contents contents' : Contents) → before.contents ≡ Some contents → after.contents ≡ Some contents' → code ≢ code_of Done → code ≢ code_of Otherwise → code ≢ code_of Write → code ≢ code_of Memory → contents'.files ≡ contents.files

-- the files of a script that has the named object, and of a log of this script from a faithful recording
abbrev pub HasPair : List ℕ → List ℕ → Option (List ℕ) → Contents → Type 0
HasPair script log object contents =
    (pair : Pair) × (outcome : Outcome) × IsPairRead script log object (Some contents) (Ok pair) × IsOfScript pair.source.text pair.loaded.digest × IsFaithful pair.source.script pair.loaded.log.threads outcome

-- all that a request takes is there as it should be
abbrev pub HasFiles : Request → Contents → Type 0
HasFiles (Tidy script) contents = (source : Source) × IsScriptRead script (Some contents) (Ok source)
HasFiles (Show log) contents = (read : Loaded) × IsLogRead log (Some contents) (Ok read)
HasFiles (Marks file) contents = IsMarksRead file contents
HasFiles (OfPair task script log object) contents = HasPair script log object contents
HasFiles (Parallel script log) contents = HasPair script log None contents
HasFiles (Convert script log out) contents = HasPair script log None contents
HasFiles (Run task script log) contents = (source : Source) × IsScriptRead script (Some contents) (Ok source)
HasFiles (Gen number script log) contents = Unit {0}
HasFiles (Hunt quarry script log tries) contents = (chosen : Source × Option ℕ) × IsScriptChosen script (named_by quarry) (Some contents) (Ok chosen)
HasFiles (Outcomes script most) contents = (source : Source) × IsScriptRead script (Some contents) (Ok source)
HasFiles (Always claim script log most) contents = (chosen : Source × Option ℕ) × IsScriptChosen script (claimed_of claim) (Some contents) (Ok chosen)

-- a task may end with this status although it has all that it takes:
-- regions may be in a cycle, and a log may lack the event asked for
abbrev pub MayLack : PairTask → Status → Type 0
MayLack Regions Cycle = Unit {0}
MayLack (Slice thread event) NoEvent = Unit {0}
MayLack _ _ = ⊥

-- a request may end with this status although all that it takes is as it should be. A hunt may find nothing,
-- a search may be cut off, and a claim may not hold
abbrev pub MayEndWith : Request → Status → Type 0
MayEndWith (OfPair task script log object) status = MayLack task status
MayEndWith (Hunt quarry script log tries) status = status ≡ NotFound
MayEndWith (Outcomes script most) status = status ≡ NotAll
MayEndWith (Always claim script log most) status = (status ≡ NotAll) ⊎ (status ≡ Otherwise)
MayEndWith _ _ = ⊥

-- all is done, memory was refused, or the words ask for something that may end with this status
abbrev pub IsCompleted : List (List ℕ) → ℕ → Type 0
IsCompleted words code =
    (code ≡ code_of Done) ⊎ ((code ≡ code_of Memory)
    ⊎ ((request : Request) × (status : Status) × (request_in words ≡ Some request) × MayEndWith request status × (code ≡ code_of status)))

-- the words ask for something whose files are all there
abbrev pub IsWellMet : List (List ℕ) → Contents → Type 0
IsWellMet words contents = (request : Request) × (request_in words ≡ Some request) × HasFiles request contents
