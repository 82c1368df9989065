-- What the top call promises of each command.
use Rattle.octet_model.specs.declared.limits.TheConstants.{MAX_LOG_FILE}
use Rattle.std.specs.Prelude.{ℕ, ◌≡◌, ◌≤◌, ◌<◌, ◌⊎◌, ◌++◌, List, length, map, codes, Some, ◌≢◌, Option, None, Ok}
use Rattle.std.specs.FinMap.{get}
use Rattle.std.specs.Char.{digit_value}
use Rattle.sha2.specs.Sha256.{sha256}
use Rattle.octet_base.specs.Desk.{Contents, DeskState}
use Rattle.octet_model.specs.declared.script.Script.{Script}
use Rattle.octet_model.specs.declared.log.Log.{Log}
use Rattle.octet_model.specs.declared.outcome.Outcome.{Outcome}
use Rattle.octet_model.specs.declared.outcome.Recorded.{Recorded}
use Rattle.octet_model.specs.Texts.{log_bytes, outcome_text}
use Rattle.octet_model.specs.HappensBefore.{IsOrdered}
use Rattle.octet_model.specs.Orders.{execution, journals_after, lowest_order, IsLawfulOrder, IsFaithful}
use Rattle.octet_model.specs.Totals.{AddsUp}
use Rattle.octet_model.specs.Traces.{trace_of}
use Rattle.octet_script.specs.Spelling.{canonical_text}
use Rattle.octet_log.specs.Spellings.{IsSpelling}
use Rattle.octet_replay.specs.Fit.{IsOfScript}
use Rattle.octet_replay.specs.declared.fault.ReplayFault.{ReplayFault}
use Rattle.octet_replay.specs.declared.fault.ReplayFault.TheVariants.{OutOfMemory}
use Rattle.octet_replay.specs.Line.{fit_line}
use Rattle.octet_replay.specs.Judged.{HasCause, IsLawful}
use Rattle.octet_clock.specs.Verified.{HasOneOutcome}
use Rattle.octet_regions.specs.declared.region.Hop.{Hop}
use Rattle.octet_regions.specs.declared.serial.Serial.{Serial}
use Rattle.octet_regions.specs.Accesses.{accesses_of}
use Rattle.octet_regions.specs.Choice.{IsSerial}
use Rattle.octet_regions.specs.Runs.{Shows}
use Rattle.octet_hunt.specs.Hunts.{Meets}
use Rattle.octet_gen.specs.Generated.{IsGenerated}
use Rattle.octet_machine.specs.Turns.{IsPlayed}
use Rattle.octet_top.specs.Headline.{IsFaithfulRun}
use Rattle.octet_commands.specs.Request.{Way, request_in, Quarry, named_by}
use Rattle.octet_commands.specs.declared.request.Request.TheVariants.{Run, OfPair, Parallel, Convert, Gen, Hunt}
use Rattle.octet_commands.specs.declared.request.Way.TheVariants.{ByPicks}
use Rattle.octet_commands.specs.declared.reply.Status.TheVariants.{Done, Misfit, Cycle}
use Rattle.std.specs.List.{sum_by}
use Rattle.octet_commands.specs.declared.inputs.Source.{Source}
use Rattle.octet_commands.specs.declared.inputs.Pair.{Pair}
use Rattle.octet_commands.specs.declared.request.PairTask.TheVariants.{Replay, Verify, Regions, Slice, Stop, Trace}
use Rattle.octet_commands.specs.Answer.{summary, code_of, try_text}
use Rattle.octet_commands.specs.Inputs.{IsScriptChosen, IsPairRead}
use Rattle.octet_slice.specs.declared.finding.Found.{Found}
use Rattle.octet_slice.specs.declared.slicing.Sliced.{Sliced}
use Rattle.octet_slice.specs.FirstMatch.{IsFound}
use Rattle.octet_slice.specs.Slice.{IsSliceOf}
use Rattle.octet_commands.specs.Slices.{slice_text, is_match, stop_text}
use Rattle.octet_commands.specs.TraceTexts.{trace_text}
use Rattle.octet_commands.specs.Commands.{aim_of, found_said, second_bytes, regions_said, told_before}

-- the updates of a faithful run add up to the final values that were said, by the journals of each lawful order
abbrev pub HasExactTotals : {way : Way} {script_name log_name : List ℕ} {before after : Contents} → IsFaithfulRun way script_name log_name before after → Type 0
HasExactTotals run = (order : List ℕ) → IsLawfulOrder run.script run.log.threads order → AddsUp run.script (journals_after run.script run.log.threads order) run.outcome.heap

-- a run for which all was done is a faithful run with exact totals, where the desk tells its contents
abbrev pub RunsWithExactTotals : List (List ℕ) → DeskState → DeskState → ℕ → Type 0
RunsWithExactTotals words before after code =
    (way : Way) (script_name log_name : List ℕ) (contents contents' : Contents) → request_in words ≡ Some (Run way script_name log_name) → code ≡ code_of Done → before.contents ≡ Some contents → after.contents ≡ Some contents'
    → (run : IsFaithfulRun way script_name log_name contents contents') × HasExactTotals run

-- a run by picks for which all was done is a faithful run, and is the machine's run by the values of these digits,
-- where the desk tells its contents
abbrev pub RunsAsPicked : List (List ℕ) → DeskState → DeskState → ℕ → Type 0
RunsAsPicked words before after code =
    (picks : List ℕ) (script_name log_name : List ℕ) (contents contents' : Contents) → request_in words ≡ Some (Run (ByPicks picks) script_name log_name) → code ≡ code_of Done → before.contents ≡ Some contents → after.contents ≡ Some contents'
    → (run : IsFaithfulRun (ByPicks picks) script_name log_name contents contents') × IsPlayed run.script (map digit_value picks) (record { log = run.log; outcome = run.outcome })

-- a script and a log of it were taken. The lowest order of the log is lawful, its journals are ordered,
-- and all lawful orders have one outcome
pub record IsOrderedPair (script_name log_name : List ℕ) (contents : Option Contents) : Type 0 where
  pub pair : Pair
  pub read : IsPairRead script_name log_name None contents (Ok pair)
  pub of_script : IsOfScript pair.source.text pair.loaded.digest
  pub lawful : IsLawful pair.source.script pair.loaded.log.threads
  pub ordered : IsOrdered (journals_after pair.source.script pair.loaded.log.threads (lowest_order pair.source.script pair.loaded.log.threads))
  pub one_outcome : HasOneOutcome pair.source.script pair.loaded.log.threads

-- `verify` ends with status 0 only for an ordered pair. On a desk that tells nothing,
-- any ordered pair will do, and this binds nothing
abbrev pub VerifiesOrdered : List (List ℕ) → DeskState → ℕ → Type 0
VerifiesOrdered words before code = (script_name log_name : List ℕ) → request_in words ≡ Some (OfPair Verify script_name log_name None) → code ≡ code_of Done → IsOrderedPair script_name log_name before.contents

-- a script and an ordered log of it were taken, and the outcome of the log's lowest order was said
pub record IsReplayedOnThreads (script_name log_name : List ℕ) (before after : Contents) : Type 0 where
  pub of : IsOrderedPair script_name log_name (Some before)
  pub contents : after.said ≡ before.said ++ outcome_text of.pair.source.script (execution of.pair.source.script of.pair.loaded.log.threads (lowest_order of.pair.source.script of.pair.loaded.log.threads))

-- `parallel` with all done has replayed its pair, where the desk tells its contents
abbrev pub ReplaysOnThreads : List (List ℕ) → DeskState → DeskState → ℕ → Type 0
ReplaysOnThreads words before after code =
    (script_name log_name : List ℕ) (contents contents' : Contents) → request_in words ≡ Some (Parallel script_name log_name) → code ≡ code_of Done → before.contents ≡ Some contents → after.contents ≡ Some contents'
    → IsReplayedOnThreads script_name log_name contents contents'

-- a script and an ordered log of it were taken. Their regions have this serial order or this cycle, which was said
pub record IsFoundRegions (script_name log_name : List ℕ) (before after : Contents) (code : ℕ) : Type 0 where
  pub of : IsOrderedPair script_name log_name (Some before)
  pub serial : Serial
  pub found : IsSerial (accesses_of of.pair.source.script of.pair.loaded.log.threads) serial
  pub shows : Shows of.pair.source.script of.pair.loaded.log.threads serial
  pub status : code ≡ code_of (regions_said of.pair serial).status
  pub contents : after.said ≡ before.said ++ (regions_said of.pair serial).text

-- `regions` with status 0 or 10 has found the regions of its pair, where the desk tells its contents
abbrev pub FindsRegions : List (List ℕ) → DeskState → DeskState → ℕ → Type 0
FindsRegions words before after code =
    (script_name log_name : List ℕ) (contents contents' : Contents) → request_in words ≡ Some (OfPair Regions script_name log_name None) → (code ≡ code_of Done) ⊎ (code ≡ code_of Cycle) → before.contents ≡ Some contents → after.contents ≡ Some contents'
    → IsFoundRegions script_name log_name contents contents' code

-- `replay` with status 0 says the recorded outcome, if the script and the log that are there
-- are of a faithful recording with this outcome
abbrev pub RepeatsRecordings : List (List ℕ) → DeskState → DeskState → ℕ → Type 0
RepeatsRecordings words before after code =
    (script_name log_name : List ℕ) (contents contents' : Contents) (pair : Pair) (outcome : Outcome) → request_in words ≡ Some (OfPair Replay script_name log_name None) → code ≡ code_of Done → before.contents ≡ Some contents → after.contents ≡ Some contents'
    → IsPairRead script_name log_name None (Some contents) (Ok pair) → IsFaithful pair.source.script pair.loaded.log.threads outcome → contents'.said ≡ contents.said ++ outcome_text pair.source.script outcome

-- a script and an ordered log of it were taken. The event of the lowest order's journals at the place was said,
-- with the number of events in its past
pub record IsSlicedPair (script_name log_name : List ℕ) (thread event : ℕ) (before after : Contents) : Type 0 where
  pub of : IsOrderedPair script_name log_name (Some before)
  pub sliced : Sliced
  pub is_slice : IsSliceOf (journals_after of.pair.source.script of.pair.loaded.log.threads (lowest_order of.pair.source.script of.pair.loaded.log.threads)) (record { thread = thread; event = event }) sliced
  pub contents : after.said ≡ before.said ++ slice_text of.pair.source.script (record { thread = thread; event = event }) sliced

-- `slice` with all done has sliced its pair, where the desk tells its contents
abbrev pub SlicesPasts : List (List ℕ) → DeskState → DeskState → ℕ → Type 0
SlicesPasts words before after code =
    (script_name log_name : List ℕ) (thread event : ℕ) (contents contents' : Contents) → request_in words ≡ Some (OfPair (Slice thread event) script_name log_name None) → code ≡ code_of Done → before.contents ≡ Some contents → after.contents ≡ Some contents'
    → IsSlicedPair script_name log_name thread event contents contents'

-- a script, an object of it and a log of it with a lawful lowest order were taken. The first event of that order
-- that leaves the value in the object or reads it there was said, or that there is none
pub record IsStoppedPair (script_name log_name name : List ℕ) (value : ℕ) (before after : Contents) : Type 0 where
  pub pair : Pair
  pub read : IsPairRead script_name log_name (Some name) (Some before) (Ok pair)
  pub of_script : IsOfScript pair.source.text pair.loaded.digest
  pub lawful : IsLawful pair.source.script pair.loaded.log.threads
  pub found : Found
  pub is_found : IsFound (λ event answer. answer ≡ is_match pair.wanted value event) (trace_of pair.source.script pair.loaded.log.threads) found
  pub contents : after.said ≡ before.said ++ stop_text pair.source.script found

-- `stop` with all done has stopped its pair at the first such event, where the desk tells its contents
abbrev pub StopsAtFirst : List (List ℕ) → DeskState → DeskState → ℕ → Type 0
StopsAtFirst words before after code =
    (script_name log_name name : List ℕ) (value : ℕ) (contents contents' : Contents) → request_in words ≡ Some (OfPair (Stop value) script_name log_name (Some name)) → code ≡ code_of Done → before.contents ≡ Some contents → after.contents ≡ Some contents'
    → IsStoppedPair script_name log_name name value contents contents'

-- a script and a log of it with a lawful lowest order were taken. All events of that order were said,
-- each with its place
pub record IsTracedPair (script_name log_name : List ℕ) (before after : Contents) : Type 0 where
  pub pair : Pair
  pub read : IsPairRead script_name log_name None (Some before) (Ok pair)
  pub of_script : IsOfScript pair.source.text pair.loaded.digest
  pub lawful : IsLawful pair.source.script pair.loaded.log.threads
  pub contents : after.said ≡ before.said ++ trace_text pair.source.text pair.source.script (trace_of pair.source.script pair.loaded.log.threads)

-- `trace` with all done has traced its pair, where the desk tells its contents
abbrev pub TracesOrders : List (List ℕ) → DeskState → DeskState → ℕ → Type 0
TracesOrders words before after code =
    (script_name log_name : List ℕ) (contents contents' : Contents) → request_in words ≡ Some (OfPair Trace script_name log_name None) → code ≡ code_of Done → before.contents ≡ Some contents → after.contents ≡ Some contents'
    → IsTracedPair script_name log_name contents contents'

-- a script and a log of it that does not fit were taken. The events made all the same were said,
-- if there are as many threads, and then why the log does not fit
pub record IsTracedMisfit (script_name log_name : List ℕ) (before after : Contents) : Type 0 where
  pub pair : Pair
  pub read : IsPairRead script_name log_name None (Some before) (Ok pair)
  pub of_script : IsOfScript pair.source.text pair.loaded.digest
  pub fault : ReplayFault
  pub not_memory : fault ≢ OutOfMemory
  pub cause : HasCause pair.source.script pair.loaded.log.threads fault
  pub contents : after.said ≡ before.said ++ (told_before Trace pair fault ++ fit_line fault)

-- `trace` with the status of a misfit has traced its pair, if the log is of the script by its digest
-- and the desk tells its contents
abbrev pub TracesMisfits : List (List ℕ) → DeskState → DeskState → ℕ → Type 0
TracesMisfits words before after code =
    (script_name log_name : List ℕ) (contents contents' : Contents) (pair : Pair) → request_in words ≡ Some (OfPair Trace script_name log_name None) → code ≡ code_of Misfit → before.contents ≡ Some contents → after.contents ≡ Some contents'
    → IsPairRead script_name log_name None (Some contents) (Ok pair) → IsOfScript pair.source.text pair.loaded.digest
    → IsTracedMisfit script_name log_name contents contents'

-- a script and a log of it with as many threads were taken. The file written spells the log in version 2,
-- with the script's digest, and is within the limit
pub record IsConversion (script_name log_name out_name : List ℕ) (before after : Contents) : Type 0 where
  pub pair : Pair
  pub read : IsPairRead script_name log_name None (Some before) (Ok pair)
  pub of_script : IsOfScript pair.source.text pair.loaded.digest
  pub threads : length pair.source.script.threads ≡ length pair.loaded.log.threads
  pub written : get after.files out_name ≡ Some (second_bytes pair.source.text pair.loaded.log.threads)
  pub held : IsSpelling (second_bytes pair.source.text pair.loaded.log.threads) (Some (sha256 pair.source.text)) pair.loaded.log.threads
  pub within_limit : length (second_bytes pair.source.text pair.loaded.log.threads) ≤ MAX_LOG_FILE
  pub contents : after.said ≡ before.said ++ codes "converted\n"

-- `convert` with all done has converted its log, where the desk tells its contents
abbrev pub ConvertsLogs : List (List ℕ) → DeskState → DeskState → ℕ → Type 0
ConvertsLogs words before after code =
    (script_name log_name out_name : List ℕ) (contents contents' : Contents) → request_in words ≡ Some (Convert script_name log_name out_name) → code ≡ code_of Done → before.contents ≡ Some contents → after.contents ≡ Some contents'
    → IsConversion script_name log_name out_name contents contents'

-- the files of the generated script and of its log are a faithful recording. With one name for both, the log's bytes
-- stay. The log is within its limit and has as many accesses as the summary says
pub record IsGeneratedRun (number : ℕ) (script_name log_name : List ℕ) (before after : Contents) : Type 0 where
  pub script : Script
  pub log : Log
  pub outcome : Outcome
  pub generated : IsGenerated number script
  pub script_written : script_name ≢ log_name → get after.files script_name ≡ Some (canonical_text script)
  pub log_written : get after.files log_name ≡ Some (log_bytes log.threads)
  pub within_limit : length (log_bytes log.threads) ≤ MAX_LOG_FILE
  pub contents : after.said ≡ before.said ++ summary
  pub accesses : sum_by (λ thread. thread.accesses) log.threads ≡ 160000
  pub faithful : IsFaithful script log.threads outcome

-- `gen` with all done has written a generated script and a faithful log, where the desk tells its contents
abbrev pub GeneratesFaithfully : List (List ℕ) → DeskState → DeskState → ℕ → Type 0
GeneratesFaithfully words before after code =
    (number : ℕ) (script_name log_name : List ℕ) (contents contents' : Contents) → request_in words ≡ Some (Gen number script_name log_name) → code ≡ code_of Done → before.contents ≡ Some contents → after.contents ≡ Some contents'
    → IsGeneratedRun number script_name log_name contents contents'

-- a script with the named object was taken. The log of a run that is looked for was written in version 2,
-- with the script's digest. One of the tries was said, with the preemptions and the outcome or the cycle
pub record IsHuntedRun (quarry : Quarry) (script_name log_name : List ℕ) (tries : ℕ) (before after : Contents) : Type 0 where
  pub source : Source
  pub wanted : Option ℕ
  pub read : IsScriptChosen script_name (named_by quarry) (Some before) (Ok (source, wanted))
  pub attempt : ℕ
  pub preemptions : ℕ
  pub recorded : Recorded
  pub hops : List Hop
  pub first : 0 < attempt
  pub last : attempt ≤ tries
  pub meets : Meets source.script (aim_of quarry wanted) recorded hops
  pub written : get after.files log_name ≡ Some (second_bytes source.text recorded.log.threads)
  pub held : IsSpelling (second_bytes source.text recorded.log.threads) (Some (sha256 source.text)) recorded.log.threads
  pub within_limit : length (second_bytes source.text recorded.log.threads) ≤ MAX_LOG_FILE
  pub contents : after.said ≡ before.said ++ (try_text attempt preemptions ++ found_said quarry source.script recorded.outcome hops)

-- `hunt` with all done has found a run that it looked for, where the desk tells its contents
abbrev pub HuntsFaithfully : List (List ℕ) → DeskState → DeskState → ℕ → Type 0
HuntsFaithfully words before after code =
    (quarry : Quarry) (script_name log_name : List ℕ) (tries : ℕ) (contents contents' : Contents) → request_in words ≡ Some (Hunt quarry script_name log_name tries) → code ≡ code_of Done → before.contents ≡ Some contents → after.contents ≡ Some contents'
    → IsHuntedRun quarry script_name log_name tries contents contents'
