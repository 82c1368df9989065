-- The commands' answers, each by what was read.
use Rattle.std.specs.Prelude.{ℕ, ◌≡◌, ◌≢◌, ◌≤◌, ◌<◌, ◌⊎◌, ◌++◌, List, [], length, map, codes, Option, None, Some, Result, Ok, Err}
use Rattle.std.specs.Char.{digit_value}
use Rattle.sha2.specs.Sha256.{sha256}
use Rattle.octet_base.specs.Desk.{Contents}
use Rattle.octet_model.specs.declared.script.Script.{Script}
use Rattle.octet_model.specs.declared.limits.TheConstants.{MAX_LOG_FILE}
use Rattle.octet_model.specs.declared.log.Log.{Log}
use Rattle.octet_model.specs.declared.log.ThreadLog.{ThreadLog}
use Rattle.octet_model.specs.declared.outcome.Outcome.{Outcome}
use Rattle.octet_model.specs.declared.outcome.Recorded.{Recorded}
use Rattle.octet_model.specs.Texts.{log_bytes, outcome_text}
use Rattle.octet_model.specs.Orders.{execution, journals_after, lowest_order, IsFaithful}
use Rattle.octet_model.specs.Traces.{trace_of}
use Rattle.octet_script.specs.Spelling.{canonical_text}
use Rattle.octet_log.specs.Texts.{log_text}
use Rattle.octet_log.specs.declared.loader.Loaded.{Loaded}
use Rattle.octet_log.specs.Spellings.{IsSpelling}
use Rattle.octet_log.specs.v2.Pieces.{whole_pieces, pieced_bytes}
use Rattle.octet_replay.specs.declared.fitting.FitFault.{FitFault}
use Rattle.octet_replay.specs.Fit.{IsOfScript, IsOfAnother}
use Rattle.octet_replay.specs.declared.fault.ReplayFault.{ReplayFault}
use Rattle.octet_replay.specs.declared.fault.ReplayFault.TheVariants.{ThreadsDiffer, OutOfMemory}
use Rattle.octet_replay.specs.Line.{fit_line}
use Rattle.octet_replay.specs.Judged.{HasCause, IsLawful}
use Rattle.octet_clock.specs.declared.verdict.Verdict.{Verdict}
use Rattle.octet_clock.specs.declared.verdict.Verdict.TheVariants.{Ordered, Unordered}
use Rattle.octet_clock.specs.Verified.{IsVerified}
use Rattle.octet_regions.specs.declared.region.Hop.{Hop}
use Rattle.octet_regions.specs.declared.serial.Serial.{Serial}
use Rattle.octet_regions.specs.Accesses.{accesses_of}
use Rattle.octet_regions.specs.Choice.{IsSerial}
use Rattle.octet_regions.specs.Runs.{Shows}
use Rattle.octet_hunt.specs.declared.aim.Aim.{Aim}
use Rattle.octet_hunt.specs.declared.aim.Aim.TheVariants as aim
use Rattle.octet_hunt.specs.Hunts.{Meets}
use Rattle.octet_gen.specs.Generated.{IsGenerated}
use Rattle.octet_commands.specs.declared.reply.Status.TheVariants.{Done, Misfit, Otherwise}
use Rattle.octet_commands.specs.declared.inputs.Source.{Source}
use Rattle.octet_commands.specs.declared.inputs.Pair.{Pair}
use Rattle.octet_commands.specs.declared.request.PairTask.{PairTask}
use Rattle.octet_commands.specs.declared.request.PairTask.TheVariants.{Replay, Verify, Regions, Slice, Stop, Trace, Profile}
use Rattle.octet_commands.specs.Answer.{Answer, reports, says, writes_file, writes_both, not_a_command, wrong_script, does_not_fit, verdict_said, serial_said, cycle_text, try_text, no_other_end, no_cycle, summary}
use Rattle.octet_machine.specs.Turns.{IsPlayed}
use Rattle.octet_commands.specs.Request.{Way, digest_kept, Claim, claimed_of, Quarry, named_by, Request, request_in}
use Rattle.octet_commands.specs.declared.request.Request.TheVariants.{Tidy, Show, Marks, OfPair, Parallel, Convert, Run, Gen, Hunt, Outcomes, Always}
use Rattle.octet_commands.specs.declared.request.Way.TheVariants.{AsTheyCome, BehindLock, ByPicks}
use Rattle.octet_commands.specs.declared.request.Quarry.TheVariants.{OtherEnd, AnyCycle}
use Rattle.octet_commands.specs.Marks.{FileAnswers}
use Rattle.octet_commands.specs.TraceTexts.{trace_text}
use Rattle.octet_commands.specs.Profile.{profile_text}
use Rattle.octet_outcomes.specs.declared.outcomes.Seen.{Seen}
use Rattle.octet_commands.specs.Outcomes.{always_said, cut_said, otherwise_text, past_fuel, Fails, Holds, OutcomesAnswers, Refutes}
use Rattle.octet_commands.specs.Slices.{SliceSays, StopSays}
use Rattle.octet_commands.specs.Inputs.{IsScriptRead, IsLogRead, IsScriptChosen, IsPairRead}

-- the recording that each way to run a script makes of the script
abbrev pub Records : Way → Script → Log → Outcome → Type 0
Records AsTheyCome script log outcome = IsFaithful script log.threads outcome
Records BehindLock script log outcome = IsFaithful script log.threads outcome
Records (ByPicks picks) script log outcome = IsFaithful script log.threads outcome × IsPlayed script (map digit_value picks) (record { log = log; outcome = outcome })

-- the bytes spell a log, with that digest or in version 1, and are no more than a log's file may have
pub record IsLogFile (bytes : List ℕ) (digest : Option (List ℕ)) (logs : List ThreadLog) : Type 0 where
  pub spelled : IsSpelling bytes digest logs
  pub within_limit : length bytes ≤ MAX_LOG_FILE

-- the answer to `gen`: the canonical text of the script of a number and the bytes of its log are written,
-- and the summary is said. The log and an outcome are a faithful recording of the script
abbrev pub IsGeneration : ℕ → List ℕ → List ℕ → Answer → Type 0
IsGeneration number script_name log_name answer =
    (script : Script) × (log : Log) × (outcome : Outcome) × IsGenerated number script × IsFaithful script log.threads outcome
    × (answer ≡ writes_both (script_name, canonical_text script) (log_name, log_bytes log.threads) summary)

-- the answer says why the log does not fit the script. Where the log fits, the command goes on
abbrev pub Fitting : (ReplayFault → Answer) → (Answer → Type 0) → Script → List ThreadLog → Answer → Type 0
Fitting refused Next script log answer =
    ((fault : ReplayFault) × (fault ≢ OutOfMemory) × HasCause script log fault × (answer ≡ refused fault))
    ⊎ (IsLawful script log × Next answer)

-- the answer says both digests where the log is of another script. Otherwise the command goes on
abbrev pub Matching : (Answer → Type 0) → Pair → Answer → Type 0
Matching Next pair answer =
    ((fault : FitFault) × IsOfAnother pair.source.text pair.loaded.digest fault × (answer ≡ wrong_script fault))
    ⊎ (IsOfScript pair.source.text pair.loaded.digest × Next answer)

-- the answer of `tidy`: the script's canonical text is said
abbrev pub TidyAnswers : Source → Answer → Type 0
TidyAnswers source answer = answer ≡ says Done (canonical_text source.script)

-- the answer of `show`: the log's text is said
abbrev pub ShowAnswers : Loaded → Answer → Type 0
ShowAnswers loaded answer = answer ≡ says Done (log_text loaded.log.threads)

-- the answer says the verdict where the log does not order all conflicts. Otherwise the command goes on
abbrev pub WhereOrdered : (Answer → Type 0) → Pair → Answer → Type 0
WhereOrdered Next pair answer =
    (verdict : Verdict) × IsVerified pair.source.script pair.loaded.log.threads verdict × elim verdict [
      | Ordered ↦ Next answer
      | Unordered first second ↦ answer ≡ verdict_said (Unordered first second)
    ]

-- the answer says the outcome of the lowest order
abbrev pub OutcomeSays : Pair → Answer → Type 0
OutcomeSays pair answer = answer ≡ says Done (outcome_text pair.source.script (execution pair.source.script pair.loaded.log.threads (lowest_order pair.source.script pair.loaded.log.threads)))

-- the answer of `regions` to a script and a log whose regions are in this serial order, or have this cycle
abbrev pub regions_said : Pair → Serial → Answer
regions_said pair serial = serial_said pair.source.script (execution pair.source.script pair.loaded.log.threads (lowest_order pair.source.script pair.loaded.log.threads)) serial

-- the answer says the regions in the order of the serial choice, in which they run with the lowest order's outcome.
-- Where the choice leaves regions, the answer says the cycle to which it leads
abbrev pub SerialSays : Pair → Answer → Type 0
SerialSays pair answer =
    (serial : Serial) × IsSerial (accesses_of pair.source.script pair.loaded.log.threads) serial × Shows pair.source.script pair.loaded.log.threads serial
    × (answer ≡ regions_said pair serial)

-- the answer of each task on a script and a log that fits the script. It says something of the lowest order:
-- the outcome, the verdict, the regions, a past, a first event, the events or their counts
abbrev pub PairSays : PairTask → Pair → Answer → Type 0
PairSays Replay pair answer = OutcomeSays pair answer
PairSays Verify pair answer = (verdict : Verdict) × IsVerified pair.source.script pair.loaded.log.threads verdict × (answer ≡ verdict_said verdict)
PairSays Regions pair answer = WhereOrdered (SerialSays pair) pair answer
PairSays (Slice thread event) pair answer = WhereOrdered (SliceSays pair.source.script pair.loaded.log.threads thread event) pair answer
PairSays (Stop value) pair answer = StopSays pair.source.script pair.loaded.log.threads pair.wanted value answer
PairSays Trace pair answer = answer ≡ says Done (trace_text pair.source.text pair.source.script (trace_of pair.source.script pair.loaded.log.threads))
PairSays Profile pair answer = answer ≡ says Done (profile_text pair.wanted (journals_after pair.source.script pair.loaded.log.threads (lowest_order pair.source.script pair.loaded.log.threads)))

-- the events that were made before the log was seen not to fit. Only `trace` says them
abbrev pub told_before : PairTask → Pair → ReplayFault → List ℕ
told_before Trace pair (ThreadsDiffer of_script of_log) = []
told_before Trace pair fault = trace_text pair.source.text pair.source.script (trace_of pair.source.script pair.loaded.log.threads)
told_before task pair fault = []

-- the answer where the log does not fit: the events that the task says, and then why the log does not fit
abbrev pub misfit_said : PairTask → Pair → ReplayFault → Answer
misfit_said task pair fault = says Misfit (told_before task pair fault ++ fit_line fault)

-- the answer of a task on a script and a log, by whether the log fits the script
abbrev pub PairReplays : PairTask → Pair → Answer → Type 0
PairReplays task pair answer = Fitting (misfit_said task pair) (PairSays task pair) pair.source.script pair.loaded.log.threads answer

-- the answer of a task on a script and a log, by the log's digest first
abbrev pub PairAnswers : PairTask → Pair → Answer → Type 0
PairAnswers task pair answer = Matching (PairReplays task pair) pair answer

-- the answer of `parallel` says the outcome of a log that fits the script and orders all conflicts,
-- or why the log does not
abbrev pub ParallelReplays : Pair → Answer → Type 0
ParallelReplays pair answer = Fitting does_not_fit (WhereOrdered (OutcomeSays pair) pair) pair.source.script pair.loaded.log.threads answer

-- the answer of `parallel`, by the log's digest first
abbrev pub ParallelAnswers : Pair → Answer → Type 0
ParallelAnswers pair answer = Matching (ParallelReplays pair) pair answer

-- the bytes of a log in version 2, with the digest of a script's text and one piece for each thread that has marks
abbrev pub second_bytes : List ℕ → List ThreadLog → List ℕ
second_bytes text logs = pieced_bytes (sha256 text) (whole_pieces 0 logs) logs

-- the answer of a conversion writes the log in version 2, where it has as many threads as the script.
-- Otherwise the answer says both numbers of threads
abbrev pub Converts : List ℕ → Pair → Answer → Type 0
Converts out pair answer =
    ((of_script of_log : ℕ) × HasCause pair.source.script pair.loaded.log.threads (ThreadsDiffer of_script of_log) × (answer ≡ does_not_fit (ThreadsDiffer of_script of_log)))
    ⊎ ((length pair.source.script.threads ≡ length pair.loaded.log.threads)
    × IsLogFile (second_bytes pair.source.text pair.loaded.log.threads) (Some (sha256 pair.source.text)) pair.loaded.log.threads
    × (answer ≡ writes_file out (second_bytes pair.source.text pair.loaded.log.threads) (codes "converted\n")))

-- the answer of a conversion, by the log's digest first
abbrev pub ConvertAnswers : List ℕ → Pair → Answer → Type 0
ConvertAnswers out pair answer = Matching (Converts out pair) pair answer

-- the answer of each way to run a script: a log and an outcome are recorded, bytes that spell the log are written,
-- and the outcome is said
abbrev pub RunAnswers : Way → List ℕ → Source → Answer → Type 0
RunAnswers way log_name source answer =
    (log : Log) × (outcome : Outcome) × (bytes : List ℕ) × Records way source.script log outcome × IsLogFile bytes (digest_kept way source.text) log.threads
    × (answer ≡ writes_file log_name bytes (outcome_text source.script outcome))

-- the aim of a hunt in a script. The object is the one that the quarry names, if it names one
abbrev pub aim_of : Quarry → Option ℕ → Aim
aim_of (OtherEnd name number) (Some object) = aim.OtherValue object number
aim_of _ _ = aim.Cycle

-- the text of a run that was found: its outcome, or the cycle of its regions
abbrev pub found_said : Quarry → Script → Outcome → List Hop → List ℕ
found_said (OtherEnd name number) script outcome hops = outcome_text script outcome
found_said AnyCycle script outcome hops = cycle_text hops

-- the answer where no such run was found
abbrev pub none_found : Quarry → ℕ → Answer
none_found (OtherEnd name number) tries = no_other_end tries
none_found AnyCycle tries = no_cycle tries

-- the answer where a run was found at one of the tries: its log is written in version 2, with the script's digest.
-- The try, the preemptions and what was found are said
pub record IsFind (quarry : Quarry) (log_name : List ℕ) (tries : ℕ) (source : Source) (wanted : Option ℕ) (answer : Answer) : Type 0 where
  pub attempt : ℕ
  pub preemptions : ℕ
  pub recorded : Recorded
  pub hops : List Hop
  pub first : 0 < attempt
  pub last : attempt ≤ tries
  pub meets : Meets source.script (aim_of quarry wanted) recorded hops
  pub file : IsLogFile (second_bytes source.text recorded.log.threads) (Some (sha256 source.text)) recorded.log.threads
  pub is : answer ≡ writes_file log_name (second_bytes source.text recorded.log.threads) (try_text attempt preemptions ++ found_said quarry source.script recorded.outcome hops)

-- the answer of a hunt: a run was found, or none was
abbrev pub HuntAnswers : Quarry → List ℕ → ℕ → Source × Option ℕ → Answer → Type 0
HuntAnswers quarry log_name tries (source, wanted) answer = IsFind quarry log_name tries source wanted answer ⊎ (answer ≡ none_found quarry tries)

-- the answer where a run was found of which a claim does not hold: its log is written in version 2, with the script's digest.
-- Its preemptions and its outcome are said
pub record IsWitness (claim : Claim) (log_name : List ℕ) (source : Source) (wanted : Option ℕ) (answer : Answer) : Type 0 where
  pub preemptions : ℕ
  pub recorded : Recorded
  pub refutes : Refutes source.script claim wanted recorded
  pub file : IsLogFile (second_bytes source.text recorded.log.threads) (Some (sha256 source.text)) recorded.log.threads
  pub is : answer ≡ reports Otherwise log_name (second_bytes source.text recorded.log.threads) (otherwise_text source.script preemptions recorded.outcome)

-- the answer of `always`: the claim holds of every run, or not all was seen, or there is a run of which it does not hold
abbrev pub AlwaysAnswers : Claim → List ℕ → Source × Option ℕ → Answer → Type 0
AlwaysAnswers claim log_name (source, wanted) answer =
    (Holds source.script claim wanted × (answer ≡ always_said))
    ⊎ (((seen : Seen) × (answer ≡ cut_said seen))
    ⊎ (Fails source.script claim wanted × (IsWitness claim log_name source wanted answer ⊎ (answer ≡ past_fuel))))

-- the answer that refuses what was read, or the command's answer by what was read
abbrev pub Answering : {T : Type 0} → (Result T Answer → Type 0) → (T → Answer → Type 0) → Answer → Type 0
Answering Reading Answers answer = Reading (Err answer) ⊎ ((input : _) × Reading (Ok input) × Answers input answer)

-- the answers to a request, by what the desk tells of its files
abbrev pub RequestAnswers : Request → Option Contents → Answer → Type 0
RequestAnswers (Tidy script) contents answer = Answering (IsScriptRead script contents) TidyAnswers answer
RequestAnswers (Show log) contents answer = Answering (IsLogRead log contents) ShowAnswers answer
RequestAnswers (Marks file) contents answer = FileAnswers file contents answer
RequestAnswers (OfPair task script log object) contents answer = Answering (IsPairRead script log object contents) (PairAnswers task) answer
RequestAnswers (Parallel script log) contents answer = Answering (IsPairRead script log None contents) ParallelAnswers answer
RequestAnswers (Convert script log out) contents answer = Answering (IsPairRead script log None contents) (ConvertAnswers out) answer
RequestAnswers (Run way script log) contents answer = Answering (IsScriptRead script contents) (RunAnswers way log) answer
RequestAnswers (Gen number script log) contents answer = IsGeneration number script log answer
RequestAnswers (Hunt quarry script log tries) contents answer = Answering (IsScriptChosen script (named_by quarry) contents) (HuntAnswers quarry log tries) answer
RequestAnswers (Outcomes script most) contents answer = Answering (IsScriptRead script contents) (λ source. OutcomesAnswers source.script most) answer
RequestAnswers (Always claim script log most) contents answer = Answering (IsScriptChosen script (claimed_of claim) contents) (AlwaysAnswers claim log) answer

-- the answers to a request, or the one to words that are no command
abbrev pub Answers : Option Request → Option Contents → Answer → Type 0
Answers None contents answer = answer ≡ not_a_command
Answers (Some request) contents answer = RequestAnswers request contents answer

-- the answers to the words, by what the desk tells of its files
abbrev pub IsAnswer : List (List ℕ) → Option Contents → Answer → Type 0
IsAnswer words contents answer = Answers (request_in words) contents answer
