-- What a command answers: its status, the files that it writes, and the text that it says.
use Rattle.std.specs.Prelude.{ℕ, List, [], ◌∷◌, ◌++◌, map, codes, string_bytes, Option, None, Some, Result, Ok, Err}
use Rattle.std.specs.Fmt.{decimal}
use Rattle.std.specs.List.{flat_map}
use Rattle.octet_script.specs.declared.cause.ScriptCause.{ScriptCause}
use Rattle.octet_script.specs.Causes.{cause_number, cause_text}
use Rattle.octet_log.specs.declared.cause.LogCause.{LogCause}
use Rattle.octet_log.specs.Texts.{refusal_line}
use Rattle.octet_replay.specs.declared.fault.ReplayFault.{ReplayFault}
use Rattle.octet_replay.specs.Line.{fit_line}
use Rattle.octet_replay.specs.declared.fitting.FitFault.{FitFault}
use Rattle.octet_replay.specs.Fit.{wrong_script_line}
use Rattle.octet_model.specs.declared.event.Place.{Place}
use Rattle.octet_model.specs.declared.outcome.Outcome.{Outcome}
use Rattle.octet_model.specs.declared.script.Script as scripts
use Rattle.octet_model.specs.Texts.{outcome_text}
use Rattle.octet_regions.specs.declared.region.Region.{Region}
use Rattle.octet_regions.specs.declared.region.Hop.{Hop}
use Rattle.octet_regions.specs.declared.serial.Serial.{Serial}
use Rattle.octet_regions.specs.declared.serial.Serial.TheVariants as serial
use Rattle.octet_clock.specs.declared.verdict.Verdict.{Verdict}
use Rattle.octet_clock.specs.declared.verdict.Verdict.TheVariants as verdict
use Rattle.octet_commands.specs.declared.reply.Status.{Status}
use Rattle.octet_commands.specs.declared.reply.Status.TheVariants.{Done, Words, Script, Log, Misfit, Read, Write, Memory, TooLong, Unordered, Cycle, NoEvent, NotFound, NotAll, Otherwise}
use Rattle.octet_commands.specs.declared.reply.Output.{Output}
use Rattle.octet_commands.specs.declared.reply.Reply.{Reply}
use Rattle.octet_commands.specs.declared.refusal.Refused.{Refused}
use Rattle.octet_commands.specs.declared.refusal.Refused.TheVariants.{Because, OutOfMemory}

-- the exit status as a number
abbrev pub code_of : Status → ℕ
code_of Done = 0
code_of Words = 1
code_of Script = 2
code_of Log = 3
code_of Misfit = 4
code_of Read = 5
code_of Write = 6
code_of Memory = 7
code_of TooLong = 8
code_of Unordered = 9
code_of Cycle = 10
code_of NoEvent = 11
code_of NotFound = 12
code_of NotAll = 13
code_of Otherwise = 14

-- the answer of a command: its status, its text, and its files as pairs of a name and bytes, in the order written
pub record Answer : Type 0 where
  pub status : Status
  pub files : List (List ℕ × List ℕ)
  pub text : List ℕ

-- the file of an output, as its name and its bytes
abbrev pub file_of : Output → List ℕ × List ℕ
file_of output = (string_bytes output.name, output.bytes)

-- the answer of a reply
abbrev pub answer_of : Reply → Answer
answer_of reply = record { status = reply.status; files = map file_of reply.outputs; text = reply.text }

-- the refusal has an answer of this kind, unless memory was refused
abbrev pub RefusesBy : (Answer → Type 0) → Refused → Type 0
RefusesBy Says (Because reply) = Says (answer_of reply)
RefusesBy Says OutOfMemory = Unit {0}

-- the result has an answer of this kind, unless memory was refused
abbrev pub IsAnswered : (Answer → Type 0) → Result Reply Refused → Type 0
IsAnswered Says (Ok reply) = Says (answer_of reply)
IsAnswered Says (Err refused) = RefusesBy Says refused

-- the reply of a result, whether all was done or the request is refused. Where memory was refused there is none
abbrev pub given_reply : Result Reply Refused → Option Reply
given_reply (Ok reply) = Some reply
given_reply (Err (Because reply)) = Some reply
given_reply (Err OutOfMemory) = None

-- the answer that says a text and writes no file
abbrev pub says : Status → List ℕ → Answer
says status text = record { status = status; files = []; text = text }

-- the answer that writes a file and then says a text, with this status
abbrev pub reports : Status → List ℕ → List ℕ → List ℕ → Answer
reports status name bytes text = record { status = status; files = (name, bytes) ∷ []; text = text }

-- the answer that writes a file and then says a text
abbrev pub writes_file : List ℕ → List ℕ → List ℕ → Answer
writes_file name bytes text = reports Done name bytes text

-- the answer that writes two files, one after the other, and then says a text
abbrev pub writes_both : List ℕ × List ℕ → List ℕ × List ℕ → List ℕ → Answer
writes_both first second text = record { status = Done; files = first ∷ second ∷ []; text = text }

-- the answer to words that are no command
abbrev pub not_a_command : Answer
not_a_command = says Words (codes "words: not a command\n")

-- the answer where the script has no object of the name
abbrev pub no_such_object : Answer
no_such_object = says Words (codes "words: no such object\n")

-- the answer where a file could not be read
abbrev pub read_failed : Answer
read_failed = says Read (codes "read: failed\n")

-- the answer where a file is over its limit
abbrev pub too_long : List ℕ → ℕ → Answer
too_long name limit = says TooLong (codes "long: " ++ name ++ codes " over " ++ decimal limit ++ codes " bytes\n")

-- the answer where a script is refused in a line
abbrev pub script_refused : ℕ → ScriptCause → Answer
script_refused line cause =
    says Script (codes "script: line " ++ decimal line ++ codes ": " ++ decimal (cause_number cause) ++ codes " " ++ cause_text cause ++ codes "\n")

-- the answer where bytes are refused as a log
abbrev pub log_refused : LogCause → Answer
log_refused cause = says Log (refusal_line cause)

-- the answer where a log is of another script
abbrev pub wrong_script : FitFault → Answer
wrong_script fault = says Misfit (wrong_script_line fault)

-- the answer where a log does not fit its script
abbrev pub does_not_fit : ReplayFault → Answer
does_not_fit fault = says Misfit (fit_line fault)

-- the text of a place: a thread and the number of one of its events
abbrev pub place_text : Place → List ℕ
place_text place = decimal place.thread ++ codes ":" ++ decimal place.event

-- the answer that says a verdict
abbrev pub verdict_said : Verdict → Answer
verdict_said verdict.Ordered = says Done (codes "ordered\n")
verdict_said (verdict.Unordered first second) = says Unordered (codes "unordered " ++ place_text first ++ codes " " ++ place_text second ++ codes "\n")

-- the text of a region: a thread and the number of one of its regions
abbrev pub region_text : Region → List ℕ
region_text region = decimal region.thread ++ codes ":" ++ decimal region.number

-- the line of a region
abbrev pub region_line : Region → List ℕ
region_line region = codes "region " ++ region_text region ++ codes "\n"

-- the line of a hop
abbrev pub hop_line : Hop → List ℕ
hop_line hop = codes "hop " ++ region_text hop.before ++ codes " " ++ region_text hop.after ++ codes "\n"

-- the text of a cycle, with a line for each hop
abbrev pub cycle_text : List Hop → List ℕ
cycle_text hops = codes "cycle\n" ++ flat_map hop_line hops

-- the answer that says regions in a serial order with the outcome, or a cycle of hops
abbrev pub serial_said : scripts.Script → Outcome → Serial → Answer
serial_said script outcome (serial.Order regions) = says Done (codes "serial\n" ++ flat_map region_line regions ++ outcome_text script outcome)
serial_said script outcome (serial.Cycle hops) = says Cycle (cycle_text hops)

-- the text that is said of every generated script
abbrev pub summary : List ℕ
summary = codes "threads 8\nobjects 64\naccesses 160000\n"

-- the text that tells at which try a run was found, and how often its threads are preempted
abbrev pub try_text : ℕ → ℕ → List ℕ
try_text attempt preemptions = codes "try " ++ decimal attempt ++ codes "\npreemptions " ++ decimal preemptions ++ codes "\n"

-- the answer where no run with another value was found in so many tries
abbrev pub no_other_end : ℕ → Answer
no_other_end tries = says NotFound (codes "no other end in " ++ decimal tries ++ codes " tries\n")

-- the answer where no run with a cycle was found in so many tries
abbrev pub no_cycle : ℕ → Answer
no_cycle tries = says NotFound (codes "serial in " ++ decimal tries ++ codes " tries\n")
