-- What `outcomes` and `always` answer.
use Rattle.std.specs.Prelude.{ℕ, ◌≡◌, ◌≢◌, ◌<◌, ◌++◌, Bool, true, false, List, map, codes, get_or, Option, None, Some}
use Rattle.std.specs.Fmt.{decimal}
use Rattle.std.specs.List.{All, flat_map, list_all}
use Rattle.octet_model.specs.declared.log.ThreadLog.{ThreadLog}
use Rattle.octet_model.specs.declared.outcome.Outcome.{Outcome}
use Rattle.octet_model.specs.declared.outcome.Recorded.{Recorded}
use Rattle.octet_model.specs.declared.script.Script.{Script}
use Rattle.octet_model.specs.Orders.{is_done, IsFaithful}
use Rattle.octet_model.specs.Texts.{object_lines, outcome_text}
use Rattle.octet_hunt.specs.Hunts.{EndsOtherwise}
use Rattle.octet_outcomes.specs.declared.outcomes.Seen.{Seen}
use Rattle.octet_outcomes.specs.declared.outcomes.Seen.TheVariants.{Whole, Most, Memory}
use Rattle.octet_outcomes.specs.Moments.{Moment}
use Rattle.octet_outcomes.specs.Runs.{AreAllOutcomes, IsOutcome, IsReached}
use Rattle.octet_outcomes.specs.Stuck.{IsStuck, LeadsToEnd}
use Rattle.octet_commands.specs.declared.outcomes.Told.{Told}
use Rattle.octet_commands.specs.declared.reply.Status.TheVariants.{Done, NotAll, Otherwise}
use Rattle.octet_commands.specs.declared.request.Claim.TheVariants.{Leaves, CanEnd}
use Rattle.octet_commands.specs.Answer.{Answer, says}
use Rattle.octet_commands.specs.Request.{Claim}

-- some faithful recording whose threads are all done ends with this heap
pub record IsRecorded (script : Script) (heap : List ℕ) : Type 0 where
  pub log : List ThreadLog
  pub outcome : Outcome
  pub faithful : IsFaithful script log outcome
  pub done : list_all is_done outcome.ends ≡ true
  pub leaves : outcome.heap ≡ heap

-- the heap is that of a run whose threads are all done, and where it is told so, the script's own fuel is enough for one
pub record IsTold (script : Script) (told : Told) : Type 0 where
  pub outcome : IsOutcome script told.heap
  pub within : told.within ≡ true → IsRecorded script told.heap

-- some run comes to a moment from which no accesses lead to one in which all threads are done
pub record SomeIsStuck (script : Script) : Type 0 where
  pub moment : Moment
  pub reached : IsReached script moment
  pub stuck : IsStuck script moment

-- every run can go on until all its threads are done
abbrev pub CanAlwaysEnd : Script → Type 0
CanAlwaysEnd script = (m : Moment) → IsReached script m → LeadsToEnd script m

-- these heaps are told, with so many moments, and stuck ones. A whole search tells each heap of every interleaving,
-- and where it finds no stuck moment, every interleaving can go on until all threads are done.
-- One that is cut off has found more moments than were asked for, or memory was refused
pub record IsExplored (script : Script) (most : ℕ) (told : List Told) (moments stuck : ℕ) (seen : Seen) : Type 0 where
  pub each : All (IsTold script) told
  pub all : seen ≡ Whole → AreAllOutcomes script (map (λ t. t.heap) told)
  pub cut : seen ≡ Most → most < moments
  pub some_stuck : 0 < stuck → SomeIsStuck script
  pub none_stuck : seen ≡ Whole → stuck ≡ 0 → CanAlwaysEnd script

-- the line that stands before a heap, by whether the script's fuel is enough for it
abbrev pub told_line : Bool → List ℕ
told_line true = codes "outcome\n"
told_line false = codes "outcome past the fuel\n"

-- the text of a heap that is told
abbrev pub told_text : Script → Told → List ℕ
told_text script told = told_line told.within ++ object_lines script.objects told.heap

-- the text of what a search has found: the heaps, how many moments there were, and how many of them are stuck
abbrev pub search_text : Script → List Told → ℕ → ℕ → List ℕ
search_text script told moments stuck = flat_map (told_text script) told ++ codes "moments " ++ decimal moments ++ codes "\nstuck " ++ decimal stuck ++ codes "\n"

-- the line of a search that was cut off
abbrev pub cut_line : Seen → List ℕ
cut_line Memory = codes "not all was seen for want of memory\n"
cut_line _ = codes "not all was seen\n"

-- the answer that says what a search has found, and whether that is all
abbrev pub search_said : List ℕ → Seen → Answer
search_said text Whole = says Done text
search_said text Most = says NotAll (text ++ cut_line Most)
search_said text Memory = says NotAll (text ++ cut_line Memory)

-- the answer of `outcomes`
abbrev pub OutcomesAnswers : Script → ℕ → Answer → Type 0
OutcomesAnswers script most answer =
    (told : List Told) × (moments stuck : ℕ) × (seen : Seen) × IsExplored script most told moments stuck seen × (answer ≡ search_said (search_text script told moments stuck) seen)

-- every run whose threads are all done leaves the number in the object
abbrev pub AlwaysLeaves : Script → ℕ → ℕ → Type 0
AlwaysLeaves script object number = (heap : List ℕ) → IsOutcome script heap → get_or heap object 0 ≡ number

-- some run whose threads are all done leaves this value in the object, which is another than the number
pub record LeavesOther (script : Script) (object number value : ℕ) : Type 0 where
  pub heap : List ℕ
  pub outcome : IsOutcome script heap
  pub leaves : get_or heap object 0 ≡ value
  pub other : value ≢ number

-- the claim holds of every run of a script, with this object
abbrev pub Holds : Script → Claim → Option ℕ → Type 0
Holds script (Leaves name number) (Some object) = AlwaysLeaves script object number
Holds script (Leaves name number) None = ⊥
Holds script CanEnd wanted = CanAlwaysEnd script

-- there is a run of which the claim does not hold
abbrev pub Fails : Script → Claim → Option ℕ → Type 0
Fails script (Leaves name number) (Some object) = (value : ℕ) × LeavesOther script object number value
Fails script (Leaves name number) None = ⊥
Fails script CanEnd wanted = SomeIsStuck script

-- a faithful recording of a run of which not all threads are done
pub record IsUnfinished (script : Script) (recorded : Recorded) : Type 0 where
  pub faithful : IsFaithful script recorded.log.threads recorded.outcome
  pub unfinished : list_all is_done recorded.outcome.ends ≡ false

-- the recording is of a run of which the claim does not hold
abbrev pub Refutes : Script → Claim → Option ℕ → Recorded → Type 0
Refutes script (Leaves name number) (Some object) recorded = EndsOtherwise script object number recorded
Refutes script (Leaves name number) None recorded = ⊥
Refutes script CanEnd wanted recorded = IsUnfinished script recorded

-- the answer where all was seen, and a claim holds of it
abbrev pub always_said : Answer
always_said = says Done (codes "always\n")

-- the answer where not all was seen, and no run was found of which a claim does not hold
abbrev pub cut_said : Seen → Answer
cut_said seen = says NotAll (cut_line seen)

-- the text of a run of which a claim does not hold: how often its threads are preempted, and its outcome
abbrev pub otherwise_text : Script → ℕ → Outcome → List ℕ
otherwise_text script preemptions outcome = codes "otherwise\npreemptions " ++ decimal preemptions ++ codes "\n" ++ outcome_text script outcome

-- the answer where the script's fuel is not enough for such a run. No log is written
abbrev pub past_fuel : Answer
past_fuel = says Otherwise (codes "otherwise past the fuel\n")
