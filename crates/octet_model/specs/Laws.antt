-- The laws of orders, plays, histories and validity, as the public functions of laws.rt prove them.
use Rattle.std.specs.Prelude.{◌≡◌, ◌↔◌, ℕ, ◌+◌, ◌*◌, ◌<◌, ◌≤◌, IsTrue, List, ◌++◌, length}
use Rattle.std.specs.Bool.{Decides}
use Rattle.octet_model.specs.declared.command.Command.{Command}
use Rattle.octet_model.specs.declared.event.Event.{Event}
use Rattle.octet_model.specs.declared.object.Object.{Object}
use Rattle.octet_model.specs.declared.script.Script.{Script}
use Rattle.octet_model.specs.declared.limits.TheConstants.{MAX_ACCESSES, MAX_MARKS_BEFORE_ACCESS, MAX_THREADS}
use Rattle.octet_model.specs.declared.log.ThreadLog.{ThreadLog}
use Rattle.octet_model.specs.declared.outcome.Outcome.{Outcome}
use Rattle.octet_model.specs.Script.{is_script}
use Rattle.octet_model.specs.Log.{is_log}
use Rattle.octet_model.specs.Texts.{log_bytes}
use Rattle.octet_model.specs.Validity.{IsValidScript, IsValidLog}
use Rattle.octet_model.specs.Machine.{Journals, PlainState, starting_state, Behavior, no_events, is_enabled, event_made, heap_after, draws_after, appended, IsFront}
use Rattle.octet_model.specs.Journals.{log_of}
use Rattle.octet_model.specs.HappensBefore.{IsOrdered}
use Rattle.octet_model.specs.Frugal.{IsFrugal}
use Rattle.octet_model.specs.Plans.{Plan, FitsPlan}
use Rattle.octet_model.specs.Plans as plans
use Rattle.octet_model.specs.Orders.{plan_of, IsLawfulFront, IsLawfulOrder, execution, journals_after, outcome_of, lowest_order, IsLowestFront, FitsScript, starting_heap, opening_state, by_log, IsFaithful}
use Rattle.octet_model.specs.Totals.{AddsUp}
use Rattle.octet_model.specs.Plays.{MakesAll, by_journals, operation_of, state_after_play, lowest_play, IsOneHistory}

-- all lawful orders of a script and a log have one execution, where the journals of one of them are ordered
abbrev pub OneExecution : Type 0
OneExecution = (script : Script) (log : List ThreadLog) (order other : List ℕ)
    → IsLawfulOrder script log order → IsOrdered (journals_after script log order) → IsLawfulOrder script log other
    → execution script log other ≡ execution script log order

-- all lawful orders of a script and a log have the same journals, where the journals of one of them are ordered
abbrev pub OneSetOfJournals : Type 0
OneSetOfJournals = (script : Script) (log : List ThreadLog) (order other : List ℕ)
    → IsLawfulOrder script log order → IsOrdered (journals_after script log order) → IsLawfulOrder script log other
    → journals_after script log other ≡ journals_after script log order

-- every lawful front can be continued to a lawful order, where the journals of one lawful order are ordered
abbrev pub FrontsContinue : Type 0
FrontsContinue = (script : Script) (log : List ThreadLog) (order front : List ℕ)
    → IsLawfulOrder script log order → IsOrdered (journals_after script log order) → IsLawfulFront script log front
    → (rest : List ℕ) × IsLawfulOrder script log (front ++ rest)

-- the lowest play makes all events of ordered journals, where some play does
abbrev pub LowestPlayMakesAll : Type 0
LowestPlayMakesAll = (heap : List ℕ) (journals : Journals) (play : List ℕ)
    → IsOrdered journals → MakesAll heap journals play → MakesAll heap journals (lowest_play heap journals)

-- the lowest play of ordered journals ends with the heap of every play that makes all their events
abbrev pub LowestPlayGivesHeap : Type 0
LowestPlayGivesHeap = (heap : List ℕ) (journals : Journals) (play : List ℕ)
    → IsOrdered journals → MakesAll heap journals play
    → (state_after_play heap journals (lowest_play heap journals)).heap ≡ (state_after_play heap journals play).heap

-- the lowest play of ordered journals is the lowest order of the script and their log.
-- Some play makes all their events, and they fit the script to its threads' ends
abbrev pub LowestPlayIsLowestOrder : Type 0
LowestPlayIsLowestOrder = (script : Script) (journals : Journals) (play : List ℕ)
    → IsOrdered journals → MakesAll (starting_heap script) journals play
    → length script.threads ≡ length journals → FitsScript script journals
    → lowest_order script (log_of journals) ≡ lowest_play (starting_heap script) journals

-- a lowest front is a front
abbrev pub LowestFrontIsFront : Type 0
LowestFrontIsFront = (behavior : Behavior) (state : PlainState) (front : List ℕ) → IsLowestFront behavior state front → IsFront behavior state front

-- a state has only one lowest front
abbrev pub OneLowestFront : Type 0
OneLowestFront = (behavior : Behavior) (state : PlainState) (front other : List ℕ)
    → IsLowestFront behavior state front → IsLowestFront behavior state other → front ≡ other

-- the lowest order of a script and a log of equally many threads is a lowest front
abbrev pub LowestOrderIsLowest : Type 0
LowestOrderIsLowest = (script : Script) (log : List ThreadLog)
    → length script.threads ≡ length log → IsLowestFront (by_log script log) (opening_state script) (lowest_order script log)

-- the lowest play of journals is a lowest front
abbrev pub LowestPlayIsLowest : Type 0
LowestPlayIsLowest = (heap : List ℕ) (journals : Journals)
    → IsLowestFront (by_journals journals) (starting_state heap journals) (lowest_play heap journals)

-- the lowest order is a lawful order, where the journals of some lawful order are ordered
abbrev pub LowestOrderIsLawful : Type 0
LowestOrderIsLawful = (script : Script) (log : List ThreadLog) (order : List ℕ)
    → IsLawfulOrder script log order → IsOrdered (journals_after script log order) → IsLawfulOrder script log (lowest_order script log)

-- the empty journals at the start have one history, of no event
abbrev pub HistoryBegins : Type 0
HistoryBegins = (script : Script) → IsOneHistory (starting_heap script) (no_events script.threads) (starting_heap script) 0

-- journals of one history still have one history after one more event.
-- The heap and the marks allow this event, and the journals stay ordered
abbrev pub HistoryGrows : Type 0
HistoryGrows = (starts : List ℕ) (journals : Journals) (heap : List ℕ) (draws thread : ℕ) (event : Event)
    → IsOneHistory starts journals heap draws → thread < length journals
    → IsTrue (is_enabled (record { heap = heap; journals = journals; draws = draws }) (operation_of event))
    → event_made (operation_of event) heap ≡ event → IsOrdered (appended journals thread event)
    → IsOneHistory starts (appended journals thread event) (heap_after (operation_of event) heap) (draws_after (operation_of event) draws)

-- the log of ordered and frugal journals is a faithful recording, where some play makes all their events
-- and they fit the script to its threads' ends
abbrev pub PlayIsFaithful : Type 0
PlayIsFaithful = (script : Script) (journals : Journals) (play : List ℕ)
    → IsOrdered journals → IsFrugal journals → MakesAll (starting_heap script) journals play
    → length script.threads ≡ length journals → FitsScript script journals
    → IsFaithful script (log_of journals) (outcome_of script (state_after_play (starting_heap script) journals play))

-- the log of frugal journals of one history is a faithful recording, with the history's heap,
-- where the journals fit the script to its threads' ends
abbrev pub HistoryIsFaithful : Type 0
HistoryIsFaithful = (script : Script) (journals : Journals) (heap : List ℕ) (draws : ℕ)
    → IsOneHistory (starting_heap script) journals heap draws → IsFrugal journals
    → length script.threads ≡ length journals → FitsScript script journals
    → IsFaithful script (log_of journals) (outcome_of script (record { heap = heap; journals = journals; draws = draws }))

-- the log of frugal journals of one history is a faithful recording of a plan too, whatever their length,
-- where the journals fit the plan to its threads' ends
abbrev pub HistoryIsFaithfulToPlan : Type 0
HistoryIsFaithfulToPlan = (plan : Plan) (journals : Journals) (heap : List ℕ) (draws : ℕ)
    → IsOneHistory plan.starts journals heap draws → IsFrugal journals
    → length plan.threads ≡ length journals → FitsPlan plan journals
    → plans.IsFaithful plan (log_of journals) (plans.outcome_of plan (record { heap = heap; journals = journals; draws = draws }))

-- the faithful recordings of a script are exactly those of its plan
abbrev pub ScriptIsItsPlan : Type 0
ScriptIsItsPlan = (script : Script) (log : List ThreadLog) (outcome : Outcome)
    → IsFaithful script log outcome ↔ plans.IsFaithful (plan_of script) log outcome

-- the test that a script's type rests on is true exactly for valid scripts
abbrev pub ScriptTestIsExact : Type 0
ScriptTestIsExact = (fuel : ℕ) (objects : List Object) (threads : List (List Command))
    → Decides (is_script fuel objects threads) (IsValidScript fuel objects threads)

-- the test that a log's type rests on is true exactly for valid logs
abbrev pub LogTestIsExact : Type 0
LogTestIsExact = (log : List ThreadLog) → Decides (is_log log) (IsValidLog log)

-- the journals of a lawful order have the very log that the order follows
abbrev pub LawfulOrderHasItsLog : Type 0
LawfulOrderHasItsLog = (script : Script) (log : List ThreadLog) (order : List ℕ)
    → IsLawfulOrder script log order → log_of (journals_after script log order) ≡ log

-- the journals of a lawful order fit the script to its threads' ends
abbrev pub LawfulOrderFits : Type 0
LawfulOrderFits = (script : Script) (log : List ThreadLog) (order : List ℕ)
    → IsLawfulOrder script log order → FitsScript script (journals_after script log order)

-- a valid log of a faithful recording is short: six bytes, eight for each thread,
-- and 14 for each mark that may stand before each access
abbrev pub FaithfulLogIsShort : Type 0
FaithfulLogIsShort = (script : Script) (log : List ThreadLog) (outcome : Outcome)
    → IsFaithful script log outcome → IsTrue (is_log log) → length (log_bytes log) ≤ 6 + 8 * MAX_THREADS + 14 * (MAX_MARKS_BEFORE_ACCESS * MAX_ACCESSES)

-- the updates of a faithful recording add up, by the journals of each lawful order
abbrev pub FaithfulAddsUp : Type 0
FaithfulAddsUp = (script : Script) (log : List ThreadLog) (outcome : Outcome) → IsFaithful script log outcome
    → (order : List ℕ) → IsLawfulOrder script log order → AddsUp script (journals_after script log order) outcome.heap
