-- A heap and its threads as builders of tools see them, and what the calls of a thread do.
use Rattle.std.specs.Prelude.{◌≡◌, ℕ, suc, List, [], ◌∷◌, ◌++◌, map, length, Some, slice_get, slice_index, slice_set}
use Rattle.octet_model.specs.declared.event.Mark.{Mark}
use Rattle.octet_model.specs.declared.event.Event.{Event}
use Rattle.octet_model.specs.declared.event.Event.TheVariants as event
use Rattle.octet_model.specs.declared.script.Script.{Script}
use Rattle.octet_model.specs.Journals.{access_count, log_of}
use Rattle.octet_model.specs.Machine.{Journals, journal_of, no_events, appended}
use Rattle.octet_model.specs.Orders.{starting_heap, values_read}
use Rattle.octet_model.specs.Thread.{added}
use Rattle.octet_state.specs.declared.act.Mode.{Mode}
use Rattle.octet_state.specs.declared.act.Mode.TheVariants.{Read, Write, Update}
use Rattle.octet_rule.specs.Changes.{changed_by}
use Rattle.octet_heap.specs.declared.closed.Closed.{Closed}
use Rattle.octet_heap.specs.declared.pending_access.PendingAccess.{PendingAccess}
use Rattle.octet_heap.specs.declared.pending_update.PendingUpdate.{PendingUpdate}
use Rattle.octet_heap.specs.declared.poll.Poll.{Poll}
use Rattle.octet_heap.specs.declared.poll.Poll.TheVariants as poll
use Rattle.octet_heap.specs.declared.updated.Updated.{Updated}
use Rattle.octet_heap.specs.declared.updated.Updated.TheVariants as updated
use Rattle.octet_heap.specs.Updates.{answer_after}

-- the model of a heap: how many threads and objects it has, the objects' starting values,
-- and how many accesses each worker may make
pub record HeapModel : Type 0 where
  pub threads : ℕ
  pub objects : ℕ
  pub starts : List ℕ
  pub fuel : ℕ

-- the model of a heap that a script opens
abbrev pub opened_by : Script → HeapModel
opened_by script = record { threads = length script.threads; objects = length script.objects; starts = starting_heap script; fuel = script.fuel }

-- where a thread stands between two calls. It has not started, or it runs and has begun nothing,
-- or it has begun an access or an update by a change, or it is marked blocked
pub data Standing : Type 0 where
  Off : Standing
  Idle : Standing
  Accessing : (access : PendingAccess) → Standing
  Updating : (update : PendingUpdate) → Standing
  Blocked : Standing

-- a thread that stands so is off or blocked
abbrev pub StandsStill : Standing → Type 0
StandsStill Off = Unit {0}
StandsStill Blocked = Unit {0}
StandsStill _ = ⊥

-- a thread that stands so has begun an access or an update
abbrev pub IsBusy : Standing → Type 0
IsBusy (Accessing access) = Unit {0}
IsBusy (Updating update) = Unit {0}
IsBusy _ = ⊥

-- the model of a thread: its number, where it stands, and its journal, which has its accesses and marks in order
pub record ThreadModel : Type 0 where
  pub number : ℕ
  pub standing : Standing
  pub journal : List Event

-- the number of accesses that a thread has made
abbrev pub accesses_of : ThreadModel → ℕ
accesses_of thread = access_count thread.journal

-- the same thread with the same journal, which now stands so
abbrev pub now_standing : Standing → ThreadModel → ThreadModel
now_standing standing thread = record thread { standing = standing }

-- the thread adds marks to its journal and then these events, and now stands so
pub record AddsToJournal (events : List Event) (now : Standing) (before after : ThreadModel) : Type 0 where
  pub marks : List Mark
  pub journal : after.journal ≡ before.journal ++ (map (λ mark. event.Marked mark) marks ++ events)
  pub standing : after.standing ≡ now
  pub number : after.number ≡ before.number

-- the thread makes this one access, which counts, and is idle. Marks may stand before it in the journal
pub record MakesAccess (access : Event) (before after : ThreadModel) : Type 0 where
  pub adds : AddsToJournal (access ∷ []) Idle before after
  pub counts : accesses_of after ≡ suc (accesses_of before)

-- the thread makes no access yet, and has begun what it stands for. Marks may come to its journal
pub record StaysBegun (begun : Standing) (before after : ThreadModel) : Type 0 where
  pub adds : AddsToJournal [] begun before after
  pub counts : accesses_of after ≡ accesses_of before

-- the event of an access that is given one value and answers another. A read answers the value that it finds.
-- A write answers the one that it is given, and an update what it leaves: what it finds and the amount, modulo 2 ^ 64
abbrev pub IsEventOf : Mode → ℕ → ℕ → ℕ → Event → Type 0
IsEventOf Read object given answer made = made ≡ event.Read object answer
IsEventOf Write object given answer made = (made ≡ event.Write object given) × (answer ≡ given)
IsEventOf Update object given answer made = (found : ℕ) × (made ≡ event.Update object found answer) × (answer ≡ added given found)

-- what an answer to an access says: it was made, with the value that is answered, or it stays begun
abbrev pub AnswersAccess : PendingAccess → Poll → ThreadModel → ThreadModel → Type 0
AnswersAccess access (poll.Ready value) before after = (made : Event) × IsEventOf access.mode access.object access.value value made × MakesAccess made before after
AnswersAccess access (poll.Pending why) before after = StaysBegun (Accessing access) before after

-- what an answer to an update by a change says: it has changed the value that is answered, or it stays begun
abbrev pub AnswersUpdate : PendingUpdate → Updated → ThreadModel → ThreadModel → Type 0
AnswersUpdate update (updated.Made found) before after = MakesAccess (event.Update update.object found (changed_by update.change found)) before after
AnswersUpdate update (updated.Pending why) before after = StaysBegun (Updating update) before after

-- what the answer of a poll says of what was begun. Of an update by a change, it tells the value after
abbrev pub AnswersPoll : Standing → Poll → ThreadModel → ThreadModel → Type 0
AnswersPoll (Accessing access) answer before after = AnswersAccess access answer before after
AnswersPoll (Updating update) answer before after = (made : Updated) × (answer ≡ answer_after update.change made) × AnswersUpdate update made before after
AnswersPoll _ answer before after = ⊥

-- the event takes what is there: a read the value of its object, and so does an update as its value before
abbrev pub TakesValue : Event → List ℕ → Type 0
TakesValue (event.Read object value) values = slice_index values object ≡ value
TakesValue (event.Update object before after) values = slice_index values object ≡ before
TakesValue _ values = Unit {0}

-- the objects' values after an event
abbrev pub values_after : Event → List ℕ → List ℕ
values_after (event.Write object value) values = slice_set values object value
values_after (event.Update object before after) values = slice_set values object after
values_after _ values = values

-- from what is made and these values on, the threads of this order make all events of the journals, and leave the
-- last values. Each time a thread makes the next event of its journal. A read or an update takes the value that is there
abbrev pub LeadsTo : Journals → List ℕ → List ℕ → Journals → List ℕ → Type 0
LeadsTo journals last [] made values = (made ≡ journals) × (values ≡ last)
LeadsTo journals last (thread ∷ order) made values = (next : Event) × (slice_get (journal_of journals thread) (length (journal_of made thread)) ≡ Some next)
    × TakesValue next values × LeadsTo journals last order (appended made thread next) (values_after next values)

-- the journals explain the last values: their events fit into one order, which keeps that of each thread.
-- From the starting values on, each read and update takes the value that is there, and these are the last
pub record IsExplained (starts : List ℕ) (journals : Journals) (last : List ℕ) : Type 0 where
  pub order : List ℕ
  pub leads : LeadsTo journals last order (no_events journals) starts

-- the record of a run with these journals: their log, the values that the threads read, and the last values,
-- which the journals explain
pub record IsRecordOf (starts : List ℕ) (journals : Journals) (closed : Closed) : Type 0 where
  pub logs : closed.logs ≡ log_of journals
  pub reads : closed.reads ≡ map values_read journals
  pub values : IsExplained starts journals closed.heap
