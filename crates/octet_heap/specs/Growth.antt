-- What a poll adds to its thread's journal.
use Rattle.std.specs.Prelude.{◌≡◌, ℕ, List, [], ◌∷◌, ◌++◌, map}
use Rattle.octet_model.specs.declared.event.Mark.{Mark}
use Rattle.octet_model.specs.declared.event.Event.{Event}
use Rattle.octet_model.specs.declared.event.Event.TheVariants as event
use Rattle.octet_model.specs.Thread.{added}
use Rattle.octet_state.specs.declared.act.Mode.{Mode}
use Rattle.octet_state.specs.declared.act.Mode.TheVariants.{Read, Write, Update}
use Rattle.octet_rule.specs.Views.{SeatView}
use Rattle.octet_heap.specs.declared.pending_access.PendingAccess.{PendingAccess}
use Rattle.octet_heap.specs.declared.poll.Poll.{Poll}
use Rattle.octet_heap.specs.declared.poll.Poll.TheVariants.{Ready, Pending}
use Rattle.octet_heap.specs.OwnersPath.{value_by}

-- the event of an access whose step is told this word: the value that a read reads,
-- or the value before an update
abbrev pub access_event : Mode → ℕ → ℕ → ℕ → Event
access_event Read object value told = event.Read object told
access_event Write object value told = event.Write object value
access_event Update object amount told = event.Update object told (added amount told)

-- the value that an access reads which answers this one, if it is a read
abbrev pub read_by : Mode → ℕ → List ℕ
read_by Read value = value ∷ []
read_by Write value = []
read_by Update value = []

-- the access that a poll has made, if it has made one
abbrev pub access_made : PendingAccess → ℕ → Poll → List Event
access_made access told (Ready value) = access_event access.mode access.object access.value told ∷ []
access_made access told (Pending why) = []

-- the poll answers the value of the access that it has made
abbrev pub AnswersValue : PendingAccess → ℕ → Poll → Type 0
AnswersValue access told (Ready value) = value ≡ value_by access.mode access.value told
AnswersValue access told (Pending why) = Unit {0}

-- the journal grows by marks, and then by the access once the access is made
pub record AddsAccess (access : PendingAccess) (v : SeatView) (answer : Poll) (w : SeatView) : Type 0 where
  pub marks : List Mark
  pub told : ℕ
  pub grown : w.journal ≡ v.journal ++ (map (λ mark. event.Marked mark) marks ++ access_made access told answer)
  pub value : AnswersValue access told answer
