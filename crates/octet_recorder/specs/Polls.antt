-- What a poll of a track notes, by the access that the track has begun.
use Rattle.std.specs.Prelude.{◌≡◌, ℕ}
use Rattle.octet_state.specs.declared.act.Mode.TheVariants as mode
use Rattle.octet_rule.specs.declared.change.Change.{Change}
use Rattle.octet_heap.specs.declared.poll.Poll.{Poll}
use Rattle.octet_heap.specs.declared.updated.Updated.{Updated}
use Rattle.octet_heap.specs.Calls.{access_to}
use Rattle.octet_heap.specs.Updates.{amount_made, answer_after, AddsUpdate}
use Rattle.octet_heap.specs.Workers.{seat_of}
use Rattle.octet_recorder.specs.declared.access.Access.{Access}
use Rattle.octet_recorder.specs.declared.access.Access.TheVariants.{Read, Write, Update}
use Rattle.octet_recorder.specs.declared.track.Track.{Track}
use Rattle.octet_recorder.specs.Tracks.{Notes}

-- an update by a change is noted as one that adds the amount, from the value that is answered to what the change makes of it
pub record NotesUpdate (object : ℕ) (change : Change) (before : Track) (answer : Updated) (after : Track) : Type 0 where
  pub notes : Notes (access_to object mode.Update (amount_made change answer)) before (answer_after change answer) after
  pub journal : AddsUpdate object change (seat_of before.worker) answer (seat_of after.worker)

-- a poll notes the access that was begun
abbrev pub NotesPoll : Access → Track → Poll → Track → Type 0
NotesPoll (Read object) before answer after = Notes (access_to object mode.Read 0) before answer after
NotesPoll (Write object value) before answer after = Notes (access_to object mode.Write value) before answer after
NotesPoll (Update object change) before answer after =
    (updated : Updated) × (answer ≡ answer_after change updated) × NotesUpdate object change before updated after
