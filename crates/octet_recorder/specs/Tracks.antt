-- What a clause says of a recorder and its tracks.
use Rattle.std.specs.Prelude.{◌≡◌, ℕ, ◌+◌, ◌^◌, ◌<◌, ◌≤◌, ◌⊎◌, Bool, false, List, [], ◌++◌, length, Option, Some, None, slice_index_or}
use Rattle.std.specs.Vec.{vec_capacity}
use Rattle.octet_model.specs.declared.command.Command.{Command}
use Rattle.octet_state.specs.declared.act.Mode.{Mode}
use Rattle.octet_state.specs.declared.act.Mode.TheVariants as mode
use Rattle.octet_state.specs.declared.phase.Phase.TheVariants.{Idle}
use Rattle.octet_rule.specs.Conditions.{IsResting}
use Rattle.octet_rule.specs.declared.change.Change.{Change}
use Rattle.octet_heap.specs.declared.pending_access.PendingAccess.{PendingAccess}
use Rattle.octet_heap.specs.declared.pending_update.PendingUpdate.{PendingUpdate}
use Rattle.octet_heap.specs.declared.poll.Poll.{Poll}
use Rattle.octet_heap.specs.declared.poll.Poll.TheVariants.{Ready, Pending}
use Rattle.octet_heap.specs.Calls.{access_to, Polls}
use Rattle.octet_heap.specs.Updates.{update_to}
use Rattle.octet_heap.specs.Seated as seated
use Rattle.octet_heap.specs.Workers.{seat_of, IsWorkerOf}
use Rattle.octet_recorder.specs.declared.access.Access.{Access}
use Rattle.octet_recorder.specs.declared.access.Access.TheVariants.{Read, Write, Update}
use Rattle.octet_recorder.specs.declared.track.Track.{Track}
use Rattle.octet_recorder.specs.declared.track.TheConstants.{LINES_OF_ACCESS}
use Rattle.octet_recorder.specs.declared.recorder.Recorder.{Recorder}
use Rattle.octet_recorder.specs.Programs.{region_lines, read_lines, write_lines, bump_lines, IsProgramOf}

-- the objects of the script with which a recorder began
abbrev pub objects_in : Recorder → ℕ
objects_in recorder = length recorder.opening.objects

-- its threads
abbrev pub threads_in : Recorder → ℕ
threads_in recorder = length recorder.opening.threads

-- the lines that each thread may have: a unit of the script's fuel for each
abbrev pub lines_in : Recorder → ℕ
lines_in recorder = recorder.opening.fuel

-- the number of a track's thread
abbrev pub number_of : Track → ℕ
number_of track = (seat_of track.worker).number

-- the lines that were noted of it
abbrev pub lines_noted : Track → ℕ
lines_noted track = length track.commands.items

-- the lines that an access may take which is begun
abbrev pub lines_begun : Option Access → ℕ
lines_begun None = 0
lines_begun (Some access) = LINES_OF_ACCESS

-- a value that is to be written has 64 bits
abbrev pub HasWord : Option Access → Type 0
HasWord (Some (Write object value)) = value < 2 ^ 64
HasWord _ = Unit {0}

-- the heap's words for an access that is begun: a read and a write are an access, and an update is one by a change
abbrev pub pending_of : Option Access → Option PendingAccess
pending_of (Some (Read object)) = Some (access_to object mode.Read 0)
pending_of (Some (Write object value)) = Some (access_to object mode.Write value)
pending_of (Some (Update object change)) = None
pending_of None = None

-- the update by a change that the heap has begun for an access, if it is one
abbrev pub changing_of : Option Access → Option PendingUpdate
changing_of (Some (Update object change)) = Some (update_to object change)
changing_of (Some (Read object)) = None
changing_of (Some (Write object value)) = None
changing_of None = None

-- a track of this recorder: its worker has begun what the track says, and its lines are the program of its thread's journal
pub record IsTrackOf (recorder : Recorder) (track : Track) : Type 0 where
  pub own : IsWorkerOf recorder.heap track.worker
  pub pending : track.worker.pending ≡ pending_of track.begun
  pub changing : track.worker.changing ≡ changing_of track.begun
  pub program : IsProgramOf (objects_in recorder) track.commands.items (seat_of track.worker).journal
  -- the lines of an access that is begun may still be noted
  pub within : lines_noted track + lines_begun track.begun ≤ lines_in recorder
  pub room : lines_in recorder ≤ vec_capacity track.commands
  pub word : HasWord track.begun

-- a track that runs, and has begun no access
abbrev pub IsIdle : Track → Type 0
IsIdle track = ((seat_of track.worker).thread.phase ≡ Idle) × (track.begun ≡ None)

-- the track is idle once its access is made
abbrev pub IsIdleIfMade : Poll → Track → Type 0
IsIdleIfMade (Ready value) track = IsIdle track
IsIdleIfMade (Pending why) track = Unit {0}

-- a track that has begun nothing, or this update
abbrev pub MayUpdate : ℕ → Change → Track → Type 0
MayUpdate object change track = IsIdle track ⊎ (track.begun ≡ Some (Update object change))

-- the lines of an access
abbrev pub access_lines : Mode → ℕ → ℕ → List Command
access_lines mode.Read object value = read_lines object
access_lines mode.Write object value = write_lines object value
access_lines mode.Update object value = bump_lines object value

-- the lines of an access, after that of the region which begins with it, if one does
abbrev pub lines_of : Bool → PendingAccess → List Command
lines_of region access = region_lines region ++ access_lines access.mode access.object access.value

-- the lines that a poll of this access adds to the program
abbrev pub lines_made : Bool → PendingAccess → Poll → List Command
lines_made region access (Ready value) = lines_of region access
lines_made region access (Pending why) = []

-- whether a region is still to begin with the next access
abbrev pub region_left : Bool → Poll → Bool
region_left region (Ready value) = false
region_left region (Pending why) = region

-- a poll of this access: what the heap says of it, and the lines that were noted
pub record Notes (access : PendingAccess) (before : Track) (answer : Poll) (after : Track) : Type 0 where
  pub polls : Polls access (seat_of before.worker) answer (seat_of after.worker)
  pub lines : after.commands.items ≡ before.commands.items ++ lines_made before.region access answer
  pub region : after.region ≡ region_left before.region answer

-- few lines are noted: those of one access at most, and none before it is made
abbrev pub NotesFew : Poll → ℕ → ℕ → Type 0
NotesFew (Ready value) before after = after ≤ before + LINES_OF_ACCESS
NotesFew (Pending why) before after = after ≡ before

-- nothing is noted
pub record NotesNothing (before after : Track) : Type 0 where
  pub number : number_of after ≡ number_of before
  pub commands : after.commands ≡ before.commands
  pub region : after.region ≡ before.region
  pub journal : (seat_of after.worker).journal ≡ (seat_of before.worker).journal

-- the track of this thread, which has done nothing
pub record IsNew (recorder : Recorder) (thread : ℕ) (track : Track) : Type 0 where
  pub own : IsTrackOf recorder track
  pub worker : seated.IsNew recorder.heap thread track.worker
  pub begun : track.begun ≡ None
  pub commands : track.commands.items ≡ []
  pub region : track.region ≡ false

-- the track of this thread, which is off or blocked
pub record RestsAs (recorder : Recorder) (thread : ℕ) (track : Track) : Type 0 where
  pub own : IsTrackOf recorder track
  pub number : number_of track ≡ thread
  pub rests : IsResting (seat_of track.worker).thread.phase

-- each track of a list is new, of the thread of its place
abbrev pub EachNew : Recorder → List Track → Type 0
EachNew recorder tracks = (thread : ℕ) (none : Track) → thread < length tracks → IsNew recorder thread (slice_index_or tracks thread none)

-- each track of a list rests, as that of the thread of its place
abbrev pub EachRests : Recorder → List Track → Type 0
EachRests recorder tracks = (thread : ℕ) (none : Track) → thread < length tracks → RestsAs recorder thread (slice_index_or tracks thread none)
