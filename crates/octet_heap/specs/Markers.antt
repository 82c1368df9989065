-- What a clause says of markers.
use Rattle.std.specs.Prelude.{◌≡◌, ◌⊎◌, ℕ, ◌<◌, true, List, [], ◌∷◌, map, length, Option, Some, None, slice_index_or, vec_capacity}
use Rattle.std.specs.Option.{is_some}
use Rattle.octet_state.specs.declared.phase.Due.TheVariants.{Nothing}
use Rattle.octet_state.specs.declared.phase.Phase.TheVariants as phase
use Rattle.octet_state.specs.State.{unstarted}
use Rattle.octet_rule.specs.declared.change.Change.{Change}
use Rattle.octet_rule.specs.Conditions.{IsResting}
use Rattle.octet_rule.specs.Seats.{view, IsSeatOf, objects_of}
use Rattle.octet_rule.specs.Views.{SeatView}
use Rattle.octet_rule.specs.declared.words.Seat.{Seat}
use Rattle.octet_heap.specs.declared.heap.Heap.{Heap}
use Rattle.octet_heap.specs.declared.marker.Marker.{Marker}
use Rattle.octet_heap.specs.declared.pending_access.PendingAccess.{PendingAccess}
use Rattle.octet_heap.specs.declared.poll.Poll.{Poll}
use Rattle.octet_heap.specs.declared.poll.Poll.TheVariants.{Ready, Pending}
use Rattle.octet_heap.specs.declared.recorder.Recorder.{Recorder}
use Rattle.octet_heap.specs.Builders.{Off}
use Rattle.octet_heap.specs.Logs as logs
use Rattle.octet_heap.specs.Models.{marker_model}
use Rattle.octet_heap.specs.OwnersPath.{steps_since}
use Rattle.octet_heap.specs.Recorders.{CanRecord}
use Rattle.octet_heap.specs.SlowPath.{is_fast, slow_after}
use Rattle.octet_heap.specs.Standing.{begun_of, IsOne, IsAbout, IsWithin}
use Rattle.octet_heap.specs.Updates.{update_to}

-- the view of a marker is that of its seat
abbrev pub marker_seat : Marker → SeatView
marker_seat marker = view marker.recorder.seat

-- the access that a marker has begun, if any
abbrev pub begun_by : Marker → Option PendingAccess
begun_by marker = begun_of marker.pending marker.changing

-- the number of events of its thread that came before the marks which a marker has
abbrev pub base_of : Marker → ℕ
base_of marker = marker.recorder.base

-- the number of marks for which the buffer of a marker has room in all
abbrev pub room_of : Marker → ℕ
room_of marker = vec_capacity marker.recorder.log.marks

-- the number of accesses of a marker that took the slow path
abbrev pub slow_of : Marker → ℕ
slow_of marker = marker.slow

-- the marker has room for one more access and its marks
abbrev pub HasRoom : Marker → Type 0
HasRoom marker = CanRecord marker.recorder

-- the marker has room for one more access and for fifteen marks more, as many as any access can need
abbrev pub HasWholeRoom : Marker → Type 0
HasWholeRoom marker = logs.HasWholeRoom marker.recorder.log

-- the recorder has room for the access that is begun, if one is
abbrev pub HasRoomIf : Option PendingAccess → Recorder → Type 0
HasRoomIf None recorder = Unit {0}
HasRoomIf (Some access) recorder = CanRecord recorder

-- the marker is one of this heap's, and stands as it does between two calls
pub record IsMarkerOf (heap : Heap) (marker : Marker) : Type 0 where
  pub own : IsSeatOf heap.words marker.recorder.seat
  pub owes_nothing : (marker_seat marker).thread.due ≡ Nothing
  pub one : IsOne marker.pending marker.changing
  pub about : IsAbout (marker_seat marker).threads (begun_by marker) (marker_seat marker).thread.phase
  pub ready : HasRoomIf (begun_by marker) marker.recorder
  pub within : IsWithin (objects_of heap.words) (begun_by marker)

-- the marker runs, and has begun no access
abbrev pub IsIdle : Marker → Type 0
IsIdle marker = ((marker_seat marker).thread.phase ≡ phase.Idle) × (marker.pending ≡ None) × (marker.changing ≡ None)

-- the marker is off or blocked
abbrev pub Rests : Marker → Type 0
Rests marker = IsResting (view marker.recorder.seat).thread.phase

-- the marker has begun an access, or an update by a change
abbrev pub IsUnderWay : Marker → Type 0
IsUnderWay marker = (is_some marker.pending ≡ true) ⊎ (is_some marker.changing ≡ true)

-- the marker is idle once its access is made. Until then the access stays begun
abbrev pub StandsAfter : Poll → Marker → Type 0
StandsAfter (Ready value) marker = IsIdle marker
StandsAfter (Pending why) marker = IsUnderWay marker

-- the marker is idle once its access is made
abbrev pub IsIdleIfMade : Poll → Marker → Type 0
IsIdleIfMade (Ready value) marker = IsIdle marker
IsIdleIfMade (Pending why) marker = Unit {0}

-- the marker has begun nothing and has room, or has begun this update
abbrev pub MayUpdate : ℕ → Change → Marker → Type 0
MayUpdate object change marker = (IsIdle marker × HasRoom marker) ⊎ (marker.changing ≡ Some (update_to object change))

-- the marker's count of accesses that took the slow path grows by one where this access did
abbrev pub CountsSlow : PendingAccess → Marker → Poll → Marker → Type 0
CountsSlow access before answer after =
    after.slow ≡ slow_after answer (is_fast access (marker_seat before) (steps_since (marker_seat before) (marker_seat after))) before.slow

-- the marks still come after the same events, and lie in the same buffer
abbrev pub IsSameBuffer : Marker → Marker → Type 0
IsSameBuffer before after = (after.recorder.base ≡ before.recorder.base) × (vec_capacity after.recorder.log.marks ≡ vec_capacity before.recorder.log.marks)

-- the buffer is empty: its marks are those after all events that the marker has made
abbrev pub IsEmptied : Marker → Marker → Type 0
IsEmptied before after = (after.recorder.base ≡ length (marker_seat before).journal) × (vec_capacity after.recorder.log.marks ≡ vec_capacity before.recorder.log.marks)

-- the seats of markers
abbrev pub marker_seats : List Marker → List Seat
marker_seats markers = map (λ marker. marker.recorder.seat) markers

-- the marker has begun nothing, has not emptied its buffer, and has room for so many marks
abbrev pub IsPlain : ℕ → Marker → Type 0
IsPlain marks marker = (marker.pending ≡ None) × (marker.changing ≡ None) × (marker.slow ≡ 0) × (marker.recorder.base ≡ 0) × (vec_capacity marker.recorder.log.marks ≡ marks)

-- each of these markers is plain
abbrev pub ArePlain : ℕ → List Marker → Type 0
ArePlain marks [] = Unit {0}
ArePlain marks (marker ∷ markers) = IsPlain marks marker × ArePlain marks markers

-- the marker of this thread, which has taken no step
abbrev pub IsNew : Heap → ℕ → ℕ → Marker → Type 0
IsNew heap marks thread marker = IsMarkerOf heap marker × ((marker_seat marker).number ≡ thread) × ((marker_seat marker).thread ≡ unstarted) × ((marker_seat marker).journal ≡ []) × ((marker_seat marker).trail ≡ []) × IsPlain marks marker

-- the marker of this thread, before its first call
pub record Starts (heap : Heap) (thread : ℕ) (marker : Marker) : Type 0 where
  pub own : IsMarkerOf heap marker
  pub rests : Rests marker
  pub number : (marker_model marker).number ≡ thread
  pub standing : (marker_model marker).standing ≡ Off
  pub journal : (marker_model marker).journal ≡ []

-- each of these markers starts, as that of the thread of its place
abbrev pub EachStarts : Heap → List Marker → Type 0
EachStarts heap markers = (thread : ℕ) (none : Marker) → thread < length markers → Starts heap thread (slice_index_or markers thread none)

-- the marker of this thread, which is off or blocked
abbrev pub RestsAs : Heap → ℕ → Marker → Type 0
RestsAs heap thread marker = IsMarkerOf heap marker × ((marker_model marker).number ≡ thread) × Rests marker

-- each of these markers is new, of the thread of its place
abbrev pub EachNew : Heap → ℕ → List Marker → Type 0
EachNew heap marks markers = (thread : ℕ) (none : Marker) → thread < length markers → IsNew heap marks thread (slice_index_or markers thread none)

-- each of these markers rests, as that of the thread of its place
abbrev pub EachRests : Heap → List Marker → Type 0
EachRests heap markers = (thread : ℕ) (none : Marker) → thread < length markers → RestsAs heap thread (slice_index_or markers thread none)
