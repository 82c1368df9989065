-- What a track does between two accesses, or right after one.
use Rattle.std.specs.Prelude.{◌≡◌, ◌≤◌, ℕ, [], ◌∷◌, ◌++◌, length, Ok, IfErr, OnOk}
use Rattle.octet_state.specs.declared.limits.TheConstants.{MAX_ACCESSES_OF_THREAD}
use Rattle.octet_rerun.specs.Events.{event_of, found_in}
use Rattle.octet_heap.specs.Builders.{accesses_of}
use Rattle.octet_heap.specs.Markers.{marker_seat, base_of}
use Rattle.octet_heap.specs.Models.{marker_model}
use Rattle.octet_recorder.specs.declared.access.Access.{Access}
use Rattle.octet_session.specs.declared.not_made.NotMade.{NotMade}
use Rattle.octet_session.specs.declared.not_made.NotMade.TheVariants.{Waits, NoRoom, Left}
use Rattle.octet_session.specs.Asking.{Asks}
use Rattle.octet_stream.specs.declared.long_run.Full.{Full}
use Rattle.octet_stream.specs.declared.next.Next.{Next}
use Rattle.octet_stream.specs.declared.next.Next.TheVariants.{Joined, Asked, Lacks}
use Rattle.octet_stream.specs.declared.track.Track.{Track}
use Rattle.octet_stream.specs.Tracks.{journal_of, LacksRing}
use Rattle.octet_stream.specs.Accesses.{track_standing, PollsReady, IsPending}

-- the track has handed on all events that it has made
abbrev pub HasHandedAllOn : Track → Type 0
HasHandedAllOn track = base_of track.marker ≡ length (journal_of track)

-- a poll made the access right after what the track had done before: it answered no thread in between, and made no mark
pub record IsJoined (wanted : Access) (value : ℕ) (before after : Track) : Type 0 where
  pub ready : PollsReady wanted (marker_seat before.marker) (marker_seat after.marker)
  pub found : ℕ
  pub grown : journal_of after ≡ journal_of before ++ event_of wanted found ∷ []
  pub told : value ≡ found_in (event_of wanted found)

-- why an access is not made that the track has begun without answering first: a poll of it was pending, or it has made as many
-- accesses as a thread may make
abbrev pub IsNextReason : Access → Track → Track → NotMade Full → Type 0
IsNextReason wanted before after Waits = IsPending wanted (marker_seat before.marker) after
IsNextReason wanted before after NoRoom = ⊥
IsNextReason wanted before after (Left halt) = MAX_ACCESSES_OF_THREAD ≤ accesses_of (marker_model after.marker)

-- what an access comes to that is asked for right after another one
abbrev pub ComesNext : Access → Track → Next → Track → Type 0
ComesNext wanted before (Joined value) after = Asks {H = Full} wanted (track_standing before) (Ok value) (track_standing after) × IsJoined wanted value before after
ComesNext wanted before (Asked answer) after =
    Asks wanted (track_standing before) answer (track_standing after) × IfErr answer (IsNextReason wanted before after)
    × OnOk answer (PollsReady wanted (marker_seat before.marker) (marker_seat after.marker))
ComesNext wanted before Lacks after = (track_standing after ≡ track_standing before) × (marker_seat after.marker ≡ marker_seat before.marker) × LacksRing after
