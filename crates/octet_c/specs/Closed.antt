-- What a clause says of sessions whose run is ended.
use Rattle.std.specs.Prelude.{◌≡◌, ◌⊎◌, ℕ, ℤ, All, Any, List, [], ◌∷◌, map, Option, Some, None}
use Rattle.std.specs.Arc.{arc_value}
use Rattle.octet_host.specs.declared.fault.CloseFault.{CloseFault}
use Rattle.octet_host.specs.HandedBack.{IsAtWork, Both, AreAsOne, HasCloseFault}
use Rattle.octet_host.specs.Sealed.{ShareOne}
use Rattle.octet_host_long.specs.declared.recorded.LongRecorded.{LongRecorded}
use Rattle.octet_host_long.specs.declared.repeated.LongRepeated.{LongRepeated}
use Rattle.octet_host_long.specs.Closed.{IsClosedRecording, IsClosedAgain}
use Rattle.octet_host_long.specs.HandedBack as long
use Rattle.octet_host_long.specs.Theirs.{RecordsThreads, RepeatsThreads}
use Rattle.octet_host_long.specs.Threads as threads
use Rattle.octet_host_script.specs.declared.recorded.Recorded.{Recorded}
use Rattle.octet_host_script.specs.declared.repeated.Repeated.{Repeated}
use Rattle.octet_host_script.specs.HandedBack.{IsRecordedAt, IsRecordedAmong, IsRepeatedAt, IsRepeatedAmong, LeavesSome, RecordsTooMany}
use Rattle.octet_host_script.specs.Records.{KeepsRecording, RepeatsRecording}
use Rattle.octet_host_script.specs.Theirs.{KeepsThreads}
use Rattle.octet_host_script.specs.Threads.{recorder_of, course_of}
use Rattle.octet_c.specs.declared.held.Held.{Held}
use Rattle.octet_c.specs.declared.held.Held.TheVariants as held
use Rattle.octet_c.specs.declared.kind.Kind.{Kind}
use Rattle.octet_c.specs.declared.kind.Kind.TheVariants as kinds
use Rattle.octet_c.specs.Faults.{close_status}

-- the kind of a thread, if it is one
abbrev pub kind_of : Held → Option Kind
kind_of (held.Recorded it) = Some kinds.Recorded
kind_of (held.Repeated it) = Some kinds.Repeated
kind_of (held.LongRecorded it) = Some kinds.LongRecorded
kind_of (held.LongRepeated it) = Some kinds.LongRepeated
kind_of _ = None

-- the kind of the first one
abbrev pub first_kind : List Held → Option Kind
first_kind [] = None
first_kind (first ∷ others) = kind_of first

-- a thread of whatever kind has this number
abbrev pub IsAt : ℕ → ℕ → Held → Type 0
IsAt number threads (held.Recorded it) = IsRecordedAt number threads it
IsAt number threads (held.Repeated it) = IsRepeatedAt number threads it
IsAt number threads (held.LongRecorded it) = long.IsRecordedAt number threads it
IsAt number threads (held.LongRepeated it) = long.IsRepeatedAt number threads it
IsAt number threads _ = ⊥

-- its run has so many threads
abbrev pub IsAmong : ℕ → ℕ → Held → Type 0
IsAmong number threads (held.Recorded it) = IsRecordedAmong number threads it
IsAmong number threads (held.Repeated it) = IsRepeatedAmong number threads it
IsAmong number threads (held.LongRecorded it) = long.IsRecordedAmong number threads it
IsAmong number threads (held.LongRepeated it) = long.IsRepeatedAmong number threads it
IsAmong number threads _ = ⊥

-- it has this number, in a run of so many
abbrev pub IsNumbered : ℕ → ℕ → Held → Type 0
IsNumbered = Both IsAt IsAmong

-- the thread behind a handle has this number
abbrev pub IsSessionAt : ℕ → ℕ → Option Held → Type 0
IsSessionAt number threads (Some it) = IsAt number threads it
IsSessionAt number threads None = ⊥

-- a thread of this kind, of a run of so many, is behind a handle
abbrev pub IsSessionAmong : Kind → ℕ → ℕ → Option Held → Type 0
IsSessionAmong kind number threads (Some it) = (kind_of it ≡ Some kind) × IsAmong number threads it
IsSessionAmong kind number threads None = ⊥

-- a thread of this kind and number, of a run of so many, is behind a handle
abbrev pub IsThread : Kind → ℕ → ℕ → Option Held → Type 0
IsThread kind number threads (Some it) = (kind_of it ≡ Some kind) × IsNumbered number threads it
IsThread kind number threads None = ⊥

-- the sessions are as those of one run: all of one kind, each in the place of its number, and as many as the run has
pub record AreOneRun (sessions : List (Option Held)) : Type 0 where
  pub kind : Kind
  pub as_one : AreAsOne (IsThread kind) sessions

-- the sessions are all of one kind, and as many as the run of each has
pub record AreOfOneKind (sessions : List (Option Held)) : Type 0 where
  pub kind : Kind
  pub as_many : AreAsOne (IsSessionAmong kind) sessions

-- the thread behind a handle is neither stopped nor over
abbrev pub Runs : Option Held → Type 0
Runs (Some (held.Recorded it)) = IsAtWork it.stage
Runs (Some (held.Repeated it)) = IsAtWork it.stage
Runs (Some (held.LongRecorded it)) = IsAtWork it.stage
Runs (Some (held.LongRepeated it)) = IsAtWork it.stage
Runs _ = ⊥

-- the thread behind a handle has a reason why it has not made all of its recording
abbrev pub IsNotWhole : Option Held → Type 0
IsNotWhole (Some (held.Repeated it)) = LeavesSome it
IsNotWhole _ = ⊥

-- the recording of the run of the thread behind a handle has more marks than a log may have
abbrev pub IsTooLong : Option Held → Type 0
IsTooLong (Some (held.Recorded it)) = RecordsTooMany (recorder_of it)
IsTooLong _ = ⊥

-- why the run of the sessions behind handles is not ended
abbrev pub RefusesToClose : List (Option Held) → CloseFault → Type 0
RefusesToClose sessions = HasCloseFault (AreOfOneKind sessions) (AreAsOne IsSessionAt sessions) (AreOneRun sessions) Runs IsNotWhole IsTooLong sessions

-- the same by its status
abbrev pub GivesNoRecord : List (Option Held) → ℤ → Type 0
GivesNoRecord sessions said = (fault : CloseFault) × RefusesToClose sessions fault × (said ≡ close_status fault)

-- what is kept is of the run of the thread behind a handle
abbrev pub IsRecordOf : Option Held → Option Held → Type 0
IsRecordOf (Some (held.Recorded it)) (Some (held.Kept kept)) = KeepsRecording (recorder_of it) kept
IsRecordOf (Some (held.Repeated it)) (Some (held.Kept kept)) = RepeatsRecording (course_of it) kept
IsRecordOf (Some (held.LongRecorded it)) (Some (held.Values kept)) = IsClosedRecording (threads.run_of it) kept.values
IsRecordOf (Some (held.LongRepeated it)) (Some (held.Again again)) = IsClosedAgain (threads.course_of it) again
IsRecordOf _ _ = ⊥

-- these threads are behind the handles, in order; and where they all share one run, as those do that one call gave, this is so
abbrev pub AreBehind : {X S : Type 0} → (X → Held) → (X → S) → (List X → Type 0) → List (Option Held) → Type 0
AreBehind {X = X} wrap share Said sessions = (them : List X) × (sessions ≡ map (λ it. Some (wrap it)) them) × (ShareOne share them → Said them)

-- what is kept is the record of just the threads behind the handles: thread by thread, in order, of what each has made
abbrev pub IsRecordOfThem : List (Option Held) → Option Held → Type 0
IsRecordOfThem sessions (Some (held.Kept kept)) =
    AreBehind (λ (it : Recorded). held.Recorded it) (λ it. arc_value it.heap) (λ them. KeepsThreads them kept) sessions
    ⊎ AreBehind (λ (it : Repeated). held.Repeated it) course_of (All (λ it. RepeatsRecording (course_of it) kept)) sessions
IsRecordOfThem sessions (Some (held.Values kept)) = AreBehind (λ (it : LongRecorded). held.LongRecorded it) (λ it. arc_value it.heap) (λ them. RecordsThreads them kept.values) sessions
IsRecordOfThem sessions (Some (held.Again again)) = AreBehind (λ (it : LongRepeated). held.LongRepeated it) threads.course_of (λ them. RepeatsThreads them again) sessions
IsRecordOfThem sessions _ = ⊥

-- the sessions are as those of one run, and what is kept is of the run of one of them. Where they all share one run, it is the record
-- of just them
pub record Closes (sessions : List (Option Held)) (kept : Option Held) : Type 0 where
  pub one_run : AreOneRun sessions
  pub of : Any (λ session. IsRecordOf session kept) sessions
  pub theirs : IsRecordOfThem sessions kept
