-- What a clause says of handles that were given a run of any length.
use Rattle.std.specs.Prelude.{◌≡◌, ◌≢◌, ℕ, ◌<◌, ◌≤◌, ℤ, List, length, map, Some, slice_index_or}
use Rattle.octet_model.specs.declared.limits.TheConstants.{MAX_THREADS}
use Rattle.octet_rule.specs.declared.limits.TheConstants.{MAX_OBJECTS_OF_HEAP}
use Rattle.octet_host_long.specs.declared.inlet.Inlet.{Inlet}
use Rattle.octet_host_long.specs.declared.outlet.Outlet.{Outlet}
use Rattle.octet_host_long.specs.declared.recorded.LongRecorded.{LongRecorded}
use Rattle.octet_host_long.specs.declared.repeated.LongRepeated.{LongRepeated}
use Rattle.octet_host_long.specs.Opened as long
use Rattle.octet_c.specs.declared.handle.Handle.{Handle}
use Rattle.octet_c.specs.declared.held.Held.{Held}
use Rattle.octet_c.specs.declared.held.Held.TheVariants as held
use Rattle.octet_c.specs.declared.status.Fault.{Fault}
use Rattle.octet_c.specs.declared.status.Fault.TheVariants.{OutOfMemory, BadSize, OtherSessions}
use Rattle.octet_c.specs.Faults.{fault_status}

-- a run of any length may have so many threads and objects
pub record IsSize (threads objects : ℕ) : Type 0 where
  pub some_threads : 1 ≤ threads
  pub few_threads : threads ≤ MAX_THREADS
  pub some_objects : 1 ≤ objects
  pub few_objects : objects ≤ MAX_OBJECTS_OF_HEAP

-- why no run begins: memory was refused, or no run has so many threads or objects, or there are more handles of one kind
abbrev pub Refuses : ℕ → ℕ → ℕ → Fault → Type 0
Refuses objects sessions streams OutOfMemory = IsSize sessions objects × (sessions ≡ streams)
Refuses objects sessions streams BadSize = IsSize sessions objects → ⊥
Refuses objects sessions streams OtherSessions = IsSize sessions objects × (sessions ≢ streams)
Refuses objects sessions streams _ = ⊥

-- the same by its status
abbrev pub RefusesLong : ℕ → ℕ → ℕ → ℤ → Type 0
RefusesLong objects sessions streams said = (fault : Fault) × Refuses objects sessions streams fault × (said ≡ fault_status fault)

-- each handle has what stands in its place
pub record Holds (all : List Held) (handles : List Handle) : Type 0 where
  pub count : length handles ≡ length all
  pub each : (place : ℕ) (handle : Handle) (none : Held) → place < length handles → (slice_index_or handles place handle).held ≡ Some (slice_index_or all place none)

-- the threads of a new run of any length, with the streams that give what they hand on
pub record AreOpened (threads : ℕ) (starts : List ℕ) (sessions streams : List Held) : Type 0 where
  pub recorded : List LongRecorded
  pub outlets : List Outlet
  pub opens : long.Opens threads starts recorded outlets
  pub sessions_are : sessions ≡ map (λ it. held.LongRecorded it) recorded
  pub streams_are : streams ≡ map (λ it. held.Outlet it) outlets

-- the same behind handles, one of each for each thread, in order
pub record OpensLong (threads : ℕ) (starts : List ℕ) (sessions streams : List Handle) : Type 0 where
  pub threads_held : List Held
  pub streams_held : List Held
  pub opened : AreOpened threads starts threads_held streams_held
  pub sessions_hold : Holds threads_held sessions
  pub streams_hold : Holds streams_held streams

-- the threads of a run that is made again, with the streams by which they are fed
pub record AreFollowing (threads : ℕ) (starts declared : List ℕ) (last : ℕ) (sessions streams : List Held) : Type 0 where
  pub repeated : List LongRepeated
  pub inlets : List Inlet
  pub follows : long.Follows threads starts declared last repeated inlets
  pub sessions_are : sessions ≡ map (λ it. held.LongRepeated it) repeated
  pub streams_are : streams ≡ map (λ it. held.Inlet it) inlets

-- the same behind handles, one of each for each thread, in order
pub record FollowsLong (threads : ℕ) (starts declared : List ℕ) (last : ℕ) (sessions streams : List Handle) : Type 0 where
  pub threads_held : List Held
  pub streams_held : List Held
  pub following : AreFollowing threads starts declared last threads_held streams_held
  pub sessions_hold : Holds threads_held sessions
  pub streams_hold : Holds streams_held streams
