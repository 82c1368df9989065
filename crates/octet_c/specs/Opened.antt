-- What a clause says of handles that were given sessions.
use Rattle.std.specs.Prelude.{◌≡◌, ◌≢◌, ◌⊎◌, ℕ, ◌<◌, ℤ, List, length, map, Some, slice_index_or}
use Rattle.octet_model.specs.declared.log.ThreadLog.{ThreadLog}
use Rattle.octet_model.specs.declared.script.Script.{Script}
use Rattle.octet_script.specs.Spelling.{Spells}
use Rattle.octet_host_script.specs.declared.fault.FollowFault.{FollowFault}
use Rattle.octet_host_script.specs.declared.fault.OpenFault.{OpenFault}
use Rattle.octet_host_script.specs.declared.recorded.Recorded.{Recorded}
use Rattle.octet_host_script.specs.declared.repeated.Repeated.{Repeated}
use Rattle.octet_host_script.specs.Opened as script
use Rattle.octet_host_script.specs.Refusals as refusals
use Rattle.octet_host_script.specs.Spelled.{IsSpelled}
use Rattle.octet_c.specs.declared.handle.Handle.{Handle}
use Rattle.octet_c.specs.declared.held.Held.{Held}
use Rattle.octet_c.specs.declared.held.Held.TheVariants as held
use Rattle.octet_c.specs.declared.status.Fault.{Fault}
use Rattle.octet_c.specs.declared.status.TheConstants.{OTHER_SESSIONS}
use Rattle.octet_c.specs.Faults.{open_fault, follow_fault, fault_status}
use Rattle.octet_c.specs.Long.{Holds}

-- each handle has what stands in its place, which `value` tells
pub record HoldEach {X : Type 0} (value : X → Held) (given : List X) (handles : List Handle) : Type 0 where
  pub count : length handles ≡ length given
  pub each : (place : ℕ) (handle : Handle) (none : X) → place < length handles → (slice_index_or handles place handle).held ≡ Some (value (slice_index_or given place none))

-- why no heap is opened as a text declares it, in the words of this library
abbrev pub RefusesToOpen : List ℕ → Fault → Type 0
RefusesToOpen text fault = (why : OpenFault) × refusals.RefusesToOpen text why × (fault ≡ open_fault why)

-- likewise why a recording is not followed
abbrev pub RefusesToFollow : List ℕ → List ℕ → Fault → Type 0
RefusesToFollow text bytes fault = (why : FollowFault) × refusals.RefusesToFollow text bytes why × (fault ≡ follow_fault why)

-- the text spells a script of so many threads
pub record Declares (text : List ℕ) (threads : ℕ) : Type 0 where
  pub script : Script
  pub spelled : Spells text script
  pub count : threads ≡ length script.threads

-- the bytes spell a script and a log of it, of so many threads
pub record Records (text bytes : List ℕ) (threads : ℕ) : Type 0 where
  pub script : Script
  pub log : List ThreadLog
  pub spelled : IsSpelled text bytes script log
  pub count : threads ≡ length log

-- the threads of a new run of the script that the text spells
pub record AreOpened (text : List ℕ) (sessions : List Held) : Type 0 where
  pub recorded : List Recorded
  pub opens : script.Opens text recorded
  pub sessions_are : sessions ≡ map (λ it. held.Recorded it) recorded

-- the same behind handles, in order
pub record Opens (text : List ℕ) (sessions : List Handle) : Type 0 where
  pub threads_held : List Held
  pub opened : AreOpened text threads_held
  pub sessions_hold : Holds threads_held sessions

-- the threads of a second run by the script and the log that the bytes spell
pub record AreFollowing (text bytes : List ℕ) (sessions : List Held) : Type 0 where
  pub repeated : List Repeated
  pub follows : script.Follows text bytes repeated
  pub sessions_are : sessions ≡ map (λ it. held.Repeated it) repeated

-- the same behind handles, in order
pub record Follows (text bytes : List ℕ) (sessions : List Handle) : Type 0 where
  pub threads_held : List Held
  pub following : AreFollowing text bytes threads_held
  pub sessions_hold : Holds threads_held sessions

-- why handles are given no sessions: there is a fault, or there are more or fewer of them than there are threads
abbrev pub GivesNone : (Fault → Type 0) → (ℕ → Type 0) → ℕ → ℤ → Type 0
GivesNone HasFault HasThreads handles status =
    ((fault : Fault) × HasFault fault × (status ≡ fault_status fault)) ⊎ ((threads : ℕ) × HasThreads threads × (handles ≢ threads) × (status ≡ OTHER_SESSIONS))
