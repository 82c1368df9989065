-- What a clause says of a second run and its followers.
use Rattle.std.specs.Prelude.{◌≡◌, ◌≢◌, ℕ, ◌+◌, ◌<◌, List, [], ◌∷◌, ◌++◌, map, length, Option, Some, None, slice_get, slice_index_or}
use Rattle.octet_model.specs.declared.event.Event.{Event}
use Rattle.octet_model.specs.declared.event.Event.TheVariants.{Marked}
use Rattle.octet_model.specs.declared.event.Mark.{Mark}
use Rattle.octet_model.specs.declared.log.ThreadLog.{ThreadLog}
use Rattle.octet_model.specs.declared.outcome.Outcome.{Outcome}
use Rattle.octet_model.specs.declared.script.Script.{Script}
use Rattle.octet_model.specs.Journals.{access_count}
use Rattle.octet_model.specs.Machine.{journal_of, Wants, MakeMark}
use Rattle.octet_model.specs.Orders.{journals_after, lowest_order, IsFaithful}
use Rattle.octet_clock.specs.Fronts.{OrdersConflicts}
use Rattle.octet_clock.specs.Verdict.{IsFirstUnordered}
use Rattle.octet_replay.specs.Judged.{HasCause}
use Rattle.octet_replay.specs.Places.{FitInPlaces}
use Rattle.octet_parallel.specs.declared.finished.Finished as finished
use Rattle.octet_parallel.specs.declared.player.Player.{Player}
use Rattle.octet_parallel.specs.Calls.{view_of, script_in, log_in, IsPlayerOf, HasEnded}
use Rattle.octet_parallel.specs.Needs.{Needs}
use Rattle.octet_parallel.specs.Rule.{Steps}
use Rattle.octet_parallel.specs.Steps.{ToLook}
use Rattle.octet_parallel.specs.Views.{PlayerView, next_in}
use Rattle.octet_recorder.specs.declared.access.Access.{Access}
use Rattle.octet_rerun.specs.declared.fault.RerunFault.{RerunFault}
use Rattle.octet_rerun.specs.declared.fault.RerunFault.TheVariants.{Replay, Unordered}
use Rattle.octet_rerun.specs.declared.follower.Follower.{Follower}
use Rattle.octet_rerun.specs.declared.halt.Divergence.{Divergence}
use Rattle.octet_rerun.specs.declared.halt.Halt.{Halt}
use Rattle.octet_rerun.specs.declared.halt.Halt.TheVariants as halt
use Rattle.octet_rerun.specs.declared.halt.Hold.{Hold}
use Rattle.octet_rerun.specs.declared.halt.Hold.TheVariants as hold
use Rattle.octet_rerun.specs.declared.rerun.Rerun.{Rerun}
use Rattle.octet_rerun.specs.Events.{event_of, found_in}

-- the events that were recorded of a thread
abbrev pub recorded_of : Rerun → ℕ → List Event
recorded_of rerun thread = journal_of rerun.recorded thread

-- those that a follower has made
abbrev pub made_by : Follower → List Event
made_by follower = (view_of follower.player).player.journal

-- the event that was recorded after them
abbrev pub next_recorded : Rerun → Follower → Option Event
next_recorded rerun follower = slice_get (recorded_of rerun follower.thread) (length (made_by follower))

-- a second run is of this recording: each thread's events are its journal after the lowest order. The log orders all conflicts
pub record IsOfRecording (rerun : Rerun) : Type 0 where
  pub orders : OrdersConflicts (script_in rerun.field) (log_in rerun.field).threads
  pub journals : rerun.recorded ≡ journals_after (script_in rerun.field) (log_in rerun.field).threads (lowest_order (script_in rerun.field) (log_in rerun.field).threads)
  pub places : FitInPlaces rerun.recorded

-- the first events of a recording are these
abbrev pub Begins : List Event → List Event → Type 0
Begins journal recorded = (more : List Event) × (recorded ≡ journal ++ more)

-- a follower of this second run: what it has made is the beginning of what was recorded of its thread
pub record IsFollowerOf (rerun : Rerun) (follower : Follower) : Type 0 where
  pub recording : IsOfRecording rerun
  pub own : IsPlayerOf rerun.field follower.player
  pub number : (view_of follower.player).number ≡ follower.thread
  pub begins : Begins (made_by follower) (recorded_of rerun follower.thread)
  pub made : follower.made ≡ length (made_by follower)
  pub accesses : follower.accesses ≡ access_count (made_by follower)

-- no mark is next
abbrev pub IsNoMark : Option Event → Type 0
IsNoMark (Some (Marked mark)) = ⊥
IsNoMark _ = Unit {0}

-- a follower has made marks alone
pub record MakesMarks (v w : Follower) : Type 0 where
  pub marks : List Mark
  pub grown : made_by w ≡ made_by v ++ map (λ mark. Marked mark) marks

-- a follower has made marks, and then this access, which found a value that the thread is told
pub record Makes (access : Access) (v : Follower) (value : ℕ) (w : Follower) : Type 0 where
  pub marks : List Mark
  pub found : ℕ
  pub grown : made_by w ≡ made_by v ++ (map (λ mark. Marked mark) marks ++ event_of access found ∷ [])
  pub told : value ≡ found_in (event_of access found)

-- the event that was recorded is not the access that is wanted, whatever that finds; or one of them is the end, and the other is not
abbrev pub DiffersFrom : Option Access → Option Event → Type 0
DiffersFrom (Some access) (Some recorded) = (found : ℕ) → recorded ≢ event_of access found
DiffersFrom (Some access) None = Unit {0}
DiffersFrom None (Some recorded) = Unit {0}
DiffersFrom None None = ⊥

-- the divergence of a follower that asks for this: it names the access that is wanted, and the one that was recorded
pub record IsDivergence (asked : Option Access) (rerun : Rerun) (w : Follower) (divergence : Divergence) : Type 0 where
  pub thread : divergence.thread ≡ w.thread
  pub accesses : divergence.accesses ≡ access_count (made_by w)
  pub wanted : divergence.wanted ≡ asked
  pub recorded : divergence.recorded ≡ next_recorded rerun w
  pub no_mark : IsNoMark divergence.recorded
  pub differs : DiffersFrom asked divergence.recorded

-- the player looked last at another one, which showed fewer events than the player's next mark needs
pub record Awaits (v : PlayerView) (whom needs found : ℕ) : Type 0 where
  pub mark : Mark
  pub is_next : next_in v ≡ Wants (MakeMark mark)
  pub needed : Needs v.log.threads mark whom needs
  pub before : PlayerView
  pub look : Steps (ToLook whom) before found v
  pub fewer : found < needs

-- the player waits for some other one
pub record AwaitsSome (v : PlayerView) : Type 0 where
  pub whom : ℕ
  pub needs : ℕ
  pub found : ℕ
  pub awaits : Awaits v whom needs found

-- the player has nothing to make, though an event is left of its recording
pub record IsAmiss (rerun : Rerun) (w : Follower) : Type 0 where
  pub ended : HasEnded (view_of w.player)
  pub left : Event
  pub is_left : next_recorded rerun w ≡ Some left

-- the reason why an event that was recorded was not made
abbrev pub Holds : Rerun → Follower → Hold → Type 0
Holds rerun w (hold.Waits whom needs found) = Awaits (view_of w.player) whom needs found
Holds rerun w hold.Amiss = IsAmiss rerun w

-- the reason why a follower that asks for this does not go on
abbrev pub Halts : Option Access → Rerun → Follower → Halt → Type 0
Halts asked rerun w (halt.Waits whom needs found) = Awaits (view_of w.player) whom needs found
Halts asked rerun w (halt.Diverges divergence) = IsDivergence asked rerun w divergence
Halts asked rerun w (halt.Stopped divergence) = AwaitsSome (view_of w.player)
Halts asked rerun w halt.Amiss = IsAmiss rerun w

-- the players of followers
abbrev pub players_of : List Follower → List Player
players_of followers = map (λ follower. follower.player) followers

-- the followers are those of the threads from this one on, in order, and have made nothing
abbrev pub ArePlain : ℕ → List Follower → Type 0
ArePlain thread [] = Unit {0}
ArePlain thread (follower ∷ followers) = ((follower.thread ≡ thread) × (follower.made ≡ 0) × (follower.accesses ≡ 0)) × ArePlain (thread + 1) followers

-- the follower of this thread, which has made nothing
pub record IsAtStart (rerun : Rerun) (thread : ℕ) (follower : Follower) : Type 0 where
  pub own : IsFollowerOf rerun follower
  pub thread_is : follower.thread ≡ thread
  pub none_made : made_by follower ≡ []

-- the follower of this thread, which has made all that was recorded of it
pub record IsAtEnd (rerun : Rerun) (thread : ℕ) (follower : Follower) : Type 0 where
  pub own : IsFollowerOf rerun follower
  pub thread_is : follower.thread ≡ thread
  pub all_made : made_by follower ≡ recorded_of rerun thread

-- each follower of a list is at its start, as that of the thread of its place
abbrev pub EachAtStart : Rerun → List Follower → Type 0
EachAtStart rerun followers = (thread : ℕ) (none : Follower) → thread < length followers → IsAtStart rerun thread (slice_index_or followers thread none)

-- each follower of a list is at its end, as that of the thread of its place
abbrev pub EachAtEnd : Rerun → List Follower → Type 0
EachAtEnd rerun followers = (thread : ℕ) (none : Follower) → thread < length followers → IsAtEnd rerun thread (slice_index_or followers thread none)

-- a second run ends as the first one did: with the recorded journals, and the outcome that makes script and log a faithful recording
pub record RepeatsRecording (script : Script) (log : List ThreadLog) (result : finished.Finished) : Type 0 where
  pub journals : result.journals ≡ journals_after script log (lowest_order script log)
  pub outcome : (outcome : Outcome) → IsFaithful script log outcome → result.outcome ≡ outcome

-- when a script and a log are refused
abbrev pub Refuses : Script → List ThreadLog → RerunFault → Type 0
Refuses script log (Replay fault) = HasCause script log fault
Refuses script log (Unordered first second) = IsFirstUnordered (journals_after script log (lowest_order script log)) (lowest_order script log) first second
