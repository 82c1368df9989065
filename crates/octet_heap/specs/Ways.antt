-- How far a thread comes to an access before the step on the cell. What the access makes of the cell has no part in it.
use Rattle.std.specs.Prelude.{◌≡◌, ℕ, ◌<◌, List, length}
use Rattle.octet_state.specs.declared.phase.Phase.TheVariants.{Pass}
use Rattle.octet_state.specs.declared.phase.Due.TheVariants.{Nothing}
use Rattle.octet_state.specs.declared.act.Act.{Act}
use Rattle.octet_state.specs.declared.state_word.StateWord.{StateWord}
use Rattle.octet_rule.specs.Views.{SeatView, Taken}
use Rattle.octet_rule.specs.Entering.{IsLoaded}
use Rattle.octet_heap.specs.declared.pending_access.PendingAccess.{PendingAccess}
use Rattle.octet_heap.specs.declared.poll.Poll.{Poll}
use Rattle.octet_heap.specs.declared.poll.Poll.TheVariants.{Pending}
use Rattle.octet_heap.specs.declared.way.Way.{Way}
use Rattle.octet_heap.specs.declared.way.Way.TheVariants.{Passes, Waits}
use Rattle.octet_heap.specs.Walks.{after_steps}
use Rattle.octet_heap.specs.Polls.{GoesBy, Comes}
use Rattle.octet_heap.specs.Waiting.{StandsIn, IsToLoad, Leaves}

-- the poll goes on by fewer than `steps` steps
pub record Goes (access : PendingAccess) (v : SeatView) (steps : ℕ) (w : SeatView) : Type 0 where
  pub going : List Taken
  pub goes : GoesBy access v going
  pub few : length going < steps
  pub after : w ≡ after_steps going v

-- the access with another value
abbrev pub with_value : PendingAccess → ℕ → PendingAccess
with_value access value = record { object = access.object; mode = access.mode; value = value }

-- the thread comes in so many steps to where the state lets it pass, or to where it waits, whatever the value is
abbrev pub ComesTo : PendingAccess → SeatView → Way → ℕ → SeatView → Type 0
ComesTo access v Passes steps w = (value : ℕ) → Goes (with_value access value) v steps w
ComesTo access v (Waits why) steps w = (value : ℕ) → Comes (with_value access value) v (Pending why) steps w

-- the thread has loaded a state that does not let it pass, from where it was to load it
abbrev pub HasLoaded : PendingAccess → SeatView → ℕ → StateWord → Act → SeatView → Type 0
HasLoaded access v word state act w = IsLoaded access.object access.mode v word state act w × (v.thread.due ≡ Nothing) × IsToLoad access v.thread.phase

-- the thread stands where the state lets it pass, or where it waits
abbrev pub StandsAt : PendingAccess → Way → SeatView → Type 0
StandsAt access Passes v = StandsIn (Pass access.object access.mode) v
StandsAt access (Waits why) v = Leaves access (Pending why) v

-- the end of a poll from there: the step on the cell, or nothing
abbrev pub Finishes : PendingAccess → Way → SeatView → Poll → SeatView → Type 0
Finishes access Passes v answer w = Comes access v answer 1 w
Finishes access (Waits why) v answer w = (answer ≡ Pending why) × (w ≡ v)
