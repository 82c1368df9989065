-- Updates by a change: of the value that they find, in place of an amount.
use Rattle.std.specs.Prelude.{◌≡◌, ◌⊎◌, ℕ, List, [], ◌∷◌, ◌++◌, map, Some}
use Rattle.octet_model.specs.declared.event.Mark.{Mark}
use Rattle.octet_model.specs.declared.event.Event.{Event}
use Rattle.octet_model.specs.declared.event.Event.TheVariants as event
use Rattle.octet_state.specs.declared.act.Mode.TheVariants.{Update}
use Rattle.octet_rule.specs.Views.{SeatView}
use Rattle.octet_rule.specs.declared.change.Change.{Change}
use Rattle.octet_rule.specs.Changes.{changed_by, amount_by}
use Rattle.octet_heap.specs.declared.pending_update.PendingUpdate.{PendingUpdate}
use Rattle.octet_heap.specs.declared.poll.Poll.{Poll}
use Rattle.octet_heap.specs.declared.poll.Poll.TheVariants as poll
use Rattle.octet_heap.specs.declared.updated.Updated.{Updated}
use Rattle.octet_heap.specs.declared.updated.Updated.TheVariants.{Made, Pending}
use Rattle.octet_heap.specs.declared.worker.Worker.{Worker}
use Rattle.octet_heap.specs.declared.way.Way.{Way}
use Rattle.octet_heap.specs.declared.way.Way.TheVariants.{Passes, Waits}
use Rattle.octet_heap.specs.Polls.{Comes}
use Rattle.octet_heap.specs.Calls.{access_to, Polls}
use Rattle.octet_heap.specs.Workers.{IsIdle}

-- the amount that the update has added, once it is made
abbrev pub amount_made : Change → Updated → ℕ
amount_made change (Made before) = amount_by change before
amount_made change (Pending why) = 0

-- the answer of a poll for the update, which tells the value after
abbrev pub answer_after : Change → Updated → Poll
answer_after change (Made before) = poll.Ready (changed_by change before)
answer_after change (Pending why) = poll.Pending why

-- the update that a poll has made, if it has made one
abbrev pub update_made : ℕ → Change → Updated → List Event
update_made object change (Made before) = event.Update object before (changed_by change before) ∷ []
update_made object change (Pending why) = []

-- the journal grows by marks, and then by the update once it is made.
-- The update leads from the value that is answered to what the change makes of it
pub record AddsUpdate (object : ℕ) (change : Change) (v : SeatView) (answer : Updated) (w : SeatView) : Type 0 where
  pub marks : List Mark
  pub grown : w.journal ≡ v.journal ++ (map (λ mark. event.Marked mark) marks ++ update_made object change answer)

-- a poll of an update by this change. It is a poll of an update by the amount that leads from the value answered
-- to what the change makes of it
pub record PollsToChange (object : ℕ) (change : Change) (v : SeatView) (answer : Updated) (w : SeatView) : Type 0 where
  pub polls : Polls (access_to object Update (amount_made change answer)) v (answer_after change answer) w
  pub journal : AddsUpdate object change v answer w

-- a poll of an update by a change that answers the value after
abbrev pub PollsUpdate : PendingUpdate → SeatView → Poll → SeatView → Type 0
PollsUpdate update v answer w = (updated : Updated) × (answer ≡ answer_after update.change updated) × PollsToChange update.object update.change v updated w

-- the update of an object by a change
abbrev pub update_to : ℕ → Change → PendingUpdate
update_to object change = record { object = object; change = change }

-- the worker has begun nothing, or this update
abbrev pub MayUpdate : ℕ → Change → Worker → Type 0
MayUpdate object change worker = IsIdle worker ⊎ (worker.changing ≡ Some (update_to object change))

-- the poll comes to its answer by steps as for an update by that amount
abbrev pub ComesBy : Change → ℕ → SeatView → Updated → ℕ → SeatView → Type 0
ComesBy change object v answer steps w = Comes (access_to object Update (amount_made change answer)) v (answer_after change answer) steps w

-- the end of a poll: from where the state lets the thread pass, or from where it waits
abbrev pub FinishesBy : Change → ℕ → Way → SeatView → Updated → SeatView → Type 0
FinishesBy change object Passes v answer w = ComesBy change object v answer 1 w
FinishesBy change object (Waits why) v answer w = (answer ≡ Pending why) × (w ≡ v)

-- the journal ends with the update, once the update is made
abbrev pub EndsWith : ℕ → Change → Updated → SeatView → Type 0
EndsWith object change (Made before) w = (earlier : List Event) × (w.journal ≡ earlier ++ event.Update object before (changed_by change before) ∷ [])
EndsWith object change (Pending why) w = Unit {0}
