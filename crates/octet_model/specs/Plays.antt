-- Plays of journals, and one history of a growing run.
use Rattle.std.specs.Prelude.{◌≡◌, ℕ, List, length, Option, Some, None, slice_get, sum_by}
use Rattle.octet_model.specs.declared.event.Event.{Event}
use Rattle.octet_model.specs.declared.event.Event.TheVariants.{Read, Write, Update, Marked}
use Rattle.octet_model.specs.Machine.{Journals, journal_of, PlainState, starting_state, Operation, MakeMark, MakeRead, MakeWrite, MakeUpdate, Next, Wants, Finished, Behavior, after, IsFront}
use Rattle.octet_model.specs.HappensBefore.{IsOrdered}
use Rattle.octet_model.specs.Orders.{lowest_front}

-- the operation that makes an event. The operation of an update puts the value after, whatever the value before
abbrev pub operation_of : Event → Operation
operation_of (Read object value) = MakeRead object
operation_of (Write object value) = MakeWrite object value
operation_of (Update object before after) = MakeUpdate object (λ value. after)
operation_of (Marked mark) = MakeMark mark

-- what a thread does next: the operation of its next event, if its journal has one
abbrev pub next_in : Option Event → Next
next_in None = Finished
next_in (Some event) = Wants (operation_of event)

-- what the threads do next in a play: each thread makes the next event of its journal
abbrev pub by_journals : Journals → Behavior
by_journals journals thread made = next_in (slice_get (journal_of journals thread) (length made))

-- the state after a play of journals, whose reads and updates take what the heap holds
abbrev pub state_after_play : List ℕ → Journals → List ℕ → PlainState
state_after_play heap journals play = after (by_journals journals) (starting_state heap journals) play

-- the play makes every event of the journals, each read with its value and each update with its two values
pub record MakesAll (heap : List ℕ) (journals : Journals) (play : List ℕ) : Type 0 where
  pub is_play : IsFront (by_journals journals) (starting_state heap journals) play
  pub makes : (state_after_play heap journals play).journals ≡ journals

-- the lowest play of journals always steps the lowest thread whose next event may be made
abbrev pub lowest_play : List ℕ → Journals → List ℕ
lowest_play heap journals = lowest_front (by_journals journals) (sum_by (λ journal. length journal) journals) (starting_state heap journals)

-- the journals have one history: they are ordered, and their lowest play makes every event with its values.
-- This play gives the heap and the number of draws
pub record IsOneHistory (starts : List ℕ) (journals : Journals) (heap : List ℕ) (draws : ℕ) : Type 0 where
  pub makes_all : MakesAll starts journals (lowest_play starts journals)
  pub gives : (state_after_play starts journals (lowest_play starts journals)).heap ≡ heap
  pub counts : (state_after_play starts journals (lowest_play starts journals)).draws ≡ draws
  pub ordered : IsOrdered journals
