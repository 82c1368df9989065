-- Whether what is noted of threads has a history, by their marks and from given values.
use Rattle.std.specs.Prelude.{◌≡◌, ℕ, suc, ◌≤◌, Bool, true, nat_le, ◌==◌, List, length, map, take, get_or}
use Rattle.octet_model.specs.declared.event.Event.{Event}
use Rattle.octet_model.specs.declared.event.Event.TheVariants.{Marked}
use Rattle.octet_model.specs.declared.event.Mark.TheVariants.{Join, Draw, Fence}
use Rattle.octet_model.specs.Machine.{Journals, journal_of, starting_state, IsFront}
use Rattle.octet_model.specs.Plays.{by_journals, state_after_play, IsOneHistory, MakesAll}
use Rattle.octet_window.specs.declared.notes.Note.{Note}
use Rattle.octet_window.specs.Noting.{events_of}

-- the events that are noted of each thread
abbrev pub noted : List (List Note) → Journals
noted threads = map events_of threads

-- some order of the events, in which each mark's wait is met, has the value of each access
abbrev pub HasHistory : List ℕ → Journals → Type 0
HasHistory starts journals = (play : List ℕ) × MakesAll starts journals play

-- the events have no one history: no order has their values, or two accesses that conflict are not ordered by the marks
abbrev pub HasNoHistory : List ℕ → Journals → Type 0
HasNoHistory starts journals = (heap : List ℕ) (draws : ℕ) → IsOneHistory starts journals heap draws → ⊥

-- the test whether an event may be made, where the threads have made so many events each, with so many draws
abbrev pub may_be_made : List ℕ → ℕ → Event → Bool
may_be_made made draws (Marked (Join from upto)) = nat_le upto (get_or made from 0)
may_be_made made draws (Marked (Draw number)) = number == suc draws
may_be_made made draws (Marked (Fence number)) = nat_le number draws
may_be_made made draws _ = true

-- some play comes to where each thread has made so many of its events, with so many draws and these values
pub record ComesTo (starts : List ℕ) (journals : Journals) (made : List ℕ) (draws : ℕ) (heap : List ℕ) : Type 0 where
  pub play : List ℕ
  pub is_play : IsFront (by_journals journals) (starting_state starts journals) play
  pub within : (thread : ℕ) → get_or made thread 0 ≤ length (journal_of journals thread)
  pub makes : (thread : ℕ) → journal_of (state_after_play starts journals play).journals thread ≡ take (get_or made thread 0) (journal_of journals thread)
  pub counts : (state_after_play starts journals play).draws ≡ draws
  pub gives : (state_after_play starts journals play).heap ≡ heap
