-- What a seat knows of its thread.
use Rattle.std.specs.Prelude.{ℕ, suc, List, [], ◌∷◌, ◌++◌, Bool, true, false}
use Rattle.octet_model.specs.declared.event.Event.{Event}
use Rattle.octet_state.specs.State.{Thread, unstarted}
use Rattle.octet_state.specs.Steps.{Kind, after, made, ended_by}
use Rattle.octet_seats.specs.Seats.{SeatFacts}

-- a step that was taken, and the word that it was told
pub record Taken : Type 0 where
  pub kind : Kind
  pub word : ℕ

-- what a seat leaves when it joins thread 0's: its thread's journal, and the steps that it took
pub record Left : Type 0 where
  pub journal : List Event
  pub trail : List Taken

-- the view of a seat: its thread and number, its journal and steps, the number of threads, and the cells' first values.
-- Thread 0's view also tells the seats made and joined. The view of a seat that joined is spent
pub record SeatView : Type 0 where
  pub is_live : Bool
  pub number : ℕ
  pub thread : Thread
  pub journal : List Event
  pub trail : List Taken
  pub threads : ℕ
  pub starts : List ℕ
  pub seats_made : ℕ
  pub joined : List (ℕ × Left)

-- what a view tells of its seat
abbrev pub facts_of : SeatView → SeatFacts Left
facts_of v = record { is_live = v.is_live; number = v.number; seats_made = v.seats_made; joined = v.joined }

-- the view of a seat whose thread has not started
abbrev pub new_view : ℕ → ℕ → List ℕ → ℕ → SeatView
new_view number threads starts seats_made = record { is_live = true; number = number; thread = unstarted; journal = []; trail = []; threads = threads; starts = starts; seats_made = seats_made; joined = [] }

-- the view after a step of this kind that was told this word
abbrev pub stepped_by : Kind → ℕ → SeatView → SeatView
stepped_by k told v = record v {
  thread = after k v.number told v.thread;
  journal = ended_by v.journal (made k v.number told v.thread);
  trail = v.trail ++ record { kind = k; word = told } ∷ [];
}

-- the view of the next seat that thread 0 splits off
abbrev pub split_off : SeatView → SeatView
split_off v = new_view v.seats_made v.threads v.starts 0

-- the view of thread 0's seat after it has split off another
abbrev pub after_split : SeatView → SeatView
after_split v = record v { seats_made = suc v.seats_made }

-- what the seat of a view leaves
abbrev pub left_of : SeatView → Left
left_of v = record { journal = v.journal; trail = v.trail }

-- the view of thread 0's seat after another has joined it
abbrev pub after_join : SeatView → SeatView → SeatView
after_join v w = record v { joined = v.joined ++ (w.number, left_of w) ∷ [] }

-- the view that is spent
abbrev pub spent : SeatView
spent = record { is_live = false; number = 0; thread = unstarted; journal = []; trail = []; threads = 0; starts = []; seats_made = 0; joined = [] }
