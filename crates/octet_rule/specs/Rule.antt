-- The rule: between any two operations the words are those after a run of the protocol.
-- The steps of the run are those that the seats know of.
use Rattle.std.specs.Prelude.{◌≡◌, ℕ, ◌+◌, ◌^◌, ◌<◌, ◌≤◌, List, [], ◌∷◌, ◌++◌, true, false, length, slice_set}
use mathlib.Core.Option.{some, none}
use lib.ListN.{get_elem?}
use Rattle.atomic_table.specs.Table.{State, Me, Step as TableStep, step as table_step}
use Rattle.octet_model.specs.declared.limits.TheConstants.{MAX_THREADS}
use Rattle.octet_model.specs.Machine.{journal_of}
use Rattle.octet_state.specs.declared.state_word.StateWord.TheVariants.{WrEx, ShInt}
use Rattle.octet_state.specs.Words.{packed_state, packed_status}
use Rattle.octet_state.specs.State.{ProtocolState, thread_of, unstarted, words, opening, counter_place, status_place, object_place}
use Rattle.octet_state.specs.Steps as steps
use Rattle.octet_state.specs.NextStep.{word_seen}
use Rattle.octet_state.specs.Steps.{Kind, May, step, ToAnswer, ToBlock, ToUnblock, ToAsk, ToLook, ToLoad, ToRead, ToWrite, ToBump, ToClaim, ToSettle, ToDraw, ToFence, ToRaise, ToShare, target, shown, mode_of, claiming, settling, ThreadStep, IsRun}
use Rattle.octet_state.specs.Soundness.{IsSound}
use Rattle.octet_seats.specs.Seats.{AreSeats}
use Rattle.octet_rule.specs.Views.{SeatView, Left, facts_of, new_view, stepped_by}
use Rattle.octet_rule.specs.Runs.{state_after, steps_of}
use Rattle.octet_rule.specs.Conditions.{IsResting}

-- the thread of a seat is where the seat knows it to be, in a sound state
pub record IsSeenBy (v : SeatView) (s : ProtocolState) : Type 0 where
  pub sound : IsSound s
  pub as_many : length s.threads ≡ v.threads
  pub began : s.starts ≡ v.starts
  pub inside : v.number < length s.threads
  pub stands : thread_of s v.number ≡ v.thread
  pub has_made : journal_of s.journals v.number ≡ v.journal

-- the thread of a seat is where the seat knows it to be after a run.
-- The steps that it took are those of the seat's trail
pub record Follows (threads : ℕ) (starts : List ℕ) (run : List ThreadStep) (v : SeatView) : Type 0 where
  pub seen : IsSeenBy v (state_after threads starts run)
  pub trail : steps_of v.number (opening threads starts) run ≡ v.trail

-- a thread whose seat has joined thread 0's is off or blocked, and has the journal and the trail that were left
pub record HasLeft (threads : ℕ) (starts : List ℕ) (run : List ThreadStep) (number : ℕ) (left : Left) : Type 0 where
  pub rests : IsResting (thread_of (state_after threads starts run) number).phase
  pub journal : journal_of (state_after threads starts run).journals number ≡ left.journal
  pub trail : steps_of number (opening threads starts) run ≡ left.trail

-- a thread whose seat is not made yet is off, and has made no event and no step
pub record IsUnmade (threads : ℕ) (starts : List ℕ) (run : List ThreadStep) (number : ℕ) : Type 0 where
  pub stands : thread_of (state_after threads starts run) number ≡ unstarted
  pub journal : journal_of (state_after threads starts run).journals number ≡ []
  pub trail : steps_of number (opening threads starts) run ≡ []

-- the words are those after a run from the opening. Each thread has taken the steps in it that its seat knows of,
-- and no others
pub record IsRuled (threads : ℕ) (starts : List ℕ) (table : State (Unit {0}) SeatView) : Type 0 where
  pub some_thread : 0 < threads
  pub few_threads : threads ≤ MAX_THREADS
  pub run : List ThreadStep
  pub is_run : IsRun (opening threads starts) run
  pub lie : table.words ≡ words (state_after threads starts run)
  pub seats : AreSeats facts_of (Follows threads starts run) (HasLeft threads starts run) (IsUnmade threads starts run) threads table.views

-- the view of thread 0's seat at first
abbrev pub first_view : ℕ → List ℕ → SeatView
first_view threads starts = new_view 0 threads starts 1

-- the table steps from one state to another under the rule. This seat's thread takes one step,
-- the run grows by this step, and the views of the other seats stay
pub record IsRuledStep (k : Kind) (s : ProtocolState) (v w : SeatView) : Type 0 where
  pub table : State (Unit {0}) SeatView
  pub seat : ℕ
  pub has : get_elem? table.views seat ≡ some v
  pub rule : IsRuled v.threads v.starts table
  pub is_before : state_after v.threads v.starts rule.run ≡ s
  pub rule_after : IsRuled v.threads v.starts record { words = words (step k v.number s); homes = table.homes; views = slice_set table.views seat w }
  pub grows : rule_after.run ≡ rule.run ++ record { thread = v.number; kind = k } ∷ []

-- a ruled step, closed to the search for proofs, which seldom need it
unfoldable pub KeepsRule : Kind → ProtocolState → SeatView → SeatView → Type 0
KeepsRule k s v w = IsRuledStep k s v w

-- one step of the protocol by the seat's thread, which is told this word.
-- The step is taken in the state after a run from the opening, and comes next in that run
pub record Steps (k : Kind) (v : SeatView) (told : ℕ) (w : SeatView) : Type 0 where
  pub before : ProtocolState
  pub seen : IsSeenBy v before
  pub may : May k v.number before
  pub word : told ≡ steps.told k v.number before
  pub moves : w ≡ stepped_by k told v
  pub seen_after : IsSeenBy w (step k v.number before)
  pub ruled : KeepsRule k before v w

-- the place of an object's state
abbrev pub state_place : SeatView → ℕ → ℕ
state_place v object = object_place v.threads object

-- the place of an object's cell, beside its state
abbrev pub cell_place : SeatView → ℕ → ℕ
cell_place v object = state_place v object + 1

-- the place of the word that the step of a seat reads or changes
abbrev pub place_by : Kind → SeatView → ℕ
place_by (ToAsk whom) v = status_place whom
place_by (ToLook whom) v = status_place whom
place_by (ToLoad object mode) v = state_place v object
place_by ToRead v = cell_place v (target v.thread.phase)
place_by (ToWrite value) v = cell_place v (target v.thread.phase)
place_by (ToBump amount) v = cell_place v (target v.thread.phase)
place_by ToClaim v = state_place v (target v.thread.phase)
place_by ToSettle v = state_place v (target v.thread.phase)
place_by ToRaise v = state_place v (target v.thread.phase)
place_by ToShare v = state_place v (target v.thread.phase)
place_by ToDraw v = counter_place
place_by ToFence v = counter_place
place_by _ v = status_place v.number

-- the first word that a step gives its operation: the word that it stores, the bit that it sets, what it adds,
-- or the word that it exchanges
abbrev pub first_given : Kind → SeatView → ℕ
first_given ToAnswer v = packed_status (shown false (length v.journal))
first_given (ToBlock ends) v = packed_status (shown true (length v.journal))
first_given ToUnblock v = packed_status (shown false (length v.journal))
first_given (ToAsk whom) v = 2 ^ v.number
first_given (ToWrite value) v = value
first_given (ToBump amount) v = amount
first_given ToSettle v = packed_state (settling v.number (length v.journal) v.thread.phase)
first_given ToDraw v = 1
first_given ToClaim v = word_seen v.thread.phase
first_given ToRaise v = word_seen v.thread.phase
first_given ToShare v = word_seen v.thread.phase
first_given _ v = 0

-- the second word that a step gives its operation: the one that takes the place of an exchanged word
abbrev pub second_given : Kind → SeatView → ℕ
second_given ToClaim v = packed_state (claiming v.number (mode_of v.thread.phase))
second_given ToRaise v = packed_state (WrEx v.number)
second_given ToShare v = packed_state (ShInt v.number)
second_given _ v = 0

-- the operation is on the word of the step, with what the step gives it
pub record IsOperationOf (k : Kind) (v : SeatView) (operation : TableStep (Unit {0})) : Type 0 where
  pub place : operation.word ≡ place_by k v
  pub first : operation.first ≡ first_given k v
  pub second : operation.second ≡ second_given k v

-- the step on the table at a place, with what its operation is given
abbrev pub operation_on : ℕ → ℕ → ℕ → ℕ → TableStep (Unit {0})
operation_on slots place first second = table_step slots place first second none

-- the thread takes one step of the protocol, by the one operation that is its own
abbrev pub Acts : Kind → TableStep (Unit {0}) → Me (Unit {0}) SeatView → ℕ → Me (Unit {0}) SeatView → Type 0
Acts k operation me told next = (next.1 ≡ me.1) × Steps k me.0 told next.0 × IsOperationOf k me.0 operation
