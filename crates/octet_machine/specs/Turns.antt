-- Runs of the machine by picks, and then by rounds.
use Rattle.std.specs.Prelude.{◌≡◌, ℕ, zero, suc, ◌%◌, ◌<◌, ◌≤◌, ◌==◌, Bool, true, false, not, ◌||◌, List, [], ◌∷◌, length, map}
use Rattle.std.specs.List.{range_with_len}
use Rattle.std.specs.Option.{is_some}
use Rattle.octet_model.specs.declared.outcome.Recorded.{Recorded}
use Rattle.octet_model.specs.declared.script.Script.{Script}
use Rattle.octet_model.specs.Journals.{access_count, log_of}
use Rattle.octet_model.specs.Machine.{journal_of}
use Rattle.octet_model.specs.Orders.{outcome_of}
use Rattle.octet_machine.specs.Machine.{MachineState, opening_machine, after_turn, after_rest, have_ended, plain_state, runner_of}

-- the machine after turns of these threads, one after another
abbrev pub after_turns : MachineState → List ℕ → MachineState
after_turns m [] = m
after_turns m (thread ∷ threads) = after_turns (after_turn m thread) threads

-- the machine after a turn for each pick: of the thread with the pick's number modulo the number of threads
abbrev pub after_picks : MachineState → List ℕ → MachineState
after_picks m picks = after_turns m (map (λ pick. pick % length m.runners) picks)

-- the machine after a round: one turn of each thread, in order
abbrev pub after_round : MachineState → MachineState
after_round m = after_turns m (range_with_len 0 (length m.runners))

-- the machine after a number of rounds
abbrev pub after_rounds : MachineState → ℕ → MachineState
after_rounds m zero = m
after_rounds m (suc fewer) = after_round (after_rounds m fewer)

-- the machine after is reached by the least number of rounds that ends all threads
pub record EndsByRounds (before after : MachineState) : Type 0 where
  pub rounds : ℕ
  pub comes : after ≡ after_rounds before rounds
  pub ended : have_ended after ≡ true
  pub least : (fewer : ℕ) → fewer < rounds → have_ended (after_rounds before fewer) ≡ false

-- the log is that of the machine's journals, and the outcome is what its threads came to with the cells
pub record IsRecordOf (m : MachineState) (recorded : Recorded) : Type 0 where
  pub log : recorded.log.threads ≡ log_of m.protocol.journals
  pub outcome : recorded.outcome ≡ outcome_of m.script (plain_state m.protocol)

-- the record is of the run that these picks give from the start,
-- followed by the least number of rounds that ends all threads
pub record IsPlayed (script : Script) (picks : List ℕ) (recorded : Recorded) : Type 0 where
  pub end : MachineState
  pub played : EndsByRounds (after_picks (opening_machine script) picks) end
  pub record_of : IsRecordOf end recorded

-- the machine after so many turns of the thread
abbrev pub after_own_turns : MachineState → ℕ → ℕ → MachineState
after_own_turns m thread zero = m
after_own_turns m thread (suc fewer) = after_turn (after_own_turns m thread fewer) thread

-- the number of accesses that a thread has made
abbrev pub accesses_by : MachineState → ℕ → ℕ
accesses_by m thread = access_count (journal_of m.protocol.journals thread)

-- whether a thread has ended, or has made another number of accesses than this one
abbrev pub is_through : MachineState → ℕ → ℕ → Bool
is_through m thread accesses = is_some (runner_of m thread).end || not (accesses_by m thread == accesses)

-- the machine after the least number of turns of the thread that brings one more access or its end, but `most` at most, and
-- after the thread's rest
pub record HasGone (before : MachineState) (thread most : ℕ) (after : MachineState) : Type 0 where
  pub turns : ℕ
  pub few : turns ≤ most
  pub least : (fewer : ℕ) → fewer < turns → is_through (after_own_turns before thread fewer) thread (accesses_by before thread) ≡ false
  pub through : turns < most → is_through (after_own_turns before thread turns) thread (accesses_by before thread) ≡ true
  pub comes : after ≡ after_rest (after_own_turns before thread turns) thread
