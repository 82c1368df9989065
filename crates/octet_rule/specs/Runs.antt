-- Runs of the protocol from its opening, and the steps of each thread in them.
use Rattle.std.specs.Prelude.{◌≡◌, ℕ, ◌==◌, if◌then◌else◌, List, [], ◌∷◌, ◌++◌, map}
use Rattle.octet_state.specs.declared.phase.Phase.TheVariants.{Off}
use Rattle.octet_state.specs.declared.phase.Due.TheVariants.{Nothing}
use Rattle.octet_state.specs.State.{ProtocolState, opening}
use Rattle.octet_state.specs.Steps.{May, step, told, moved, ThreadStep, after_run}
use Rattle.octet_rule.specs.Views.{Taken}

-- the state after a run of so many threads, on cells that have these values at first
abbrev pub state_after : ℕ → List ℕ → List ThreadStep → ProtocolState
state_after threads starts run = after_run (opening threads starts) run

-- the step as its thread knows it: with the word that it is told
abbrev pub taken_in : ProtocolState → ThreadStep → Taken
taken_in s next = record { kind = next.kind; word = told next.kind next.thread s }

-- the steps that one thread takes in a run from a state, in their order
abbrev pub steps_of : ℕ → ProtocolState → List ThreadStep → List Taken
steps_of thread s [] = []
steps_of thread s (next ∷ run) = (if next.thread == thread then taken_in s next ∷ [] else []) ++ steps_of thread (step next.kind next.thread s) run

-- the state with every thread off, as each is once its seat was given back. The words are the same
abbrev pub all_off : ProtocolState → ProtocolState
all_off s = record s { threads = map (moved Off Nothing) s.threads }

-- a run from a state has this step of a thread, after those that it took first.
-- The step may be taken there, and is told this word
pub record IsStepOf (s : ProtocolState) (run : List ThreadStep) (thread : ℕ) (first : List Taken) (taken : Taken) : Type 0 where
  pub before : List ThreadStep
  pub after : List ThreadStep
  pub parts : run ≡ before ++ record { thread = thread; kind = taken.kind } ∷ after
  pub earlier : steps_of thread s before ≡ first
  pub may : May taken.kind thread (after_run s before)
  pub word : taken.word ≡ told taken.kind thread (after_run s before)
