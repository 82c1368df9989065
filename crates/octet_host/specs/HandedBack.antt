-- Threads that are handed back at the end of a run.
use Rattle.std.specs.Prelude.{ℕ, ◌<◌, All, Any, List, length, slice_index_or}
use Rattle.octet_host.specs.declared.fault.CloseFault.{CloseFault}
use Rattle.octet_host.specs.declared.fault.CloseFault.TheVariants.{OutOfMemory, OtherSessions, OutOfOrder, StillRunning, NotWhole, TooLong, TwoRuns}
use Rattle.octet_host.specs.declared.stage.Stage.{Stage}
use Rattle.octet_host.specs.declared.stage.Stage.TheVariants.{Resting, Idle, Begun, Ended}

-- a thread is neither stopped nor over
abbrev pub IsAtWork : Stage → Type 0
IsAtWork Resting = ⊥
IsAtWork Idle = Unit {0}
IsAtWork (Begun wanted) = Unit {0}
IsAtWork Ended = ⊥

-- both of two relations of a thread with its place and with how many threads there are
abbrev pub Both : {X : Type 0} → (ℕ → ℕ → X → Type 0) → (ℕ → ℕ → X → Type 0) → ℕ → ℕ → X → Type 0
Both One Other number threads it = One number threads it × Other number threads it

-- the threads are as those of one run: each stands in the place of its number, and its run has as many. `Is` says of one that
-- it has this number in a run of so many
pub record AreAsOne {X : Type 0} (Is : ℕ → ℕ → X → Type 0) (threads : List X) : Type 0 where
  pub at_least_one : 0 < length threads
  pub each : (place : ℕ) (none : X) → place < length threads → Is place (length threads) (slice_index_or threads place none)

-- why one thread is not taken back: its run has more threads or fewer, or it is not that of its place, or it runs, or is not whole
abbrev pub RefusesThread : Stage → Type 0 → Type 0 → Type 0 → CloseFault → Type 0
RefusesThread stage IsAt IsAmong IsNotWhole OutOfMemory = Unit {0}
RefusesThread stage IsAt IsAmong IsNotWhole OtherSessions = IsAmong → ⊥
RefusesThread stage IsAt IsAmong IsNotWhole OutOfOrder = IsAt → ⊥
RefusesThread stage IsAt IsAmong IsNotWhole StillRunning = IsAtWork stage
RefusesThread stage IsAt IsAmong IsNotWhole NotWhole = IsNotWhole
RefusesThread stage IsAt IsAmong IsNotWhole _ = ⊥

-- why a run is not ended: its threads are not as many as it has, or one is not in the place of its number, or runs, or has not made
-- all of its recording, or the recording is too long; or they are as those of one run, none of them runs, and yet one of that run is
-- missing
abbrev pub HasCloseFault : {X : Type 0} → Type 0 → Type 0 → Type 0 → (X → Type 0) → (X → Type 0) → (X → Type 0) → List X → CloseFault → Type 0
HasCloseFault AsMany InOrder AsOne Runs IsNotWhole IsTooLong threads OutOfMemory = Unit {0}
HasCloseFault AsMany InOrder AsOne Runs IsNotWhole IsTooLong threads OtherSessions = AsMany → ⊥
HasCloseFault AsMany InOrder AsOne Runs IsNotWhole IsTooLong threads OutOfOrder = InOrder → ⊥
HasCloseFault AsMany InOrder AsOne Runs IsNotWhole IsTooLong threads StillRunning = Any Runs threads
HasCloseFault AsMany InOrder AsOne Runs IsNotWhole IsTooLong threads NotWhole = Any IsNotWhole threads
HasCloseFault AsMany InOrder AsOne Runs IsNotWhole IsTooLong threads TooLong = Any IsTooLong threads
HasCloseFault AsMany InOrder AsOne Runs IsNotWhole IsTooLong threads TwoRuns = AsOne × All (λ it. Runs it → ⊥) threads

-- the same of threads by what each says of its place, and of how many there are
abbrev pub RefusesToClose : {X : Type 0} → (X → Stage) → (ℕ → ℕ → X → Type 0) → (ℕ → ℕ → X → Type 0) → (X → Type 0) → (X → Type 0) → List X → CloseFault → Type 0
RefusesToClose stage At Among IsNotWhole IsTooLong threads =
    HasCloseFault (AreAsOne Among threads) (AreAsOne At threads) (AreAsOne (Both At Among) threads) (λ it. IsAtWork (stage it)) IsNotWhole IsTooLong threads
