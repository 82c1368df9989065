-- Which accesses take the slow path.
use Rattle.std.specs.Prelude.{◌≡◌, ℕ, suc, Bool, true, false, ◌&&◌, if◌then◌else◌, List, [], ◌∷◌}
use Rattle.octet_state.specs.declared.act.Act.{Act}
use Rattle.octet_state.specs.declared.act.Act.TheVariants.{Pass}
use Rattle.octet_state.specs.declared.phase.Phase.{Phase}
use Rattle.octet_state.specs.declared.phase.Phase.TheVariants.{Idle}
use Rattle.octet_state.specs.Words.{unpacked_state}
use Rattle.octet_state.specs.Table.{decided}
use Rattle.octet_state.specs.Steps.{state_in}
use Rattle.octet_rule.specs.Views.{SeatView, Taken}
use Rattle.octet_heap.specs.declared.pending_access.PendingAccess.{PendingAccess}
use Rattle.octet_heap.specs.declared.poll.Poll.{Poll}
use Rattle.octet_heap.specs.declared.poll.Poll.TheVariants.{Ready, Pending}
use Rattle.octet_heap.specs.OwnersPath.{steps_since}

-- the test whether a phase is idle
abbrev pub is_idle : Phase → Bool
is_idle Idle = true
is_idle _ = false

-- the test whether an act is to pass
abbrev pub is_pass : Act → Bool
is_pass Pass = true
is_pass _ = false

-- the test whether the first of these steps, a load, has found a state that lets the thread make the access
abbrev pub passes_by : PendingAccess → SeatView → List Taken → Bool
passes_by access v [] = false
passes_by access v (load ∷ more) = is_pass (decided (state_in (unpacked_state load.word)) v.number access.mode v.thread.count)

-- the test whether an access takes the fast path: it has not loaded the state before,
-- and the state that it loads lets the thread make the access
abbrev pub is_fast : PendingAccess → SeatView → List Taken → Bool
is_fast access v steps = is_idle v.thread.phase && passes_by access v steps

-- the number of accesses that took the slow path, after one more is made
abbrev pub slow_by : Bool → ℕ → ℕ
slow_by fast slow = if fast then slow else suc slow

-- the number of accesses that took the slow path, after a poll
abbrev pub slow_after : Poll → Bool → ℕ → ℕ
slow_after (Ready value) fast slow = slow_by fast slow
slow_after (Pending why) fast slow = slow

-- whether it took the fast path is told of an access that a poll has made
abbrev pub TellsPath : PendingAccess → SeatView → Poll → Bool → SeatView → Type 0
TellsPath access v answer fast w = (slow : ℕ) → slow_after answer fast slow ≡ slow_after answer (is_fast access v (steps_since v w)) slow
