-- What a worker has to do for a demand of its thread, and the steps by which it does it.
use Rattle.std.specs.Prelude.{◌≡◌, ℕ, Bool, true, false, ◌==◌, List, [], ◌∷◌, ◌++◌}
use Rattle.octet_interp.specs.declared.demand.Demand.{Demand}
use Rattle.octet_interp.specs.declared.demand.Demand.TheVariants as demand
use Rattle.octet_state.specs.declared.act.Mode.TheVariants.{Read, Write, Update}
use Rattle.octet_state.specs.Words.{unpacked_status}
use Rattle.octet_state.specs.Steps.{Kind, ToGlance, ToAnswer, ToBlock, ToUnblock}
use Rattle.octet_rule.specs.Views.{SeatView, Taken}
use Rattle.octet_heap.specs.Walks.{Task, access_task, after_steps, IsNext, WalksBy}

-- the test whether a step ends a safe point: a glance that finds no bit, or an answer
abbrev pub ends_safe_point : Kind → ℕ → Bool
ends_safe_point ToGlance word = (unpacked_status word).asked == 0
ends_safe_point ToAnswer word = true
ends_safe_point _ word = false

-- the test whether a step unblocks the thread
abbrev pub is_unblock : Kind → ℕ → Bool
is_unblock ToUnblock word = true
is_unblock _ word = false

-- the test whether a step blocks the thread
abbrev pub is_block : Kind → ℕ → Bool
is_block (ToBlock ends) word = true
is_block _ word = false

-- the task of a worker for a demand: an access, a safe point, a block and an unblock, or a block for good
abbrev pub task_of : Demand → Task
task_of (demand.Read object) = access_task (record { object = object; mode = Read; value = 0 })
task_of (demand.Write object value) = access_task (record { object = object; mode = Write; value = value })
task_of (demand.Bump object amount) = access_task (record { object = object; mode = Update; value = amount })
task_of demand.Safe = record { first = ToGlance; value = 0; is_done_by = ends_safe_point }
task_of demand.Pause = record { first = ToBlock false; value = 0; is_done_by = is_unblock }
task_of (demand.Ended end) = record { first = ToBlock false; value = 0; is_done_by = is_block }

-- the thread takes these steps, and none of them does the task
abbrev pub GoesBy : Task → SeatView → List Taken → Type 0
GoesBy task v going = WalksBy (λ v taken. task.is_done_by taken.kind taken.word ≡ false) task v going

-- the thread has taken its steps up to the one that does the task, and no other.
-- Every wait, glance and answer between is among them
pub record Does (task : Task) (v w : SeatView) : Type 0 where
  pub going : List Taken
  pub last : Taken
  pub goes : GoesBy task v going
  pub is_next : IsNext task (after_steps going v) last
  pub does : task.is_done_by last.kind last.word ≡ true
  pub after : w ≡ after_steps (going ++ last ∷ []) v
  pub trail : w.trail ≡ v.trail ++ (going ++ last ∷ [])
