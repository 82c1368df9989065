-- The steps by which a seat's thread does what it has to do, in their order.
use Rattle.std.specs.Prelude.{◌≡◌, ℕ, Bool, true, false, List, [], ◌∷◌}
use Rattle.octet_state.specs.Steps.{Kind, ToLoad, ToRead, ToWrite, ToBump}
use Rattle.octet_state.specs.NextStep.{next_kind}
use Rattle.octet_rule.specs.Views.{SeatView, Taken, stepped_by}
use Rattle.octet_rule.specs.Rule.{Steps}
use Rattle.octet_heap.specs.declared.pending_access.PendingAccess.{PendingAccess}

-- the task of an idle thread: its first step, the value of a write or the amount of an update,
-- and the test for the step that does the task
pub record Task : Type 0 where
  pub first : Kind
  pub value : ℕ
  pub is_done_by : Kind → ℕ → Bool

-- the test whether a step is on the cell, by which an access is made
abbrev pub is_on_cell : Kind → ℕ → Bool
is_on_cell ToRead word = true
is_on_cell (ToWrite value) word = true
is_on_cell (ToBump amount) word = true
is_on_cell _ word = false

-- the task of an access
abbrev pub access_task : PendingAccess → Task
access_task access = record { first = ToLoad access.object access.mode; value = access.value; is_done_by = is_on_cell }

-- the next step of a seat's thread that has this task
abbrev pub next_step : Task → SeatView → Kind
next_step task v = next_kind v.threads v.number task.first task.value v.thread

-- the view of a seat after these steps
abbrev pub after_steps : List Taken → SeatView → SeatView
after_steps [] v = v
after_steps (taken ∷ more) v = after_steps more (stepped_by taken.kind taken.word v)

-- the thread takes this step: it is the next of its task, and a step of the protocol from a sound state.
-- The thread is there where its seat knows it to be
pub record IsNext (task : Task) (v : SeatView) (taken : Taken) : Type 0 where
  pub in_order : taken.kind ≡ next_step task v
  pub took : Steps taken.kind v taken.word (stepped_by taken.kind taken.word v)

-- the thread takes these steps, each of which may be a step of the walk where it is taken
abbrev pub WalksBy : (SeatView → Taken → Type 0) → Task → SeatView → List Taken → Type 0
WalksBy May task v [] = Unit {0}
WalksBy May task v (taken ∷ more) = IsNext task v taken × May v taken × WalksBy May task (stepped_by taken.kind taken.word v) more
