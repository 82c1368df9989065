-- The steps of a poll.
use Rattle.std.specs.Prelude.{◌≡◌, ◌≢◌, ℕ, ◌+◌, ◌<◌, List, length, Option, Some, None}
use Rattle.octet_model.specs.Thread.{added}
use Rattle.octet_state.specs.declared.phase.Due.TheVariants.{Nothing}
use Rattle.octet_state.specs.declared.why.Why.{Why}
use Rattle.octet_state.specs.Steps.{Kind, ToRead, ToWrite, ToBump}
use Rattle.octet_state.specs.NextStep.{waits}
use Rattle.octet_rule.specs.Views.{SeatView, Taken, stepped_by}
use Rattle.octet_heap.specs.declared.pending_access.PendingAccess.{PendingAccess}
use Rattle.octet_heap.specs.declared.poll.Poll.{Poll}
use Rattle.octet_heap.specs.declared.poll.Poll.TheVariants.{Ready, Pending}
use Rattle.octet_heap.specs.Walks.{access_task, after_steps, IsNext, WalksBy}

-- the answer of a poll by a step that waits, or that makes the access. By any other step the poll goes on
abbrev pub answer_by : Option Why → Kind → ℕ → Option Poll
answer_by (Some why) kind word = Some (Pending why)
answer_by None ToRead word = Some (Ready word)
answer_by None (ToWrite value) word = Some (Ready value)
answer_by None (ToBump amount) word = Some (Ready (added amount word))
answer_by None _ word = None

-- the answer of a poll by a step of the seat's thread
abbrev pub answer_to : SeatView → Taken → Option Poll
answer_to v taken = answer_by (waits taken.kind v.number taken.word v.thread) taken.kind taken.word

-- the thread takes these steps, by each of which the poll goes on
abbrev pub GoesBy : PendingAccess → SeatView → List Taken → Type 0
GoesBy access v going = WalksBy (λ v taken. answer_to v taken ≡ None) (access_task access) v going

-- the thread takes these steps while it owes a glance or an answer
abbrev pub OwesBy : PendingAccess → SeatView → List Taken → Type 0
OwesBy access v paid = WalksBy (λ v taken. v.thread.due ≢ Nothing) (access_task access) v paid

-- the thread takes these steps until it owes nothing
abbrev pub PaysBy : PendingAccess → SeatView → List Taken → Type 0
PaysBy access v paid = OwesBy access v paid × ((after_steps paid v).thread.due ≡ Nothing)

-- the greatest number of steps that are still due after an answer
abbrev pub steps_owed : Poll → ℕ
steps_owed (Ready value) = 0
steps_owed (Pending why) = 2

-- the poll goes on by some steps, and answers by one more. With the steps that are then due,
-- there are at most `steps`
pub record Comes (access : PendingAccess) (v : SeatView) (answer : Poll) (steps : ℕ) (w : SeatView) : Type 0 where
  pub going : List Taken
  pub last : Taken
  pub goes : GoesBy access v going
  pub is_next : IsNext (access_task access) (after_steps going v) last
  pub answers : answer_to (after_steps going v) last ≡ Some answer
  pub few : length going + steps_owed answer < steps
  pub after : w ≡ stepped_by last.kind last.word (after_steps going v)
