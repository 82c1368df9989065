-- A seat's thread takes its steps one after another.
use Rattle.std.proofs.Common.{◌≡◌, ℕ, List, [], ◌∷◌, ◌++◌, refl, subst}
use Rattle.octet_state.specs.declared.phase.Phase.{Phase}
use Rattle.octet_state.specs.declared.phase.Due.{Due}
use Rattle.octet_state.specs.Steps.{Kind}
use Rattle.octet_state.specs.NextStep.{kind_in_phase, kind_by_due}
use Rattle.octet_rule.specs.Views.{SeatView, Taken, stepped_by}
use Rattle.octet_rule.specs.Rule.{Steps}
use Rattle.octet_heap.specs.Walks.{Task, next_step, after_steps, IsNext, WalksBy}

pub after_more : (going more : List Taken) (v : SeatView) → after_steps (going ++ more) v ≡ after_steps more (after_steps going v)
after_more [] more v = refl
after_more (taken ∷ going) more v = after_more going more (stepped_by taken.kind taken.word v)

-- the next step, by where the thread stands
pub next_in : (task : Task) (v : SeatView) (due : Due) (p : Phase) → v.thread.due ≡ due → v.thread.phase ≡ p → next_step task v ≡ kind_by_due due (kind_in_phase v.threads v.number v.thread.count task.first task.value p)
next_in task v due p owes stands = λ i. kind_by_due (owes i) (kind_in_phase v.threads v.number v.thread.count task.first task.value (stands i))

-- a step that is taken, in its order
pub next_by : (task : Task) (v w : SeatView) (k : Kind) (told : ℕ) → Steps k v told w → k ≡ next_step task v → IsNext task v (record { kind = k; word = told })
next_by task v w k told took next = record { in_order = next; took = subst (Steps k v told) took.moves took }

pub walks_more : (May : SeatView → Taken → Type 0) (task : Task) (v : SeatView) (going more : List Taken) → WalksBy May task v going → WalksBy May task (after_steps going v) more → WalksBy May task v (going ++ more)
walks_more May task v [] more g h = h
walks_more May task v (taken ∷ going) more g h = (g.0, g.1, walks_more May task (stepped_by taken.kind taken.word v) going more g.2 h)

-- steps that may be of one walk may be of another
pub walks_as : (May Also : SeatView → Taken → Type 0) (task : Task) → ((v : SeatView) (taken : Taken) → IsNext task v taken → May v taken → Also v taken)
    → (v : SeatView) (going : List Taken) → WalksBy May task v going → WalksBy Also task v going
walks_as May Also task also v [] goes = tt
walks_as May Also task also v (taken ∷ more) goes = (goes.0, also v taken goes.0 goes.1, walks_as May Also task also (stepped_by taken.kind taken.word v) more goes.2)
