-- The stretches of a poll, by their steps.
use Rattle.std.proofs.Common.{◌≡◌, ◌∙◌, ℕ, Bool, Some, None, sym, refl, ap, arith, eq-eqb}
use Rattle.octet_state.specs.declared.act.Mode.{Mode}
use Rattle.octet_state.specs.declared.phase.Phase.{Phase}
use Rattle.octet_state.specs.declared.phase.Phase.TheVariants.{Pass, FenceDue, Claimed, Sharing}
use Rattle.octet_state.specs.declared.phase.Due.TheVariants.{Nothing}
use Rattle.octet_state.specs.Asking.{whom_to_ask, number_to_ask, next_to_ask}
use Rattle.octet_state.specs.Steps.{Kind, ToLoad, ToFence, ToSettle, ToDraw}
use Rattle.octet_state.specs.NextStep.{kind_in_phase, access_of, pursuit_of}
use Rattle.octet_rule.specs.Views.{SeatView}
use Rattle.octet_rule.specs.Rule.{Steps}
use Rattle.octet_heap.specs.declared.pending_access.PendingAccess.{PendingAccess}
use Rattle.octet_heap.specs.declared.poll.Poll.TheVariants.{Ready}
use Rattle.octet_heap.specs.Polls.{Comes}
use Rattle.octet_heap.specs.Waiting.{StandsIn, Settles}
use Rattle.octet_heap.specs.OwnersPath.{value_by}
use Rattle.octet_heap.specs.Ways.{Goes, with_value}
use Rattle.octet_heap.proofs.polls.Going.{next_in, comes_by, goes_one}
use Rattle.octet_heap.proofs.polls.Paths.{access_answers}

-- the step on the cell
pub access_comes : (access : PendingAccess) (v w : SeatView) (mode : Mode) (told : ℕ) → StandsIn (Pass access.object access.mode) v → access.mode ≡ mode → Steps (access_of mode access.value) v told w
    → Comes access v (Ready (value_by mode access.value told)) 1 w
access_comes access v w mode told stands is took =
    let next = sym (next_in access v (Pass access.object access.mode) stands ∙ ap (λ (m : Mode). access_of m access.value) is) in
    comes_by access v w (access_of mode access.value) told (Ready (value_by mode access.value told)) 1 took next (access_answers mode access.value v (record { kind = access_of mode access.value; word = told }) refl) (omega arith)

pub fence_goes : (access : PendingAccess) (v u : SeatView) (object number told : ℕ) → StandsIn (FenceDue object number) v → Steps ToFence v told u → Goes access v 2 u
fence_goes access v u object number told stands took = goes_one access v u ToFence told took (sym (next_in access v (FenceDue object number) stands)) refl

settles_next : (threads me count value : ℕ) (first : Kind) (access : PendingAccess) (p : Phase) → Settles threads access p → kind_in_phase threads me count first value p ≡ ToSettle
settles_next threads me count value first access (Claimed object mode prior done asked) h =
    ap (λ (b : Bool). pursuit_of b asked (next_to_ask (whom_to_ask prior) me done)) (eq-eqb done (number_to_ask (whom_to_ask prior) threads) h.2)
settles_next threads me count value first access (Sharing object (Some number)) h = refl
settles_next threads me count value first access _ h = absurd h

pub settle_goes : (access : PendingAccess) (v u : SeatView) (told : ℕ) → v.thread.due ≡ Nothing → Settles v.threads access v.thread.phase → Steps ToSettle v told u → Goes access v 2 u
settle_goes access v u told due settles took =
    goes_one access v u ToSettle told took
    (sym (next_in access v v.thread.phase (due, refl) ∙ settles_next v.threads v.number v.thread.count access.value (ToLoad access.object access.mode) access v.thread.phase settles)) refl

-- the value has no part in it
pub settles_as : (threads : ℕ) (access : PendingAccess) (value : ℕ) (p : Phase) → Settles threads access p → Settles threads (with_value access value) p
settles_as threads access value (Claimed object mode prior done asked) h = h
settles_as threads access value (Sharing object (Some number)) h = h
settles_as threads access value _ h = absurd h

pub draw_goes : (access : PendingAccess) (v u : SeatView) (object told : ℕ) → StandsIn (Sharing object None) v → Steps ToDraw v told u → Goes access v 2 u
draw_goes access v u object told stands took = goes_one access v u ToDraw told took (sym (next_in access v (Sharing object None) stands)) refl
