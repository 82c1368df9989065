-- A poll of an update by a change is one of an update by the amount that it adds.
use Rattle.std.proofs.Common.{◌≡◌, ◌∙◌, ℕ, true, List, [], ◌∷◌, ◌++◌, Some, None, sym, refl, ap, subst, append_assoc}
use Rattle.std.specs.Prelude.{map}
use Rattle.octet_model.specs.declared.event.Mark.{Mark}
use Rattle.octet_model.specs.declared.event.Event.{Event}
use Rattle.octet_model.specs.declared.event.Event.TheVariants as event
use Rattle.octet_model.specs.Thread.{added}
use Rattle.octet_state.specs.declared.act.Mode.TheVariants.{Update}
use Rattle.octet_state.specs.declared.phase.Phase.{Phase}
use Rattle.octet_state.specs.declared.phase.Phase.TheVariants.{Idle, Want, Pass, Claimed}
use Rattle.octet_state.specs.Steps.{ToBump, target, moved, state_in}
use Rattle.octet_rule.specs.Views.{SeatView, Taken}
use Rattle.octet_rule.specs.Rule.{Steps}
use Rattle.octet_rule.specs.Entering.{IsMadeAtOnce}
use Rattle.octet_rule.proofs.Known.{load_moves}
use Rattle.octet_state.specs.declared.act.Act.TheVariants.{Pass as Passing}
use Rattle.octet_state.specs.declared.phase.Due.TheVariants.{Nothing}
use Rattle.octet_state.specs.State.{Thread}
use Rattle.octet_state.specs.Words.{unpacked_state}
use Rattle.octet_heap.specs.SlowPath.{passes_by}
use Rattle.octet_rule.specs.declared.change.Change.{Change}
use Rattle.octet_rule.specs.Changes.{changed_by, amount_by, IsLed}
use Rattle.octet_heap.specs.declared.poll.Poll.TheVariants.{Ready}
use Rattle.octet_heap.specs.declared.updated.Updated.{Updated}
use Rattle.octet_heap.specs.declared.updated.Updated.TheVariants.{Made, Pending}
use Rattle.octet_heap.specs.Polls.{Comes}
use Rattle.octet_heap.specs.Growth.{AddsAccess}
use Rattle.octet_heap.specs.Calls.{access_to}
use Rattle.octet_heap.specs.Waiting.{HasBegun, StandsIn}
use Rattle.octet_heap.specs.Standing.{update_of}
use Rattle.octet_heap.specs.Workers.{IsPoll}
use Rattle.octet_heap.specs.Updates.{amount_made, answer_after, AddsUpdate, PollsToChange, ComesBy, EndsWith}
use Rattle.octet_heap.proofs.log.Entries.{gains}
use Rattle.octet_heap.proofs.polls.WholePolls.{polls_by}
use Rattle.octet_heap.proofs.stretches.Stretches.{access_comes}

abbrev marked : List Mark → List Event
marked marks = map (λ mark. event.Marked mark) marks

-- the last of a list
abbrev last_or : Event → List Event → Event
last_or none [] = none
last_or none (e ∷ events) = last_or e events

last_end : (none : Event) (events : List Event) (e : Event) → last_or none (events ++ e ∷ []) ≡ e
last_end none [] e = refl
last_end none (first ∷ events) e = last_end first events e

same_end : (xs ys zs : List Event) (a b : Event) → xs ++ (ys ++ a ∷ []) ≡ zs ++ b ∷ [] → a ≡ b
same_end xs ys zs a b is = sym (last_end a (xs ++ ys) a) ∙ (ap (last_or a) (append_assoc xs ys (a ∷ []) ∙ is) ∙ last_end a zs b)

adds_update : (object : ℕ) (change : Change) (v w : SeatView) (answer : Updated) → AddsAccess (access_to object Update (amount_made change answer)) v (answer_after change answer) w → EndsWith object change answer w
    → AddsUpdate object change v answer w
adds_update object change v w (Pending why) adds ends = record { marks = adds.marks; grown = adds.grown }
adds_update object change v w (Made before) adds ends =
    let a : Event = event.Update object adds.told (added (amount_by change before) adds.told) in
    let b : Event = event.Update object before (changed_by change before) in
    let same : a ≡ b = same_end v.journal (marked adds.marks) ends.0 a b (sym adds.grown ∙ ends.1) in record {
      marks = adds.marks;
      grown = adds.grown ∙ ap (λ (e : Event). v.journal ++ (marked adds.marks ++ e ∷ [])) same;
    }

-- the value has no part in what is begun
pub begun_as : (threads object value : ℕ) (p : Phase) → HasBegun threads (update_of object) p → HasBegun threads (access_to object Update value) p
begun_as threads object value Idle h = tt
begun_as threads object value (Want o mode None) h = h
begun_as threads object value (Claimed o mode prior done true) h = h
begun_as threads object value _ h = absurd h

pub polls_to_change : (object : ℕ) (change : Change) (v w : SeatView) (answer : Updated) → HasBegun v.threads (update_of object) v.thread.phase
    → IsPoll (access_to object Update (amount_made change answer)) v (answer_after change answer) w → EndsWith object change answer w → PollsToChange object change v answer w
polls_to_change object change v w answer begun steps ends =
    let access = access_to object Update (amount_made change answer) in
    let polls = polls_by access (Some access) v w (answer_after change answer) (begun_as v.threads object (amount_made change answer) v.thread.phase begun) refl steps in record {
      polls = polls;
      journal = adds_update object change v w answer polls.journal ends;
    }

-- the step on the cell
pub change_comes : (object : ℕ) (change : Change) (v w : SeatView) (before : ℕ) → StandsIn (Pass object Update) v → Steps (ToBump (amount_by change before)) v before w → IsLed change before → ComesBy change object v (Made before) 1 w
change_comes object change v w before stands took led =
    subst (λ (n : ℕ). Comes (access_to object Update (amount_by change before)) v (Ready n) 1 w) led (access_comes (access_to object Update (amount_by change before)) v w Update before stands refl took)

pub change_ends : (object : ℕ) (change : Change) (v w : SeatView) (before : ℕ) → v.thread.phase ≡ Pass object Update → Steps (ToBump (amount_by change before)) v before w → IsLed change before → EndsWith object change (Made before) w
change_ends object change v w before passes took led =
    let e : Event = event.Update (target v.thread.phase) before (added (amount_by change before) before) in
    (v.journal, gains (ToBump (amount_by change before)) v w before e took refl ∙ λ i. v.journal ++ event.Update (ap target passes i) before (led i) ∷ [])

-- where it is made at once
pub made_ends : (object : ℕ) (change : Change) (v w : SeatView) (before : ℕ) → IsMadeAtOnce object Update (amount_by change before) v before w → IsLed change before → EndsWith object change (Made before) w
made_ends object change v w before at_once led =
    let passes : at_once.between.thread ≡ moved (Pass object Update) Nothing v.thread = load_moves object Update v at_once.word at_once.between (state_in (unpacked_state at_once.word)) Passing at_once.loads refl (sym at_once.says) in
    change_ends object change at_once.between w before (ap (λ (x : Thread). x.phase) passes) at_once.accesses led

pub passes_as : (object value : ℕ) (v : SeatView) (steps : List Taken) → passes_by (access_to object Update value) v steps ≡ passes_by (update_of object) v steps
passes_as object value v [] = refl
passes_as object value v (taken ∷ steps) = refl
