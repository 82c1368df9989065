-- What is said of a thread's seat, said of its model.
use Rattle.std.proofs.Common.{◌≡◌, ◌∙◌, ◌⊎◌, inl, inr, ℕ, ◌+◌, true, false, List, [], ◌∷◌, ◌++◌, map, Option, Some, None, sym, refl, ap, subst, arith}
use Rattle.std.specs.Option.{is_some}
use Rattle.octet_model.specs.declared.event.Mark.{Mark}
use Rattle.octet_model.specs.declared.event.Event.{Event}
use Rattle.octet_model.specs.declared.event.Event.TheVariants as event
use Rattle.octet_model.specs.Journals.{access_count}
use Rattle.octet_model.proofs.lemmas.Splits.{accesses_split}
use Rattle.octet_state.specs.declared.act.Mode.{Mode}
use Rattle.octet_state.specs.declared.act.Mode.TheVariants.{Read, Write, Update}
use Rattle.octet_state.specs.declared.phase.Phase.{Phase}
use Rattle.octet_state.specs.declared.phase.Phase.TheVariants as phase
use Rattle.octet_rule.specs.Conditions.{IsResting}
use Rattle.octet_rule.specs.Views.{SeatView}
use Rattle.octet_rule.specs.Changes.{changed_by}
use Rattle.octet_heap.specs.declared.marker.Marker.{Marker}
use Rattle.octet_heap.specs.declared.pending_access.PendingAccess.{PendingAccess}
use Rattle.octet_heap.specs.declared.pending_update.PendingUpdate.{PendingUpdate}
use Rattle.octet_heap.specs.declared.poll.Poll.{Poll}
use Rattle.octet_heap.specs.declared.poll.Poll.TheVariants as poll
use Rattle.octet_heap.specs.declared.updated.Updated.{Updated}
use Rattle.octet_heap.specs.declared.updated.Updated.TheVariants as updated
use Rattle.octet_heap.specs.declared.worker.Worker.{Worker}
use Rattle.octet_heap.specs.Builders.{ThreadModel, Standing, Idle, Accessing, Updating, IsEventOf, MakesAccess, StaysBegun, AnswersAccess, AnswersUpdate, AnswersPoll}
use Rattle.octet_heap.specs.Growth.{access_event, AddsAccess}
use Rattle.octet_heap.specs.Markers.{marker_seat}
use Rattle.octet_heap.specs.Markers as marker
use Rattle.octet_heap.specs.Models.{standing_of}
use Rattle.octet_heap.specs.OwnersPath.{value_by}
use Rattle.octet_heap.specs.Standing.{update_of, begun_of, IsAbout}
use Rattle.octet_heap.specs.Updates.{answer_after, AddsUpdate, PollsUpdate}
use Rattle.octet_heap.specs.Waiting.{HasBegun}
use Rattle.octet_heap.specs.Workers.{seat_of, pending_after}
use Rattle.octet_heap.specs.Workers as worker

-- the model of a thread with this view, which stands so
abbrev pub model : SeatView → Standing → ThreadModel
model v now = record { number = v.number; standing = now; journal = v.journal }

pub same_model : (n m : ℕ) (s t : Standing) (j k : List Event) → n ≡ m → s ≡ t → j ≡ k
    → ◌≡◌ {A = ThreadModel} (record { number = n; standing = s; journal = j }) (record { number = m; standing = t; journal = k })
same_model n m s t j k a b c = λ i. record { number = a i; standing = b i; journal = c i }

pub same_standing : (p q : Option PendingAccess) (c d : Option PendingUpdate) (f g : Phase) → p ≡ q → c ≡ d → f ≡ g → standing_of p c f ≡ standing_of q d g
same_standing p q c d f g a b e = λ i. standing_of (a i) (b i) (e i)

abbrev marked : List Mark → List Event
marked marks = map (λ mark. event.Marked mark) marks

no_accesses : (marks : List Mark) (later : List Event) → access_count (marked marks ++ later) ≡ access_count later
no_accesses [] later = refl
no_accesses (mark ∷ marks) later = no_accesses marks later

counted : (j : List Event) (marks : List Mark) (later : List Event) → access_count (j ++ (marked marks ++ later)) ≡ access_count j + access_count later
counted j marks later = accesses_split j (marked marks ++ later) ∙ ap (λ (n : ℕ). access_count j + n) (no_accesses marks later)

module _ (v w : SeatView) (s t : Standing) (number : w.number ≡ v.number) where
  makes : (made : Event) (marks : List Mark) → access_count (made ∷ []) ≡ 1 → w.journal ≡ v.journal ++ (marked marks ++ made ∷ []) → t ≡ Idle → MakesAccess made (model v s) (model w t)
  makes made marks one grown stands = record {
    adds = record { marks = marks; journal = grown; standing = stands; number = number };
    counts = let a = ap access_count grown in let b = counted v.journal marks (made ∷ []) in omega (arith, one);
  }

  waits : (begun : Standing) (marks : List Mark) → w.journal ≡ v.journal ++ (marked marks ++ []) → t ≡ begun → StaysBegun begun (model v s) (model w t)
  waits begun marks grown stands = record {
    adds = record { marks = marks; journal = grown; standing = stands; number = number };
    counts = let a = ap access_count grown in let b = counted v.journal marks [] in omega arith;
  }

-- where a thread stands after an answer
abbrev pub standing_after : Standing → Poll → Standing
standing_after begun (poll.Ready value) = Idle
standing_after begun (poll.Pending why) = begun

is_event : (mode : Mode) (object given told answer : ℕ) → answer ≡ value_by mode given told → IsEventOf mode object given answer (access_event mode object given told)
is_event Read object given told answer is = ap (λ (x : ℕ). event.Read object x) (sym is)
is_event Write object given told answer is = (refl, is)
is_event Update object given told answer is = (told, ap (λ (x : ℕ). event.Update object told x) (sym is), is)

one_access : (mode : Mode) (object given told : ℕ) → access_count (access_event mode object given told ∷ []) ≡ 1
one_access Read object given told = refl
one_access Write object given told = refl
one_access Update object given told = refl

-- what an answer to an access says of the view, said of the model
pub accesses_by : (access : PendingAccess) (answer : Poll) (v w : SeatView) (s t : Standing) → w.number ≡ v.number → AddsAccess access v answer w → t ≡ standing_after (Accessing access) answer
    → AnswersAccess access answer (model v s) (model w t)
accesses_by access (poll.Ready value) v w s t number adds stands = (
  access_event access.mode access.object access.value adds.told,
  is_event access.mode access.object access.value adds.told value adds.value,
  makes v w s t number (access_event access.mode access.object access.value adds.told) adds.marks (one_access access.mode access.object access.value adds.told) adds.grown stands,
)
accesses_by access (poll.Pending why) v w s t number adds stands = waits v w s t number (Accessing access) adds.marks adds.grown stands

-- what an answer to an update by a change says of the view, said of the model
pub changes_by : (update : PendingUpdate) (answer : Updated) (v w : SeatView) (s t : Standing) → w.number ≡ v.number → AddsUpdate update.object update.change v answer w
    → t ≡ standing_after (Updating update) (answer_after update.change answer) → AnswersUpdate update answer (model v s) (model w t)
changes_by update (updated.Made found) v w s t number adds stands = makes v w s t number (event.Update update.object found (changed_by update.change found)) adds.marks refl adds.grown stands
changes_by update (updated.Pending why) v w s t number adds stands = waits v w s t number (Updating update) adds.marks adds.grown stands

-- a thread that stands so goes on as it does
pub goes_on : (now begun : Standing) (answer : Poll) (before after : ThreadModel) → now ≡ begun → AnswersPoll begun answer before after → AnswersPoll now answer before after
goes_on now begun answer before after is goes = subst (λ (s : Standing). AnswersPoll s answer before after) (sym is) goes

-- a poll that goes on with an update by a change, said of the model
pub goes_by_update : (update : PendingUpdate) (answer : Poll) (v w : SeatView) (s t : Standing) → w.number ≡ v.number → PollsUpdate update v answer w → t ≡ standing_after (Updating update) answer
    → AnswersPoll (Updating update) answer (model v s) (model w t)
goes_by_update update answer v w s t number polls stands =
    (polls.0, polls.1, changes_by update polls.0 v w s t number polls.2.journal (stands ∙ ap (standing_after (Updating update)) polls.1))

-- a thread is idle after an answer that an access was made
abbrev pub IdleIf : Poll → Option PendingAccess → Option PendingUpdate → Phase → Type 0
IdleIf (poll.Ready value) p c now = (now ≡ phase.Idle) × (p ≡ None) × (c ≡ None)
IdleIf (poll.Pending why) p c now = Unit {0}

pub idle_marker : (answer : Poll) (n : Marker) → marker.IsIdleIfMade answer n → IdleIf answer n.pending n.changing (marker_seat n).thread.phase
idle_marker (poll.Ready value) n idle = idle
idle_marker (poll.Pending why) n idle = idle

pub idle_worker : (answer : Poll) (n : Worker) → worker.IsIdleIfMade answer n → IdleIf answer n.pending n.changing (seat_of n).thread.phase
idle_worker (poll.Ready value) n idle = idle
idle_worker (poll.Pending why) n idle = idle

-- where a thread stands after an answer
pub after_access : (answer : Poll) (p : Option PendingAccess) (c : Option PendingUpdate) (now : Phase) (access : PendingAccess) → IdleIf answer p c now
    → p ≡ pending_after answer (Some access) → standing_of p c now ≡ standing_after (Accessing access) answer
after_access (poll.Ready value) p c now access idle is = same_standing p None c None now phase.Idle idle.1 idle.2 idle.0
after_access (poll.Pending why) p c now access idle is = ap (λ (o : Option PendingAccess). standing_of o c now) is

pub after_update : (answer : Poll) (p : Option PendingAccess) (c : Option PendingUpdate) (now : Phase) (update : PendingUpdate) → IdleIf answer p c now
    → p ≡ None → c ≡ pending_after answer (Some update) → standing_of p c now ≡ standing_after (Updating update) answer
after_update (poll.Ready value) p c now update idle none is = same_standing p None c None now phase.Idle idle.1 idle.2 idle.0
after_update (poll.Pending why) p c now update idle none is = λ i. standing_of (none i) (is i) now

-- and whether it is idle or has begun something
pub marker_accesses : (answer : Poll) (n : Marker) (access : PendingAccess) → marker.IsIdleIfMade answer n → n.pending ≡ pending_after answer (Some access) → marker.StandsAfter answer n
marker_accesses (poll.Ready value) n access idle is = idle
marker_accesses (poll.Pending why) n access idle is = inl (ap is_some is)

pub marker_updates : (answer : Poll) (n : Marker) (update : PendingUpdate) → marker.IsIdleIfMade answer n → n.changing ≡ pending_after answer (Some update) → marker.StandsAfter answer n
marker_updates (poll.Ready value) n update idle is = idle
marker_updates (poll.Pending why) n update idle is = inr (ap is_some is)

pub worker_accesses : (answer : Poll) (n : Worker) (access : PendingAccess) → worker.IsIdleIfMade answer n → n.pending ≡ pending_after answer (Some access) → worker.StandsAfter answer n
worker_accesses (poll.Ready value) n access idle is = idle
worker_accesses (poll.Pending why) n access idle is = inl (ap is_some is)

pub worker_updates : (answer : Poll) (n : Worker) (update : PendingUpdate) → worker.IsIdleIfMade answer n → n.changing ≡ pending_after answer (Some update) → worker.StandsAfter answer n
worker_updates (poll.Ready value) n update idle is = idle
worker_updates (poll.Pending why) n update idle is = inr (ap is_some is)

there : {A : Type 0} (o : Option A) → is_some o ≡ true → (x : A) × (o ≡ Some x)
there None is = absurd cc
there (Some x) is = (x, refl)

-- what has begun nothing but an update has begun one
pub update_there : (p : Option PendingAccess) (c : Option PendingUpdate) → p ≡ None → (is_some p ≡ true) ⊎ (is_some c ≡ true) → (update : PendingUpdate) × (c ≡ Some update)
update_there p c none (inl is) = absurd (let not : is_some p ≡ false = ap is_some none in cc)
update_there p c none (inr is) = there c is

-- a thread that is off or blocked has begun nothing
pub nothing_begun : (threads : ℕ) (p : Option PendingAccess) (c : Option PendingUpdate) (now : Phase) → IsAbout threads (begun_of p c) now → IsResting now → (p ≡ None) × (c ≡ None)
nothing_begun threads None None now about rests = (refl, refl)
nothing_begun threads None (Some update) now about (inl off) = absurd (subst (HasBegun threads (update_of update.object)) off about)
nothing_begun threads None (Some update) now about (inr blocked) = absurd (subst (HasBegun threads (update_of update.object)) blocked about)
nothing_begun threads (Some access) c now about (inl off) = absurd (subst (HasBegun threads access) off about)
nothing_begun threads (Some access) c now about (inr blocked) = absurd (subst (HasBegun threads access) blocked about)
