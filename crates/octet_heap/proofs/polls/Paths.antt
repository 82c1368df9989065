-- A poll takes the owner's path where its load lets it pass.
use Rattle.std.proofs.Common.{◌≡◌, ◌∙◌, ℕ, List, [], ◌∷◌, ◌++◌, length, drop, Option, Some, None, sym, refl, ap}
use Rattle.octet_state.specs.declared.act.Act.{Act}
use Rattle.octet_state.specs.declared.act.Act.TheVariants.{Pass}
use Rattle.octet_state.specs.declared.act.Mode.{Mode}
use Rattle.octet_state.specs.declared.act.Mode.TheVariants.{Read, Write, Update}
use Rattle.octet_state.specs.declared.phase.Phase.TheVariants.{Pass}
use Rattle.octet_state.specs.declared.phase.Due.TheVariants.{Nothing}
use Rattle.octet_state.specs.Words.{unpacked_state}
use Rattle.octet_state.specs.Table.{decided}
use Rattle.octet_state.specs.State.{Thread}
use Rattle.octet_state.specs.Steps.{Kind, ToLoad, after, loaded, moved, state_in}
use Rattle.octet_state.specs.NextStep.{access_of, held_by, waits}
use Rattle.octet_rule.specs.Views.{SeatView, Taken, stepped_by}
use Rattle.octet_heap.specs.declared.pending_access.PendingAccess.{PendingAccess}
use Rattle.octet_heap.specs.declared.poll.Poll.{Poll}
use Rattle.octet_heap.specs.declared.poll.Poll.TheVariants.{Ready}
use Rattle.octet_heap.specs.Walks.{access_task, next_step, after_steps}
use Rattle.octet_heap.specs.Polls.{answer_by, answer_to, GoesBy, PaysBy}
use Rattle.octet_heap.specs.Workers.{IsPoll}
use Rattle.octet_heap.specs.OwnersPath.{value_by, TakesOwnersPath}
use Rattle.octet_heap.proofs.polls.Going.{next_in}

pub dropped : (xs ys : List Taken) → drop (length xs) (xs ++ ys) ≡ ys
dropped [] ys = refl
dropped (x ∷ xs) ys = dropped xs ys

abbrev head_or : Taken → List Taken → Taken
head_or none [] = none
head_or none (taken ∷ more) = taken

pub access_answers : (mode : Mode) (value : ℕ) (v : SeatView) (taken : Taken) → taken.kind ≡ access_of mode value → answer_to v taken ≡ Some (Ready (value_by mode value taken.word))
access_answers Read value v taken is = ap (λ (k : Kind). answer_by (waits k v.number taken.word v.thread) k taken.word) is
access_answers Write value v taken is = ap (λ (k : Kind). answer_by (waits k v.number taken.word v.thread) k taken.word) is
access_answers Update value v taken is = ap (λ (k : Kind). answer_by (waits k v.number taken.word v.thread) k taken.word) is

access_owes_nothing : (mode : Mode) (value : ℕ) (v : SeatView) (taken : Taken) → taken.kind ≡ access_of mode value → (stepped_by taken.kind taken.word v).thread.due ≡ Nothing
access_owes_nothing Read value v taken is = ap (λ (k : Kind). (after k v.number taken.word v.thread).due) is
access_owes_nothing Write value v taken is = ap (λ (k : Kind). (after k v.number taken.word v.thread).due) is
access_owes_nothing Update value v taken is = ap (λ (k : Kind). (after k v.number taken.word v.thread).due) is

pub nothing_after : (access : PendingAccess) (v : SeatView) (at_safe_point : List Taken) → PaysBy access v at_safe_point → v.thread.due ≡ Nothing → at_safe_point ≡ []
nothing_after access v [] pays due = refl
nothing_after access v (taken ∷ more) pays due = absurd (pays.0.1 due)

only : (a b : Poll) → Some a ≡ Some b → a ≡ b
only a b is = ap (λ (o : Option Poll). poll_in o) is
  where
    poll_in : Option Poll → Poll
    poll_in (Some p) = p
    poll_in None = a

module _ (access : PendingAccess) (v : SeatView) (answer : Poll) (word : ℕ) (more : List Taken) (passes : decided (state_in (unpacked_state word)) v.number access.mode v.thread.count ≡ Pass) where
  abbrev load : Taken
  load = record { kind = ToLoad access.object access.mode; word = word }

  abbrev IsPath : Type 0
  IsPath = (told : ℕ) × (more ≡ record { kind = access_of access.mode access.value; word = told } ∷ []) × (answer ≡ Ready (value_by access.mode access.value told))

  load_goes_on : answer_to v load ≡ None
  load_goes_on = ap (λ (a : Act). answer_by (held_by a word) (ToLoad access.object access.mode) word) passes

  access_next : next_step (access_task access) (stepped_by (ToLoad access.object access.mode) word v) ≡ access_of access.mode access.value
  access_next = let u = stepped_by (ToLoad access.object access.mode) word v in
      let is : u.thread ≡ moved (Pass access.object access.mode) Nothing v.thread = ap (λ (a : Act). loaded a access.object access.mode (state_in (unpacked_state word)) v.thread) passes in
      next_in access u (Pass access.object access.mode) (ap (λ (x : Thread). x.due) is, ap (λ (x : Thread). x.phase) is)

  -- the step after the load is the access
  access_kind : (first taken : Taken) → first ≡ load → taken.kind ≡ next_step (access_task access) (stepped_by first.kind first.word v) → taken.kind ≡ access_of access.mode access.value
  access_kind first taken is next = next ∙ (ap (λ (t : Taken). next_step (access_task access) (stepped_by t.kind t.word v)) is ∙ access_next)

  path : (going : List Taken) (last : Taken) (at_safe_point : List Taken) → GoesBy access v going → last.kind ≡ next_step (access_task access) (after_steps going v) → answer_to (after_steps going v) last ≡ Some answer
      → PaysBy access (stepped_by last.kind last.word (after_steps going v)) at_safe_point → going ++ last ∷ at_safe_point ≡ load ∷ more → IsPath
  path [] last at_safe_point goes next answers pays is = let same : last ≡ load = ap (head_or load) is in
      absurd (let none : answer_to v last ≡ None = ap (answer_to v) same ∙ load_goes_on in let never : None ≡ Some answer = sym none ∙ answers in cc)
  path (first ∷ []) last at_safe_point goes next answers pays is =
      let kind = access_kind first last (ap (head_or load) is) next in let u = stepped_by first.kind first.word v in
      let ends : at_safe_point ≡ [] = nothing_after access (stepped_by last.kind last.word u) at_safe_point pays (access_owes_nothing access.mode access.value u last kind) in (
        last.word,
        sym (ap (λ (l : List Taken). drop 1 l) is) ∙ (λ i. record { kind = kind i; word = last.word } ∷ ends i),
        only answer (Ready (value_by access.mode access.value last.word)) (sym answers ∙ access_answers access.mode access.value u last kind),
      )
  path (first ∷ second ∷ going) last at_safe_point goes next answers pays is =
      let kind = access_kind first second (ap (head_or load) is) goes.2.0.in_order in let u = stepped_by first.kind first.word v in
      absurd (let never : None ≡ Some (Ready (value_by access.mode access.value second.word)) = sym goes.2.1 ∙ access_answers access.mode access.value u second kind in cc)

pub owners_path : (access : PendingAccess) (v w : SeatView) (answer : Poll) → IsPoll access v answer w → TakesOwnersPath access v answer w
owners_path access v w answer p word more is passes = path access v answer word more passes p.going p.last p.at_safe_point p.goes p.is_next.in_order p.answers p.pays
    (sym (ap (λ (l : List Taken). drop (length v.trail) l) p.trail ∙ dropped v.trail (p.going ++ p.last ∷ p.at_safe_point)) ∙ is)
