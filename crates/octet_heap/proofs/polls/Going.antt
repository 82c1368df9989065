-- A poll goes on step by step.
use Rattle.std.proofs.Common.{◌≡◌, ◌∙◌, ℕ, suc, ◌+◌, ◌<◌, ◌≤◌, [], ◌∷◌, ◌++◌, Some, None, sym, ap, arith, length-append, subst}
use Rattle.octet_state.specs.declared.phase.Phase.{Phase}
use Rattle.octet_state.specs.declared.phase.Due.TheVariants.{Nothing}
use Rattle.octet_state.specs.Steps.{Kind, ToLoad}
use Rattle.octet_state.specs.NextStep.{kind_in_phase}
use Rattle.octet_rule.specs.Views.{SeatView, Taken, stepped_by}
use Rattle.octet_rule.specs.Rule.{Steps}
use Rattle.octet_heap.specs.declared.pending_access.PendingAccess.{PendingAccess}
use Rattle.octet_heap.specs.declared.poll.Poll.{Poll}
use Rattle.octet_heap.specs.Walks.{access_task, next_step, after_steps, IsNext}
use Rattle.octet_heap.specs.Polls.{answer_to, steps_owed, GoesBy, Comes}
use Rattle.octet_heap.specs.Waiting.{StandsIn}
use Rattle.octet_heap.specs.declared.poll.Poll.TheVariants.{Pending}
use Rattle.octet_heap.specs.declared.way.Way.{Way}
use Rattle.octet_heap.specs.declared.way.Way.TheVariants.{Passes, Waits}
use Rattle.octet_heap.specs.Ways.{Goes, with_value, ComesTo, Finishes}
use Rattle.octet_rule.specs.declared.change.Change.{Change}
use Rattle.octet_heap.specs.Standing.{update_of}
use Rattle.octet_heap.specs.Updates.{amount_made, answer_after, ComesBy, FinishesBy}
use Rattle.octet_heap.specs.declared.updated.Updated.{Updated}
use Rattle.octet_heap.specs.declared.updated.Updated.TheVariants as updated
use Rattle.octet_heap.specs.Calls.{access_to}
use Rattle.octet_state.specs.declared.act.Mode.TheVariants.{Update}
use Rattle.octet_heap.proofs.lemmas.Walks as walks
use Rattle.octet_heap.proofs.lemmas.Walks.{after_more, next_by, walks_more}

-- the next step of a thread that owes nothing, by its phase
pub next_in : (access : PendingAccess) (v : SeatView) (p : Phase) → StandsIn p v → next_step (access_task access) v ≡ kind_in_phase v.threads v.number v.thread.count (ToLoad access.object access.mode) access.value p
next_in access v p stands = walks.next_in (access_task access) v Nothing p stands.0 stands.1

abbrev GoesOn : SeatView → Taken → Type 0
GoesOn v taken = answer_to v taken ≡ None

pub goes_one : (access : PendingAccess) (v w : SeatView) (k : Kind) (told : ℕ) → Steps k v told w → k ≡ next_step (access_task access) v → answer_to v (record { kind = k; word = told }) ≡ None → Goes access v 2 w
goes_one access v w k told took next none = record { going = record { kind = k; word = told } ∷ []; goes = (next_by (access_task access) v w k told took next, none, tt); few = omega arith; after = took.moves }

pub goes_on : (access : PendingAccess) (u v w : SeatView) (m n k : ℕ) → Goes access u m v → Goes access v n w → m + n ≤ suc k → Goes access u k w
goes_on access u v w m n k g h fits = record {
  going = g.going ++ h.going;
  goes = walks_more GoesOn (access_task access) u g.going h.going g.goes (subst (λ (x : SeatView). GoesBy access x h.going) g.after h.goes);
  few = let a = length-append g.going h.going in let b = g.few in let d = h.few in omega arith;
  after = h.after ∙ (ap (after_steps h.going) g.after ∙ sym (after_more g.going h.going u));
}

pub comes_by : (access : PendingAccess) (v w : SeatView) (k : Kind) (told : ℕ) (answer : Poll) (n : ℕ) → Steps k v told w → k ≡ next_step (access_task access) v → answer_to v (record { kind = k; word = told }) ≡ Some answer → steps_owed answer < n → Comes access v answer n w
comes_by access v w k told answer n took next is few = record { going = []; last = record { kind = k; word = told }; goes = tt; is_next = next_by (access_task access) v w k told took next; answers = is; few = omega (arith, few); after = took.moves }

pub comes_after : (access : PendingAccess) (u v w : SeatView) (m n k : ℕ) (answer : Poll) → Goes access u m v → Comes access v answer n w → m + n ≤ suc k → Comes access u answer k w
comes_after access u v w m n k answer g c fits = let same = sym (after_more g.going c.going u) in let there = ap (after_steps c.going) g.after in record {
  going = g.going ++ c.going;
  last = c.last;
  goes = walks_more GoesOn (access_task access) u g.going c.going g.goes (subst (λ (x : SeatView). GoesBy access x c.going) g.after c.goes);
  is_next = subst (λ (x : SeatView). IsNext (access_task access) x c.last) (there ∙ same) c.is_next;
  answers = ap (λ (x : SeatView). answer_to x c.last) (sym (there ∙ same)) ∙ c.answers;
  few = let a = length-append g.going c.going in let b = g.few in let d = c.few in omega arith;
  after = c.after ∙ ap (stepped_by c.last.kind c.last.word) (there ∙ same);
}

pub comes_sooner : (access : PendingAccess) (v w : SeatView) (m n : ℕ) (answer : Poll) → Comes access v answer m w → m ≤ n → Comes access v answer n w
comes_sooner access v w m n answer c fits = record { going = c.going; last = c.last; goes = c.goes; is_next = c.is_next; answers = c.answers; few = let few = c.few in omega arith; after = c.after }

pub goes_sooner : (access : PendingAccess) (v w : SeatView) (m n : ℕ) → Goes access v m w → m ≤ n → Goes access v n w
goes_sooner access v w m n g fits = record { going = g.going; goes = g.goes; few = let few = g.few in omega arith; after = g.after }

-- on the way to the step on the cell
pub comes_to_after : (access : PendingAccess) (u v w : SeatView) (m n k : ℕ) (way : Way) → ((value : ℕ) → Goes (with_value access value) u m v) → ComesTo access v way n w → m + n ≤ suc k → ComesTo access u way k w
comes_to_after access u v w m n k Passes g c fits = λ value. goes_on (with_value access value) u v w m n k (g value) (c value) fits
comes_to_after access u v w m n k (Waits why) g c fits = λ value. comes_after (with_value access value) u v w m n k (Pending why) (g value) (c value) fits

-- and from there
pub finished : (access : PendingAccess) (u v w : SeatView) (n : ℕ) (way : Way) (answer : Poll) → ComesTo access u way n v → Finishes access way v answer w → Comes access u answer n w
finished access u v w n Passes answer c done = comes_after access u v w n 1 n answer (c access.value) done (omega arith)
finished access u v w n (Waits why) answer c done = subst (λ (a : Poll). Comes access u a n w) (sym done.0) (subst (λ (x : SeatView). Comes access u (Pending why) n x) (sym done.1) (c access.value))

pub finished_by : (change : Change) (object : ℕ) (u v w : SeatView) (n : ℕ) (way : Way) (answer : Updated) → ComesTo (update_of object) u way n v → FinishesBy change object way v answer w → ComesBy change object u answer n w
finished_by change object u v w n Passes answer c done = comes_after (access_to object Update (amount_made change answer)) u v w n 1 n (answer_after change answer) (c (amount_made change answer)) done (omega arith)
finished_by change object u v w n (Waits why) answer c done = subst (λ (a : Updated). ComesBy change object u a n w) (sym done.0) (subst (λ (x : SeatView). ComesBy change object u (updated.Pending why) n x) (sym done.1) (c 0))
