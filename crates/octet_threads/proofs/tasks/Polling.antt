-- Polls, one after another, make an access.
use Rattle.std.proofs.Common.{◌≡◌, ◌≢◌, ◌∙◌, ℕ, true, false, List, [], ◌∷◌, ◌++◌, map, Option, Some, None, sym, refl, ap, append_assoc, append-nil}
use Rattle.octet_model.specs.declared.event.Mark.{Mark}
use Rattle.octet_model.specs.declared.event.Event.{Event}
use Rattle.octet_model.specs.declared.event.Event.TheVariants.{Marked}
use Rattle.octet_state.specs.declared.phase.Due.{Due}
use Rattle.octet_state.specs.declared.phase.Due.TheVariants.{Nothing, Glance, Answer}
use Rattle.octet_state.specs.declared.why.Why.{Why}
use Rattle.octet_state.specs.Steps.{Kind, ToLoad, ToRead, ToWrite, ToBump}
use Rattle.octet_state.specs.NextStep.{kind_by_due, kind_in_phase, waits}
use Rattle.octet_rule.specs.Views.{SeatView, Taken, stepped_by}
use Rattle.octet_heap.specs.declared.pending_access.PendingAccess.{PendingAccess}
use Rattle.octet_heap.specs.declared.poll.Poll.{Poll}
use Rattle.octet_heap.specs.declared.poll.Poll.TheVariants.{Ready, Pending}
use Rattle.octet_heap.specs.Polls as heap
use Rattle.octet_heap.specs.Polls.{answer_by, answer_to, OwesBy}
use Rattle.octet_heap.specs.Walks.{access_task, after_steps, is_on_cell}
use Rattle.octet_heap.proofs.lemmas.Walks.{walks_as, walks_more}
use Rattle.octet_heap.specs.Workers.{IsPoll}
use Rattle.octet_heap.specs.Growth.{access_made, AddsAccess}
use Rattle.octet_threads.specs.Tasks.{GoesBy, Does}
use Rattle.octet_threads.proofs.tasks.Doing.{HasGone}

-- a step by which a poll goes on is none on the cell
goes_off_cell : (why : Option Why) (k : Kind) (word : ℕ) → answer_by why k word ≡ None → is_on_cell k word ≡ false
goes_off_cell (Some why) k word e = absurd cc
goes_off_cell None ToRead word e = absurd cc
goes_off_cell None (ToWrite value) word e = absurd cc
goes_off_cell None (ToBump amount) word e = absurd cc
goes_off_cell None _ word e = refl

-- nor is one that waits
waits_off_cell : (k : Kind) (me word : ℕ) (v : SeatView) (why : Why) → answer_by (waits k me word v.thread) k word ≡ Some (Pending why) → is_on_cell k word ≡ false
waits_off_cell ToRead me word v why e = absurd cc
waits_off_cell (ToWrite value) me word v why e = absurd cc
waits_off_cell (ToBump amount) me word v why e = absurd cc
waits_off_cell _ me word v why e = refl

-- the one that makes the access is
makes_on_cell : (why : Option Why) (k : Kind) (word value : ℕ) → answer_by why k word ≡ Some (Ready value) → is_on_cell k word ≡ true
makes_on_cell (Some why) k word value e = absurd cc
makes_on_cell None ToRead word value e = refl
makes_on_cell None (ToWrite written) word value e = refl
makes_on_cell None (ToBump amount) word value e = refl
makes_on_cell None _ word value e = absurd cc

-- after it nothing is due
leaves_nothing : (k : Kind) (word : ℕ) (v : SeatView) → is_on_cell k word ≡ true → (stepped_by k word v).thread.due ≡ Nothing
leaves_nothing ToRead word v e = refl
leaves_nothing (ToWrite value) word v e = refl
leaves_nothing (ToBump amount) word v e = refl
leaves_nothing _ word v e = absurd cc

-- a glance or an answer is none on the cell
pays_off_cell : (due : Due) (k kind : Kind) (word : ℕ) → due ≢ Nothing → k ≡ kind_by_due due kind → is_on_cell k word ≡ false
pays_off_cell Nothing k kind word owes e = absurd (owes refl)
pays_off_cell Glance k kind word owes e = ap (λ (z : Kind). is_on_cell z word) e
pays_off_cell Answer k kind word owes e = ap (λ (z : Kind). is_on_cell z word) e

abbrev OffCell : SeatView → Taken → Type 0
OffCell v taken = is_on_cell taken.kind taken.word ≡ false

going_as : (access : PendingAccess) (v : SeatView) (going : List Taken) → heap.GoesBy access v going → GoesBy (access_task access) v going
going_as access v going goes =
    walks_as (λ v taken. answer_to v taken ≡ None) OffCell (access_task access) (λ v taken next none. goes_off_cell (waits taken.kind v.number taken.word v.thread) taken.kind taken.word none) v going goes

paying_as : (access : PendingAccess) (v : SeatView) (paid : List Taken) → OwesBy access v paid → GoesBy (access_task access) v paid
paying_as access v paid pays = walks_as (λ v taken. v.thread.due ≢ Nothing) OffCell (access_task access) (λ v taken next owes.
    let kind = kind_in_phase v.threads v.number v.thread.count (ToLoad access.object access.mode) access.value v.thread.phase in
    pays_off_cell v.thread.due taken.kind kind taken.word owes next.in_order) v paid pays

pays_nothing : (access : PendingAccess) (v : SeatView) (paid : List Taken) → v.thread.due ≡ Nothing → OwesBy access v paid → paid ≡ []
pays_nothing access v [] none pays = refl
pays_nothing access v (t ∷ more) none pays = absurd (pays.1 none)

-- a poll that is pending has gone on
pub pending_goes : (access : PendingAccess) (v w : SeatView) (why : Why) → IsPoll access v (Pending why) w → HasGone (access_task access) v w
pending_goes access v w why p =
    let task = access_task access in
    let u = after_steps p.going v in
    let off : is_on_cell p.last.kind p.last.word ≡ false = waits_off_cell p.last.kind u.number p.last.word u why p.answers in record {
      going = p.going ++ p.last ∷ p.at_safe_point;
      goes = walks_more OffCell task v p.going (p.last ∷ p.at_safe_point) (going_as access v p.going p.goes) (p.is_next, off, paying_as access (stepped_by p.last.kind p.last.word u) p.at_safe_point p.pays.0);
      after = p.after;
      trail = p.trail;
    }

-- one that is ready has made the access
pub ready_does : (access : PendingAccess) (v w : SeatView) (value : ℕ) → IsPoll access v (Ready value) w → Does (access_task access) v w
ready_does access v w value p =
    let u = after_steps p.going v in
    let on : is_on_cell p.last.kind p.last.word ≡ true = makes_on_cell (waits p.last.kind u.number p.last.word u.thread) p.last.kind p.last.word value p.answers in
    let none : p.at_safe_point ≡ [] = pays_nothing access (stepped_by p.last.kind p.last.word u) p.at_safe_point (leaves_nothing p.last.kind p.last.word u on) p.pays.0 in record {
      going = p.going;
      last = p.last;
      goes = going_as access v p.going p.goes;
      is_next = p.is_next;
      does = on;
      after = p.after ∙ ap (λ (l : List Taken). after_steps (p.going ++ p.last ∷ l) v) none;
      trail = p.trail ∙ ap (λ (l : List Taken). v.trail ++ (p.going ++ p.last ∷ l)) none;
    }

-- the journal has grown by marks alone
abbrev pub AddsMarks : SeatView → SeatView → Type 0
AddsMarks v w = (marks : List Mark) × (w.journal ≡ v.journal ++ map (λ mark. Marked mark) marks)

both_marked : (ms ns : List Mark) → map (λ mark. Marked mark) ms ++ map (λ mark. Marked mark) ns ≡ map (λ mark. Marked mark) (ms ++ ns)
both_marked [] ns = refl
both_marked (m ∷ ms) ns = ap (λ (l : List Event). Marked m ∷ l) (both_marked ms ns)

pub adds_none : (v : SeatView) → AddsMarks v v
adds_none v = ([], sym (append-nil v.journal))

-- by marks first, and then as an answer says
adds_then : (u v w : List Event) (ms ns : List Mark) (made : List Event) → v ≡ u ++ map (λ mark. Marked mark) ms → w ≡ v ++ (map (λ mark. Marked mark) ns ++ made)
    → w ≡ u ++ (map (λ mark. Marked mark) (ms ++ ns) ++ made)
adds_then u v w ms ns made first second =
    let a : List Event = map (λ mark. Marked mark) ms in
    let b : List Event = map (λ mark. Marked mark) ns in
    second ∙ (ap (λ (l : List Event). l ++ (b ++ made)) first ∙ (append_assoc u a (b ++ made) ∙ ap (λ (l : List Event). u ++ l) (sym (append_assoc a b made) ∙ ap (λ (l : List Event). l ++ made) (both_marked ms ns))))

pub adds_more : (access : PendingAccess) (u v w : SeatView) (why : Why) → AddsMarks u v → AddsAccess access v (Pending why) w → AddsMarks u w
adds_more access u v w why a b =
    (a.0 ++ b.marks, adds_then u.journal v.journal w.journal a.0 b.marks [] a.1 b.grown ∙ ap (λ (l : List Event). u.journal ++ l) (append-nil (map (λ mark. Marked mark) (a.0 ++ b.marks))))

pub adds_last : (access : PendingAccess) (u v w : SeatView) (answer : Poll) → AddsMarks u v → AddsAccess access v answer w → AddsAccess access u answer w
adds_last access u v w answer a b = record {
  marks = a.0 ++ b.marks;
  told = b.told;
  grown = adds_then u.journal v.journal w.journal a.0 b.marks (access_made access b.told answer) a.1 b.grown;
  value = b.value;
}
