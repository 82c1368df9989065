-- A poll adds marks to its thread's journal, and then its access.
use Rattle.std.proofs.Common.{◌≡◌, ◌≢◌, ◌∙◌, ℕ, suc, Bool, true, false, List, [], ◌∷◌, ◌++◌, map, Option, Some, None, sym, refl, ap, subst, append_assoc, append-nil}
use Rattle.std.specs.Prelude.{◌==◌, nat_le, if◌then◌else◌}
use Rattle.octet_model.specs.declared.event.Mark.{Mark}
use Rattle.octet_model.specs.declared.event.Mark.TheVariants.{Join, Draw, Fence}
use Rattle.octet_model.specs.declared.event.Event.{Event}
use Rattle.octet_model.specs.declared.event.Event.TheVariants.{Marked}
use Rattle.octet_state.specs.declared.act.Act.{Act}
use Rattle.octet_state.specs.declared.act.Act.TheVariants as act
use Rattle.octet_state.specs.declared.act.Whom.TheVariants.{One}
use Rattle.octet_state.specs.declared.act.Mode.{Mode}
use Rattle.octet_state.specs.declared.act.Mode.TheVariants.{Read, Write, Update}
use Rattle.octet_state.specs.declared.phase.Phase.{Phase}
use Rattle.octet_state.specs.declared.phase.Phase.TheVariants.{Off, Idle, Want, Pass, FenceDue, Claimed, Sharing, Blocked}
use Rattle.octet_state.specs.declared.phase.Due.{Due}
use Rattle.octet_state.specs.declared.phase.Due.TheVariants.{Nothing, Glance, Answer}
use Rattle.octet_state.specs.declared.state_word.StateWord.{StateWord}
use Rattle.octet_state.specs.declared.state_word.StateWord.TheVariants.{WrEx, RdEx, RdSh, WrInt, RdInt, ShInt}
use Rattle.octet_state.specs.declared.why.Why.{Why}
use Rattle.octet_state.specs.Words.{unpacked_state, unpacked_status, packed_state}
use Rattle.octet_state.specs.Table.{decided}
use Rattle.octet_state.specs.Asking.{whom_to_ask, number_to_ask, next_to_ask, answers}
use Rattle.octet_state.specs.State.{Thread}
use Rattle.octet_state.specs.Steps.{Kind, ToAsk, ToLook, ToLoad, ToRead, ToWrite, ToBump, ToClaim, ToDraw, ToFence, ToRaise, ToShare, after, made, ended_by, moved, loaded, state_in, wins, one_done, one_asked, joined_by_share}
use Rattle.octet_state.specs.NextStep.{next_kind, kind_by_due, kind_in_phase, exchange_of, access_of, pursuit_of, waits, held_by}
use Rattle.octet_rule.specs.Views.{SeatView, Taken, stepped_by}
use Rattle.octet_heap.specs.declared.pending_access.PendingAccess.{PendingAccess}
use Rattle.octet_heap.specs.declared.poll.Poll.{Poll}
use Rattle.octet_heap.specs.declared.poll.Poll.TheVariants.{Ready, Pending}
use Rattle.octet_heap.specs.Walks.{after_steps}
use Rattle.octet_heap.specs.Polls.{answer_by, GoesBy, OwesBy}
use Rattle.octet_heap.specs.Waiting.{HasBegun}
use Rattle.octet_heap.specs.Standing.{IsAbout}
use Rattle.octet_heap.specs.Workers.{IsPoll}
use Rattle.octet_heap.specs.OwnersPath.{value_by}
use Rattle.octet_heap.specs.Growth.{access_event, access_made, AnswersValue, AddsAccess}
use Rattle.octet_heap.proofs.lemmas.Walks.{after_more}
use Rattle.octet_heap.proofs.polls.Paths.{nothing_after}

-- a phase that is about this access
abbrev pub IsFor : PendingAccess → Phase → Type 0
IsFor access Off = ⊥
IsFor access Idle = Unit {0}
IsFor access (Want object mode seen) = (object ≡ access.object) × (mode ≡ access.mode)
IsFor access (Pass object mode) = (object ≡ access.object) × (mode ≡ access.mode)
IsFor access (FenceDue object number) = (object ≡ access.object) × (Read ≡ access.mode)
IsFor access (Claimed object mode prior done asked) = (object ≡ access.object) × (mode ≡ access.mode)
IsFor access (Sharing object drawn) = (object ≡ access.object) × (Read ≡ access.mode)
IsFor access Blocked = ⊥

pub begun_for : (threads : ℕ) (access : PendingAccess) (p : Phase) → HasBegun threads access p → IsFor access p
begun_for threads access Idle h = tt
begun_for threads access (Want object mode None) h = h
begun_for threads access (Claimed object mode prior done true) h = (h.0, h.1)
begun_for threads access _ h = absurd h

-- marks are added
abbrev marked : List Mark → List Event
marked marks = map (λ mark. Marked mark) marks

abbrev AddsMarks : List Event → List Event → Type 0
AddsMarks before later = (marks : List Mark) × (later ≡ before ++ marked marks)

none_added : (j : List Event) → AddsMarks j j
none_added j = ([], sym (append-nil j))

one_added : (j : List Event) (mark : Mark) → AddsMarks j (j ++ Marked mark ∷ [])
one_added j mark = (mark ∷ [], refl)

both_marked : (ms ns : List Mark) → marked ms ++ marked ns ≡ marked (ms ++ ns)
both_marked [] ns = refl
both_marked (m ∷ ms) ns = ap (λ (l : List Event). Marked m ∷ l) (both_marked ms ns)

both_added : (i j k : List Event) → AddsMarks i j → AddsMarks j k → AddsMarks i k
both_added i j k a b = (a.0 ++ b.0, b.1 ∙ (ap (λ (l : List Event). l ++ marked b.0) a.1 ∙ (append_assoc i (marked a.0) (marked b.0) ∙ ap (λ (l : List Event). i ++ l) (both_marked a.0 b.0))))

by_test : (j : List Event) (b : Bool) (mark : Mark) → AddsMarks j (ended_by j (if b then Some (Marked mark) else None))
by_test j true mark = one_added j mark
by_test j false mark = none_added j

by_share : (j : List Event) (b : Bool) (p : Phase) → AddsMarks j (ended_by j (if b then joined_by_share p else None))
by_share j false p = none_added j
by_share j true (Want object mode (Some (RdEx owner upto))) = one_added j (Join owner upto)
by_share j true _ = none_added j

-- a step that is no access makes one mark at most
abbrev is_access : Kind → Bool
is_access ToRead = true
is_access (ToWrite value) = true
is_access (ToBump amount) = true
is_access _ = false

adds_marks : (k : Kind) (me told : ℕ) (x : Thread) (j : List Event) → is_access k ≡ false → AddsMarks j (ended_by j (made k me told x))
adds_marks (ToAsk whom) me told x j e = by_test j (unpacked_status told).blocked (Join whom (unpacked_status told).upto)
adds_marks (ToLook whom) me told x j e = by_test j (answers (unpacked_status told) me) (Join whom (unpacked_status told).upto)
adds_marks ToRead me told x j e = absurd cc
adds_marks (ToWrite value) me told x j e = absurd cc
adds_marks (ToBump amount) me told x j e = absurd cc
adds_marks ToDraw me told x j e = one_added j (Draw (suc told))
adds_marks ToFence me told x j e = one_added j (Fence told)
adds_marks ToShare me told x j e = by_share j (wins told x.phase) x.phase
adds_marks _ me told x j e = none_added j

-- a step by which the poll goes on, or by which it is pending, is no access
no_access : (k : Kind) (me told : ℕ) (x : Thread) → answer_by (waits k me told x) k told ≡ None → is_access k ≡ false
no_access ToRead me told x e = absurd cc
no_access (ToWrite value) me told x e = absurd cc
no_access (ToBump amount) me told x e = absurd cc
no_access _ me told x e = refl

abbrev pub is_ready : Option Poll → Bool
is_ready (Some (Ready value)) = true
is_ready _ = false

not_pending : (k : Kind) (me told : ℕ) (x : Thread) (why : Why) → answer_by (waits k me told x) k told ≡ Some (Pending why) → is_access k ≡ false
not_pending ToRead me told x why e = absurd (let f : true ≡ false = ap is_ready e in cc)
not_pending (ToWrite value) me told x why e = absurd (let f : true ≡ false = ap is_ready e in cc)
not_pending (ToBump amount) me told x why e = absurd (let f : true ≡ false = ap is_ready e in cc)
not_pending _ me told x why e = refl

-- only an access is ready
ready_by : (o : Option Why) (k : Kind) (word value : ℕ) → is_access k ≡ false → answer_by o k word ≡ Some (Ready value) → ⊥
ready_by (Some why) k word value e h = let f : false ≡ true = ap is_ready h in cc
ready_by None ToRead word value e h = cc
ready_by None _ word value e h = cc

exchange_no_access : (a : Act) → is_access (exchange_of a) ≡ false
exchange_no_access act.Pass = refl
exchange_no_access act.Fence = refl
exchange_no_access act.Raise = refl
exchange_no_access (act.Share from upto) = refl
exchange_no_access (act.Take whom) = refl
exchange_no_access (act.Held by) = refl

pursuit_no_access : (b asked : Bool) (whom : ℕ) → is_access (pursuit_of b asked whom) ≡ false
pursuit_no_access true asked whom = refl
pursuit_no_access false true whom = refl
pursuit_no_access false false whom = refl

-- the thread, by its parts
abbrev pub at : Phase → Due → ℕ → Thread
at p due count = record { phase = p; due = due; count = count }

abbrev pub next : ℕ → ℕ → PendingAccess → Thread → Kind
next threads me access x = next_kind threads me (ToLoad access.object access.mode) access.value x

moved_for : (access : PendingAccess) (b : Bool) (p q : Phase) (d e : Due) (x : Thread) → IsFor access p → IsFor access q → IsFor access (if b then moved p d x else moved q e x).phase
moved_for access true p q d e x h k = h
moved_for access false p q d e x h k = k

-- a load leaves the thread about its access
module _ (access : PendingAccess) (me count object : ℕ) (o : object ≡ access.object) (x : Thread) where
  load_if : (mode : Mode) (state : StateWord) (b : Bool) (a c : Act) → IsFor access (loaded a object mode state x).phase → IsFor access (loaded c object mode state x).phase
      → IsFor access (loaded (if b then a else c) object mode state x).phase
  load_if mode state true a c h k = h
  load_if mode state false a c h k = k

  load_for : (mode : Mode) (state : StateWord) → mode ≡ access.mode → IsFor access (loaded (decided state me mode count) object mode state x).phase
  load_for mode (WrEx owner) m = load_if mode (WrEx owner) (owner == me) act.Pass (act.Take (One owner)) (o, m) (o, m)
  load_for Read (RdEx owner upto) m = load_if Read (RdEx owner upto) (owner == me) act.Pass (act.Share owner upto) (o, m) (o, m)
  load_for mode (RdEx owner upto) m = load_if mode (RdEx owner upto) (owner == me) act.Raise (act.Take (One owner)) (o, m) (o, m)
  load_for Read (RdSh number) m = load_if Read (RdSh number) (nat_le number count) act.Pass act.Fence (o, m) (o, m)
  load_for _ (RdSh number) m = (o, m)
  load_for mode (WrInt by) m = (o, m)
  load_for mode (RdInt by) m = (o, m)
  load_for mode (ShInt by) m = (o, m)

-- so does an exchange
module _ (access : PendingAccess) (me told count object : ℕ) (o : object ≡ access.object) where
  abbrev wanting : Mode → StateWord → Thread
  wanting mode seen = at (Want object mode (Some seen)) Nothing count

  abbrev Exchanged : Mode → StateWord → Act → Type 0
  Exchanged mode seen a = IsFor access (after (exchange_of a) me told (wanting mode seen)).phase

  exchange_if : (mode : Mode) (seen : StateWord) (b : Bool) (a c : Act) → Exchanged mode seen a → Exchanged mode seen c → Exchanged mode seen (if b then a else c)
  exchange_if mode seen true a c h k = h
  exchange_if mode seen false a c h k = k

  module _ (mode : Mode) (seen : StateWord) (m : mode ≡ access.mode) where
    claims : IsFor access (after ToClaim me told (wanting mode seen)).phase
    claims = moved_for access (told == packed_state seen) (Claimed object mode seen 0 false) (Want object mode None) Nothing Glance (wanting mode seen) (o, m) (o, m)

    raises : IsFor access (after ToRaise me told (wanting mode seen)).phase
    raises = moved_for access (told == packed_state seen) (Pass object mode) (Want object mode None) Nothing Glance (wanting mode seen) (o, m) (o, m)

    shares : Read ≡ access.mode → IsFor access (after ToShare me told (wanting mode seen)).phase
    shares r = moved_for access (told == packed_state seen) (Sharing object None) (Want object mode None) Nothing Glance (wanting mode seen) (o, r) (o, m)

  exchange_for : (mode : Mode) (seen : StateWord) → mode ≡ access.mode → Exchanged mode seen (decided seen me mode count)
  exchange_for mode (WrEx owner) m = exchange_if mode (WrEx owner) (owner == me) act.Pass (act.Take (One owner)) (claims mode (WrEx owner) m) (claims mode (WrEx owner) m)
  exchange_for Read (RdEx owner upto) m = exchange_if Read (RdEx owner upto) (owner == me) act.Pass (act.Share owner upto) (claims Read (RdEx owner upto) m) (shares Read (RdEx owner upto) m m)
  exchange_for mode (RdEx owner upto) m = exchange_if mode (RdEx owner upto) (owner == me) act.Raise (act.Take (One owner)) (raises mode (RdEx owner upto) m) (claims mode (RdEx owner upto) m)
  exchange_for Read (RdSh number) m = exchange_if Read (RdSh number) (nat_le number count) act.Pass act.Fence (claims Read (RdSh number) m) (claims Read (RdSh number) m)
  exchange_for mode (RdSh number) m = claims mode (RdSh number) m
  exchange_for mode (WrInt by) m = claims mode (WrInt by) m
  exchange_for mode (RdInt by) m = claims mode (RdInt by) m
  exchange_for mode (ShInt by) m = claims mode (ShInt by) m

-- and asks, looks and a settle
pursuit_for : (access : PendingAccess) (me told count object : ℕ) (mode : Mode) (prior : StateWord) (done : ℕ) (asked b a : Bool) (whom : ℕ) → (object ≡ access.object) × (mode ≡ access.mode)
    → IsFor access (after (pursuit_of b a whom) me told (at (Claimed object mode prior done asked) Nothing count)).phase
pursuit_for access me told count object mode prior done asked true a whom h = h
pursuit_for access me told count object mode prior done asked false true whom h = let p = Claimed object mode prior done asked in
    moved_for access (answers (unpacked_status told) me) (one_done p) p Nothing Glance (at p Nothing count) h h
pursuit_for access me told count object mode prior done asked false false whom h = let p = Claimed object mode prior done asked in
    moved_for access (unpacked_status told).blocked (one_done p) (one_asked p) Nothing Glance (at p Nothing count) h h

-- a step by which the poll goes on leaves the thread about its access
goes_for : (access : PendingAccess) (threads me told count : ℕ) (due : Due) (p : Phase) → IsFor access p
    → answer_by (waits (next threads me access (at p due count)) me told (at p due count)) (next threads me access (at p due count)) told ≡ None
    → IsFor access (after (next threads me access (at p due count)) me told (at p due count)).phase
goes_for access threads me told count Glance p h none = h
goes_for access threads me told count Answer p h none = h
goes_for access threads me told count Nothing Off h none = absurd h
goes_for access threads me told count Nothing Blocked h none = absurd h
goes_for access threads me told count Nothing Idle h none = load_for access me count access.object refl (at Idle Nothing count) access.mode (state_in (unpacked_state told)) refl
goes_for access threads me told count Nothing (Want object mode None) h none = load_for access me count object h.0 (at (Want object mode None) Nothing count) mode (state_in (unpacked_state told)) h.1
goes_for access threads me told count Nothing (Want object mode (Some seen)) h none = exchange_for access me told count object h.0 mode seen h.1
goes_for access threads me told count Nothing (Pass object Read) h none = absurd cc
goes_for access threads me told count Nothing (Pass object Write) h none = absurd cc
goes_for access threads me told count Nothing (Pass object Update) h none = absurd cc
goes_for access threads me told count Nothing (FenceDue object number) h none = h
goes_for access threads me told count Nothing (Claimed object mode prior done asked) h none =
    pursuit_for access me told count object mode prior done asked (done == number_to_ask (whom_to_ask prior) threads) asked (next_to_ask (whom_to_ask prior) me done) h
goes_for access threads me told count Nothing (Sharing object None) h none = h
goes_for access threads me told count Nothing (Sharing object (Some number)) h none = h

-- the step that makes the access
record Makes (access : PendingAccess) (k : Kind) (me told : ℕ) (x : Thread) (value : ℕ) : Type 0 where
  pub by_access : (j : List Event) → ended_by j (made k me told x) ≡ j ++ access_made access told (Ready value)
  pub answers_value : AnswersValue access told (Ready value)
  pub owes_nothing : (after k me told x).due ≡ Nothing

abbrev value_in : Option Poll → ℕ
value_in (Some (Ready value)) = value
value_in _ = 0

made_by : (access : PendingAccess) (me told count object : ℕ) (mode : Mode) (value : ℕ) → (object ≡ access.object) × (mode ≡ access.mode)
    → made (access_of mode access.value) me told (at (Pass object mode) Nothing count) ≡ Some (access_event mode object access.value told)
    → (after (access_of mode access.value) me told (at (Pass object mode) Nothing count)).due ≡ Nothing → value ≡ value_by mode access.value told
    → Makes access (access_of mode access.value) me told (at (Pass object mode) Nothing count) value
made_by access me told count object mode value h makes owes is = record {
  by_access = λ j. ap (ended_by j) makes ∙ λ i. j ++ access_event (h.1 i) (h.0 i) access.value told ∷ [];
  answers_value = subst (λ (m : Mode). value ≡ value_by m access.value told) h.1 is;
  owes_nothing = owes;
}

makes : (access : PendingAccess) (threads me told count : ℕ) (due : Due) (p : Phase) (value : ℕ) → IsFor access p
    → answer_by (waits (next threads me access (at p due count)) me told (at p due count)) (next threads me access (at p due count)) told ≡ Some (Ready value)
    → Makes access (next threads me access (at p due count)) me told (at p due count) value
makes access threads me told count Glance p value h is = absurd cc
makes access threads me told count Answer p value h is = absurd cc
makes access threads me told count Nothing Off value h is = absurd h
makes access threads me told count Nothing Blocked value h is = absurd h
makes access threads me told count Nothing Idle value h is = absurd (ready_by (held_by (decided (state_in (unpacked_state told)) me access.mode count) told) (ToLoad access.object access.mode) told value refl is)
makes access threads me told count Nothing (Want object mode None) value h is = absurd (ready_by (held_by (decided (state_in (unpacked_state told)) me mode count) told) (ToLoad object mode) told value refl is)
makes access threads me told count Nothing (Want object mode (Some seen)) value h is =
    absurd (ready_by (waits (exchange_of (decided seen me mode count)) me told (at (Want object mode (Some seen)) Nothing count)) (exchange_of (decided seen me mode count)) told value (exchange_no_access (decided seen me mode count)) is)
makes access threads me told count Nothing (Pass object Read) value h is = made_by access me told count object Read value h refl refl (sym (ap value_in is))
makes access threads me told count Nothing (Pass object Write) value h is = made_by access me told count object Write value h refl refl (sym (ap value_in is))
makes access threads me told count Nothing (Pass object Update) value h is = made_by access me told count object Update value h refl refl (sym (ap value_in is))
makes access threads me told count Nothing (FenceDue object number) value h is = absurd cc
makes access threads me told count Nothing (Claimed object mode prior done asked) value h is =
    let k = pursuit_of (done == number_to_ask (whom_to_ask prior) threads) asked (next_to_ask (whom_to_ask prior) me done) in
    absurd (ready_by (waits k me told (at (Claimed object mode prior done asked) Nothing count)) k told value (pursuit_no_access (done == number_to_ask (whom_to_ask prior) threads) asked (next_to_ask (whom_to_ask prior) me done)) is)
makes access threads me told count Nothing (Sharing object None) value h is = absurd cc
makes access threads me told count Nothing (Sharing object (Some number)) value h is = absurd cc

-- the steps by which the poll goes on
going_adds : (access : PendingAccess) (v : SeatView) (going : List Taken) → GoesBy access v going → IsFor access v.thread.phase
    → IsFor access (after_steps going v).thread.phase × AddsMarks v.journal (after_steps going v).journal
going_adds access v [] goes h = (h, none_added v.journal)
going_adds access v (taken ∷ more) goes h =
    let none = subst (λ (k : Kind). answer_by (waits k v.number taken.word v.thread) k taken.word ≡ None) goes.0.in_order goes.1 in
    let is_for = subst (λ (k : Kind). IsFor access (after k v.number taken.word v.thread).phase) (sym goes.0.in_order) (goes_for access v.threads v.number taken.word v.thread.count v.thread.due v.thread.phase h none) in
    let u = stepped_by taken.kind taken.word v in let rest = going_adds access u more goes.2 is_for in
    (rest.0, both_added v.journal u.journal (after_steps more u).journal (adds_marks taken.kind v.number taken.word v.thread v.journal (no_access taken.kind v.number taken.word v.thread goes.1)) rest.1)

-- the safe point
paid_kind : (due : Due) (k : Kind) → due ≢ Nothing → is_access (kind_by_due due k) ≡ false
paid_kind Nothing k ne = absurd (ne refl)
paid_kind Glance k ne = refl
paid_kind Answer k ne = refl

paying_adds : (access : PendingAccess) (v : SeatView) (paid : List Taken) → OwesBy access v paid → AddsMarks v.journal (after_steps paid v).journal
paying_adds access v [] pays = none_added v.journal
paying_adds access v (taken ∷ more) pays = let u = stepped_by taken.kind taken.word v in
    let is : is_access taken.kind ≡ false = ap is_access pays.0.in_order ∙ paid_kind v.thread.due (kind_in_phase v.threads v.number v.thread.count (ToLoad access.object access.mode) access.value v.thread.phase) pays.1 in
    both_added v.journal u.journal (after_steps more u).journal (adds_marks taken.kind v.number taken.word v.thread v.journal is) (paying_adds access u more pays.2)

module _ (access : PendingAccess) (v w : SeatView) (about : IsFor access v.thread.phase) where
  adds : (answer : Poll) → IsPoll access v answer w → AddsAccess access v answer w
  adds (Pending why) p =
      let g = going_adds access v p.going p.goes about in let u = after_steps p.going v in
      let last = adds_marks p.last.kind u.number p.last.word u.thread u.journal (not_pending p.last.kind u.number p.last.word u.thread why p.answers) in
      let x = stepped_by p.last.kind p.last.word u in
      let all = both_added v.journal x.journal (after_steps p.at_safe_point x).journal (both_added v.journal u.journal x.journal g.1 last) (paying_adds access x p.at_safe_point p.pays.0) in
      let is : w.journal ≡ (after_steps p.at_safe_point x).journal = ap (λ (y : SeatView). y.journal) (p.after ∙ after_more p.going (p.last ∷ p.at_safe_point) v) in record {
        marks = all.0;
        told = 0;
        grown = is ∙ (all.1 ∙ ap (λ (l : List Event). v.journal ++ l) (sym (append-nil (marked all.0))));
        value = tt;
      }
  adds (Ready value) p =
      let g = going_adds access v p.going p.goes about in let u = after_steps p.going v in
      let answers = subst (λ (k : Kind). answer_by (waits k u.number p.last.word u.thread) k p.last.word ≡ Some (Ready value)) p.is_next.in_order p.answers in
      let m = subst (λ (k : Kind). Makes access k u.number p.last.word u.thread value) (sym p.is_next.in_order) (makes access u.threads u.number p.last.word u.thread.count u.thread.due u.thread.phase value g.0 answers) in
      let x = stepped_by p.last.kind p.last.word u in
      let none : p.at_safe_point ≡ [] = nothing_after access x p.at_safe_point p.pays m.owes_nothing in
      let is : w.journal ≡ x.journal = ap (λ (y : SeatView). y.journal) (p.after ∙ (after_more p.going (p.last ∷ p.at_safe_point) v ∙ ap (λ (l : List Taken). after_steps l x) none)) in record {
        marks = g.1.0;
        told = p.last.word;
        grown = is ∙ (m.by_access u.journal ∙ (ap (λ (l : List Event). l ++ access_made access p.last.word (Ready value)) g.1.1 ∙ append_assoc v.journal (marked g.1.0) (access_made access p.last.word (Ready value))));
        value = m.answers_value;
      }

pub poll_adds : (access : PendingAccess) (begun : Option PendingAccess) (v w : SeatView) (answer : Poll) → IsAbout v.threads begun v.thread.phase → begun ≡ Some access → IsPoll access v answer w → AddsAccess access v answer w
poll_adds access begun v w answer about is p = adds access v w (begun_for v.threads access v.thread.phase (subst (λ (o : Option PendingAccess). IsAbout v.threads o v.thread.phase) is about)) answer p

-- the thread of a seat stays its own
pub number_stays : (steps : List Taken) (v : SeatView) → (after_steps steps v).number ≡ v.number
number_stays [] v = refl
number_stays (taken ∷ more) v = number_stays more (stepped_by taken.kind taken.word v)

pub same_number : (access : PendingAccess) (v w : SeatView) (answer : Poll) → IsPoll access v answer w → w.number ≡ v.number
same_number access v w answer p = ap (λ (x : SeatView). x.number) p.after ∙ number_stays (p.going ++ p.last ∷ p.at_safe_point) v
