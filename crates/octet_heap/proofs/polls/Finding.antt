-- What a poll has found is why it is pending.
use Rattle.std.proofs.Common.{◌≡◌, ◌≢◌, ◌∙◌, ℕ, ◌⊎◌, inl, inr, ⊎_elim, Bool, true, false, List, [], ◌∷◌, ◌++◌, length, drop, Option, Some, None, IsTrue, sym, refl, ap, subst, append_assoc, append-nil}
use Rattle.std.specs.Prelude.{◌==◌, ◌||◌, not, nat_le, if◌then◌else◌}
use Rattle.std.proofs.lemmas.Bool.{eqb-true, eq-eqb, ne_eqb}
use Rattle.octet_state.specs.declared.act.Whom.TheVariants.{One}
use Rattle.octet_state.specs.declared.act.Act.{Act}
use Rattle.octet_state.specs.declared.act.Act.TheVariants as act
use Rattle.octet_state.specs.declared.act.Mode.{Mode}
use Rattle.octet_state.specs.declared.act.Mode.TheVariants.{Read, Write, Update}
use Rattle.octet_state.specs.declared.phase.Phase.{Phase}
use Rattle.octet_state.specs.declared.phase.Phase.TheVariants.{Off, Want, Pass, Claimed, Sharing, Blocked}
use Rattle.octet_state.specs.declared.phase.Due.{Due}
use Rattle.octet_state.specs.declared.phase.Due.TheVariants.{Nothing, Glance, Answer}
use Rattle.octet_state.specs.declared.state_word.StateWord.{StateWord}
use Rattle.octet_state.specs.declared.state_word.StateWord.TheVariants.{WrEx, RdEx, RdSh, WrInt, RdInt, ShInt}
use Rattle.octet_state.specs.declared.why.Why.{Why}
use Rattle.octet_state.specs.declared.why.Why.TheVariants as why
use Rattle.octet_state.specs.Words.{packed_state, packed_status, unpacked_state, unpacked_status}
use Rattle.octet_state.specs.Table.{decided, is_changed_by}
use Rattle.octet_state.specs.Asking.{answers, has_bit, whom_to_ask, number_to_ask, next_to_ask}
use Rattle.octet_state.specs.State.{Thread}
use Rattle.octet_state.specs.Steps.{Kind, ToGlance, ToAnswer, ToBlock, ToUnblock, ToAsk, ToLook, ToLoad, ToRead, ToWrite, ToBump, ToClaim, ToSettle, ToDraw, ToFence, ToRaise, ToShare, after, moved, loaded, state_in, claimed, lost, passing, target, wins, one_done, one_asked, asked_by}
use Rattle.octet_state.specs.NextStep.{kind_by_due, kind_in_phase, pursuit_of, waits, held_by, changed, word_seen}
use Rattle.octet_rule.specs.Views.{SeatView, Taken, stepped_by}
use Rattle.octet_rule.specs.Rule.{Steps}
use Rattle.octet_rule.proofs.Known.{state_found, is_not_mine}
use Rattle.octet_heap.specs.declared.pending_access.PendingAccess.{PendingAccess}
use Rattle.octet_heap.specs.declared.poll.Poll.{Poll}
use Rattle.octet_heap.specs.declared.poll.Poll.TheVariants.{Pending}
use Rattle.octet_heap.specs.Walks.{access_task, after_steps, IsNext}
use Rattle.octet_heap.specs.Polls.{answer_by, answer_to, GoesBy, OwesBy, PaysBy}
use Rattle.octet_heap.specs.Waiting.{HasBegun}
use Rattle.octet_heap.specs.Standing.{IsAbout}
use Rattle.octet_heap.specs.Workers.{IsPoll}
use Rattle.octet_heap.specs.OwnersPath.{steps_since}
use Rattle.octet_heap.specs.Causes.{state_loaded, status_met, later, last_of, IsHeld, is_exchange, IsChanged, IsNoAnswer, IsUnanswered, HasCause}
use Rattle.octet_heap.proofs.polls.Growing.{is_ready, at, next, number_stays}
use Rattle.octet_heap.proofs.polls.Paths.{dropped}

-- parts of lists and answers
abbrev first_of : Taken → List Taken → Taken
first_of none [] = none
first_of none (t ∷ more) = t

abbrev rest_of : List Taken → List Taken
rest_of [] = []
rest_of (t ∷ more) = more

abbrev poll_in : Poll → Option Poll → Poll
poll_in none (Some a) = a
poll_in none None = none

-- why a step waits, by the poll's answer
abbrev why_in : Why → Option Poll → Why
why_in none (Some (Pending why)) = why
why_in none _ = none

abbrev held_at : Why → ℕ × ℕ
held_at (why.Held by word) = (by, word)
held_at (why.Changed seen found) = (seen, found)
held_at (why.Unanswered by word) = (by, word)

waits_so : (o : Option Why) (k : Kind) (word : ℕ) (why : Why) → answer_by o k word ≡ Some (Pending why) → o ≡ Some why
waits_so (Some w) k word why e = ap (λ (o : Option Poll). Some (why_in why o)) e
waits_so None ToRead word why e = absurd (let f : true ≡ false = ap is_ready e in cc)
waits_so None (ToWrite value) word why e = absurd (let f : true ≡ false = ap is_ready e in cc)
waits_so None (ToBump amount) word why e = absurd (let f : true ≡ false = ap is_ready e in cc)
waits_so None _ word why e = absurd cc

never_waits : (o : Option Why) (k : Kind) (word : ℕ) (why : Why) → answer_by o k word ≡ None → o ≡ Some why → ⊥
never_waits (Some w) k word why none is = cc
never_waits None k word why none is = cc

if_some : (b : Bool) (w why : Why) → (if b then None else Some w) ≡ Some why → (b ≡ false) × (w ≡ why)
if_some true w why e = absurd cc
if_some false w why e = (refl, ap (λ (o : Option Why). in_some w o) e)
  where
    in_some : Why → Option Why → Why
    in_some none (Some x) = x
    in_some none None = none

-- a step that waits since the state is held
record IsHeldLoad (k : Kind) (me told : ℕ) (x : Thread) (by word : ℕ) : Type 0 where
  pub object : ℕ
  pub mode : Mode
  pub is : k ≡ ToLoad object mode
  pub decides : decided (state_in (unpacked_state told)) me mode x.count ≡ act.Held by
  pub is_word : told ≡ word

by_act : (a : Act) (told by word : ℕ) → held_by a told ≡ Some (why.Held by word) → (a ≡ act.Held by) × (told ≡ word)
by_act (act.Held b) told by word e = let w = (if_some false (why.Held b told) (why.Held by word) e).1 in (ap (λ (y : Why). act.Held (held_at y).0) w, ap (λ (y : Why). (held_at y).1) w)
by_act act.Pass told by word e = absurd cc
by_act act.Fence told by word e = absurd cc
by_act act.Raise told by word e = absurd cc
by_act (act.Share from upto) told by word e = absurd cc
by_act (act.Take whom) told by word e = absurd cc

abbrev kind_of_why : Why → ℕ
kind_of_why (why.Held by word) = 0
kind_of_why (why.Changed seen found) = 1
kind_of_why (why.Unanswered by word) = 2

differ : (v w : Why) → kind_of_why v ≢ kind_of_why w → v ≡ w → ⊥
differ v w ne e = ne (ap kind_of_why e)

held_so : (k : Kind) (me told : ℕ) (x : Thread) (by word : ℕ) → waits k me told x ≡ Some (why.Held by word) → IsHeldLoad k me told x by word
held_so (ToLoad object mode) me told x by word e = let h = by_act (decided (state_in (unpacked_state told)) me mode x.count) told by word e in record { object = object; mode = mode; is = refl; decides = h.0; is_word = h.1 }
held_so (ToAsk whom) me told x by word e = absurd (differ _ _ (λ z. cc) (if_some (unpacked_status told).blocked (why.Unanswered whom (packed_status (asked_by me (unpacked_status told)))) (why.Held by word) e).1)
held_so (ToLook whom) me told x by word e = absurd (differ _ _ (λ z. cc) (if_some (answers (unpacked_status told) me) (why.Unanswered whom told) (why.Held by word) e).1)
held_so ToClaim me told x by word e = absurd (differ _ _ (λ z. cc) (if_some (wins told x.phase) (why.Changed (word_seen x.phase) told) (why.Held by word) e).1)
held_so ToRaise me told x by word e = absurd (differ _ _ (λ z. cc) (if_some (wins told x.phase) (why.Changed (word_seen x.phase) told) (why.Held by word) e).1)
held_so ToShare me told x by word e = absurd (differ _ _ (λ z. cc) (if_some (wins told x.phase) (why.Changed (word_seen x.phase) told) (why.Held by word) e).1)
held_so _ me told x by word e = absurd cc

-- a state by which a load is held is an intermediate one, and the other way round
abbrev holder : Act → ℕ
holder (act.Held by) = by
holder _ = 0

if_not_held : (b : Bool) (a c : Act) (by : ℕ) → held_by a 0 ≡ None → held_by c 0 ≡ None → (if b then a else c) ≡ act.Held by → ⊥
if_not_held true a c by h k e = let f : None ≡ Some (why.Held by 0) = sym h ∙ ap (λ (z : Act). held_by z 0) e in cc
if_not_held false a c by h k e = let f : None ≡ Some (why.Held by 0) = sym k ∙ ap (λ (z : Act). held_by z 0) e in cc

changes_by : (state : StateWord) (me by count : ℕ) (mode : Mode) → decided state me mode count ≡ act.Held by → is_changed_by state by ≡ true
changes_by (WrInt b) me by count mode e = eq-eqb b by (ap holder e)
changes_by (RdInt b) me by count mode e = eq-eqb b by (ap holder e)
changes_by (ShInt b) me by count mode e = eq-eqb b by (ap holder e)
changes_by (WrEx owner) me by count mode e = absurd (if_not_held (owner == me) act.Pass (act.Take (One owner)) by refl refl e)
changes_by (RdEx owner upto) me by count Read e = absurd (if_not_held (owner == me) act.Pass (act.Share owner upto) by refl refl e)
changes_by (RdEx owner upto) me by count _ e = absurd (if_not_held (owner == me) act.Raise (act.Take (One owner)) by refl refl e)
changes_by (RdSh number) me by count Read e = absurd (if_not_held (nat_le number count) act.Pass act.Fence by refl refl e)
changes_by (RdSh number) me by count _ e = absurd (let f : None ≡ Some (why.Held by 0) = ap (λ (z : Act). held_by z 0) e in cc)

held_by_state : (state : StateWord) (me by count told : ℕ) (mode : Mode) → IsTrue (is_changed_by state by) → held_by (decided state me mode count) told ≡ Some (why.Held by told)
held_by_state (WrInt b) me by count told mode h = ap (λ (n : ℕ). Some (why.Held n told)) (eqb-true b by h)
held_by_state (RdInt b) me by count told mode h = ap (λ (n : ℕ). Some (why.Held n told)) (eqb-true b by h)
held_by_state (ShInt b) me by count told mode h = ap (λ (n : ℕ). Some (why.Held n told)) (eqb-true b by h)
held_by_state (WrEx owner) me by count told mode h = absurd (let f : false ≡ true = h in cc)
held_by_state (RdEx owner upto) me by count told mode h = absurd (let f : false ≡ true = h in cc)
held_by_state (RdSh number) me by count told mode h = absurd (let f : false ≡ true = h in cc)

-- a step that waits since it found another word
record IsLostExchange (k : Kind) (told : ℕ) (p : Phase) (seen found : ℕ) : Type 0 where
  pub exchanges : is_exchange k ≡ true
  pub lost : wins told p ≡ false
  pub is_seen : word_seen p ≡ seen
  pub is_found : told ≡ found

by_exchange : (k : Kind) (told : ℕ) (p : Phase) (seen found : ℕ) → is_exchange k ≡ true → changed p told ≡ Some (why.Changed seen found) → IsLostExchange k told p seen found
by_exchange k told p seen found is e = let h = if_some (wins told p) (why.Changed (word_seen p) told) (why.Changed seen found) e in
    record { exchanges = is; lost = h.0; is_seen = ap (λ (w : Why). (held_at w).0) h.1; is_found = ap (λ (w : Why). (held_at w).1) h.1 }

by_act_never : (a : Act) (told seen found : ℕ) → held_by a told ≡ Some (why.Changed seen found) → ⊥
by_act_never (act.Held b) told seen found e = differ _ _ (λ z. cc) (if_some false (why.Held b told) (why.Changed seen found) e).1
by_act_never act.Pass told seen found e = cc
by_act_never act.Fence told seen found e = cc
by_act_never act.Raise told seen found e = cc
by_act_never (act.Share from upto) told seen found e = cc
by_act_never (act.Take whom) told seen found e = cc

changed_so : (k : Kind) (me told : ℕ) (x : Thread) (seen found : ℕ) → waits k me told x ≡ Some (why.Changed seen found) → IsLostExchange k told x.phase seen found
changed_so ToClaim me told x seen found e = by_exchange ToClaim told x.phase seen found refl e
changed_so ToRaise me told x seen found e = by_exchange ToRaise told x.phase seen found refl e
changed_so ToShare me told x seen found e = by_exchange ToShare told x.phase seen found refl e
changed_so (ToLoad object mode) me told x seen found e = absurd (by_act_never (decided (state_in (unpacked_state told)) me mode x.count) told seen found e)
changed_so (ToAsk whom) me told x seen found e = absurd (differ _ _ (λ z. cc) (if_some (unpacked_status told).blocked (why.Unanswered whom (packed_status (asked_by me (unpacked_status told)))) (why.Changed seen found) e).1)
changed_so (ToLook whom) me told x seen found e = absurd (differ _ _ (λ z. cc) (if_some (answers (unpacked_status told) me) (why.Unanswered whom told) (why.Changed seen found) e).1)
changed_so _ me told x seen found e = absurd cc

-- an exchange of the state that a thread wants, which finds another word
record WantsState (p : Phase) : Type 0 where
  pub object : ℕ
  pub mode : Mode
  pub state : StateWord
  pub is : p ≡ Want object mode (Some state)

not_pursuit : (b asked : Bool) (whom : ℕ) → is_exchange (pursuit_of b asked whom) ≡ true → ⊥
not_pursuit true asked whom e = cc
not_pursuit false true whom e = cc
not_pursuit false false whom e = cc

exchange_in : (threads me count : ℕ) (access : PendingAccess) (due : Due) (p : Phase) → is_exchange (next threads me access (at p due count)) ≡ true → WantsState p
exchange_in threads me count access Glance p e = absurd cc
exchange_in threads me count access Answer p e = absurd cc
exchange_in threads me count access Nothing (Want object mode (Some state)) e = record { object = object; mode = mode; state = state; is = refl }
exchange_in threads me count access Nothing (Pass object Read) e = absurd cc
exchange_in threads me count access Nothing (Pass object Write) e = absurd cc
exchange_in threads me count access Nothing (Pass object Update) e = absurd cc
exchange_in threads me count access Nothing (Claimed object mode prior done asked) e = absurd (not_pursuit (done == number_to_ask (whom_to_ask prior) threads) asked (next_to_ask (whom_to_ask prior) me done) e)
exchange_in threads me count access Nothing (Sharing object None) e = absurd cc
exchange_in threads me count access Nothing (Sharing object (Some number)) e = absurd cc
exchange_in threads me count access Nothing _ e = absurd cc

exchange_waits : (k : Kind) (me told : ℕ) (x : Thread) → is_exchange k ≡ true → waits k me told x ≡ changed x.phase told
exchange_waits ToClaim me told x e = refl
exchange_waits ToRaise me told x e = refl
exchange_waits ToShare me told x e = refl
exchange_waits _ me told x e = absurd cc

lost_waits : (p : Phase) (told seen : ℕ) (w : WantsState p) → packed_state w.state ≡ seen → told ≢ seen → changed p told ≡ Some (why.Changed seen told)
lost_waits p told seen w is other =
    ap (λ (q : Phase). changed q told) w.is
    ∙ (ap (λ (b : Bool). if b then None else Some (why.Changed (packed_state w.state) told)) (ne_eqb told (packed_state w.state) (λ e. other (e ∙ is)))
    ∙ ap (λ (n : ℕ). Some (why.Changed n told)) is)

-- a step that waits since a thread has not answered, and the other way round
lacks : (b c : Bool) → (b || not c) ≡ false → (b ≡ false) × (c ≡ true)
lacks true c e = absurd cc
lacks false true e = (refl, refl)
lacks false false e = absurd cc

unanswered_so : (k : Kind) (me told : ℕ) (x : Thread) (by word : ℕ) → waits k me told x ≡ Some (why.Unanswered by word) → IsNoAnswer me by word k told
unanswered_so (ToAsk whom) me told x by word e = let h = if_some (unpacked_status told).blocked (why.Unanswered whom (packed_status (asked_by me (unpacked_status told)))) (why.Unanswered by word) e in
    (ap (λ (w : Why). (held_at w).0) h.1, h.0, sym (ap (λ (w : Why). (held_at w).1) h.1))
unanswered_so (ToLook whom) me told x by word e = let h = if_some (answers (unpacked_status told) me) (why.Unanswered whom told) (why.Unanswered by word) e in
    let l = lacks (unpacked_status told).blocked (has_bit (unpacked_status told) me) h.0 in
    (ap (λ (w : Why). (held_at w).0) h.1, l.0, l.1, sym (ap (λ (w : Why). (held_at w).1) h.1))
unanswered_so (ToLoad object mode) me told x by word e = absurd (by_act_neither (decided (state_in (unpacked_state told)) me mode x.count) e)
  where
    by_act_neither : (a : Act) → held_by a told ≡ Some (why.Unanswered by word) → ⊥
    by_act_neither (act.Held b) h = differ _ _ (λ z. cc) (if_some false (why.Held b told) (why.Unanswered by word) h).1
    by_act_neither act.Pass h = cc
    by_act_neither act.Fence h = cc
    by_act_neither act.Raise h = cc
    by_act_neither (act.Share from upto) h = cc
    by_act_neither (act.Take whom) h = cc
unanswered_so ToClaim me told x by word e = absurd (differ _ _ (λ z. cc) (if_some (wins told x.phase) (why.Changed (word_seen x.phase) told) (why.Unanswered by word) e).1)
unanswered_so ToRaise me told x by word e = absurd (differ _ _ (λ z. cc) (if_some (wins told x.phase) (why.Changed (word_seen x.phase) told) (why.Unanswered by word) e).1)
unanswered_so ToShare me told x by word e = absurd (differ _ _ (λ z. cc) (if_some (wins told x.phase) (why.Changed (word_seen x.phase) told) (why.Unanswered by word) e).1)
unanswered_so _ me told x by word e = absurd cc

no_answer_waits : (k : Kind) (me told : ℕ) (x : Thread) (by word : ℕ) → IsNoAnswer me by word k told → waits k me told x ≡ Some (why.Unanswered by word)
no_answer_waits (ToAsk whom) me told x by word h =
    ap (λ (b : Bool). if b then None else Some (why.Unanswered whom (packed_status (asked_by me (unpacked_status told))))) h.1 ∙ λ i. Some (why.Unanswered (h.0 i) (sym h.2 i))
no_answer_waits (ToLook whom) me told x by word h =
    (λ i. if h.1 i || not (h.2 i) then None else Some (why.Unanswered whom told)) ∙ λ i. Some (why.Unanswered (h.0 i) (sym h.3 i))
no_answer_waits _ me told x by word h = absurd h

met_so : (k : Kind) (me told by word : ℕ) → IsNoAnswer me by word k told → status_met k told ≡ Some (record { kind = k; word = told })
met_so (ToAsk whom) me told by word h = refl
met_so (ToLook whom) me told by word h = refl
met_so _ me told by word h = absurd h

-- the step that a meeting is
met_back : (k : Kind) (word : ℕ) (taken : Taken) → status_met k word ≡ Some taken → (k ≡ taken.kind) × (word ≡ taken.word)
met_back (ToAsk whom) word taken e = (ap (λ (o : Option Taken). (in_some o).kind) e, ap (λ (o : Option Taken). (in_some o).word) e)
  where
    in_some : Option Taken → Taken
    in_some (Some t) = t
    in_some None = record { kind = ToAsk whom; word = word }
met_back (ToLook whom) word taken e = (ap (λ (o : Option Taken). (in_some o).kind) e, ap (λ (o : Option Taken). (in_some o).word) e)
  where
    in_some : Option Taken → Taken
    in_some (Some t) = t
    in_some None = record { kind = ToLook whom; word = word }
met_back _ word taken e = absurd cc

loaded_back : (k : Kind) (word n : ℕ) → state_loaded k word ≡ Some n → (object : ℕ) × (mode : Mode) × (k ≡ ToLoad object mode) × (word ≡ n)
loaded_back (ToLoad object mode) word n e = (object, mode, refl, ap (λ (o : Option ℕ). in_some o) e)
  where
    in_some : Option ℕ → ℕ
    in_some (Some m) = m
    in_some None = 0
loaded_back _ word n e = absurd cc

-- the last of a list in two parts
later_none : {A : Type 0} (x : Option A) → later x None ≡ x
later_none (Some a) = refl
later_none None = refl

later_more : {A : Type 0} (x y z : Option A) → later x (later y z) ≡ later (later x y) z
later_more (Some a) y z = refl
later_more None y z = refl

last_more : {A : Type 0} (f : Kind → ℕ → Option A) (xs ys : List Taken) → last_of f (xs ++ ys) ≡ later (last_of f ys) (last_of f xs)
last_more f [] ys = sym (later_none (last_of f ys))
last_more f (x ∷ xs) ys = ap (λ (o : Option _). later o (f x.kind x.word)) (last_more f xs ys) ∙ sym (later_more (last_of f ys) (last_of f xs) (f x.kind x.word))

split_later : {A : Type 0} (x y : Option A) (a : A) → later x y ≡ Some a → (x ≡ Some a) ⊎ ((x ≡ None) × (y ≡ Some a))
split_later (Some b) y a e = inl e
split_later None y a e = inr (refl, e)

-- the steps at a safe point are on the thread's own status
own_kind : {A : Type 0} (f : Kind → ℕ → Option A) (due : Due) (k : Kind) (word : ℕ) → f ToGlance word ≡ None → f ToAnswer word ≡ None → due ≢ Nothing → f (kind_by_due due k) word ≡ None
own_kind f Nothing k word g h ne = absurd (ne refl)
own_kind f Glance k word g h ne = g
own_kind f Answer k word g h ne = h

paid_none : {A : Type 0} (f : Kind → ℕ → Option A) → ((word : ℕ) → f ToGlance word ≡ None) → ((word : ℕ) → f ToAnswer word ≡ None)
    → (access : PendingAccess) (v : SeatView) (paid : List Taken) → OwesBy access v paid → last_of f paid ≡ None
paid_none f g h access v [] pays = refl
paid_none f g h access v (t ∷ more) pays =
    ap (λ (o : Option _). later o (f t.kind t.word)) (paid_none f g h access (stepped_by t.kind t.word v) more pays.2)
    ∙ (ap (λ (k : Kind). f k t.word) pays.0.in_order
    ∙ own_kind f v.thread.due (kind_in_phase v.threads v.number v.thread.count (ToLoad access.object access.mode) access.value v.thread.phase) t.word (g t.word) (h t.word) pays.1)

paid_exchange : (due : Due) (k : Kind) → due ≢ Nothing → is_exchange (kind_by_due due k) ≡ false
paid_exchange Nothing k ne = absurd (ne refl)
paid_exchange Glance k ne = refl
paid_exchange Answer k ne = refl

no_exchange : (access : PendingAccess) (v : SeatView) (paid before after : List Taken) (x : Taken) → OwesBy access v paid → paid ≡ before ++ x ∷ after → is_exchange x.kind ≡ true → ⊥
no_exchange access v [] [] after x pays are is = absurd cc
no_exchange access v [] (b ∷ before) after x pays are is = absurd cc
no_exchange access v (t ∷ more) [] after x pays are is =
    let e : is_exchange t.kind ≡ false = ap is_exchange pays.0.in_order ∙ paid_exchange v.thread.due (kind_in_phase v.threads v.number v.thread.count (ToLoad access.object access.mode) access.value v.thread.phase) pays.1 in
    let f : is_exchange x.kind ≡ false = ap (λ (l : List Taken). is_exchange (first_of t l).kind) (sym are) ∙ e in cc
no_exchange access v (t ∷ more) (b ∷ before) after x pays are is = no_exchange access (stepped_by t.kind t.word v) more before after x pays.2 (ap rest_of are) is

-- what the thread holds is what it has loaded
abbrev Sees : List Taken → Phase → Type 0
Sees steps (Want object mode (Some state)) = last_of state_loaded steps ≡ Some (packed_state state)
Sees steps _ = Unit {0}

sees_same : (steps more : List Taken) (p : Phase) → last_of state_loaded more ≡ last_of state_loaded steps → Sees steps p → Sees more p
sees_same steps more (Want object mode (Some state)) same h = same ∙ h
sees_same steps more _ same h = tt

sees_done : (steps : List Taken) (p : Phase) → Sees steps p → Sees steps (one_done p)
sees_done steps (Claimed object mode prior done asked) h = tt
sees_done steps _ h = h

sees_asked : (steps : List Taken) (p : Phase) → Sees steps p → Sees steps (one_asked p)
sees_asked steps (Claimed object mode prior done asked) h = tt
sees_asked steps _ h = h

sees_lost : (steps : List Taken) (p : Phase) → Sees steps p → Sees steps (lost p)
sees_lost steps (Want object mode seen) h = tt
sees_lost steps _ h = h

sees_claimed : (steps : List Taken) (p : Phase) → Sees steps p → Sees steps (claimed p)
sees_claimed steps (Want object mode (Some seen)) h = tt
sees_claimed steps _ h = h

sees_if : (steps : List Taken) (b : Bool) (p q : Phase) (d e : Due) (x : Thread) → Sees steps p → Sees steps q → Sees steps (if b then moved p d x else moved q e x).phase
sees_if steps true p q d e x h k = h
sees_if steps false p q d e x h k = k

sees_load : (steps : List Taken) (a : Act) (object : ℕ) (mode : Mode) (state : StateWord) (x : Thread) → last_of state_loaded steps ≡ Some (packed_state state) → Sees steps (loaded a object mode state x).phase
sees_load steps act.Pass object mode state x h = tt
sees_load steps act.Fence object mode state x h = tt
sees_load steps act.Raise object mode state x h = h
sees_load steps (act.Share from upto) object mode state x h = h
sees_load steps (act.Take whom) object mode state x h = h
sees_load steps (act.Held by) object mode state x h = tt

sees_ended : (steps : List Taken) (ends : Bool) → Sees steps (if ends then Off else Blocked)
sees_ended steps true = tt
sees_ended steps false = tt

-- so it stays by each step
module _ (steps more : List Taken) (me told : ℕ) (x : Thread) (h : Sees steps x.phase) where
  sees_by : (k : Kind) → last_of state_loaded more ≡ later (state_loaded k told) (last_of state_loaded steps)
      → ((object : ℕ) (mode : Mode) → k ≡ ToLoad object mode → packed_state (state_in (unpacked_state told)) ≡ told) → Sees more (after k me told x).phase
  sees_by (ToLoad object mode) last packs = sees_load more (decided (state_in (unpacked_state told)) me mode x.count) object mode (state_in (unpacked_state told)) x (last ∙ ap (λ (n : ℕ). Some n) (sym (packs object mode refl)))
  sees_by ToGlance last packs = sees_same steps more x.phase last h
  sees_by ToAnswer last packs = sees_same steps more x.phase last h
  sees_by (ToBlock ends) last packs = sees_ended more ends
  sees_by ToUnblock last packs = tt
  sees_by (ToAsk whom) last packs = let s = sees_same steps more x.phase last h in sees_if more (unpacked_status told).blocked (one_done x.phase) (one_asked x.phase) Nothing Glance x (sees_done more x.phase s) (sees_asked more x.phase s)
  sees_by (ToLook whom) last packs = let s = sees_same steps more x.phase last h in sees_if more (answers (unpacked_status told) me) (one_done x.phase) x.phase Nothing Glance x (sees_done more x.phase s) s
  sees_by ToRead last packs = tt
  sees_by (ToWrite value) last packs = tt
  sees_by (ToBump amount) last packs = tt
  sees_by ToClaim last packs = let s = sees_same steps more x.phase last h in sees_if more (wins told x.phase) (claimed x.phase) (lost x.phase) Nothing Glance x (sees_claimed more x.phase s) (sees_lost more x.phase s)
  sees_by ToSettle last packs = tt
  sees_by ToDraw last packs = tt
  sees_by ToFence last packs = tt
  sees_by ToRaise last packs = let s = sees_same steps more x.phase last h in sees_if more (wins told x.phase) (passing x.phase) (lost x.phase) Nothing Glance x tt (sees_lost more x.phase s)
  sees_by ToShare last packs = let s = sees_same steps more x.phase last h in sees_if more (wins told x.phase) (Sharing (target x.phase) None) (lost x.phase) Nothing Glance x tt (sees_lost more x.phase s)

-- the word that a load finds is that of its state
packs_load : (k : Kind) (v : SeatView) (told : ℕ) (w : SeatView) → Steps k v told w → (object : ℕ) (mode : Mode) → k ≡ ToLoad object mode → packed_state (state_in (unpacked_state told)) ≡ told
packs_load k v told w took object mode is = let load = subst (λ (z : Kind). Steps z v told w) is took in
    ap (λ (o : Option StateWord). packed_state (state_in o)) (state_found object mode v told w load) ∙ sym load.word

module _ (access : PendingAccess) where
  sees_next : (steps : List Taken) (v : SeatView) (t : Taken) → IsNext (access_task access) v t → Sees steps v.thread.phase → Sees (steps ++ t ∷ []) (stepped_by t.kind t.word v).thread.phase
  sees_next steps v t is h = sees_by steps (steps ++ t ∷ []) v.number t.word v.thread h t.kind (last_more state_loaded steps (t ∷ [])) (packs_load t.kind v t.word (stepped_by t.kind t.word v) is.took)

  sees_going : (steps going : List Taken) (v : SeatView) → GoesBy access v going → Sees steps v.thread.phase → Sees (steps ++ going) (after_steps going v).thread.phase
  sees_going steps [] v goes h = subst (λ (l : List Taken). Sees l v.thread.phase) (sym (append-nil steps)) h
  sees_going steps (t ∷ more) v goes h = let u = stepped_by t.kind t.word v in
      subst (λ (l : List Taken). Sees l (after_steps more u).thread.phase) (append_assoc steps (t ∷ []) more) (sees_going (steps ++ t ∷ []) more u goes.2 (sees_next steps v t goes.0 h))

  -- a step that would wait is not one by which the poll goes on
  goes_unheld : (v : SeatView) (going : List Taken) (by word : ℕ) → GoesBy access v going → last_of state_loaded going ≡ Some word → IsTrue (is_changed_by (state_in (unpacked_state word)) by) → ⊥
  goes_unheld v [] by word goes last changes = cc
  goes_unheld v (t ∷ more) by word goes last changes = ⊎_elim
      (λ (e : last_of state_loaded more ≡ Some word). goes_unheld (stepped_by t.kind t.word v) more by word goes.2 e changes)
      (λ e. let l = loaded_back t.kind t.word word e.1 in
      never_waits (waits t.kind v.number t.word v.thread) t.kind t.word (why.Held by word) goes.1
      (ap (λ (k : Kind). waits k v.number t.word v.thread) l.2 ∙ (ap (λ (n : ℕ). waits (ToLoad l.0 l.1) v.number n v.thread) l.3
      ∙ held_by_state (state_in (unpacked_state word)) v.number by v.thread.count word l.1 changes)))
      (split_later (last_of state_loaded more) (state_loaded t.kind t.word) word last)

  goes_answered : (v : SeatView) (going : List Taken) (by word : ℕ) (last : Taken) → GoesBy access v going → last_of status_met going ≡ Some last → IsNoAnswer v.number by word last.kind last.word → ⊥
  goes_answered v [] by word last goes is no_answer = cc
  goes_answered v (t ∷ more) by word last goes is no_answer = ⊎_elim
      (λ (e : last_of status_met more ≡ Some last). goes_answered (stepped_by t.kind t.word v) more by word last goes.2 e no_answer)
      (λ e. let l = met_back t.kind t.word last e.1 in
      never_waits (waits t.kind v.number t.word v.thread) t.kind t.word (why.Unanswered by word) goes.1
      (no_answer_waits t.kind v.number t.word v.thread by word (subst (λ (z : Kind × ℕ). IsNoAnswer v.number by word z.0 z.1) (λ i. (sym l.0 i, sym l.1 i)) no_answer)))
      (split_later (last_of status_met more) (status_met t.kind t.word) last is)

  -- an exchange in its order that finds another word than was loaded waits
  exchange_is_lost : (v : SeatView) (steps : List Taken) (t : Taken) (seen : ℕ) → IsNext (access_task access) v t → Sees steps v.thread.phase → is_exchange t.kind ≡ true → last_of state_loaded steps ≡ Some seen → t.word ≢ seen
      → waits t.kind v.number t.word v.thread ≡ Some (why.Changed seen t.word)
  exchange_is_lost v steps t seen is h exchanges last other =
      let want = exchange_in v.threads v.number v.thread.count access v.thread.due v.thread.phase (ap is_exchange (sym is.in_order) ∙ exchanges) in
      let holds : last_of state_loaded steps ≡ Some (packed_state want.state) = subst (Sees steps) want.is h in
      exchange_waits t.kind v.number t.word v.thread exchanges ∙ lost_waits v.thread.phase t.word seen want (in_some (sym holds ∙ last)) other
    where
      in_some : {n m : ℕ} → Some n ≡ Some m → n ≡ m
      in_some {n} e = ap (λ (o : Option ℕ). later_or n o) e
        where
          later_or : ℕ → Option ℕ → ℕ
          later_or none (Some z) = z
          later_or none None = none

  -- among the steps of a poll only the last one is such an exchange
  changed_last : (v : SeatView) (steps going : List Taken) (last : Taken) (paid before after : List Taken) (x : Taken) (seen : ℕ) (answer : Poll)
      → GoesBy access v going → Sees steps v.thread.phase → IsNext (access_task access) (after_steps going v) last → answer_to (after_steps going v) last ≡ Some answer
      → PaysBy access (stepped_by last.kind last.word (after_steps going v)) paid
      → going ++ last ∷ paid ≡ before ++ x ∷ after → is_exchange x.kind ≡ true → last_of state_loaded (steps ++ before) ≡ Some seen → x.word ≢ seen → answer ≡ Pending (why.Changed seen x.word)
  changed_last v steps [] last paid [] after x seen answer goes h is answers pays are exchanges loads other =
      let same : last ≡ x = ap (first_of last) are in
      let lost = exchange_is_lost v steps last seen is h (ap (λ (t : Taken). is_exchange t.kind) same ∙ exchanges) (ap (last_of state_loaded) (sym (append-nil steps)) ∙ loads) (λ e. other (ap (λ (t : Taken). t.word) (sym same) ∙ e)) in
      ap (poll_in answer) (sym answers ∙ ap (λ (o : Option Why). answer_by o last.kind last.word) lost) ∙ ap (λ (t : Taken). Pending (why.Changed seen t.word)) same
  changed_last v steps [] last paid (b ∷ before) after x seen answer goes h is answers pays are exchanges loads other =
      absurd (no_exchange access (stepped_by last.kind last.word v) paid before after x pays.0 (ap rest_of are) exchanges)
  changed_last v steps (t ∷ going) last paid [] after x seen answer goes h is answers pays are exchanges loads other =
      let same : t ≡ x = ap (first_of t) are in
      let lost = exchange_is_lost v steps t seen goes.0 h (ap (λ (z : Taken). is_exchange z.kind) same ∙ exchanges) (ap (last_of state_loaded) (sym (append-nil steps)) ∙ loads) (λ e. other (ap (λ (z : Taken). z.word) (sym same) ∙ e)) in
      absurd (never_waits (waits t.kind v.number t.word v.thread) t.kind t.word (why.Changed seen t.word) goes.1 lost)
  changed_last v steps (t ∷ going) last paid (b ∷ before) after x seen answer goes h is answers pays are exchanges loads other =
      let same : t ≡ b = ap (first_of t) are in let u = stepped_by t.kind t.word v in
      changed_last u (steps ++ t ∷ []) going last paid before after x seen answer goes.2 (sees_next steps v t goes.0 h) is answers pays (ap rest_of are) exchanges
      (ap (last_of state_loaded) (append_assoc steps (t ∷ []) before ∙ ap (λ (z : Taken). steps ++ z ∷ before) same) ∙ loads) other

-- at first the thread holds no state
begins_unseen : (threads : ℕ) (access : PendingAccess) (p : Phase) → HasBegun threads access p → Sees [] p
begins_unseen threads access (Want object mode (Some seen)) h = absurd h
begins_unseen threads access _ h = tt

module _ (access : PendingAccess) (v w : SeatView) (answer : Poll) (begins : Sees [] v.thread.phase) (p : IsPoll access v answer w) where
  abbrev u : SeatView
  u = after_steps p.going v

  abbrev all : List Taken
  all = p.going ++ p.last ∷ p.at_safe_point

  same : u.number ≡ v.number
  same = number_stays p.going v

  waits_by : (why : Why) → answer ≡ Pending why → waits p.last.kind u.number p.last.word u.thread ≡ Some why
  waits_by why is = waits_so (waits p.last.kind u.number p.last.word u.thread) p.last.kind p.last.word why (p.answers ∙ ap (λ (a : Poll). Some a) is)

  answers_by : (why : Why) → waits p.last.kind u.number p.last.word u.thread ≡ Some why → answer ≡ Pending why
  answers_by why is = ap (poll_in answer) (sym p.answers ∙ ap (λ (o : Option Why). answer_by o p.last.kind p.last.word) is)

  last_in : {A : Type 0} (f : Kind → ℕ → Option A) → ((word : ℕ) → f ToGlance word ≡ None) → ((word : ℕ) → f ToAnswer word ≡ None) → last_of f all ≡ later (f p.last.kind p.last.word) (last_of f p.going)
  last_in f g h = last_more f p.going (p.last ∷ p.at_safe_point)
      ∙ ap (λ (o : Option _). later (later o (f p.last.kind p.last.word)) (last_of f p.going)) (paid_none f g h access (stepped_by p.last.kind p.last.word u) p.at_safe_point p.pays.0)

  held : (by word : ℕ) → answer ≡ Pending (why.Held by word) → IsHeld v.number all by word
  held by word is = let h = held_so p.last.kind u.number p.last.word u.thread by word (waits_by (why.Held by word) is) in
      let x = stepped_by p.last.kind p.last.word u in
      let changes : is_changed_by (state_in (unpacked_state p.last.word)) by ≡ true = changes_by (state_in (unpacked_state p.last.word)) u.number by u.thread.count h.mode h.decides in
      let foreign = is_not_mine h.object h.mode u p.last.word x (subst (λ (k : Kind). Steps k u p.last.word x) h.is p.is_next.took) in record {
        last = last_in state_loaded (λ n. refl) (λ n. refl) ∙ (ap (λ (k : Kind). later (state_loaded k p.last.word) (last_of state_loaded p.going)) h.is ∙ ap (λ (n : ℕ). Some n) h.is_word);
        changes = subst (λ (n : ℕ). IsTrue (is_changed_by (state_in (unpacked_state n)) by)) h.is_word changes;
        other = λ e. let f : is_changed_by (state_in (unpacked_state p.last.word)) u.number ≡ true = ap (is_changed_by (state_in (unpacked_state p.last.word))) (same ∙ sym e) ∙ changes in
            let g : is_changed_by (state_in (unpacked_state p.last.word)) u.number ≡ false = foreign in cc;
      }

  by_held : (by word : ℕ) → IsHeld v.number all by word → answer ≡ Pending (why.Held by word)
  by_held by word h = ⊎_elim
      (λ (e : state_loaded p.last.kind p.last.word ≡ Some word). let l = loaded_back p.last.kind p.last.word word e in
      answers_by (why.Held by word) (ap (λ (k : Kind). waits k u.number p.last.word u.thread) l.2 ∙ (ap (λ (n : ℕ). waits (ToLoad l.0 l.1) u.number n u.thread) l.3
      ∙ held_by_state (state_in (unpacked_state word)) u.number by u.thread.count word l.1 h.changes)))
      (λ e. absurd (goes_unheld access v p.going by word p.goes e.1 h.changes))
      (split_later (state_loaded p.last.kind p.last.word) (last_of state_loaded p.going) word (sym (last_in state_loaded (λ n. refl) (λ n. refl)) ∙ h.last))

  unanswered : (by word : ℕ) → answer ≡ Pending (why.Unanswered by word) → IsUnanswered v.number all by word
  unanswered by word is =
      let h = subst (λ (me : ℕ). IsNoAnswer me by word p.last.kind p.last.word) same (unanswered_so p.last.kind u.number p.last.word u.thread by word (waits_by (why.Unanswered by word) is)) in record {
        last = p.last;
        is_last = last_in status_met (λ n. refl) (λ n. refl) ∙ ap (λ (o : Option Taken). later o (last_of status_met p.going)) (met_so p.last.kind v.number p.last.word by word h);
        no_answer = h;
      }

  by_unanswered : (by word : ℕ) → IsUnanswered v.number all by word → answer ≡ Pending (why.Unanswered by word)
  by_unanswered by word h = ⊎_elim
      (λ (e : status_met p.last.kind p.last.word ≡ Some h.last). let l = met_back p.last.kind p.last.word h.last e in
      answers_by (why.Unanswered by word) (no_answer_waits p.last.kind u.number p.last.word u.thread by word
      (subst (λ (me : ℕ). IsNoAnswer me by word p.last.kind p.last.word) (sym same) (subst (λ (z : Kind × ℕ). IsNoAnswer v.number by word z.0 z.1) (λ i. (sym l.0 i, sym l.1 i)) h.no_answer))))
      (λ e. absurd (goes_answered access v p.going by word h.last p.goes e.1 h.no_answer))
      (split_later (status_met p.last.kind p.last.word) (last_of status_met p.going) h.last (sym (last_in status_met (λ n. refl) (λ n. refl)) ∙ h.is_last))

  change : (seen found : ℕ) → answer ≡ Pending (why.Changed seen found) → IsChanged all seen found
  change seen found is = let h = changed_so p.last.kind u.number p.last.word u.thread seen found (waits_by (why.Changed seen found) is) in
      let want = exchange_in u.threads u.number u.thread.count access u.thread.due u.thread.phase (ap is_exchange (sym p.is_next.in_order) ∙ h.exchanges) in
      let holds : last_of state_loaded p.going ≡ Some (packed_state want.state) = subst (Sees p.going) want.is (sees_going access [] p.going v p.goes begins) in
      let is_seen : packed_state want.state ≡ seen = sym (ap word_seen want.is) ∙ h.is_seen in record {
        before = p.going;
        exchange = p.last.kind;
        after = p.at_safe_point;
        are = ap (λ (n : ℕ). p.going ++ record { kind = p.last.kind; word = n } ∷ p.at_safe_point) h.is_found;
        exchanges = h.exchanges;
        had_loaded = holds ∙ ap (λ (n : ℕ). Some n) is_seen;
        differs = λ e. let f : wins p.last.word u.thread.phase ≡ true = ap (wins p.last.word) want.is ∙ eq-eqb p.last.word (packed_state want.state) (h.is_found ∙ (e ∙ sym is_seen)) in let g = h.lost in cc;
      }

  by_change : (seen found : ℕ) → IsChanged all seen found → answer ≡ Pending (why.Changed seen found)
  by_change seen found h = changed_last access v [] p.going p.last p.at_safe_point h.before h.after (record { kind = h.exchange; word = found }) seen answer p.goes begins p.is_next p.answers p.pays h.are h.exchanges h.had_loaded h.differs

  since : steps_since v w ≡ all
  since = ap (λ (l : List Taken). drop (length v.trail) l) p.trail ∙ dropped v.trail all

  has_cause : HasCause v.number (steps_since v w) answer
  has_cause = subst (λ (l : List Taken). HasCause v.number l answer) (sym since)
      (record { held = held; changed = change; unanswered = unanswered; by_held = by_held; by_changed = by_change; by_unanswered = by_unanswered })

pub poll_has_cause : (access : PendingAccess) (begun : Option PendingAccess) (v w : SeatView) (answer : Poll) → IsAbout v.threads begun v.thread.phase → begun ≡ Some access → IsPoll access v answer w → HasCause v.number (steps_since v w) answer
poll_has_cause access begun v w answer about is p = has_cause access v w answer (begins_unseen v.threads access v.thread.phase (subst (λ (o : Option PendingAccess). IsAbout v.threads o v.thread.phase) is about)) p
