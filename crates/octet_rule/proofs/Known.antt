-- What a seat's calls know by the steps that they take.
use Rattle.std.proofs.Common.{◌≡◌, ◌≢◌, ℕ, ◌+◌, ◌*◌, ◌^◌, ◌<◌, ◌≤◌, ⊎_elim, Bool, true, false, List, [], ◌∷◌, length, Option, Some, None, sym, refl, ap, ◌∙◌, subst, arith, length-append, eq-eqb}
use Rattle.std.specs.Prelude.{IsFalse, IsTrue, ◌%◌, ◌==◌, nat_le, if◌then◌else◌}
use Rattle.octet_model.specs.declared.event.Mark.TheVariants.{Join}
use Rattle.octet_model.specs.declared.event.Event.{Event}
use Rattle.octet_model.specs.declared.event.Event.TheVariants.{Marked}
use Rattle.octet_state.specs.declared.act.Act.{Act}
use Rattle.octet_state.specs.declared.act.Act.TheVariants.{Pass, Fence, Take}
use Rattle.octet_state.specs.declared.act.Whom.TheVariants.{One}
use Rattle.octet_state.specs.declared.act.Mode.{Mode}
use Rattle.octet_state.specs.declared.act.Mode.TheVariants.{Read, Write, Update}
use Rattle.octet_state.specs.declared.phase.Phase.{Phase}
use Rattle.octet_state.specs.declared.phase.Phase.TheVariants.{Off, Idle, Want, Pass, FenceDue, Claimed, Sharing, Blocked}
use Rattle.octet_state.specs.declared.state_word.StateWord.{StateWord}
use Rattle.octet_state.specs.declared.state_word.StateWord.TheVariants.{WrEx, RdEx, RdSh, WrInt, RdInt, ShInt}
use Rattle.octet_state.specs.Words.{packed_state, unpacked_state, FitsStateWord, unpacked_status}
use Rattle.octet_state.specs.declared.phase.Due.TheVariants.{Nothing, Glance}
use Rattle.octet_state.specs.Table.{is_changed_by, decided}
use Rattle.octet_state.specs.Asking.{answers}
use Rattle.octet_state.specs.State.{ProtocolState, state_of}
use Rattle.octet_state.specs.Intermediate.{change_of, change_by}
use Rattle.octet_state.specs.Steps.{Kind, made, ended_by, ToAsk, ToLook, ToLoad, ToClaim, ToDraw, ToShare, state_in, settling, target, moved, loaded, mode_of, wins, claimed, lost, joined_by_share, one_done, one_asked, drawn_of, step}
use Rattle.std.proofs.lemmas.Nat.{pow_below}
use Rattle.std.proofs.lemmas.Bool.{ne_eqb}
use Rattle.octet_state.proofs.lemmas.Packing.{state_back}
use Rattle.octet_state.proofs.lemmas.Widths.{few_events, state_fits}
use Rattle.octet_state.proofs.lemmas.Laws.{counter_is_small}
use Rattle.octet_rule.specs.Views.{SeatView}
use Rattle.octet_rule.specs.Rule.{IsSeenBy, Steps}
use Rattle.octet_rule.specs.Conditions.{HoldsWord, state_seen, decision, is_share}
use Rattle.octet_rule.proofs.Allowed.{holding}

-- a journal has at most so many events
pub few_seen : (v : SeatView) (s : ProtocolState) → IsSeenBy v s → length v.journal ≤ 70368744177679
few_seen v s seen = subst (λ (l : List Event). length l ≤ 70368744177679) seen.has_made (few_events s v.number seen.sound)

pub few_after : (k : Kind) (v : SeatView) (told : ℕ) (w : SeatView) → Steps k v told w → length w.journal ≤ 70368744177679
few_after k v told w took = few_seen w (step k v.number took.before) took.seen_after

-- and the counter stands at most at so many
pub few_drawn : (v : SeatView) (told : ℕ) (w : SeatView) → Steps ToDraw v told w → told ≤ 70368744177664
few_drawn v told w took = subst (λ (n : ℕ). n ≤ 70368744177664) (sym took.word) (counter_is_small took.before took.seen.sound)

-- the word that a load finds is that of a state, which the thread is not changing itself
pub state_found : (object : ℕ) (mode : Mode) (v : SeatView) (told : ℕ) (w : SeatView) (took : Steps (ToLoad object mode) v told w) → unpacked_state told ≡ Some (state_of took.before object)
state_found object mode v told w took = let s = took.before in ap unpacked_state took.word ∙ state_back (state_of s object) (state_fits s object took.seen.sound)

pub is_packed : (object : ℕ) (mode : Mode) (v : SeatView) (told : ℕ) (w : SeatView) → Steps (ToLoad object mode) v told w → unpacked_state told ≡ Some (state_in (unpacked_state told))
is_packed object mode v told w took = let e = state_found object mode v told w took in e ∙ ap (λ (o : Option StateWord). Some (state_in o)) (sym e)

unchanged : (state : StateWord) (me : ℕ) → change_of state me ≡ None → IsFalse (is_changed_by state me)
unchanged state me h = by (is_changed_by state me) h
  where
    by : (b : Bool) → (if b then Some state else None) ≡ None → IsFalse b
    by false e = refl
    by true e = absurd cc

pub is_not_mine : (object : ℕ) (mode : Mode) (v : SeatView) (told : ℕ) (w : SeatView) → Steps (ToLoad object mode) v told w → IsFalse (is_changed_by (state_in (unpacked_state told)) v.number)
is_not_mine object mode v told w took = let s = took.before in
    subst (λ (o : Option StateWord). IsFalse (is_changed_by (state_in o) v.number)) (sym (state_found object mode v told w took))
    (unchanged (state_of s object) v.number (took.seen.sound.intermediate v.number object
    ∙ ⊎_elim (λ idle. ap (λ (p : Phase). change_by p v.number object) idle.0) (λ want. ap (λ (p : Phase). change_by p v.number object) want.1) took.may.2))

-- what a thread settles fits into a word
pub settled_fits : (me events : ℕ) (p : Phase) → me < 16 → events < 2 ^ 48 → drawn_of p < 2 ^ 48 → FitsStateWord (settling me events p)
settled_fits me events (Sharing object (Some number)) h k fits = fits
settled_fits me events (Sharing object None) h k fits = (h, k)
settled_fits me events (Want object Read seen) h k fits = (h, k)
settled_fits me events (Want object Write seen) h k fits = h
settled_fits me events (Want object Update seen) h k fits = h
settled_fits me events (Pass object Read) h k fits = (h, k)
settled_fits me events (Pass object Write) h k fits = h
settled_fits me events (Pass object Update) h k fits = h
settled_fits me events (Claimed object Read prior done asked) h k fits = (h, k)
settled_fits me events (Claimed object Write prior done asked) h k fits = h
settled_fits me events (Claimed object Update prior done asked) h k fits = h
settled_fits me events Off h k fits = (h, k)
settled_fits me events Idle h k fits = (h, k)
settled_fits me events (FenceDue object number) h k fits = (h, k)
settled_fits me events Blocked h k fits = (h, k)

-- a step that makes an event makes the journal longer by one
pub grows : (k : Kind) (v : SeatView) (told : ℕ) (w : SeatView) (event : Event) → Steps k v told w → made k v.number told v.thread ≡ Some event → length w.journal ≡ length v.journal + 1
grows k v told w event took makes = ap (λ (x : SeatView). length x.journal) took.moves ∙ (ap (λ (o : Option Event). length (ended_by v.journal o)) makes ∙ length-append v.journal (event ∷ []))

-- a step that makes none leaves it as it is
pub stays : (k : Kind) (v : SeatView) (told : ℕ) (w : SeatView) → Steps k v told w → made k v.number told v.thread ≡ None → w.journal ≡ v.journal
stays k v told w took makes = ap (λ (x : SeatView). x.journal) took.moves ∙ ap (ended_by v.journal) makes

-- an ask of a blocked thread
pub asked_done : (whom : ℕ) (v : SeatView) (told : ℕ) (w : SeatView) → Steps (ToAsk whom) v told w → (unpacked_status told).blocked ≡ true
    → (w.thread ≡ moved (one_done v.thread.phase) Nothing v.thread) × (length w.journal ≡ length v.journal + 1)
asked_done whom v told w took is = (
  ap (λ (x : SeatView). x.thread) took.moves ∙ ap (λ (b : Bool). if b then moved (one_done v.thread.phase) Nothing v.thread else moved (one_asked v.thread.phase) Glance v.thread) is,
  grows (ToAsk whom) v told w (Marked (Join whom (unpacked_status told).upto)) took (ap (λ (b : Bool). if b then Some (Marked (Join whom (unpacked_status told).upto)) else None) is),
)

-- a look at a thread that has answered
pub looked_done : (whom : ℕ) (v : SeatView) (told : ℕ) (w : SeatView) → Steps (ToLook whom) v told w → answers (unpacked_status told) v.number ≡ true
    → (w.thread ≡ moved (one_done v.thread.phase) Nothing v.thread) × (length w.journal ≡ length v.journal + 1)
looked_done whom v told w took is = (
  ap (λ (x : SeatView). x.thread) took.moves ∙ ap (λ (b : Bool). if b then moved (one_done v.thread.phase) Nothing v.thread else moved v.thread.phase Glance v.thread) is,
  grows (ToLook whom) v told w (Marked (Join whom (unpacked_status told).upto)) took (ap (λ (b : Bool). if b then Some (Marked (Join whom (unpacked_status told).upto)) else None) is),
)

-- an exchange that finds another word than the thread has loaded
loses : (object seen : ℕ) (mode : Mode) (v : SeatView) (told : ℕ) → HoldsWord object mode seen v.thread.phase → told ≢ seen → wins told v.thread.phase ≡ false
loses object seen mode v told holds other = let want = holding object mode seen v.thread.phase holds in
    ap (wins told) want.wants ∙ ne_eqb told (packed_state want.seen) (λ e. other (e ∙ sym want.is_word))

pub claim_lost : (object seen : ℕ) (mode : Mode) (v : SeatView) (told : ℕ) (w : SeatView) → Steps ToClaim v told w → HoldsWord object mode seen v.thread.phase → told ≢ seen
    → w.thread ≡ moved (lost v.thread.phase) Glance v.thread
claim_lost object seen mode v told w took holds other = ap (λ (x : SeatView). x.thread) took.moves
    ∙ ap (λ (b : Bool). if b then moved (claimed v.thread.phase) Nothing v.thread else moved (lost v.thread.phase) Glance v.thread) (loses object seen mode v told holds other)

pub share_lost : (object seen : ℕ) (v : SeatView) (told : ℕ) (w : SeatView) → Steps ToShare v told w → HoldsWord object Read seen v.thread.phase → told ≢ seen
    → (w.thread ≡ moved (lost v.thread.phase) Glance v.thread) × (w.journal ≡ v.journal)
share_lost object seen v told w took holds other = let is = loses object seen Read v told holds other in (
  ap (λ (x : SeatView). x.thread) took.moves
      ∙ ap (λ (b : Bool). if b then moved (Sharing (target v.thread.phase) None) Nothing v.thread else moved (lost v.thread.phase) Glance v.thread) is,
  stays ToShare v told w took (ap (λ (b : Bool). if b then joined_by_share v.thread.phase else None) is),
)

-- where the table says to share, the state is another's read-exclusive one, so a share that goes through makes a Join
neither : (b : Bool) (x y : Act) → is_share x ≡ false → is_share y ≡ false → IsTrue (is_share (if b then x else y)) → ⊥
neither true x y e f h = let g : is_share x ≡ true = h in cc
neither false x y e f h = let g : is_share y ≡ true = h in cc

shares_join : (me count object : ℕ) (state : StateWord) → IsTrue (is_share (decided state me Read count)) → (event : Event) × (joined_by_share (Want object Read (Some state)) ≡ Some event)
shares_join me count object (RdEx owner upto) h = (Marked (Join owner upto), refl)
shares_join me count object (WrEx owner) h = absurd (neither (owner == me) Pass (Take (One owner)) refl refl h)
shares_join me count object (RdSh number) h = absurd (neither (nat_le number count) Pass Fence refl refl h)
shares_join me count object (WrInt by) h = absurd (let e : false ≡ true = h in cc)
shares_join me count object (RdInt by) h = absurd (let e : false ≡ true = h in cc)
shares_join me count object (ShInt by) h = absurd (let e : false ≡ true = h in cc)

pub shared_grows : (object : ℕ) (v : SeatView) (told : ℕ) (w : SeatView) → Steps ToShare v told w → HoldsWord object Read told v.thread.phase → IsTrue (is_share (decision v)) → length w.journal ≡ length v.journal + 1
shared_grows object v told w took holds says = let want = holding object Read told v.thread.phase holds in
    let join = shares_join v.number v.thread.count object want.seen (subst (λ (p : Phase). IsTrue (is_share (decided (state_seen p) v.number (mode_of p) v.thread.count))) want.wants says) in
    let won : wins told (Want object Read (Some want.seen)) ≡ true = eq-eqb told (packed_state want.seen) want.is_word in
    grows ToShare v told w join.0 took (ap (λ (p : Phase). if wins told p then joined_by_share p else None) want.wants
    ∙ (ap (λ (b : Bool). if b then joined_by_share (Want object Read (Some want.seen)) else None) won ∙ join.1))

-- the bit of a thread, as it is made
pub one_bit : (thread number : ℕ) → thread < 16 → number ≡ thread → 1 * 2 ^ thread % 2 ^ 64 ≡ 2 ^ number
one_bit thread number h same = let below : 2 ^ thread < 2 ^ 64 = pow_below thread 64 (omega arith) in let e : 2 ^ number ≡ 2 ^ thread = ap (λ (n : ℕ). 2 ^ n) same in omega arith

-- a load moves the thread as the table says
pub load_moves : (object : ℕ) (mode : Mode) (v : SeatView) (told : ℕ) (w : SeatView) (state : StateWord) (act : Act) → Steps (ToLoad object mode) v told w
    → state ≡ state_in (unpacked_state told) → act ≡ decided state v.number mode v.thread.count → w.thread ≡ loaded act object mode state v.thread
load_moves object mode v told w state act took holds says = ap (λ (x : SeatView). x.thread) took.moves
    ∙ ((λ i. loaded (decided (sym holds i) v.number mode v.thread.count) object mode (sym holds i) v.thread) ∙ ap (λ (a : Act). loaded a object mode state v.thread) (sym says))
