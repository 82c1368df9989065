-- An ask keeps the state sound: the bit that it puts into a status, and what the thread becomes by the status found.
use Rattle.std.proofs.Common.{◌≡◌, ◌≢◌, ℕ, suc, ◌+◌, ◌^◌, ◌<◌, ◌≤◌, ◌⊎◌, inl, inr, Bool, true, false, ◌&&◌, ◌||◌, IsTrue, List, length, Some, None, sym, refl, ap, ◌∙◌, subst, arith, length-set, get_or-set_same, get_or-set_other}
use Rattle.std.specs.Prelude.{◌==◌, not, bit_or, if◌then◌else◌}
use Rattle.std.proofs.lemmas.Bool.{cases_eq, eq-eqb, ne_eqb}
use Rattle.std.proofs.lemmas.List.{set-get_or}
use Rattle.octet_model.specs.declared.event.Mark.TheVariants.{Join}
use Rattle.octet_model.specs.declared.event.Event.TheVariants.{Marked}
use Rattle.octet_model.specs.Machine.{journal_of}
use Rattle.octet_model.specs.Journals.{access_count}
use Rattle.octet_model.specs.Frugal.{marks_at_end}
use Rattle.octet_state.specs.declared.state_word.StateWord.{StateWord}
use Rattle.octet_state.specs.declared.state_word.StateWord.TheVariants.{WrEx, RdEx, RdSh, WrInt, RdInt, ShInt}
use Rattle.octet_state.specs.declared.status_word.StatusWord.{StatusWord}
use Rattle.octet_state.specs.declared.act.Mode.{Mode}
use Rattle.octet_state.specs.declared.act.Mode.TheVariants.{Read}
use Rattle.octet_state.specs.declared.act.Whom.{Whom}
use Rattle.octet_state.specs.declared.act.Whom.TheVariants.{One, All}
use Rattle.octet_state.specs.declared.phase.Phase.{Phase}
use Rattle.octet_state.specs.declared.phase.Phase.TheVariants.{Off, Idle, Want, Pass, FenceDue, Claimed, Sharing, Blocked}
use Rattle.octet_state.specs.declared.phase.Due.TheVariants.{Nothing, Glance}
use Rattle.octet_state.specs.State.{Thread, ProtocolState, thread_of, status_of, state_of, now, resting}
use Rattle.octet_state.specs.Steps.{ToAsk, asked_by, found, moved, one_done, one_asked, with_status, proceeded, step, most_accesses}
use Rattle.octet_state.specs.Asking.{whom_to_ask, is_to_ask, number_to_ask, next_to_ask, is_done, was_asked, answers, has_answered, is_unanswered}
use Rattle.octet_state.specs.Form.{HoldsPhase, HasForm}
use Rattle.octet_state.specs.Positions.{is_resting, PriorNamesThread, access_to_come, HasMarksAtEnd, HasPositions}
use Rattle.octet_state.specs.Passing.{lets_pass, claim_lets_pass, may_pass, passes}
use Rattle.octet_state.specs.Intermediate.{change_by}
use Rattle.octet_state.specs.Handover.{OwnerHandsOver, OwnerTells, ReaderHandsOver, ReaderTells, HandsOver, ClaimHandsOver}
use Rattle.octet_state.specs.FrugalShape.{marks_for, fences_for, IsPrivateState}
use Rattle.octet_state.specs.Soundness.{IsSound}
use Rattle.octet_state.specs.Laws.{Stands, AskIsLawful}
use Rattle.octet_state.proofs.frames.SeenByOthers.{TouchesAlike}
use Rattle.octet_state.proofs.lemmas.Packing.{status_back, asked_packed}
use Rattle.octet_state.proofs.lemmas.Widths.{status_fits}
use Rattle.octet_state.proofs.frames.StateChange.{ChangesWell, changes_soundly, shape_kept}
use Rattle.octet_state.proofs.parts.WhomClaimsAsk.{next_there}
use Rattle.octet_state.proofs.parts.PassingInClaims.{none_answered, unanswered_once_asked, asks_still, may_pass_still}
use Rattle.octet_state.proofs.frames.RequestBit.{asked_waits, answers_others, bits_fit}
use Rattle.octet_state.proofs.steps.AnsweredClaim.{answered_soundly}
use Rattle.octet_state.proofs.frames.WordOfStep.{does_at}

-- no claim of the thread t that has asked its next thread: the bit of t tells it nothing
abbrev IsUntold : ℕ → ℕ → Phase → Type 0
IsUntold t v (Claimed o how prior done asked) = (v ≢ t) ⊎ (asked ≡ false)
IsUntold t v _ = Unit {0}

by_another : (t v : ℕ) (p : Phase) → v ≢ t → IsUntold t v p
by_another t v (Claimed o how prior done asked) differ = inl differ
by_another t v Off differ = tt
by_another t v Idle differ = tt
by_another t v (Want o m seen) differ = tt
by_another t v (Pass o m) differ = tt
by_another t v (FenceDue o n) differ = tt
by_another t v (Sharing o drawn) differ = tt
by_another t v Blocked differ = tt

-- a thread without a claim that has asked its next thread puts its bit into a status
module _ (s : ProtocolState) (t whom : ℕ) (inside : t < length s.threads) (there : whom < length s.threads) (sound : IsSound s) (untold : IsUntold t t (thread_of s t).phase) where
  abbrev next : ProtocolState
  next = with_status s whom (asked_by t (status_of s whom))

  -- a property of each status, with the bit and without
  each_status : (P : ℕ → StatusWord → Type 0) → P whom (asked_by t (status_of s whom)) → ((u : ℕ) → P u (status_of s u)) → (u : ℕ) → P u (status_of next u)
  each_status P here others u = elim (cases_eq u whom) [
    | inl same ↦ subst (λ (v : ℕ). P v (status_of next v)) (sym same)
        (subst (P whom) (sym (get_or-set_same s.statuses whom (asked_by t (status_of s whom)) resting (let h = sound.form.statuses in omega arith))) here)
    | inr differ ↦ subst (P u) (sym (get_or-set_other s.statuses whom u (asked_by t (status_of s whom)) resting differ)) (others u)
  ]

  untold_all : (v : ℕ) → IsUntold t v (thread_of s v).phase
  untold_all v = elim (cases_eq v t) [
    | inl same ↦ subst (λ (u : ℕ). IsUntold t u (thread_of s u).phase) (sym same) untold
    | inr differ ↦ by_another t v (thread_of s v).phase differ
  ]

  -- what a claim has heard of the one that is asked
  heard_same : (v done : ℕ) (asked : Bool) (w : Whom) → (v ≢ t) ⊎ (asked ≡ false) → has_answered w v done asked whom (status_of s whom) ≡ has_answered w v done asked whom (asked_by t (status_of s whom))
  heard_same v done asked w (inl differ) = ap (λ (r : Bool). was_asked w v done asked whom && r) (sym (answers_others t v (status_of s whom) differ))
  heard_same v done asked w (inr not) = subst (λ (a : Bool). has_answered w v done a whom (status_of s whom) ≡ has_answered w v done a whom (asked_by t (status_of s whom))) (sym not) refl

  waits_same : (v done u : ℕ) (asked : Bool) (w : Whom) → (v ≢ t) ⊎ (asked ≡ false) → is_unanswered w v done asked u (status_of next u) ≡ is_unanswered w v done asked u (status_of s u)
  waits_same v done u asked w (inl differ) = ap (λ (r : Bool). is_to_ask w v u && not (is_done w v done u) && (not (was_asked w v done asked u) || not r))
      (each_status (λ y status. answers status v ≡ answers (status_of s y) v) (answers_others t v (status_of s whom) differ) (λ y. refl) u)
  waits_same v done u asked w (inr not) = subst (λ (a : Bool). is_unanswered w v done a u (status_of next u) ≡ is_unanswered w v done a u (status_of s u)) (sym not) refl

  owner_on : (o v owner done : ℕ) (asked : Bool) → (v ≢ t) ⊎ (asked ≡ false) → OwnerTells s.journals o v owner done asked (status_of s owner) → OwnerTells s.journals o v owner done asked (status_of next owner)
  owner_on o v owner done asked far = each_status (λ u status. OwnerTells s.journals o v u done asked (status_of s u) → OwnerTells s.journals o v u done asked status)
      (subst (OwnerHandsOver s.journals o v whom (status_of s whom).upto (is_done (One whom) v done whom)) (heard_same v done asked (One whom) far)) (λ u h. h) owner

  reader_on : (o v number y done : ℕ) (asked : Bool) → (v ≢ t) ⊎ (asked ≡ false) → ReaderTells s.journals o v number y done asked (status_of s y) → ReaderTells s.journals o v number y done asked (status_of next y)
  reader_on o v number y done asked far = each_status (λ u status. ReaderTells s.journals o v number u done asked (status_of s u) → ReaderTells s.journals o v number u done asked status)
      (subst (ReaderHandsOver s.journals o v number whom (status_of s whom).upto (is_done All v done whom)) (heard_same v done asked All far)) (λ u h. h) y

  claim_on : (v : ℕ) (p : Phase) → IsUntold t v p → ClaimHandsOver s.journals s.statuses v p → ClaimHandsOver next.journals next.statuses v p
  claim_on v (Claimed o how (WrEx owner) done asked) far h = owner_on o v owner done asked far h
  claim_on v (Claimed o how (RdEx owner upto) done asked) far h = owner_on o v owner done asked far h
  claim_on v (Claimed o how (RdSh number) done asked) far h = (h.0, λ y. reader_on o v number y done asked far (h.1 y))
  claim_on v (Claimed o how (WrInt by) done asked) far h = h
  claim_on v (Claimed o how (RdInt by) done asked) far h = h
  claim_on v (Claimed o how (ShInt by) done asked) far h = h
  claim_on v Off far h = h
  claim_on v Idle far h = h
  claim_on v (Want o m seen) far h = h
  claim_on v (Pass o m) far h = h
  claim_on v (FenceDue o n) far h = h
  claim_on v (Sharing o drawn) far h = h
  claim_on v Blocked far h = h

  -- who passes by a claim goes on
  claim_same : (how : Mode) (u o v : ℕ) (p : Phase) → IsUntold t v p → claim_lets_pass how u o (status_of next u) v p ≡ claim_lets_pass how u o (status_of s u) v p
  claim_same how u o v (Claimed claimed m prior done asked) far = ap (λ (r : Bool). claimed == o && lets_pass how u prior && r) (waits_same v done u asked (whom_to_ask prior) far)
  claim_same how u o v Off far = refl
  claim_same how u o v Idle far = refl
  claim_same how u o v (Want q m seen) far = refl
  claim_same how u o v (Pass q m) far = refl
  claim_same how u o v (FenceDue q n) far = refl
  claim_same how u o v (Sharing q drawn) far = refl
  claim_same how u o v Blocked far = refl

  may_pass_same : (how : Mode) (u o : ℕ) (state : StateWord) → may_pass next.statuses next.threads how u o state ≡ may_pass s.statuses s.threads how u o state
  may_pass_same how u o (WrInt by) = claim_same how u o by (thread_of s by).phase (untold_all by)
  may_pass_same how u o (RdInt by) = claim_same how u o by (thread_of s by).phase (untold_all by)
  may_pass_same how u o (WrEx owner) = refl
  may_pass_same how u o (RdEx owner upto) = refl
  may_pass_same how u o (RdSh number) = refl
  may_pass_same how u o (ShInt by) = refl

  passes_same : (u : ℕ) (p : Phase) → passes next.statuses next.states next.threads u p ≡ passes s.statuses s.states s.threads u p
  passes_same u (Pass o how) = may_pass_same how u o (state_of s o)
  passes_same u (FenceDue o number) = may_pass_same Read u o (state_of s o)
  passes_same u Off = refl
  passes_same u Idle = refl
  passes_same u (Want o m seen) = refl
  passes_same u (Claimed o m prior done asked) = refl
  passes_same u (Sharing o drawn) = refl
  passes_same u Blocked = refl

  form_marked : HasForm next
  form_marked = let old = sound.form in record {
    some_thread = old.some_thread;
    few_threads = old.few_threads;
    statuses = length-set s.statuses whom (asked_by t (status_of s whom)) ∙ old.statuses;
    journals = old.journals;
    states = old.states;
    starts = old.starts;
    bits = each_status (λ u status. status.asked < 2 ^ 16) (bits_fit t (status_of s whom) (let h = old.few_threads in omega arith) (old.bits whom)) old.bits;
    dues = old.dues;
    phases = old.phases;
  }

  positions_marked : HasPositions next
  positions_marked = let old = sound.positions in record {
    reached = each_status (λ u status. status.upto ≤ now s u) (old.reached whom) old.reached;
    blocked = each_status (λ u status. status.blocked ≡ is_resting (thread_of s u).phase) (old.blocked whom) old.blocked;
    last = each_status (λ u status. status.blocked ≡ true → status.upto ≡ now s u) (old.last whom) old.last;
    named = old.named;
    prior_named = old.prior_named;
    marks = old.marks;
    accesses = old.accesses;
    few = old.few;
    at_end = old.at_end;
  }

  pub marks_soundly : IsSound (with_status s whom (asked_by t (status_of s whom)))
  marks_soundly = record {
    form = form_marked;
    one_history = sound.one_history;
    positions = positions_marked;
    passing = λ u. subst IsTrue (sym (passes_same u (thread_of s u).phase)) (sound.passing u);
    intermediate = sound.intermediate;
    pasts = sound.pasts;
    handover = λ v. claim_on v (thread_of s v).phase (untold_all v) (sound.handover v);
    frugal = sound.frugal;
  }

-- a claim has asked its next thread, which does not answer yet
module _ (s : ProtocolState) (t object : ℕ) (mode : Mode) (prior : StateWord) (done : ℕ) (inside : t < length s.threads) (sound : IsSound s) (is : (thread_of s t).phase ≡ Claimed object mode prior done false)
    (left : done < number_to_ask (whom_to_ask prior) (length s.threads)) (waits : answers (status_of s (next_to_ask (whom_to_ask prior) t done)) t ≡ false) where
  abbrev waiting : Thread
  waiting = moved (Claimed object mode prior done true) Glance (thread_of s t)

  holds : HoldsPhase (length s.threads) (length s.cells) t (thread_of s t).count (Claimed object mode prior done false)
  holds = subst (HoldsPhase (length s.threads) (length s.cells) t (thread_of s t).count) is (sound.form.phases t)

  waits_at : (u : ℕ) → u ≡ next_to_ask (whom_to_ask prior) t done → answers (status_of s u) t ≡ false
  waits_at u same = subst (λ (v : ℕ). answers (status_of s v) t ≡ false) (sym same) waits

  none_heard : (u : ℕ) (w : Whom) → whom_to_ask prior ≡ w → false ≡ has_answered w t done true u (status_of s u)
  none_heard u w same = subst (λ (v : Whom). false ≡ has_answered v t done true u (status_of s u)) same (sym (none_answered (whom_to_ask prior) t done u (status_of s u) (waits_at u)))

  hands_on : (p : StateWord) → prior ≡ p → HandsOver s.journals s.statuses object t p done false → HandsOver s.journals s.statuses object t p done true
  hands_on (WrEx owner) same h = subst (OwnerHandsOver s.journals object t owner (status_of s owner).upto (is_done (One owner) t done owner)) (none_heard owner (One owner) (ap whom_to_ask same)) h
  hands_on (RdEx owner upto) same h = subst (OwnerHandsOver s.journals object t owner (status_of s owner).upto (is_done (One owner) t done owner)) (none_heard owner (One owner) (ap whom_to_ask same)) h
  hands_on (RdSh number) same h = (h.0, λ y. subst (ReaderHandsOver s.journals object t number y (status_of s y).upto (is_done All t done y)) (none_heard y All (ap whom_to_ask same)) (h.1 y))
  hands_on (WrInt by) same h = h
  hands_on (RdInt by) same h = h
  hands_on (ShInt by) same h = h

  elsewhere : (m : Mode) (a : Bool) (o : ℕ) → o ≢ object → change_by (Claimed object m prior done a) t o ≡ None
  elsewhere Read a o differ = ap (λ (b : Bool). if b then Some (RdInt t) else None) (ne_eqb object o (λ same. differ (sym same)))
  elsewhere _ a o differ = ap (λ (b : Bool). if b then Some (WrInt t) else None) (ne_eqb object o (λ same. differ (sym same)))

  same_change : (m : Mode) → change_by (Claimed object m prior done false) t object ≡ change_by (Claimed object m prior done true) t object
  same_change Read = refl
  same_change _ = refl

  well : ChangesWell s t object (state_of s object) waiting
  well = record {
    dues = refl;
    phases = (holds.0, holds.1, holds.2, λ asks. left);
    ran = ap is_resting is;
    runs = refl;
    named = sound.positions.named object;
    prior_named = subst (PriorNamesThread (length s.threads)) is (sound.positions.prior_named t);
    accesses = subst (λ (p : Phase). access_count (journal_of s.journals t) + access_to_come p ≤ most_accesses) is (sound.positions.accesses t);
    at_end = subst (λ (p : Phase). HasMarksAtEnd p (marks_at_end (journal_of s.journals t))) is (sound.positions.at_end t);
    others_change = λ u differ. refl;
    own_change = sound.intermediate t object ∙ (ap (λ (p : Phase). change_by p t object) is ∙ same_change mode);
    changed_nothing = λ o differ. ap (λ (p : Phase). change_by p t o) is ∙ elsewhere mode false o differ;
    changes_nothing = λ o differ. elsewhere mode true o differ;
    others_pass = λ how u differ is_there h. may_pass_still s t object mode prior done done false true Glance None inside is how u object
        (unanswered_once_asked (whom_to_ask prior) t done u (status_of s u) (waits_at u)) (state_of s object) h;
    passing = refl;
    state_knows = sound.pasts.states object;
    knows = tt;
    counts = refl;
    handover = hands_on prior refl (subst (ClaimHandsOver s.journals s.statuses t) is (sound.handover t));
  }

  touching : TouchesAlike waiting (thread_of s t)
  touching = record { marks_same = λ o. sym (ap (λ (p : Phase). marks_for p o) is); fences_same = λ o. sym (ap (λ (p : Phase). fences_for p o) is) }

  private : (u : ℕ) (state : StateWord) → IsPrivateState s.journals s.threads object u state → IsPrivateState (proceeded s t waiting None).journals (proceeded s t waiting None).threads object u state
  private u (WrEx owner) h = h
  private u (RdEx owner upto) h = h
  private u (WrInt by) h = (h.0, asks_still s t object mode prior done done false true Glance None inside is u h.1, h.2, h.3)
  private u (RdInt by) h = (h.0, asks_still s t object mode prior done done false true Glance None inside is u h.1, h.2, h.3)
  private u (RdSh number) h = h
  private u (ShInt by) h = h

  pub waits_soundly : IsSound (proceeded s t (moved (Claimed object mode prior done true) Glance (thread_of s t)) None)
  waits_soundly = subst (λ (states : List StateWord). IsSound (proceeded (record s { states = states }) t waiting None)) (set-get_or s.states object (WrEx 0))
      (changes_soundly s t object (state_of s object) waiting inside holds.0 sound well
      (shape_kept s t object (state_of s object) waiting inside holds.0 sound well touching (eq-eqb object object refl) (λ u h. private u (state_of s object) h)))

module _ (s : ProtocolState) (t object : ℕ) (mode : Mode) (prior : StateWord) (done : ℕ) (inside : t < length s.threads) (sound : IsSound s) (stands : Stands s t (Claimed object mode prior done false))
    (left : done < number_to_ask (whom_to_ask prior) (length s.threads)) where
  abbrev whom : ℕ
  whom = next_to_ask (whom_to_ask prior) t done

  abbrev asked : ProtocolState
  asked = with_status s whom (asked_by t (status_of s whom))

  pub there : next_to_ask (whom_to_ask prior) t done < length s.threads
  there = next_there prior (length s.threads) t done (subst (PriorNamesThread (length s.threads)) stands.1 (sound.positions.prior_named t)) left

  sound_asked : IsSound asked
  sound_asked = marks_soundly s t whom inside there sound (subst (IsUntold t t) (sym stands.1) (inr refl))

  own_status : status_of asked whom ≡ asked_by t (status_of s whom)
  own_status = get_or-set_same s.statuses whom (asked_by t (status_of s whom)) resting (let h = sound.form.statuses in let k = there in omega arith)

  by_status : (b : Bool) → (status_of s whom).blocked ≡ b
      → IsSound (proceeded asked t (if b then moved (one_done (thread_of s t).phase) Nothing (thread_of s t) else moved (one_asked (thread_of s t).phase) Glance (thread_of s t)) (if b then Some (Marked (Join whom (status_of s whom).upto)) else None))
  by_status true blocked = subst (λ (p : Phase). IsSound (proceeded asked t (moved (one_done p) Nothing (thread_of s t)) (Some (Marked (Join whom (status_of s whom).upto))))) (sym stands.1)
      (subst (λ (w : StatusWord). IsSound (proceeded asked t (moved (Claimed object mode prior (suc done) false) Nothing (thread_of s t)) (Some (Marked (Join whom w.upto))))) own_status
      (answered_soundly asked t object mode prior done false inside sound_asked stands.1 left (inr (ap (λ (w : StatusWord). w.blocked) own_status ∙ blocked))))
  by_status false runs = subst (λ (p : Phase). IsSound (proceeded asked t (moved (one_asked p) Glance (thread_of s t)) None)) (sym stands.1)
      (waits_soundly asked t object mode prior done inside sound_asked stands.1 left (ap (λ (w : StatusWord). answers w t) own_status ∙ asked_waits t (status_of s whom) runs))

  pub asks_soundly : IsSound (step (ToAsk (next_to_ask (whom_to_ask prior) t done)) t s)
  asks_soundly = subst (λ (w : StatusWord). IsSound (proceeded asked t (if w.blocked then moved (one_done (thread_of s t).phase) Nothing (thread_of s t) else moved (one_asked (thread_of s t).phase) Glance (thread_of s t))
      (if w.blocked then Some (Marked (Join whom w.upto)) else None))) (sym (status_back (status_of s whom) (status_fits s whom sound))) (by_status (status_of s whom).blocked refl)

pub ask_is_lawful : AskIsLawful
ask_is_lawful s t place bit whom object mode prior done sound inside stands left same at is_bit =
    let few : t < 16 = let h = sound.form.few_threads in omega arith in record {
      may = (stands.0, (object, mode, prior, done, stands.1, left, same));
      sound = subst (λ (u : ℕ). IsSound (step (ToAsk u) t s)) (sym same) (asks_soundly s t object mode prior done inside sound stands left);
      does = does_at s sound.form t inside (ToAsk whom) place (λ word. bit_or word bit) (subst (λ (u : ℕ). u < length s.threads) (sym same) (there s t object mode prior done inside sound stands left)) at
          (ap (bit_or (found (ToAsk whom) t s)) is_bit ∙ asked_packed t (status_of s whom) few (sound.form.bits whom));
    }
