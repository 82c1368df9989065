-- A thread that swaps its own status: what this leaves as it is, and what the others learn from it.
use Rattle.std.proofs.Common.{◌≡◌, ◌≢◌, ℕ, ◌+◌, ◌/◌, ◌%◌, ◌^◌, ◌<◌, ◌≤◌, ◌⊎◌, inl, inr, Bool, true, false, ◌&&◌, IsTrue, length, Some, None, sym, refl, ap, ◌∙◌, subst, arith, length-set, get_or-set_same, get_or-set_other}
use Rattle.std.specs.Prelude.{◌==◌, not}
use Rattle.std.proofs.lemmas.Bool.{cases_eq}
use Rattle.std.proofs.lemmas.Nat.{shr_le}
use Rattle.std.proofs.lemmas.Option.{slice_get_within}
use Rattle.octet_model.specs.declared.event.Mark.TheVariants.{Draw}
use Rattle.octet_model.specs.declared.event.Event.{Event}
use Rattle.octet_model.specs.declared.event.Event.TheVariants.{Marked}
use Rattle.octet_model.specs.declared.event.Place.{Place}
use Rattle.octet_model.specs.Machine.{journal_of}
use Rattle.octet_model.specs.Journals.{access_count}
use Rattle.octet_model.specs.HappensBefore.{event_at}
use Rattle.octet_model.specs.Log.{is_mark}
use Rattle.octet_model.specs.Frugal.{marks_at_end, Accesses}
use Rattle.octet_model.proofs.lemmas.Pasts.{past_grows, past_has_own}
use Rattle.octet_model.specs.Past.{InPast}
use Rattle.octet_state.specs.declared.state_word.StateWord.{StateWord}
use Rattle.octet_state.specs.declared.state_word.StateWord.TheVariants.{WrEx, RdEx, RdSh, WrInt, RdInt, ShInt}
use Rattle.octet_state.specs.declared.status_word.StatusWord.{StatusWord}
use Rattle.octet_state.specs.declared.act.Mode.{Mode}
use Rattle.octet_state.specs.declared.act.Mode.TheVariants.{Read}
use Rattle.octet_state.specs.declared.act.Whom.{Whom}
use Rattle.octet_state.specs.declared.act.Whom.TheVariants.{One, All}
use Rattle.octet_state.specs.declared.phase.Phase.{Phase}
use Rattle.octet_state.specs.declared.phase.Phase.TheVariants.{Off, Idle, Want, Pass, FenceDue, Claimed, Sharing, Blocked}
use Rattle.octet_state.specs.State.{Thread, ProtocolState, thread_of, status_of, state_of, now, resting}
use Rattle.octet_state.specs.Steps.{shown, with_status, proceeded, most_accesses}
use Rattle.octet_state.specs.Asking.{is_done, was_asked, answers, has_answered}
use Rattle.octet_state.specs.Form.{HasForm}
use Rattle.octet_state.specs.Positions.{NamesThread, is_resting, PriorNamesThread, access_to_come, HasMarksAtEnd, HasPositions}
use Rattle.octet_state.specs.Passing.{claim_lets_pass, may_pass, passes, AllPass}
use Rattle.octet_state.specs.Handover.{KnowsShare, OwnerHandsOver, OwnerTells, ReaderHandsOver, ReaderTells, ClaimHandsOver}
use Rattle.octet_state.specs.Soundness.{IsSound}
use Rattle.octet_state.proofs.frames.SeenByOthers.{LooksAlike, TouchesAlike, each_thread, all_pass_on, changes_on}
use Rattle.octet_state.proofs.frames.ThreadChange.{StandsWell, form, pasts, frugal_shape}

-- a status just stored answers all
shown_answers : (blocked : Bool) (events me : ℕ) → answers (shown blocked events) me ≡ true
shown_answers true events me = refl
shown_answers false events me = ap (λ (n : ℕ). not (n % 2 == 1)) (zero_over me)
  where
    zero_over : (k : ℕ) → 0 / 2 ^ k ≡ 0
    zero_over k = omega (arith, shr_le 0 k)

module _ (s : ProtocolState) (t : ℕ) (blocked : Bool) (inside : t < length s.threads) (sound : IsSound s) where
  abbrev status : StatusWord
  status = shown blocked (now s t)

  within : t < length s.statuses
  within = let h = sound.form.statuses in omega arith

  own_status : status_of (with_status s t status) t ≡ status
  own_status = get_or-set_same s.statuses t status resting within

  other_status : (u : ℕ) → u ≢ t → status_of (with_status s t status) u ≡ status_of s u
  other_status u differ = get_or-set_other s.statuses t u status resting differ

  -- what was known by its former answer or by the thread itself is known by the new one
  owner_swaps : (object me : ℕ) (done asked old : Bool) → OwnerHandsOver s.journals object me t (status_of s t).upto done (asked && old) → OwnerHandsOver s.journals object me t (now s t) done (asked && true)
  owner_swaps object me true asked old h = h
  owner_swaps object me false false old h = h
  owner_swaps object me false true true h = λ place access. past_grows s.journals t (status_of s t).upto (now s t) place (sound.positions.reached t) (h place access)
  owner_swaps object me false true false h = h

  -- a thread knows its own share
  pub own_share : (object number : ℕ) → KnowsShare s.journals object number t t (now s t)
  own_share object number place h = subst (λ (p : Place). InPast s.journals t (now s t) p) (λ i. record { thread = sym h.0 i; event = place.event }) (lies h.1)
    where
      at_t : (e : Event) → event_at s.journals place ≡ Some e → event_at s.journals (record { thread = t; event = place.event }) ≡ Some e
      at_t e is = subst (λ (u : ℕ). event_at s.journals (record { thread = u; event = place.event }) ≡ Some e) h.0 is

      own : (e : Event) → event_at s.journals place ≡ Some e → InPast s.journals t (now s t) (record { thread = t; event = place.event })
      own e is = past_has_own s.journals t (now s t) place.event (slice_get_within (journal_of s.journals t) place.event e (at_t e is)) (e, at_t e is)

      lies : (Accesses s.journals place object ⊎ (event_at s.journals place ≡ Some (Marked (Draw number)))) → InPast s.journals t (now s t) (record { thread = t; event = place.event })
      lies (inl access) = own access.0 access.1
      lies (inr drew) = own (Marked (Draw number)) drew

  reader_swaps : (object me number : ℕ) (done asked old : Bool) → ReaderHandsOver s.journals object me number t (status_of s t).upto done (asked && old) → ReaderHandsOver s.journals object me number t (now s t) done (asked && true)
  reader_swaps object me number true asked old h = h
  reader_swaps object me number false false old h = h
  reader_swaps object me number false true old h = own_share object number

  answers_now : (me done : ℕ) (asked : Bool) (whom : Whom) → (was_asked whom me done asked t && true) ≡ has_answered whom me done asked t (shown blocked (now s t))
  answers_now me done asked whom = ap (λ (b : Bool). was_asked whom me done asked t && b) (sym (shown_answers blocked (now s t) me))

  owner_on : (object me owner done : ℕ) (asked : Bool) → OwnerTells s.journals object me owner done asked (status_of s owner) → OwnerTells s.journals object me owner done asked (status_of (with_status s t (shown blocked (now s t))) owner)
  owner_on object me owner done asked h = elim (cases_eq owner t) [
    | inl same ↦ subst (λ (u : ℕ). OwnerTells s.journals object me u done asked (status_of (with_status s t (shown blocked (now s t))) u)) (sym same)
        (subst (OwnerTells s.journals object me t done asked) (sym own_status)
        (subst (OwnerHandsOver s.journals object me t (now s t) (is_done (One t) me done t)) (answers_now me done asked (One t))
        (owner_swaps object me (is_done (One t) me done t) (was_asked (One t) me done asked t) (answers (status_of s t) me) (subst (λ (u : ℕ). OwnerTells s.journals object me u done asked (status_of s u)) same h))))
    | inr differ ↦ subst (OwnerTells s.journals object me owner done asked) (sym (other_status owner differ)) h
  ]

  reader_on : (object me number y done : ℕ) (asked : Bool) → ReaderTells s.journals object me number y done asked (status_of s y) → ReaderTells s.journals object me number y done asked (status_of (with_status s t (shown blocked (now s t))) y)
  reader_on object me number y done asked h = elim (cases_eq y t) [
    | inl same ↦ subst (λ (u : ℕ). ReaderTells s.journals object me number u done asked (status_of (with_status s t (shown blocked (now s t))) u)) (sym same)
        (subst (ReaderTells s.journals object me number t done asked) (sym own_status)
        (subst (ReaderHandsOver s.journals object me number t (now s t) (is_done All me done t)) (answers_now me done asked All)
        (reader_swaps object me number (is_done All me done t) (was_asked All me done asked t) (answers (status_of s t) me) (subst (λ (u : ℕ). ReaderTells s.journals object me number u done asked (status_of s u)) same h))))
    | inr differ ↦ subst (ReaderTells s.journals object me number y done asked) (sym (other_status y differ)) h
  ]

  claim_on : (v : ℕ) (p : Phase) → ClaimHandsOver s.journals s.statuses v p → ClaimHandsOver (with_status s t (shown blocked (now s t))).journals (with_status s t (shown blocked (now s t))).statuses v p
  claim_on v (Claimed o how (WrEx owner) done asked) h = owner_on o v owner done asked h
  claim_on v (Claimed o how (RdEx owner upto) done asked) h = owner_on o v owner done asked h
  claim_on v (Claimed o how (RdSh number) done asked) h = (h.0, λ y. reader_on o v number y done asked (h.1 y))
  claim_on v (Claimed o how (WrInt by) done asked) h = h
  claim_on v (Claimed o how (RdInt by) done asked) h = h
  claim_on v (Claimed o how (ShInt by) done asked) h = h
  claim_on v Off h = h
  claim_on v Idle h = h
  claim_on v (Want o m seen) h = h
  claim_on v (Pass o m) h = h
  claim_on v (FenceDue o n) h = h
  claim_on v (Sharing o drawn) h = h
  claim_on v Blocked h = h

  -- the threads that pass have their status as it was
  may_pass_other : (mode : Mode) (u object : ℕ) (state : StateWord) → u ≢ t → may_pass (with_status s t (shown blocked (now s t))).statuses (with_status s t (shown blocked (now s t))).threads mode u object state ≡ may_pass s.statuses s.threads mode u object state
  may_pass_other mode u object (WrInt by) differ = ap (λ (w : StatusWord). claim_lets_pass mode u object w by (thread_of s by).phase) (other_status u differ)
  may_pass_other mode u object (RdInt by) differ = ap (λ (w : StatusWord). claim_lets_pass mode u object w by (thread_of s by).phase) (other_status u differ)
  may_pass_other mode u object (WrEx owner) differ = refl
  may_pass_other mode u object (RdEx owner upto) differ = refl
  may_pass_other mode u object (RdSh number) differ = refl
  may_pass_other mode u object (ShInt by) differ = refl

  passes_other : (u : ℕ) (p : Phase) → u ≢ t → passes (with_status s t (shown blocked (now s t))).statuses (with_status s t (shown blocked (now s t))).states (with_status s t (shown blocked (now s t))).threads u p ≡ passes s.statuses s.states s.threads u p
  passes_other u (Pass object mode) differ = may_pass_other mode u object (state_of s object) differ
  passes_other u (FenceDue object number) differ = may_pass_other Read u object (state_of s object) differ
  passes_other u Off differ = refl
  passes_other u Idle differ = refl
  passes_other u (Want object mode seen) differ = refl
  passes_other u (Claimed object mode prior done asked) differ = refl
  passes_other u (Sharing object drawn) differ = refl
  passes_other u Blocked differ = refl

  all_pass_other : ((status' : StatusWord) → IsTrue (passes (with_status s t status').statuses (with_status s t status').states (with_status s t status').threads t (thread_of s t).phase)) → AllPass (with_status s t (shown blocked (now s t)))
  all_pass_other mine u = elim (cases_eq u t) [
    | inl same ↦ subst (λ (v : ℕ). IsTrue (passes (with_status s t (shown blocked (now s t))).statuses (with_status s t (shown blocked (now s t))).states (with_status s t (shown blocked (now s t))).threads v (thread_of s v).phase)) (sym same) (mine (shown blocked (now s t)))
    | inr differ ↦ subst IsTrue (sym (passes_other u (thread_of s u).phase differ)) (sound.passing u)
  ]

  module _ (x : Thread) (alike : LooksAlike x (thread_of s t)) (touching : TouchesAlike x (thread_of s t)) (well : StandsWell s t x) (rests : blocked ≡ is_resting x.phase)
      (goes_by : (status' : StatusWord) → IsTrue (passes (with_status s t status').statuses (with_status s t status').states (with_status s t status').threads t (thread_of s t).phase)) (goes_on : IsTrue (passes (with_status s t (shown blocked (now s t))).statuses (with_status s t (shown blocked (now s t))).states (with_status s t (shown blocked (now s t))).threads t x.phase)) where
    abbrev stored : ProtocolState
    stored = with_status s t (shown blocked (now s t))

    abbrev next : ProtocolState
    next = proceeded stored t x None

    -- a property of each thread and its status
    each_status : (P : ℕ → StatusWord → Phase → Type 0) → P t (shown blocked (now s t)) x.phase → ((u : ℕ) → P u (status_of s u) (thread_of s u).phase) → (u : ℕ) → P u (status_of next u) (thread_of next u).phase
    each_status P mine others = each_thread stored t x inside None (λ u y. P u (status_of stored u) y.phase)
        (subst (λ (w : StatusWord). P t w x.phase) (sym own_status) mine)
        (λ u differ. subst (λ (w : StatusWord). P u w (thread_of s u).phase) (sym (other_status u differ)) (others u))

    form_swapped : HasForm (proceeded s t x None) → HasForm next
    form_swapped h = record {
      some_thread = h.some_thread;
      few_threads = h.few_threads;
      statuses = length-set s.statuses t (shown blocked (now s t)) ∙ h.statuses;
      journals = h.journals;
      states = h.states;
      starts = h.starts;
      bits = each_status (λ u w p. w.asked < 2 ^ 16) (omega arith) sound.form.bits;
      dues = h.dues;
      phases = h.phases;
    }

    positions_swapped : HasPositions next
    positions_swapped = let old = sound.positions in let many = length-set s.threads t x in record {
      reached = each_status (λ u w p. w.upto ≤ now s u) (omega arith) old.reached;
      blocked = each_status (λ u w p. w.blocked ≡ is_resting p) rests old.blocked;
      last = each_status (λ u w p. w.blocked ≡ true → w.upto ≡ now s u) (λ _. refl) old.last;
      named = λ object. subst (λ (n : ℕ). NamesThread n (state_of s object)) (sym many) (old.named object);
      prior_named = subst (λ (n : ℕ). (u : ℕ) → PriorNamesThread n (thread_of next u).phase) (sym many)
          (each_thread stored t x inside None (λ u y. PriorNamesThread (length s.threads) y.phase) well.prior_named (λ u differ. old.prior_named u));
      marks = λ place mark is. subst (λ (n : ℕ). IsTrue (is_mark n place.thread mark)) (sym many) (old.marks place mark is);
      accesses = each_thread stored t x inside None (λ u y. access_count (journal_of s.journals u) + access_to_come y.phase ≤ most_accesses) well.accesses (λ u differ. old.accesses u);
      few = old.few;
      at_end = each_thread stored t x inside None (λ u y. HasMarksAtEnd y.phase (marks_at_end (journal_of s.journals u))) well.at_end (λ u differ. old.at_end u);
    }

    pub swaps_soundly : IsSound (proceeded (with_status s t (shown blocked (now s t))) t x None)
    swaps_soundly = record {
      form = form_swapped (form s t x inside sound alike well);
      one_history = sound.one_history;
      positions = positions_swapped;
      passing = all_pass_on stored t x inside None alike (all_pass_other goes_by) goes_on;
      intermediate = changes_on stored t x inside None alike sound.intermediate;
      pasts = pasts s t x inside sound alike well;
      handover = each_thread stored t x inside None (λ u y. ClaimHandsOver stored.journals stored.statuses u y.phase) (claim_on t x.phase well.handover) (λ u differ. claim_on u (thread_of s u).phase (sound.handover u));
      frugal = frugal_shape s t x inside sound alike touching;
    }
