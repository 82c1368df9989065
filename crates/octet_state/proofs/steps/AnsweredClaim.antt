-- A claim that a thread has answered goes on after a Join of what that thread had made.
use Rattle.std.proofs.Common.{◌≡◌, ◌≢◌, ℕ, suc, ◌+◌, ◌^◌, ◌<◌, ◌≤◌, ◌⊎◌, inl, inr, Bool, true, false, ◌&&◌, ◌||◌, IsTrue, List, [], ◌∷◌, ◌++◌, length, Some, sym, refl, ap, ◌∙◌, subst, arith, length-append}
use Rattle.std.specs.Prelude.{◌==◌, not, nat_lt, IsFalse}
use Rattle.std.specs.List.{list_all}
use Rattle.std.proofs.lemmas.Bool.{cases_eq, and_from, eqb-true, eq-eqb, ne_eqb, lt-ltb, le-leb}
use Rattle.std.proofs.lemmas.List.Folds.{list_all-append}
use Rattle.octet_model.specs.declared.event.Mark.{Mark}
use Rattle.octet_model.specs.declared.event.Mark.TheVariants.{Join, Draw}
use Rattle.octet_model.specs.declared.event.Event.{Event}
use Rattle.octet_model.specs.declared.event.Event.TheVariants.{Marked}
use Rattle.octet_model.specs.declared.event.Place.{Place}
use Rattle.octet_model.specs.Machine.{journal_of, appended}
use Rattle.octet_model.specs.Journals.{access_count}
use Rattle.octet_model.specs.Frugal.{marks_at_end}
use Rattle.octet_model.specs.Plays.{IsOneHistory}
use Rattle.octet_model.specs.Log.{is_mark}
use Rattle.octet_model.specs.Past.{InPast}
use Rattle.octet_model.proofs.lemmas.Steps.{count, new_event, same_journal}
use Rattle.octet_model.proofs.lemmas.Growth.{history_grows}
use Rattle.octet_model.proofs.lemmas.Pasts.{past_has_joined}
use Rattle.octet_state.specs.declared.state_word.StateWord.{StateWord}
use Rattle.octet_state.specs.declared.state_word.StateWord.TheVariants.{WrEx, RdEx, RdSh, WrInt, RdInt, ShInt}
use Rattle.octet_state.specs.declared.act.Mode.{Mode}
use Rattle.octet_state.specs.declared.act.Whom.{Whom}
use Rattle.octet_state.specs.declared.act.Whom.TheVariants.{One, All}
use Rattle.octet_state.specs.declared.phase.Phase.{Phase}
use Rattle.octet_state.specs.declared.phase.Phase.TheVariants.{Claimed}
use Rattle.octet_state.specs.declared.phase.Due.TheVariants.{Nothing}
use Rattle.octet_state.specs.State.{Thread, ProtocolState, thread_of, status_of, state_of, now}
use Rattle.octet_state.specs.Steps.{moved, proceeded, most_accesses}
use Rattle.octet_state.specs.Asking.{whom_to_ask, number_to_ask, next_to_ask, is_done, was_asked, answers, has_answered, is_unanswered}
use Rattle.octet_state.specs.Form.{HoldsPhase}
use Rattle.octet_state.specs.Positions.{NamesThread, is_join, is_resting, PriorNamesThread, access_to_come, HasMarksAtEnd}
use Rattle.octet_state.specs.Pasts.{KnowsAccesses}
use Rattle.octet_state.specs.Handover.{KnowsShare, OwnerHandsOver, OwnerTells, ReaderHandsOver, ReaderTells, HandsOver, ClaimHandsOver}
use Rattle.octet_state.specs.FrugalShape.{has_access, marks_for, fences_for, AsksThreadZero, IsPrivateState, IsFirstJoinToCome, IsPrivateShape, is_on}
use Rattle.octet_state.specs.Soundness.{IsSound}
use Rattle.octet_state.proofs.frames.SeenByOthers.{TouchesAlike, each_thread}
use Rattle.octet_state.proofs.lemmas.Widths.{few_events}
use Rattle.octet_state.proofs.frames.LongerJournals.{ends_marked}
use Rattle.octet_state.proofs.frames.EventMade.{StandsAfter, mine, now_grows, now_more, form, positions}
use Rattle.octet_state.proofs.frames.MarkMade.{mark_keeps_order, accesses_on, draw_on, draws_on, share_on, claim_on, pasts_on}
use Rattle.octet_state.proofs.parts.Passing.{claimed_state}
use Rattle.octet_state.proofs.frames.StatusChange.{own_share}
use Rattle.octet_state.proofs.parts.WhomClaimsAsk.{next_apart, next_there, next_not_done, next_done, done_as_before}
use Rattle.octet_state.proofs.parts.PassingInClaims.{unanswered_still, answered_is_not, changes_still, asks_still, all_pass_still}
use Rattle.octet_state.proofs.parts.FrugalShapeOfMarks.{access_same, shape_after_mark}

-- a thread that has claimed an object, and the next that it asks: one that has answered, or is blocked
module _ (s : ProtocolState) (t object : ℕ) (mode : Mode) (prior : StateWord) (done : ℕ) (asked : Bool) (inside : t < length s.threads) (sound : IsSound s)
    (is : (thread_of s t).phase ≡ Claimed object mode prior done asked) (left : done < number_to_ask (whom_to_ask prior) (length s.threads))
    (given : ((asked ≡ true) × (answers (status_of s (next_to_ask (whom_to_ask prior) t done)) t ≡ true)) ⊎ ((status_of s (next_to_ask (whom_to_ask prior) t done)).blocked ≡ true)) where
  abbrev whom : ℕ
  whom = next_to_ask (whom_to_ask prior) t done

  abbrev upto : ℕ
  upto = (status_of s whom).upto

  abbrev event : Event
  event = Marked (Join whom upto)

  abbrev behind : Thread
  behind = moved (Claimed object mode prior (suc done) false) Nothing (thread_of s t)

  abbrev next : ProtocolState
  next = proceeded s t behind (Some event)

  holds : HoldsPhase (length s.threads) (length s.cells) t (thread_of s t).count (Claimed object mode prior done asked)
  holds = subst (HoldsPhase (length s.threads) (length s.cells) t (thread_of s t).count) is (sound.form.phases t)

  named : NamesThread (length s.threads) prior
  named = subst (PriorNamesThread (length s.threads)) is (sound.positions.prior_named t)

  ends : HasMarksAtEnd (Claimed object mode prior done asked) (marks_at_end (journal_of s.journals t))
  ends = subst (λ (p : Phase). HasMarksAtEnd p (marks_at_end (journal_of s.journals t))) is (sound.positions.at_end t)

  apart : whom ≢ t
  apart = next_apart prior t mode (thread_of s t).count done holds.1

  there : whom < length s.threads
  there = next_there prior (length s.threads) t done named left

  within : t < length s.journals
  within = mine s t behind event inside sound

  stands : StandsAfter s t behind event
  stands = record {
    ran = ap is_resting is;
    runs = refl;
    dues = refl;
    phases = (holds.0, holds.1, omega arith, λ no. absurd cc);
    prior_named = named;
    mark_named = λ mark same. let it : Join whom upto ≡ mark = cc in subst (λ (m : Mark). IsTrue (is_mark (length s.threads) t m)) it
        (and_from (nat_lt whom (length s.threads) && not (whom == t)) (nat_lt upto (2 ^ 64))
        (and_from (nat_lt whom (length s.threads)) (not (whom == t)) (lt-ltb whom (length s.threads) there) (ap (λ (b : Bool). not b) (ne_eqb whom t apart)))
        (lt-ltb upto (2 ^ 64) (omega (arith, sound.positions.reached whom, few_events s whom sound))));
    accesses = let a : access_count (journal_of s.journals t) + 1 ≤ most_accesses = subst (λ (p : Phase). access_count (journal_of s.journals t) + access_to_come p ≤ most_accesses) is (sound.positions.accesses t) in omega arith;
    few = λ o none. absurd cc;
    at_end = let marks = marks_at_end (journal_of s.journals t) in subst (λ (l : List Mark). (length l ≡ suc done) × IsTrue (list_all is_join l)) (sym (ends_marked [] (journal_of s.journals t) (Join whom upto)))
        (let a = ends.0 in omega (arith, length-append marks (Join whom upto ∷ [])), list_all-append is_join marks (Join whom upto ∷ []) ∙ and_from (list_all is_join marks) true ends.1 refl);
  }

  history : IsOneHistory s.starts (appended s.journals t event) s.cells s.counter
  history = history_grows s.starts s.journals s.cells s.counter t event sound.one_history within (le-leb upto (now s whom) (sound.positions.reached whom)) refl
      (mark_keeps_order s.journals t (Join whom upto) within sound.one_history.ordered)

  -- who passes by the claim is not the one that has answered
  stays : (u : ℕ) → is_resting (thread_of s u).phase ≡ false → IsTrue (is_unanswered (whom_to_ask prior) t done asked u (status_of s u)) → IsTrue (is_unanswered (whom_to_ask prior) t (suc done) false u (status_of s u))
  stays u runs waits = elim (cases_eq u whom) [
    | inr other ↦ unanswered_still (whom_to_ask prior) t done asked u (status_of s u) other waits
    | inl same ↦ absurd (elim given [
      | inl h ↦ answered_is_not (whom_to_ask prior) t done u (status_of s u) same (subst (λ (v : ℕ). answers (status_of s v) t ≡ true) (sym same) h.1)
          (subst (λ (b : Bool). IsTrue (is_unanswered (whom_to_ask prior) t done b u (status_of s u))) h.0 waits)
      | inr blocked ↦ let rests : is_resting (thread_of s whom).phase ≡ true = sym (sound.positions.blocked whom) ∙ blocked in
          let ran : is_resting (thread_of s whom).phase ≡ false = subst (λ (v : ℕ). is_resting (thread_of s v).phase ≡ false) same runs in cc
    ])
  ]

  no_draw : (n : ℕ) → event ≡ Marked (Draw n) → ⊥
  no_draw n same = cc

  -- after the Join lies the past of the events that it names
  joins : (place : Place) → InPast (appended s.journals t event) whom upto place → InPast (appended s.journals t event) t (now next t) place
  joins place h = past_has_joined (appended s.journals t event) t (now next t) (count s.journals t) whom upto place (let k = now_more s t behind event inside sound in omega arith) (new_event s.journals t event within)
      (let a = sound.positions.reached whom in let b = now_grows s t behind event inside sound whom in omega arith) h

  -- the thread has answered, or its position is its last
  told : (has_answered (whom_to_ask prior) t done asked whom (status_of s whom) ≡ true) ⊎ (upto ≡ now s whom)
  told = elim given [
    | inr blocked ↦ inr (sound.positions.last whom blocked)
    | inl h ↦ inl (and_from (was_asked (whom_to_ask prior) t done asked whom) (answers (status_of s whom) t)
        (and_from (asked && whom == whom) (not (is_done (whom_to_ask prior) t done whom)) (and_from asked (whom == whom) h.0 (eq-eqb whom whom refl))
        (ap (λ (b : Bool). not b) (next_not_done (whom_to_ask prior) (length s.threads) t done left))) h.1)
  ]

  owner_knew : (d a : Bool) → d ≡ false → (a ≡ true) ⊎ (upto ≡ now s whom) → OwnerHandsOver s.journals object t whom upto d a → KnowsAccesses s.journals object whom upto
  owner_knew true a not_done by h = absurd cc
  owner_knew false true not_done by h = h
  owner_knew false false not_done (inl never) h = absurd cc
  owner_knew false false not_done (inr last) h = subst (KnowsAccesses s.journals object whom) (sym last) h

  owner_on : (owner : ℕ) → whom_to_ask prior ≡ One owner → OwnerTells s.journals object t owner done asked (status_of s owner) → OwnerTells (appended s.journals t event) object t owner (suc done) false (status_of s owner)
  owner_on owner same h =
      let before : OwnerHandsOver s.journals object t whom upto (is_done (whom_to_ask prior) t done whom) (has_answered (whom_to_ask prior) t done asked whom (status_of s whom)) =
      subst (λ (w : Whom). OwnerHandsOver s.journals object t (next_to_ask w t done) (status_of s (next_to_ask w t done)).upto (is_done w t done (next_to_ask w t done)) (has_answered w t done asked (next_to_ask w t done) (status_of s (next_to_ask w t done)))) (sym same) h in
      let knew = owner_knew (is_done (whom_to_ask prior) t done whom) (has_answered (whom_to_ask prior) t done asked whom (status_of s whom)) (next_not_done (whom_to_ask prior) (length s.threads) t done left) told before in
      let knows : KnowsAccesses (appended s.journals t event) object t (now next t) = λ place access. joins place (accesses_on s t behind (Join whom upto) inside sound object whom upto upto (omega arith) knew place access) in
      subst (λ (w : Whom). OwnerHandsOver (appended s.journals t event) object t (next_to_ask w t done) (status_of s (next_to_ask w t done)).upto (is_done w t (suc done) (next_to_ask w t done)) false) same
      (subst (λ (d : Bool). OwnerHandsOver (appended s.journals t event) object t whom upto d false) (sym (next_done (whom_to_ask prior) t done apart)) knows)

  reader_knew : (number : ℕ) (d a : Bool) → d ≡ false → (a ≡ true) ⊎ (upto ≡ now s whom) → ReaderHandsOver s.journals object t number whom upto d a → KnowsShare s.journals object number whom whom upto
  reader_knew number true a not_done by h = absurd cc
  reader_knew number false true not_done by h = h
  reader_knew number false false not_done (inl never) h = absurd cc
  reader_knew number false false not_done (inr last) h = subst (KnowsShare s.journals object number whom whom) (sym last) (own_share s whom true there sound object number)

  other_reader : (number y : ℕ) (d e a : Bool) → e ≡ d → ReaderHandsOver s.journals object t number y (status_of s y).upto d a → ReaderHandsOver (appended s.journals t event) object t number y (status_of s y).upto e false
  other_reader number y true true a same h = share_on s t behind (Join whom upto) inside sound no_draw object number y t (now s t) (now next t) (now_grows s t behind event inside sound t) h
  other_reader number y false false a same h = tt
  other_reader number y true false a same h = absurd cc
  other_reader number y false true a same h = absurd cc

  reader_by : (number y : ℕ) → ReaderHandsOver s.journals object t number y (status_of s y).upto (is_done (whom_to_ask prior) t done y) (has_answered (whom_to_ask prior) t done asked y (status_of s y))
      → ReaderHandsOver (appended s.journals t event) object t number y (status_of s y).upto (is_done (whom_to_ask prior) t (suc done) y) false
  reader_by number y h = elim (cases_eq y whom) [
    | inr other ↦ other_reader number y (is_done (whom_to_ask prior) t done y) (is_done (whom_to_ask prior) t (suc done) y) (has_answered (whom_to_ask prior) t done asked y (status_of s y)) (done_as_before (whom_to_ask prior) t done y other) h
    | inl same ↦
        let knew = reader_knew number (is_done (whom_to_ask prior) t done whom) (has_answered (whom_to_ask prior) t done asked whom (status_of s whom)) (next_not_done (whom_to_ask prior) (length s.threads) t done left) told
        (subst (λ (v : ℕ). ReaderHandsOver s.journals object t number v (status_of s v).upto (is_done (whom_to_ask prior) t done v) (has_answered (whom_to_ask prior) t done asked v (status_of s v))) same h) in
        let knows : KnowsShare (appended s.journals t event) object number whom t (now next t) = λ place share. joins place (share_on s t behind (Join whom upto) inside sound no_draw object number whom whom upto upto (omega arith) knew place share) in
        subst (λ (v : ℕ). ReaderHandsOver (appended s.journals t event) object t number v (status_of s v).upto (is_done (whom_to_ask prior) t (suc done) v) false) (sym same)
        (subst (λ (d : Bool). ReaderHandsOver (appended s.journals t event) object t number whom upto d false) (sym (next_done (whom_to_ask prior) t done apart)) knows)
  ]

  reader_on : (number y : ℕ) → whom_to_ask prior ≡ All → ReaderTells s.journals object t number y done asked (status_of s y) → ReaderTells (appended s.journals t event) object t number y (suc done) false (status_of s y)
  reader_on number y same h = subst (λ (w : Whom). ReaderHandsOver (appended s.journals t event) object t number y (status_of s y).upto (is_done w t (suc done) y) false) same
      (reader_by number y (subst (λ (w : Whom). ReaderHandsOver s.journals object t number y (status_of s y).upto (is_done w t done y) (has_answered w t done asked y (status_of s y))) (sym same) h))

  hands_on : (p : StateWord) → prior ≡ p → HandsOver s.journals s.statuses object t p done asked → HandsOver next.journals next.statuses object t p (suc done) false
  hands_on (WrEx owner) same h = owner_on owner (ap whom_to_ask same) h
  hands_on (RdEx owner since) same h = owner_on owner (ap whom_to_ask same) h
  hands_on (RdSh number) same h = (draw_on s t behind (Join whom upto) inside sound object number h.0, λ y. reader_on number y (ap whom_to_ask same) (h.1 y))
  hands_on (WrInt by) same h = h
  hands_on (RdInt by) same h = h
  hands_on (ShInt by) same h = h

  touching : TouchesAlike behind (thread_of s t)
  touching = record { marks_same = λ o. sym (ap (λ (p : Phase). marks_for p o) is); fences_same = λ o. sym (ap (λ (p : Phase). fences_for p o) is) }

  on_same : (o : ℕ) → is_on behind.phase o ≡ is_on (thread_of s t).phase o
  on_same o = λ i. touching.marks_same o i || touching.fences_same o i

  asks : (u : ℕ) → AsksThreadZero (thread_of s u).phase → AsksThreadZero (thread_of next u).phase
  asks = asks_still s t object mode prior done (suc done) asked false Nothing (Some event) inside is

  -- an object that it alone touches it takes from thread 0, for its first access
  takes_from_zero : IsPrivateState s.journals s.threads object t (state_of s object) → (whom_to_ask prior ≡ One 0) × (t ≢ 0) × IsFalse (has_access (journal_of s.journals t) object)
  takes_from_zero h = elim (claimed_state s t object mode prior done asked sound is) [
    | inl at ↦ let own = subst (IsPrivateState s.journals s.threads object t) at h in (subst AsksThreadZero is own.1, own.2, own.3)
    | inr at ↦ let own = subst (IsPrivateState s.journals s.threads object t) at h in (subst AsksThreadZero is own.1, own.2, own.3)
  ]

  comes : (o : ℕ) → IsPrivateShape s.journals s.states s.threads o t → IsTrue (object == o) → IsFirstJoinToCome next.journals o t
  comes o shape for =
      let same : object ≡ o = eqb-true object o for in
      let zero = takes_from_zero (subst (λ (q : ℕ). IsPrivateState s.journals s.threads q t (state_of s q)) (sym same) shape.state) in
      let first : whom ≡ 0 = ap (λ (w : Whom). next_to_ask w t done) zero.0 in
      let one : done < number_to_ask (One 0) (length s.threads) = subst (λ (w : Whom). done < number_to_ask w (length s.threads)) zero.0 left in
      let none : marks_at_end (journal_of s.journals t) ≡ [] = no_item (marks_at_end (journal_of s.journals t)) (let a = ends.0 in omega arith) in
      record {
        upto = upto;
        not_zero = zero.1;
        is_first = access_same s t behind (Join whom upto) inside sound on_same asks t o ∙ subst (λ (q : ℕ). IsFalse (has_access (journal_of s.journals t) q)) same zero.2;
        one_join = ap (λ (j : List Event). marks_at_end j) (same_journal s.journals t event within) ∙ (ends_marked [] (journal_of s.journals t) (Join whom upto)
            ∙ (ap (λ (l : List Mark). l ++ Join whom upto ∷ []) none ∙ ap (λ (u : ℕ). Join u upto ∷ []) first));
      }
    where
      no_item : (marks : List Mark) → length marks ≡ 0 → marks ≡ []
      no_item [] h = refl
      no_item (m ∷ marks) h = absurd (omega arith)

  pub answered_soundly : IsSound (proceeded s t (moved (Claimed object mode prior (suc done) false) Nothing (thread_of s t)) (Some (Marked (Join (next_to_ask (whom_to_ask prior) t done) (status_of s (next_to_ask (whom_to_ask prior) t done)).upto))))
  answered_soundly = record {
    form = form s t behind event inside sound stands;
    one_history = history;
    positions = positions s t behind event inside sound stands;
    passing = all_pass_still s t object mode prior done (suc done) asked false Nothing (Some event) inside is stays sound.passing;
    intermediate = changes_still s t object mode prior done (suc done) asked false Nothing (Some event) inside is sound.intermediate;
    pasts = pasts_on s t behind (Join whom upto) inside sound no_draw tt (sound.pasts.counts t)
        (draws_on s t behind (Join whom upto) inside sound no_draw (thread_of s t).count t (now s t) (now next t) (now_grows s t behind event inside sound t) (sound.pasts.draws t));
    handover = each_thread s t behind inside (Some event) (λ u y. ClaimHandsOver next.journals next.statuses u y.phase) (hands_on prior refl (subst (ClaimHandsOver s.journals s.statuses t) is (sound.handover t)))
        (λ u differ. claim_on s t behind (Join whom upto) inside sound no_draw u (thread_of s u).phase (sound.handover u));
    frugal = shape_after_mark s t behind (Join whom upto) inside sound on_same asks (λ o old. touching.fences_same o ∙ old.no_fence) (λ o old for. inr (comes o old for));
  }
