-- A draw keeps the state sound.
use Rattle.std.proofs.Common.{◌≡◌, ℕ, suc, ◌+◌, ◌%◌, ◌^◌, ◌<◌, ◌≤◌, inl, inr, Bool, true, false, IsTrue, List, [], ◌∷◌, ◌++◌, length, Some, None, sym, refl, ap, ◌∙◌, subst, arith}
use Rattle.std.specs.Prelude.{◌==◌}
use Rattle.std.proofs.lemmas.Bool.{and_from, eqb-true, eq-eqb, lt-ltb, le-leb}
use Rattle.octet_model.specs.declared.event.Mark.{Mark}
use Rattle.octet_model.specs.declared.event.Mark.TheVariants.{Draw}
use Rattle.octet_model.specs.declared.event.Event.{Event}
use Rattle.octet_model.specs.declared.event.Event.TheVariants.{Marked}
use Rattle.octet_model.specs.declared.event.Place.{Place}
use Rattle.octet_model.specs.Machine.{journal_of, appended}
use Rattle.octet_model.specs.HappensBefore.{event_at}
use Rattle.octet_model.specs.Journals.{access_count}
use Rattle.octet_model.specs.Frugal.{marks_at_end}
use Rattle.octet_model.specs.Plays.{IsOneHistory}
use Rattle.octet_model.specs.Log.{is_mark}
use Rattle.octet_model.proofs.lemmas.Steps.{count, new_event}
use Rattle.octet_model.proofs.lemmas.Growth.{new, old_or_new, history_grows}
use Rattle.octet_model.proofs.lemmas.Pasts.{past_grows, past_stays, past_happens_before, past_has_draws_whole}
use Rattle.octet_model.proofs.lemmas.MarksSeen.{MarksSeen, history_marks_seen}
use Rattle.octet_state.specs.declared.state_word.StateWord.TheVariants.{WrEx, RdEx, RdSh, WrInt, RdInt, ShInt}
use Rattle.octet_state.specs.declared.act.Whom.TheVariants.{One, All}
use Rattle.octet_state.specs.declared.phase.Phase.{Phase}
use Rattle.octet_state.specs.declared.phase.Phase.TheVariants.{Off, Idle, Want, Pass, FenceDue, Claimed, Sharing, Blocked}
use Rattle.octet_state.specs.State.{Thread, ProtocolState, thread_of, status_of, state_of, now}
use Rattle.octet_state.specs.Steps.{ToDraw, counted, target, proceeded, most_accesses}
use Rattle.octet_state.specs.Form.{HoldsPhase}
use Rattle.octet_state.specs.Positions.{is_resting, access_to_come, HasMarksAtEnd}
use Rattle.octet_state.specs.Asking.{is_done, has_answered}
use Rattle.octet_state.specs.Pasts.{KnowsWrites, KnowsDraws, IsDrawAfterWrites, PhaseKnows, HasPasts}
use Rattle.octet_state.specs.Handover.{KnowsShare, OwnerHandsOver, ReaderHandsOver, ClaimHandsOver}
use Rattle.octet_state.specs.FrugalShape.{is_on, IsPrivateShape, IsPrivateState}
use Rattle.octet_state.specs.Soundness.{IsSound}
use Rattle.octet_state.specs.Laws.{DrawIsLawful}
use Rattle.octet_state.proofs.frames.SeenByOthers.{busy, LooksAlike, each_thread, all_pass_on, changes_on, asks_zero}
use Rattle.octet_state.proofs.parts.DrawsCounted.{few_draws}
use Rattle.octet_state.proofs.frames.LongerJournals.{old_or_new_access, ends_marked, still_knows_draws}
use Rattle.octet_state.proofs.frames.EventMade.{StandsAfter, mine, now_grows, now_more, form, positions}
use Rattle.octet_state.proofs.frames.MarkMade.{mark_keeps_order, accesses_on, writes_on, draw_on, state_on, phase_on}
use Rattle.octet_state.proofs.parts.Passing.{shared_state}
use Rattle.octet_state.proofs.frames.CounterChange.{reworded, form_reworded, state_reworded, phase_reworded}
use Rattle.octet_state.proofs.frames.WordOfStep.{does_at}
use Rattle.octet_state.proofs.parts.FrugalShapeOfMarks.{shape_after_mark}

module _ (s : ProtocolState) (t object : ℕ) (inside : t < length s.threads) (sound : IsSound s) (is : (thread_of s t).phase ≡ Sharing object None) where
  -- the number that is drawn
  abbrev number : ℕ
  number = suc s.counter

  -- the thread after its draw
  abbrev drawn : Thread
  drawn = counted (Sharing object (Some number)) number

  abbrev event : Event
  event = Marked (Draw number)

  -- the event, and then the counter
  abbrev grown : ProtocolState
  grown = proceeded s t drawn (Some event)

  abbrev next : ProtocolState
  next = reworded grown number s.states

  small : number < 2 ^ 64
  small = let h = few_draws s sound in omega arith

  stands : StandsAfter s t drawn event
  stands = record {
    ran = ap is_resting is;
    runs = refl;
    dues = refl;
    phases = subst (HoldsPhase (length s.threads) (length s.cells) t (thread_of s t).count) is (sound.form.phases t);
    prior_named = tt;
    mark_named = λ mark same. let it : Draw number ≡ mark = cc in subst (λ (m : Mark). IsTrue (is_mark (length s.threads) t m)) it
        (and_from _ _ (le-leb 1 number (omega arith)) (lt-ltb number (2 ^ 64) small));
    accesses = let a : access_count (journal_of s.journals t) + 1 ≤ most_accesses = subst (λ (p : Phase). access_count (journal_of s.journals t) + access_to_come p ≤ most_accesses) is (sound.positions.accesses t) in omega arith;
    few = λ o none. absurd cc;
    at_end = let ends : HasMarksAtEnd (Sharing object None) (marks_at_end (journal_of s.journals t)) = subst (λ (p : Phase). HasMarksAtEnd p (marks_at_end (journal_of s.journals t))) is (sound.positions.at_end t) in
        (ends.0, ends.1, ends_marked [] (journal_of s.journals t) (Draw number) ∙ ap (λ (l : List Mark). l ++ Draw number ∷ []) ends.2);
  }

  within : t < length s.journals
  within = mine s t drawn event inside sound

  history : IsOneHistory s.starts (appended s.journals t event) s.cells number
  history = history_grows s.starts s.journals s.cells s.counter t event sound.one_history within (eq-eqb number number refl) refl
      (mark_keeps_order s.journals t (Draw number) within sound.one_history.ordered)

  seen : MarksSeen s.journals s.counter
  seen = history_marks_seen s.starts s.journals s.cells s.counter sound.one_history

  grows_on : (u : ℕ) → now s u ≤ now grown u
  grows_on = now_grows s t drawn event inside sound

  -- the number is above all that were drawn
  is_above : (n : ℕ) → n ≤ s.counter → event ≡ Marked (Draw n) → ⊥
  is_above n le same = let it : number ≡ n = cc in omega arith

  draws_on : (upto u j k : ℕ) → j ≤ k → upto ≤ s.counter → KnowsDraws s.journals upto u j → KnowsDraws (appended s.journals t event) upto u k
  draws_on upto u j k le most knows place n is_draw below = past_grows (appended s.journals t event) u j k place le
      (still_knows_draws s.journals t event within upto u j (λ m same le. is_above m (omega arith) same) knows place n is_draw below)

  -- so no claim asks for it
  share_on : (o n y by j k : ℕ) → j ≤ k → n ≤ s.counter → KnowsShare s.journals o n y by j → KnowsShare (appended s.journals t event) o n y by k
  share_on o n y by j k le most knows place (its, inl access) =
      elim (old_or_new_access s.journals t event within place o access) [
        | inl old ↦ past_grows (appended s.journals t event) by j k place le (past_stays s.journals t by j event place (knows place (its, inl old)))
        | inr here ↦ absurd (let none = here.1 in cc)
      ]
  share_on o n y by j k le most knows place (its, inr drew) =
      elim (old_or_new s.journals t event place (Marked (Draw n)) within drew) [
        | inl old ↦ past_grows (appended s.journals t event) by j k place le (past_stays s.journals t by j event place (knows place (its, inr old)))
        | inr here ↦ absurd (is_above n most (let at : event_at (appended s.journals t event) place ≡ Some event = subst (λ (p : Place). event_at (appended s.journals t event) p ≡ Some event) (sym here) (new_event s.journals t event within) in
            let both : Some event ≡ Some (Marked (Draw n)) = sym at ∙ drew in cc))
      ]

  owner_on : (o me owner : ℕ) (done answered : Bool) → OwnerHandsOver s.journals o me owner (status_of s owner).upto done answered → OwnerHandsOver (appended s.journals t event) o me owner (status_of s owner).upto done answered
  owner_on o me owner true answered h = accesses_on s t drawn (Draw number) inside sound o me (now s me) (now grown me) (grows_on me) h
  owner_on o me owner false true h = accesses_on s t drawn (Draw number) inside sound o owner (status_of s owner).upto (status_of s owner).upto (omega arith) h
  owner_on o me owner false false h = accesses_on s t drawn (Draw number) inside sound o owner (now s owner) (now grown owner) (grows_on owner) h

  reader_on : (o me n y : ℕ) (done answered : Bool) → n ≤ s.counter → ReaderHandsOver s.journals o me n y (status_of s y).upto done answered → ReaderHandsOver (appended s.journals t event) o me n y (status_of s y).upto done answered
  reader_on o me n y true answered most h = share_on o n y me (now s me) (now grown me) (grows_on me) most h
  reader_on o me n y false true most h = share_on o n y y (status_of s y).upto (status_of s y).upto (omega arith) most h
  reader_on o me n y false false most h = h

  claim_on : (me : ℕ) (p : Phase) → ClaimHandsOver s.journals s.statuses me p → ClaimHandsOver grown.journals grown.statuses me p
  claim_on me (Claimed o mode (WrEx owner) done asked) h = owner_on o me owner (is_done (One owner) me done owner) (has_answered (One owner) me done asked owner (status_of s owner)) h
  claim_on me (Claimed o mode (RdEx owner upto) done asked) h = owner_on o me owner (is_done (One owner) me done owner) (has_answered (One owner) me done asked owner (status_of s owner)) h
  claim_on me (Claimed o mode (RdSh n) done asked) h =
      (draw_on s t drawn (Draw number) inside sound o n h.0, λ y. reader_on o me n y (is_done All me done y) (has_answered All me done asked y (status_of s y)) (seen.drawn h.0.0 n h.0.1.is_draw) (h.1 y))
  claim_on me (Claimed o mode (WrInt by) done asked) h = h
  claim_on me (Claimed o mode (RdInt by) done asked) h = h
  claim_on me (Claimed o mode (ShInt by) done asked) h = h
  claim_on me Off h = h
  claim_on me Idle h = h
  claim_on me (Want o mode loaded) h = h
  claim_on me (Pass o mode) h = h
  claim_on me (FenceDue o n) h = h
  claim_on me (Sharing o n) h = h
  claim_on me Blocked h = h

  -- the draw stands after all writes that the thread knows, and those are all writes of the object
  knows_writes : KnowsWrites s.journals object t (now s t)
  knows_writes = subst (PhaseKnows s.journals s.counter t) is (sound.pasts.phases t)

  behind : IsDrawAfterWrites (appended s.journals t event) object number (new s.journals t event)
  behind = record {
    is_draw = new_event s.journals t event within;
    knows = λ place write. past_happens_before (appended s.journals t event) t (now s t) (now s t) place
        (writes_on s t drawn (Draw number) inside sound object t (now s t) (now s t) (omega arith) knows_writes place write) (omega arith) (event, new_event s.journals t event within);
  }

  -- after it lies each draw so far
  draws_lie : KnowsDraws (appended s.journals t event) number t (now grown t)
  draws_lie place n is_draw below = past_has_draws_whole (appended s.journals t event) t (now grown t) (count s.journals t) number n place place
      (history_marks_seen s.starts (appended s.journals t event) s.cells number history).differ
      (let h = now_more s t drawn event inside sound in omega arith) (inl (new_event s.journals t event within)) is_draw below (inl refl)

  pasts : HasPasts next
  pasts = let old = sound.pasts in record {
    states = λ o. state_reworded grown.journals s.counter number (omega arith) o (state_of s o) (state_on s t drawn (Draw number) inside sound o (state_of s o) (old.states o));
    phases = each_thread s t drawn inside (Some event) (λ u y. PhaseKnows next.journals next.counter u y.phase)
        (writes_on s t drawn (Draw number) inside sound object t (now s t) (now grown t) (grows_on t) knows_writes, (count s.journals t, behind, sym (now_more s t drawn event inside sound)))
        (λ u differ. phase_reworded grown.journals s.counter number (omega arith) u (thread_of s u).phase (phase_on s t drawn (Draw number) inside sound u (thread_of s u).phase differ (old.phases u)));
    counts = each_thread s t drawn inside (Some event) (λ u y. y.count ≤ number) (omega arith) (λ u differ. let h = old.counts u in omega arith);
    draws = each_thread s t drawn inside (Some event) (λ u y. KnowsDraws (appended s.journals t event) y.count u (now grown u)) draws_lie
        (λ u differ. draws_on (thread_of s u).count u (now s u) (now grown u) (grows_on u) (old.counts u) (old.draws u));
  }

  alike : LooksAlike drawn (thread_of s t)
  alike = record { busy_same = sym (ap busy is) }

  on_same : (o : ℕ) → is_on drawn.phase o ≡ is_on (thread_of s t).phase o
  on_same o = sym (ap (λ (p : Phase). is_on p o) is)

  -- an object that is being shared is no thread's own
  not_private : (o : ℕ) → IsPrivateShape s.journals s.states s.threads o t → IsTrue (object == o) → ⊥
  not_private o private same =
      let at : object ≡ o = eqb-true object o same in
      subst (IsPrivateState s.journals s.threads o t) (subst (λ (q : ℕ). state_of s q ≡ ShInt t) at (shared_state s t object None sound is)) private.state

  pub draws_soundly : IsSound (proceeded (record s { counter = suc s.counter }) t (counted (Sharing object (Some (suc s.counter))) (suc s.counter)) (Some (Marked (Draw (suc s.counter)))))
  draws_soundly = record {
    form = form_reworded grown number s.states refl (form s t drawn event inside sound stands);
    one_history = history;
    positions = positions s t drawn event inside sound stands;
    passing = all_pass_on s t drawn inside (Some event) alike sound.passing refl;
    intermediate = changes_on s t drawn inside (Some event) alike sound.intermediate;
    pasts = pasts;
    handover = each_thread s t drawn inside (Some event) (λ u y. ClaimHandsOver next.journals next.statuses u y.phase) tt
        (λ u differ. claim_on u (thread_of s u).phase (sound.handover u));
    frugal = shape_after_mark s t drawn (Draw number) inside sound on_same (asks_zero s t drawn inside (Some event) alike) (λ o old. refl) (λ o old marks. absurd (not_private o old marks));
  }

pub draw_is_lawful : DrawIsLawful
draw_is_lawful s t place object sound inside stands at = record {
  may = (stands.0, (object, stands.1));
  sound = subst (λ (p : Phase). IsSound (proceeded (record s { counter = suc s.counter }) t (counted (Sharing (target p) (Some (suc s.counter))) (suc s.counter)) (Some (Marked (Draw (suc s.counter)))))) (sym stands.1)
      (draws_soundly s t object inside sound stands.1);
  does = does_at s sound.form t inside ToDraw place (λ word. (word + 1) % 2 ^ 64) tt at (fits s.counter (let h = few_draws s sound in omega arith));
}
  where
    fits : (n : ℕ) → suc n < 2 ^ 64 → (n + 1) % 2 ^ 64 ≡ suc n
    fits n small = omega arith
