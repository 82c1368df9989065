-- A step that makes a mark other than a draw, and changes no word: what all know stays known.
use Rattle.std.proofs.Common.{◌≡◌, ◌≢◌, ℕ, ◌<◌, ◌≤◌, inl, Bool, true, false, IsTrue, length, Some, None, sym, ap, ◌∙◌, arith}
use Rattle.octet_model.specs.declared.event.Mark.{Mark}
use Rattle.octet_model.specs.declared.event.Mark.TheVariants.{Draw}
use Rattle.octet_model.specs.declared.event.Event.{Event}
use Rattle.octet_model.specs.declared.event.Event.TheVariants.{Marked}
use Rattle.octet_model.specs.declared.event.Place.{Place}
use Rattle.octet_model.specs.Machine.{Journals, appended}
use Rattle.octet_model.specs.HappensBefore.{object_of, is_write, Conflict, IsOrdered}
use Rattle.octet_model.proofs.lemmas.Steps.{new_event}
use Rattle.octet_model.proofs.lemmas.Growth.{new, ordered_longer}
use Rattle.octet_model.proofs.lemmas.Pasts.{past_grows}
use Rattle.octet_state.specs.declared.state_word.StateWord.{StateWord}
use Rattle.octet_state.specs.declared.state_word.StateWord.TheVariants.{WrEx, RdEx, RdSh, WrInt, RdInt, ShInt}
use Rattle.octet_state.specs.declared.act.Mode.TheVariants.{Read}
use Rattle.octet_state.specs.declared.act.Whom.TheVariants.{One, All}
use Rattle.octet_state.specs.declared.phase.Phase.{Phase}
use Rattle.octet_state.specs.declared.phase.Phase.TheVariants.{Off, Idle, Want, Pass, FenceDue, Claimed, Sharing, Blocked}
use Rattle.octet_state.specs.State.{Thread, ProtocolState, thread_of, status_of, state_of, now}
use Rattle.octet_state.specs.Steps.{proceeded}
use Rattle.octet_state.specs.Asking.{is_done, has_answered}
use Rattle.octet_state.specs.Pasts.{KnowsAccesses, KnowsWrites, KnowsOthers, KnowsDraws, IsDrawAfterWrites, DrawKnowsWrites, IsSharedAt, StateKnows, PhaseKnows, HasPasts}
use Rattle.octet_state.specs.Handover.{KnowsShare, OwnerHandsOver, ReaderHandsOver, ClaimHandsOver}
use Rattle.octet_state.specs.Soundness.{IsSound}
use Rattle.octet_state.proofs.frames.SeenByOthers.{each_thread}
use Rattle.octet_state.proofs.frames.LongerJournals.{still_knows_accesses, still_knows_writes, still_knows_others, still_knows_draws, still_knows_share, draw_still_knows}
use Rattle.octet_state.proofs.frames.EventMade.{mine, now_grows, now_same}

-- a mark is no access
no_access : (m : Mark) (object : ℕ) → object_of (Marked m) ≡ Some object → ⊥
no_access m object h = cc

no_write : (m : Mark) (object : ℕ) → IsTrue (is_write (Marked m)) × (object_of (Marked m) ≡ Some object) → ⊥
no_write m object h = let a = h.1 in cc

-- journals stay ordered after a mark
pub mark_keeps_order : (js : Journals) (t : ℕ) (m : Mark) → t < length js → IsOrdered js → IsOrdered (appended js t (Marked m))
mark_keeps_order js t m inside ordered = ordered_longer js t (Marked m) inside ordered (λ a c. absurd (none a c))
  where
    none : (a : Place) → Conflict (appended js t (Marked m)) a (new js t (Marked m)) → ⊥
    none a c = let at_m = new_event js t (Marked m) inside in let both : Some (Marked m) ≡ Some c.second = sym at_m ∙ c.is_second in let same : Marked m ≡ c.second = cc in
        let it : object_of (Marked m) ≡ Some c.object = ap (λ (e : Event). object_of e) same ∙ c.of_same in no_access m c.object it

module _ (s : ProtocolState) (t : ℕ) (x : Thread) (m : Mark) (inside : t < length s.threads) (sound : IsSound s) where
  within : t < length s.journals
  within = mine s t x (Marked m) inside sound

  grows_on : (u : ℕ) → now s u ≤ now (proceeded s t x (Some (Marked m))) u
  grows_on = now_grows s t x (Marked m) inside sound

  pub accesses_on : (object u j k : ℕ) → j ≤ k → KnowsAccesses s.journals object u j → KnowsAccesses (appended s.journals t (Marked m)) object u k
  accesses_on object u j k le knows place access = past_grows (appended s.journals t (Marked m)) u j k place le (still_knows_accesses s.journals t (Marked m) within object u j (no_access m object) knows place access)

  pub writes_on : (object u j k : ℕ) → j ≤ k → KnowsWrites s.journals object u j → KnowsWrites (appended s.journals t (Marked m)) object u k
  writes_on object u j k le knows place write = past_grows (appended s.journals t (Marked m)) u j k place le (still_knows_writes s.journals t (Marked m) within object u j (no_write m object) knows place write)

  pub others_on : (object u j : ℕ) → KnowsOthers s.journals object u j → KnowsOthers (appended s.journals t (Marked m)) object u j
  others_on object u j = still_knows_others s.journals t (Marked m) within object u j (inl (no_access m object))

  pub draw_after_on : (object number : ℕ) (draw : Place) → IsDrawAfterWrites s.journals object number draw → IsDrawAfterWrites (appended s.journals t (Marked m)) object number draw
  draw_after_on object number draw = draw_still_knows s.journals t (Marked m) within object number draw (no_write m object)

  pub draw_on : (object number : ℕ) → DrawKnowsWrites s.journals object number → DrawKnowsWrites (appended s.journals t (Marked m)) object number
  draw_on object number h = (h.0, draw_after_on object number h.0 h.1)

  pub shared_on : (object number : ℕ) → IsSharedAt s.journals s.counter object number → IsSharedAt (proceeded s t x (Some (Marked m))).journals (proceeded s t x (Some (Marked m))).counter object number
  shared_on object number h = (h.0, h.1, draw_on object number h.2)

  pub state_on : (object : ℕ) (state : StateWord) → StateKnows s.journals s.counter object state → StateKnows (proceeded s t x (Some (Marked m))).journals (proceeded s t x (Some (Marked m))).counter object state
  state_on object (WrEx owner) h = accesses_on object owner (now s owner) (now (proceeded s t x (Some (Marked m))) owner) (grows_on owner) h
  state_on object (RdEx owner upto) h = (let a = h.0 in let b = grows_on owner in omega arith, writes_on object owner upto upto (omega arith) h.1, others_on object owner upto h.2)
  state_on object (RdSh number) h = shared_on object number h
  state_on object (WrInt by) h = h
  state_on object (RdInt by) h = h
  state_on object (ShInt by) h = h

  -- of another thread
  pub phase_on : (u : ℕ) (p : Phase) → u ≢ t → PhaseKnows s.journals s.counter u p → PhaseKnows (proceeded s t x (Some (Marked m))).journals (proceeded s t x (Some (Marked m))).counter u p
  phase_on u (Pass object Read) differ h = writes_on object u (now s u) (now (proceeded s t x (Some (Marked m))) u) (grows_on u) h
  phase_on u (Pass object _) differ h = accesses_on object u (now s u) (now (proceeded s t x (Some (Marked m))) u) (grows_on u) h
  phase_on u (FenceDue object number) differ h = shared_on object number h
  phase_on u (Sharing object None) differ h = writes_on object u (now s u) (now (proceeded s t x (Some (Marked m))) u) (grows_on u) h
  phase_on u (Sharing object (Some number)) differ h = (
    writes_on object u (now s u) (now (proceeded s t x (Some (Marked m))) u) (grows_on u) h.0,
    (h.1.0, draw_after_on object number (record { thread = u; event = h.1.0 }) h.1.1, h.1.2 ∙ sym (now_same s t x (Marked m) inside sound u differ)),
  )
  phase_on u Off differ h = h
  phase_on u Idle differ h = h
  phase_on u (Want object mode seen) differ h = h
  phase_on u (Claimed object mode prior done asked) differ h = h
  phase_on u Blocked differ h = h

  module _ (no_draw : (number : ℕ) → Marked m ≡ Marked (Draw number) → ⊥) where
    pub draws_on : (upto u j k : ℕ) → j ≤ k → KnowsDraws s.journals upto u j → KnowsDraws (appended s.journals t (Marked m)) upto u k
    draws_on upto u j k le knows place number is below = past_grows (appended s.journals t (Marked m)) u j k place le
        (still_knows_draws s.journals t (Marked m) within upto u j (λ number is below. no_draw number is) knows place number is below)

    pub share_on : (object number y by j k : ℕ) → j ≤ k → KnowsShare s.journals object number y by j → KnowsShare (appended s.journals t (Marked m)) object number y by k
    share_on object number y by j k le knows place is = past_grows (appended s.journals t (Marked m)) by j k place le
        (still_knows_share s.journals t (Marked m) within object number y by j (inl (no_access m object)) (inl no_draw) knows place is)

    owner_on : (object me owner : ℕ) (done answered : Bool) → OwnerHandsOver s.journals object me owner (status_of s owner).upto done answered → OwnerHandsOver (appended s.journals t (Marked m)) object me owner (status_of s owner).upto done answered
    owner_on object me owner true answered h = accesses_on object me (now s me) (now (proceeded s t x (Some (Marked m))) me) (grows_on me) h
    owner_on object me owner false true h = accesses_on object owner (status_of s owner).upto (status_of s owner).upto (omega arith) h
    owner_on object me owner false false h = accesses_on object owner (now s owner) (now (proceeded s t x (Some (Marked m))) owner) (grows_on owner) h

    reader_on : (object me number y : ℕ) (done answered : Bool) → ReaderHandsOver s.journals object me number y (status_of s y).upto done answered → ReaderHandsOver (appended s.journals t (Marked m)) object me number y (status_of s y).upto done answered
    reader_on object me number y true answered h = share_on object number y me (now s me) (now (proceeded s t x (Some (Marked m))) me) (grows_on me) h
    reader_on object me number y false true h = share_on object number y y (status_of s y).upto (status_of s y).upto (omega arith) h
    reader_on object me number y false false h = h

    -- a claim keeps what it has learnt
    pub claim_on : (me : ℕ) (p : Phase) → ClaimHandsOver s.journals s.statuses me p → ClaimHandsOver (proceeded s t x (Some (Marked m))).journals (proceeded s t x (Some (Marked m))).statuses me p
    claim_on me (Claimed object mode (WrEx owner) done asked) h = owner_on object me owner (is_done (One owner) me done owner) (has_answered (One owner) me done asked owner (status_of s owner)) h
    claim_on me (Claimed object mode (RdEx owner upto) done asked) h = owner_on object me owner (is_done (One owner) me done owner) (has_answered (One owner) me done asked owner (status_of s owner)) h
    claim_on me (Claimed object mode (RdSh number) done asked) h =
        (draw_on object number h.0, λ y. reader_on object me number y (is_done All me done y) (has_answered All me done asked y (status_of s y)) (h.1 y))
    claim_on me (Claimed object mode (WrInt by) done asked) h = h
    claim_on me (Claimed object mode (RdInt by) done asked) h = h
    claim_on me (Claimed object mode (ShInt by) done asked) h = h
    claim_on me Off h = h
    claim_on me Idle h = h
    claim_on me (Want object mode seen) h = h
    claim_on me (Pass object mode) h = h
    claim_on me (FenceDue object number) h = h
    claim_on me (Sharing object drawn) h = h
    claim_on me Blocked h = h

    pub pasts_on : PhaseKnows (proceeded s t x (Some (Marked m))).journals (proceeded s t x (Some (Marked m))).counter t x.phase → x.count ≤ s.counter → KnowsDraws (appended s.journals t (Marked m)) x.count t (now (proceeded s t x (Some (Marked m))) t)
        → HasPasts (proceeded s t x (Some (Marked m)))
    pasts_on knows counts draws = record {
      states = λ object. state_on object (state_of s object) (sound.pasts.states object);
      phases = each_thread s t x inside (Some (Marked m)) (λ u y. PhaseKnows (proceeded s t x (Some (Marked m))).journals (proceeded s t x (Some (Marked m))).counter u y.phase) knows (λ u differ. phase_on u (thread_of s u).phase differ (sound.pasts.phases u));
      counts = each_thread s t x inside (Some (Marked m)) (λ u y. y.count ≤ s.counter) counts (λ u differ. sound.pasts.counts u);
      draws = each_thread s t x inside (Some (Marked m)) (λ u y. KnowsDraws (appended s.journals t (Marked m)) y.count u (now (proceeded s t x (Some (Marked m))) u)) draws
          (λ u differ. draws_on (thread_of s u).count u (now s u) (now (proceeded s t x (Some (Marked m))) u) (grows_on u) (sound.pasts.draws u));
    }
