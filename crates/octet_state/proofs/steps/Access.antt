-- An access of a thread that passes keeps what is sound, besides the one history.
use Rattle.std.proofs.Common.{◌≡◌, ◌≢◌, ℕ, suc, ◌<◌, ◌≤◌, ◌⊎◌, inl, inr, Bool, true, false, ◌||◌, IsTrue, length, Option, Some, None, sym, refl, ap, ◌∙◌, subst, arith}
use Rattle.std.specs.Prelude.{◌==◌}
use Rattle.std.proofs.lemmas.Bool.{cases_eq, eqb-true}
use Rattle.octet_model.specs.declared.event.Mark.TheVariants.{Draw}
use Rattle.octet_model.specs.declared.event.Event.{Event}
use Rattle.octet_model.specs.declared.event.Event.TheVariants.{Marked}
use Rattle.octet_model.specs.declared.event.Place.{Place}
use Rattle.octet_model.specs.Machine.{appended}
use Rattle.octet_model.specs.HappensBefore.{event_at, object_of, is_write, Conflict, HappensBefore, IsOrdered}
use Rattle.octet_model.specs.Past.{InPast}
use Rattle.octet_model.proofs.lemmas.Steps.{count, new_event}
use Rattle.octet_model.proofs.lemmas.Growth.{new, old_or_new, ordered_longer}
use Rattle.octet_model.proofs.lemmas.Pasts.{past_grows, past_stays, past_happens_before}
use Rattle.octet_state.specs.declared.state_word.StateWord.{StateWord}
use Rattle.octet_state.specs.declared.state_word.StateWord.TheVariants.{WrEx, RdEx, RdSh, WrInt, RdInt, ShInt}
use Rattle.octet_state.specs.declared.act.Mode.{Mode}
use Rattle.octet_state.specs.declared.act.Mode.TheVariants.{Read}
use Rattle.octet_state.specs.declared.act.Whom.TheVariants.{One, All}
use Rattle.octet_state.specs.declared.phase.Phase.{Phase}
use Rattle.octet_state.specs.declared.phase.Phase.TheVariants.{Off, Idle, Want, Pass, FenceDue, Claimed, Sharing, Blocked}
use Rattle.octet_state.specs.declared.phase.Due.TheVariants.{Nothing}
use Rattle.octet_state.specs.State.{Thread, ProtocolState, thread_of, status_of, state_of, now}
use Rattle.octet_state.specs.Steps.{moved, proceeded}
use Rattle.octet_state.specs.Asking.{whom_to_ask, is_done, has_answered, is_unanswered}
use Rattle.octet_state.specs.Passing.{lets_pass, claim_lets_pass, may_pass, passes}
use Rattle.octet_state.specs.Pasts.{KnowsAccesses, KnowsWrites, KnowsDraws, DrawKnowsWrites, StateKnows, PhaseKnows, HasPasts}
use Rattle.octet_state.specs.Handover.{KnowsShare, OwnerHandsOver, ReaderHandsOver, HandsOver, ClaimHandsOver, AllHandOver}
use Rattle.octet_state.specs.Soundness.{IsSound}
use Rattle.octet_state.proofs.frames.SeenByOthers.{each_thread}
use Rattle.octet_state.proofs.frames.LongerJournals.{still_knows_accesses, now_knows_accesses, still_knows_writes, still_knows_others, still_knows_draws, still_knows_share, draw_still_knows}
use Rattle.octet_state.proofs.frames.EventMade.{mine, now_grows, now_same, now_more}
use Rattle.octet_state.proofs.parts.Passing.{reader_owns, no_two, unanswered_parts, claimed_state, passes_claim, three_parts, shared_state, writer_owns}

module _ (s : ProtocolState) (t : ℕ) (e : Event) (object : ℕ) (mode : Mode) (inside : t < length s.threads) (sound : IsSound s) (is : (thread_of s t).phase ≡ Pass object mode)
    (of : object_of e ≡ Some object) (writes : IsTrue (is_write e) → mode ≢ Read) where
  abbrev idle : Thread
  idle = moved Idle Nothing (thread_of s t)

  abbrev next : ProtocolState
  next = proceeded s t idle (Some e)

  within : t < length s.journals
  within = mine s t idle e inside sound

  passing : IsTrue (may_pass s.statuses s.threads mode t object (state_of s object))
  passing = subst (λ (p : Phase). IsTrue (passes s.statuses s.states s.threads t p)) is (sound.passing t)

  no_draw : (n : ℕ) → e ≡ Marked (Draw n) → ⊥
  no_draw n same = let never : None ≡ Some object = ap (λ (y : Event). object_of y) (sym same) ∙ of in cc

  -- an access of another object
  apart : (o : ℕ) → o ≢ object → object_of e ≡ Some o → ⊥
  apart o differ it = differ (let both : Some o ≡ Some object = sym it ∙ of in cc)

  accesses_on : (o u j k : ℕ) → (object_of e ≡ Some o → ⊥) → j ≤ k → KnowsAccesses s.journals o u j → KnowsAccesses (appended s.journals t e) o u k
  accesses_on o u j k none le knows place access = past_grows (appended s.journals t e) u j k place le (still_knows_accesses s.journals t e within o u j none knows place access)

  writes_on : (o u j k : ℕ) → (IsTrue (is_write e) × (object_of e ≡ Some o) → ⊥) → j ≤ k → KnowsWrites s.journals o u j → KnowsWrites (appended s.journals t e) o u k
  writes_on o u j k none le knows place write = past_grows (appended s.journals t e) u j k place le (still_knows_writes s.journals t e within o u j none knows place write)

  draw_on : (o number : ℕ) → (IsTrue (is_write e) × (object_of e ≡ Some o) → ⊥) → DrawKnowsWrites s.journals o number → DrawKnowsWrites (appended s.journals t e) o number
  draw_on o number none h = (h.0, draw_still_knows s.journals t e within o number h.0 none h.1)

  -- the thread itself knows of its access
  own_on : KnowsAccesses s.journals object t (now s t) → KnowsAccesses (appended s.journals t e) object t (now next t)
  own_on knows place access = past_grows (appended s.journals t e) t (suc (now s t)) (now next t) place (let h = now_more s t idle e inside sound in omega arith) (now_knows_accesses s.journals t e within object knows place access)

  grows_on : (u : ℕ) → now s u ≤ now next u
  grows_on = now_grows s t idle e inside sound

  -- where the state does not let the thread write, its access is no write
  reads_only : (state : StateWord) → IsTrue (lets_pass mode t state) → (state ≡ WrEx t → ⊥) → IsTrue (is_write e) → ⊥
  reads_only state h none w = none (writer_owns mode t state (writes w) h)

  state_here : (state : StateWord) → IsTrue (may_pass s.statuses s.threads mode t object state) → StateKnows s.journals s.counter object state → StateKnows next.journals next.counter object state
  state_here (WrEx owner) h knows = let same : owner ≡ t = eqb-true owner t h in
      subst (λ (u : ℕ). KnowsAccesses (appended s.journals t e) object u (now next u)) (sym same) (own_on (subst (λ (u : ℕ). KnowsAccesses s.journals object u (now s u)) same knows))
  state_here (RdEx owner upto) h knows = let none = reads_only (RdEx owner upto) h (λ k. cc) in (
    let a = knows.0 in let b = grows_on owner in omega arith,
    writes_on object owner upto upto (λ w. none w.0) (omega arith) knows.1,
    still_knows_others s.journals t e within object owner upto (inr (reader_owns mode t owner upto h)) knows.2,
  )
  state_here (RdSh number) h knows = let none = reads_only (RdSh number) h (λ k. cc) in (knows.0, knows.1, draw_on object number (λ w. none w.0) knows.2)
  state_here (WrInt by) h knows = knows
  state_here (RdInt by) h knows = knows
  state_here (ShInt by) h knows = knows

  state_there : (o : ℕ) (state : StateWord) → o ≢ object → StateKnows s.journals s.counter o state → StateKnows next.journals next.counter o state
  state_there o (WrEx owner) differ h = accesses_on o owner (now s owner) (now next owner) (apart o differ) (grows_on owner) h
  state_there o (RdEx owner upto) differ h = (let a = h.0 in let b = grows_on owner in omega arith, writes_on o owner upto upto (λ w. apart o differ w.1) (omega arith) h.1, still_knows_others s.journals t e within o owner upto (inl (apart o differ)) h.2)
  state_there o (RdSh number) differ h = (h.0, h.1, draw_on o number (λ w. apart o differ w.1) h.2)
  state_there o (WrInt by) differ h = h
  state_there o (RdInt by) differ h = h
  state_there o (ShInt by) differ h = h

  states_on : (o : ℕ) → StateKnows next.journals next.counter o (state_of s o)
  states_on o = elim (cases_eq o object) [
    | inl same ↦ subst (λ (q : ℕ). StateKnows next.journals next.counter q (state_of s q)) (sym same) (state_here (state_of s object) passing (sound.pasts.states object))
    | inr differ ↦ state_there o (state_of s o) differ (sound.pasts.states o)
  ]

  -- another thread that passes to a write or an update is at another object
  none_writes : (how : Mode) (u o : ℕ) → how ≢ Read → u ≢ t → IsTrue (may_pass s.statuses s.threads how u o (state_of s o)) → object_of e ≡ Some o → ⊥
  none_writes how u o writing differ h it = let same : object ≡ o = let both : Some object ≡ Some o = sym of ∙ it in cc in
      differ (no_two s mode how t u o (state_of s o) writing (subst (λ (q : ℕ). IsTrue (may_pass s.statuses s.threads mode t q (state_of s q))) same passing) h)

  -- one that passes to a read is at another object where this access is a write
  none_reads : (u o : ℕ) → u ≢ t → IsTrue (may_pass s.statuses s.threads Read u o (state_of s o)) → IsTrue (is_write e) × (object_of e ≡ Some o) → ⊥
  none_reads u o differ h w = let same : object ≡ o = let both : Some object ≡ Some o = sym of ∙ w.1 in cc in
      differ (sym (no_two s Read mode u t o (state_of s o) (writes w.0) h (subst (λ (q : ℕ). IsTrue (may_pass s.statuses s.threads mode t q (state_of s q))) same passing)))

  none_shares : (u o : ℕ) (drawn : Option ℕ) → (thread_of s u).phase ≡ Sharing o drawn → IsTrue (is_write e) × (object_of e ≡ Some o) → ⊥
  none_shares u o drawn shares w = let same : object ≡ o = let both : Some object ≡ Some o = sym of ∙ w.1 in cc in
      let here : IsTrue (may_pass s.statuses s.threads mode t o (state_of s o)) = subst (λ (q : ℕ). IsTrue (may_pass s.statuses s.threads mode t q (state_of s q))) same passing in
      let never = writer_owns mode t (ShInt u) (writes w.0) (subst (λ (state : StateWord). IsTrue (may_pass s.statuses s.threads mode t o state)) (shared_state s u o drawn sound shares) here) in cc

  phase_on : (u : ℕ) (p : Phase) → (thread_of s u).phase ≡ p → u ≢ t → IsTrue (passes s.statuses s.states s.threads u p) → PhaseKnows s.journals s.counter u p → PhaseKnows next.journals next.counter u p
  phase_on u (Pass o Read) at differ h knows = writes_on o u (now s u) (now next u) (none_reads u o differ h) (grows_on u) knows
  phase_on u (Pass o how) at differ h knows = accesses_on o u (now s u) (now next u) (none_writes how u o (λ same. cc) differ h) (grows_on u) knows
  phase_on u (FenceDue o number) at differ h knows = (knows.0, knows.1, draw_on o number (none_reads u o differ h) knows.2)
  phase_on u (Sharing o None) at differ h knows = writes_on o u (now s u) (now next u) (none_shares u o None at) (grows_on u) knows
  phase_on u (Sharing o (Some number)) at differ h knows = (
    writes_on o u (now s u) (now next u) (none_shares u o (Some number) at) (grows_on u) knows.0,
    (knows.1.0, draw_still_knows s.journals t e within o number (record { thread = u; event = knows.1.0 }) (none_shares u o (Some number) at) knows.1.1, knows.1.2 ∙ sym (now_same s t idle e inside sound u differ)),
  )
  phase_on u Off at differ h knows = knows
  phase_on u Idle at differ h knows = knows
  phase_on u (Want o m seen) at differ h knows = knows
  phase_on u (Claimed o m prior done asked) at differ h knows = knows
  phase_on u Blocked at differ h knows = knows

  draws_on : (upto u j k : ℕ) → j ≤ k → KnowsDraws s.journals upto u j → KnowsDraws (appended s.journals t e) upto u k
  draws_on upto u j k le knows place number at below = past_grows (appended s.journals t e) u j k place le (still_knows_draws s.journals t e within upto u j (λ n same below. no_draw n same) knows place number at below)

  pub pasts_on : HasPasts (proceeded s t (moved Idle Nothing (thread_of s t)) (Some e))
  pasts_on = record {
    states = states_on;
    phases = each_thread s t idle inside (Some e) (λ u y. PhaseKnows next.journals next.counter u y.phase) tt (λ u differ. phase_on u (thread_of s u).phase refl differ (sound.passing u) (sound.pasts.phases u));
    counts = each_thread s t idle inside (Some e) (λ u y. y.count ≤ s.counter) (sound.pasts.counts t) (λ u differ. sound.pasts.counts u);
    draws = each_thread s t idle inside (Some e) (λ u y. KnowsDraws (appended s.journals t e) y.count u (now next u)) (draws_on (thread_of s t).count t (now s t) (now next t) (grows_on t) (sound.pasts.draws t))
        (λ u differ. draws_on (thread_of s u).count u (now s u) (now next u) (grows_on u) (sound.pasts.draws u));
  }

  -- claims learn nothing wrong
  share_on : (o number y by j k : ℕ) → (object_of e ≡ Some o → ⊥) ⊎ (y ≢ t) → j ≤ k → KnowsShare s.journals o number y by j → KnowsShare (appended s.journals t e) o number y by k
  share_on o number y by j k none le knows place at = past_grows (appended s.journals t e) by j k place le (still_knows_share s.journals t e within o number y by j none (inl no_draw) knows place at)

  owner_there : (o me owner : ℕ) (done answered : Bool) → o ≢ object → OwnerHandsOver s.journals o me owner (status_of s owner).upto done answered → OwnerHandsOver (appended s.journals t e) o me owner (status_of s owner).upto done answered
  owner_there o me owner true answered differ h = accesses_on o me (now s me) (now next me) (apart o differ) (grows_on me) h
  owner_there o me owner false true differ h = accesses_on o owner (status_of s owner).upto (status_of s owner).upto (apart o differ) (omega arith) h
  owner_there o me owner false false differ h = accesses_on o owner (now s owner) (now next owner) (apart o differ) (grows_on owner) h

  reader_on : (o me number y : ℕ) (done answered : Bool) → (object_of e ≡ Some o → ⊥) ⊎ (y ≢ t) → ReaderHandsOver s.journals o me number y (status_of s y).upto done answered → ReaderHandsOver (appended s.journals t e) o me number y (status_of s y).upto done answered
  reader_on o me number y true answered none h = share_on o number y me (now s me) (now next me) none (grows_on me) h
  reader_on o me number y false true none h = share_on o number y y (status_of s y).upto (status_of s y).upto none (omega arith) h
  reader_on o me number y false false none h = h

  claim_there : (o me : ℕ) (prior : StateWord) (done : ℕ) (asked : Bool) → o ≢ object → HandsOver s.journals s.statuses o me prior done asked → HandsOver next.journals next.statuses o me prior done asked
  claim_there o me (WrEx owner) done asked differ h = owner_there o me owner (is_done (One owner) me done owner) (has_answered (One owner) me done asked owner (status_of s owner)) differ h
  claim_there o me (RdEx owner upto) done asked differ h = owner_there o me owner (is_done (One owner) me done owner) (has_answered (One owner) me done asked owner (status_of s owner)) differ h
  claim_there o me (RdSh number) done asked differ h =
      (draw_on o number (λ w. apart o differ w.1) h.0, λ y. reader_on o me number y (is_done All me done y) (has_answered All me done asked y (status_of s y)) (inl (apart o differ)) (h.1 y))
  claim_there o me (WrInt by) done asked differ h = h
  claim_there o me (RdInt by) done asked differ h = h
  claim_there o me (ShInt by) done asked differ h = h

  -- the owner that passes is the thread itself, and it is unanswered
  owner_here : (me owner : ℕ) (done answered : Bool) → owner ≡ t → done ≡ false → answered ≡ false → OwnerHandsOver s.journals object me owner (status_of s owner).upto done answered → OwnerHandsOver (appended s.journals t e) object me owner (status_of s owner).upto done answered
  owner_here me owner true answered same not_done not_answered h = absurd cc
  owner_here me owner false true same not_done not_answered h = absurd cc
  owner_here me owner false false same not_done not_answered h =
      subst (λ (u : ℕ). KnowsAccesses (appended s.journals t e) object u (now next u)) (sym same) (own_on (subst (λ (u : ℕ). KnowsAccesses s.journals object u (now s u)) same h))

  reader_here : (me number y : ℕ) (done answered : Bool) → (y ≡ t → (done ≡ false) × (answered ≡ false)) → ReaderHandsOver s.journals object me number y (status_of s y).upto done answered → ReaderHandsOver (appended s.journals t e) object me number y (status_of s y).upto done answered
  reader_here me number y done answered waits h = elim (cases_eq y t) [
    | inl same ↦ nothing done answered (waits same).0 (waits same).1
    | inr differ ↦ reader_on object me number y done answered (inr differ) h
  ]
    where
      nothing : (d a : Bool) → d ≡ false → a ≡ false → ReaderHandsOver (appended s.journals t e) object me number y (status_of s y).upto d a
      nothing true a not_done not_answered = absurd cc
      nothing false true not_done not_answered = absurd cc
      nothing false false not_done not_answered = tt

  claim_here : (me : ℕ) (prior : StateWord) (done : ℕ) (asked : Bool) → IsTrue (lets_pass mode t prior) → IsTrue (is_unanswered (whom_to_ask prior) me done asked t (status_of s t))
      → HandsOver s.journals s.statuses object me prior done asked → HandsOver next.journals next.statuses object me prior done asked
  claim_here me (WrEx owner) done asked lets waits h =
      let same : owner ≡ t = eqb-true owner t lets in
      let parts = unanswered_parts (One owner) me done asked t (status_of s t) waits in
      owner_here me owner (is_done (One owner) me done owner) (has_answered (One owner) me done asked owner (status_of s owner)) same
      (ap (λ (u : ℕ). is_done (One owner) me done u) same ∙ parts.0) (ap (λ (u : ℕ). has_answered (One owner) me done asked u (status_of s u)) same ∙ parts.1) h
  claim_here me (RdEx owner upto) done asked lets waits h =
      let same : owner ≡ t = reader_owns mode t owner upto lets in
      let parts = unanswered_parts (One owner) me done asked t (status_of s t) waits in
      owner_here me owner (is_done (One owner) me done owner) (has_answered (One owner) me done asked owner (status_of s owner)) same
      (ap (λ (u : ℕ). is_done (One owner) me done u) same ∙ parts.0) (ap (λ (u : ℕ). has_answered (One owner) me done asked u (status_of s u)) same ∙ parts.1) h
  claim_here me (RdSh number) done asked lets waits h =
      let parts = unanswered_parts All me done asked t (status_of s t) waits in (
        draw_on object number (λ w. reads_only (RdSh number) lets (λ k. cc) w.0) h.0,
        λ y. reader_here me number y (is_done All me done y) (has_answered All me done asked y (status_of s y))
            (λ same. (ap (λ (u : ℕ). is_done All me done u) same ∙ parts.0, ap (λ (u : ℕ). has_answered All me done asked u (status_of s u)) same ∙ parts.1)) (h.1 y),
      )
  claim_here me (WrInt by) done asked lets waits h = h
  claim_here me (RdInt by) done asked lets waits h = h
  claim_here me (ShInt by) done asked lets waits h = h

  claim_on : (v : ℕ) (p : Phase) → (thread_of s v).phase ≡ p → ClaimHandsOver s.journals s.statuses v p → ClaimHandsOver next.journals next.statuses v p
  claim_on v (Claimed o how prior done asked) at h = elim (cases_eq o object) [
    | inr differ ↦ claim_there o v prior done asked differ h
    | inl same ↦
        let there : (thread_of s v).phase ≡ Claimed object how prior done asked = at ∙ ap (λ (q : ℕ). Claimed q how prior done asked) same in
        let lets = passes_claim s mode t object v (state_of s object) (claimed_state s v object how prior done asked sound there) passing in
        let parts = three_parts (object == object) (lets_pass mode t prior) (is_unanswered (whom_to_ask prior) v done asked t (status_of s t)) (subst (λ (q : Phase). IsTrue (claim_lets_pass mode t object (status_of s t) v q)) there lets) in
        subst (λ (q : ℕ). HandsOver next.journals next.statuses q v prior done asked) (sym same) (claim_here v prior done asked parts.1 parts.2 (subst (λ (q : ℕ). HandsOver s.journals s.statuses q v prior done asked) same h))
  ]
  claim_on v Off at h = h
  claim_on v Idle at h = h
  claim_on v (Want o m seen) at h = h
  claim_on v (Pass o m) at h = h
  claim_on v (FenceDue o n) at h = h
  claim_on v (Sharing o drawn) at h = h
  claim_on v Blocked at h = h

  pub hand_over_on : AllHandOver (proceeded s t (moved Idle Nothing (thread_of s t)) (Some e))
  hand_over_on = each_thread s t idle inside (Some e) (λ u y. ClaimHandsOver next.journals next.statuses u y.phase) tt (λ u differ. claim_on u (thread_of s u).phase refl (sound.handover u))

  -- what the thread knows makes the journals ordered
  first_writes : (a b : Bool) → (a || b) ≡ true → b ≡ false → a ≡ true
  first_writes true b h k = refl
  first_writes false b h k = absurd cc

  ordered_by : (m : Mode) → (IsTrue (is_write e) → m ≢ Read) → PhaseKnows s.journals s.counter t (Pass object m) → (a : Place) → Conflict (appended s.journals t e) a (new s.journals t e) → HappensBefore (appended s.journals t e) a (new s.journals t e)
  ordered_by m writing knows a c =
      let at_new = new_event s.journals t e within in
      let both : Some e ≡ Some c.second = sym at_new ∙ c.is_second in let second : e ≡ c.second = cc in
      let it : Some object ≡ Some c.object = sym of ∙ (ap (λ (y : Event). object_of y) second ∙ c.of_same) in let same : c.object ≡ object = cc in
      let of_first : object_of c.first ≡ Some object = c.of_one ∙ ap (λ (o : ℕ). Some o) same in
      elim (old_or_new s.journals t e a c.first within c.is_first) [
        | inr here ↦ absurd (c.by_others (ap (λ (p : Place). p.thread) here))
        | inl old ↦ past_happens_before (appended s.journals t e) t (now s t) (count s.journals t) a
            (past_stays s.journals t t (now s t) e a (lies m writing knows old of_first (first_writes (is_write c.first) (is_write c.second) c.one_writes) second)) (omega arith) (e, at_new)
      ]
    where
      lies : (m : Mode) → (IsTrue (is_write e) → m ≢ Read) → PhaseKnows s.journals s.counter t (Pass object m) → event_at s.journals a ≡ Some c.first → object_of c.first ≡ Some object → (is_write c.second ≡ false → is_write c.first ≡ true) → e ≡ c.second → InPast s.journals t (now s t) a
      lies Read writing knows old it first second = knows a (c.first, old, it, first (ap (λ (y : Event). is_write y) (sym second) ∙ not_writing (is_write e) refl))
        where
          not_writing : (b : Bool) → is_write e ≡ b → is_write e ≡ false
          not_writing true h = absurd (writing h refl)
          not_writing false h = h
      lies _ writing knows old it first second = knows a (c.first, old, it)

  pub ordered_on : IsOrdered (appended s.journals t e)
  ordered_on = ordered_longer s.journals t e within sound.one_history.ordered (ordered_by mode writes (subst (PhaseKnows s.journals s.counter t) is (sound.pasts.phases t)))
