-- Who passes goes on passing while a thread takes the object: as its claim begins, and as it asks one thread after another.
use Rattle.std.proofs.Common.{◌≡◌, ◌≢◌, ℕ, Bool, true, false, ◌&&◌, ◌||◌, IsTrue, sym, refl, ap, arith, suc, ◌<◌, inl, inr, length, Option, ◌∙◌, subst}
use Rattle.std.specs.Prelude.{◌==◌, not}
use Rattle.std.proofs.lemmas.Bool.{eq-eqb, ne_eqb, eqb-true, and_right, cases_eq, and_from, and_left}
use Rattle.std.proofs.lemmas.Bool.Decides.{nat_tests}
use Rattle.octet_state.specs.declared.state_word.StateWord.{StateWord}
use Rattle.octet_state.specs.declared.state_word.StateWord.TheVariants.{WrEx, RdEx, RdSh, WrInt, RdInt, ShInt}
use Rattle.octet_state.specs.declared.status_word.StatusWord.{StatusWord}
use Rattle.octet_state.specs.declared.act.Mode.{Mode}
use Rattle.octet_state.specs.declared.act.Mode.TheVariants.{Read}
use Rattle.octet_state.specs.declared.act.Whom.{Whom}
use Rattle.octet_state.specs.declared.act.Whom.TheVariants.{One, All}
use Rattle.octet_state.specs.declared.act.Act.TheVariants.{Pass}
use Rattle.octet_state.specs.declared.phase.Phase.TheVariants.{Claimed, Off, Idle, Want, Pass, FenceDue, Sharing, Blocked}
use Rattle.octet_state.specs.State.{ProtocolState, status_of, Thread, thread_of, state_of}
use Rattle.octet_state.specs.Asking.{whom_to_ask, is_to_ask, is_done, was_asked, answers, has_answered, is_unanswered, next_to_ask}
use Rattle.octet_state.specs.Passing.{lets_pass, claim_lets_pass, may_pass, passes, AllPass}
use Rattle.octet_state.specs.Intermediate.{change_by, ChangesAreByPhases}
use Rattle.octet_state.specs.FrugalShape.{AsksThreadZero}
use Rattle.octet_model.specs.declared.event.Event.{Event}
use Rattle.octet_state.specs.declared.phase.Phase.{Phase}
use Rattle.octet_state.specs.declared.phase.Due.{Due}
use Rattle.octet_state.specs.Steps.{moved, proceeded}
use Rattle.octet_state.specs.Positions.{is_resting}
use Rattle.octet_state.proofs.frames.SeenByOthers.{each_thread}
use Rattle.octet_state.proofs.parts.Passing.{three_parts}
use Rattle.octet_state.proofs.parts.Takeable.{IsTakeable}
use Rattle.octet_state.proofs.parts.WhomClaimsAsk.{done_as_before}

-- each other thread that the state lets pass is asked
pub passing_is_asked : (how : Mode) (seen : StateWord) (t u : ℕ) → u ≢ t → IsTakeable seen t → IsTrue (lets_pass how u seen) → IsTrue (is_to_ask (whom_to_ask seen) t u)
passing_is_asked Read (WrEx owner) t u differ h k = eq-eqb u owner (sym (eqb-true owner u k))
passing_is_asked _ (WrEx owner) t u differ h k = eq-eqb u owner (sym (eqb-true owner u k))
passing_is_asked Read (RdEx owner upto) t u differ h k = eq-eqb u owner (sym (eqb-true owner u k))
passing_is_asked _ (RdEx owner upto) t u differ h k = absurd cc
passing_is_asked how (RdSh number) t u differ h k = ap (λ (b : Bool). not b) (ne_eqb u t differ)
passing_is_asked how (WrInt by) t u differ h k = absurd h
passing_is_asked how (RdInt by) t u differ h k = absurd h
passing_is_asked how (ShInt by) t u differ h k = absurd h

-- at first none is done
pub none_is_done : (whom : Whom) (me u : ℕ) → is_done whom me 0 u ≡ false
none_is_done (One owner) me u = and_right (u == owner) false refl
none_is_done All me u = grind (arith, nat_tests)

-- and each one that is asked is unanswered
pub begins_unanswered : (whom : Whom) (me u : ℕ) (status : StatusWord) → IsTrue (is_to_ask whom me u) → IsTrue (is_unanswered whom me 0 false u status)
begins_unanswered whom me u status asks = (λ i. asks i && not (none_is_done whom me u i) && (not (was_asked whom me 0 false u) || not (answers status me)))

-- a claim that has just begun lets each other thread pass that the state let pass
pub claim_begins_passing : (how mode : Mode) (seen : StateWord) (t u object : ℕ) (status : StatusWord) → u ≢ t → IsTakeable seen t → IsTrue (lets_pass how u seen)
    → IsTrue (claim_lets_pass how u object status t (Claimed object mode seen 0 false))
claim_begins_passing how mode seen t u object status differ takes lets =
    (λ i. eq-eqb object object refl i && lets i && begins_unanswered (whom_to_ask seen) t u status (passing_is_asked how seen t u differ takes lets) i)

-- a thread that is not the next one stays unanswered when one more is done
pub unanswered_still : (whom : Whom) (me done : ℕ) (asked : Bool) (thread : ℕ) (status : StatusWord) → thread ≢ next_to_ask whom me done
    → IsTrue (is_unanswered whom me done asked thread status) → IsTrue (is_unanswered whom me (suc done) false thread status)
unanswered_still whom me done asked thread status other h =
    by_parts (is_to_ask whom me thread) (is_done whom me done thread) (is_done whom me (suc done) thread) (not (was_asked whom me done asked thread) || not (answers status me)) (done_as_before whom me done thread other) h
  where
    by_parts : (a d e r : Bool) → e ≡ d → IsTrue (a && not d && r) → IsTrue (a && not e && true)
    by_parts false d e r same k = absurd cc
    by_parts true true e r same k = absurd cc
    by_parts true false e false same k = absurd cc
    by_parts true false e true same k = ap (λ (b : Bool). not b && true) same

-- one that was asked and answers is not unanswered
pub answered_is_not : (whom : Whom) (me done thread : ℕ) (status : StatusWord) → thread ≡ next_to_ask whom me done → answers status me ≡ true → IsTrue (is_unanswered whom me done true thread status) → ⊥
answered_is_not whom me done thread status same gives h =
    by_parts (is_to_ask whom me thread) (is_done whom me done thread) (thread == next_to_ask whom me done) (answers status me) (eq-eqb thread (next_to_ask whom me done) same) gives h
  where
    by_parts : (a d n r : Bool) → n ≡ true → r ≡ true → IsTrue (a && not d && (not (n && not d) || not r)) → ⊥
    by_parts false d n r is gives k = cc
    by_parts true true n r is gives k = cc
    by_parts true false false r is gives k = cc
    by_parts true false true false is gives k = cc
    by_parts true false true true is gives k = cc

-- where the next one does not answer, none has answered once it is asked, and each that was unanswered is so
pub none_answered : (whom : Whom) (me done thread : ℕ) (status : StatusWord) → (thread ≡ next_to_ask whom me done → answers status me ≡ false) → has_answered whom me done true thread status ≡ false
none_answered whom me done thread status waits = elim (cases_eq thread (next_to_ask whom me done)) [
  | inl same ↦ and_right (was_asked whom me done true thread) (answers status me) (waits same)
  | inr other ↦ and_left (was_asked whom me done true thread) (answers status me) (and_left (thread == next_to_ask whom me done) (not (is_done whom me done thread)) (ne_eqb thread (next_to_ask whom me done) other))
]

pub unanswered_once_asked : (whom : Whom) (me done thread : ℕ) (status : StatusWord) → (thread ≡ next_to_ask whom me done → answers status me ≡ false)
    → IsTrue (is_unanswered whom me done false thread status) → IsTrue (is_unanswered whom me done true thread status)
unanswered_once_asked whom me done thread status waits h =
    by_parts (is_to_ask whom me thread && not (is_done whom me done thread)) (was_asked whom me done true thread) (answers status me) (none_answered whom me done thread status waits) h
  where
    by_parts : (a w r : Bool) → (w && r) ≡ false → IsTrue (a && true) → IsTrue (a && (not w || not r))
    by_parts false w r none k = absurd cc
    by_parts true false r none k = refl
    by_parts true true false none k = refl
    by_parts true true true none k = absurd cc

-- of a thread that has claimed an object, once more or other threads have answered
module _ (s : ProtocolState) (t object : ℕ) (mode : Mode) (prior : StateWord) (done done' : ℕ) (asked asked' : Bool) (due : Due) (event : Option Event) (inside : t < length s.threads)
    (is : (thread_of s t).phase ≡ Claimed object mode prior done asked) where
  abbrev on : Thread
  on = moved (Claimed object mode prior done' asked') due (thread_of s t)

  abbrev next : ProtocolState
  next = proceeded s t on event

  -- a property of a phase in which it does not count how far the claim is
  pub kept : {A : Type 0} (f : Phase → A) → f (Claimed object mode prior done' asked') ≡ f (Claimed object mode prior done asked) → (u : ℕ) → f (thread_of next u).phase ≡ f (thread_of s u).phase
  kept f same = each_thread s t on inside event (λ u y. f y.phase ≡ f (thread_of s u).phase) (same ∙ sym (ap f is)) (λ u differ. refl)

  pub changes_still : ChangesAreByPhases s → ChangesAreByPhases next
  changes_still intermediate u o = intermediate u o ∙ sym (kept (λ (p : Phase). change_by p u o) (same_change mode) u)
    where
      same_change : (m : Mode) → change_by (Claimed object m prior done' asked') u o ≡ change_by (Claimed object m prior done asked) u o
      same_change Read = refl
      same_change _ = refl

  pub asks_still : (u : ℕ) → AsksThreadZero (thread_of s u).phase → AsksThreadZero (thread_of next u).phase
  asks_still = each_thread s t on inside event (λ u y. AsksThreadZero (thread_of s u).phase → AsksThreadZero y.phase) (λ h. subst AsksThreadZero is h) (λ u differ h. h)

  -- who passes by the claim goes on, where it stays unanswered
  module _ (how : Mode) (u o : ℕ) (stays : IsTrue (is_unanswered (whom_to_ask prior) t done asked u (status_of s u)) → IsTrue (is_unanswered (whom_to_ask prior) t done' asked' u (status_of s u))) where
    claim_still : IsTrue (object == o && lets_pass how u prior && is_unanswered (whom_to_ask prior) t done asked u (status_of s u)) → IsTrue (object == o && lets_pass how u prior && is_unanswered (whom_to_ask prior) t done' asked' u (status_of s u))
    claim_still h = let parts = three_parts (object == o) (lets_pass how u prior) (is_unanswered (whom_to_ask prior) t done asked u (status_of s u)) h in
        and_from (object == o && lets_pass how u prior) (is_unanswered (whom_to_ask prior) t done' asked' u (status_of s u)) (and_from (object == o) (lets_pass how u prior) parts.0 parts.1) (stays parts.2)

    claims_still : (by : ℕ) → IsTrue (claim_lets_pass how u o (status_of s u) by (thread_of s by).phase) → IsTrue (claim_lets_pass how u o (status_of s u) by (thread_of next by).phase)
    claims_still = each_thread s t on inside event (λ v y. IsTrue (claim_lets_pass how u o (status_of s u) v (thread_of s v).phase) → IsTrue (claim_lets_pass how u o (status_of s u) v y.phase))
        (λ h. claim_still (subst (λ (p : Phase). IsTrue (claim_lets_pass how u o (status_of s u) t p)) is h)) (λ v differ h. h)

    pub may_pass_still : (state : StateWord) → IsTrue (may_pass s.statuses s.threads how u o state) → IsTrue (may_pass next.statuses next.threads how u o state)
    may_pass_still (WrInt by) h = claims_still by h
    may_pass_still (RdInt by) h = claims_still by h
    may_pass_still (WrEx owner) h = h
    may_pass_still (RdEx owner upto) h = h
    may_pass_still (RdSh number) h = h
    may_pass_still (ShInt by) h = h

  module _ (stays : (u : ℕ) → is_resting (thread_of s u).phase ≡ false → IsTrue (is_unanswered (whom_to_ask prior) t done asked u (status_of s u)) → IsTrue (is_unanswered (whom_to_ask prior) t done' asked' u (status_of s u))) where
    passes_still : (u : ℕ) (p : Phase) → (thread_of s u).phase ≡ p → IsTrue (passes s.statuses s.states s.threads u p) → IsTrue (passes next.statuses next.states next.threads u p)
    passes_still u (Pass o how) at h = may_pass_still how u o (stays u (ap is_resting at)) (state_of s o) h
    passes_still u (FenceDue o number) at h = may_pass_still Read u o (stays u (ap is_resting at)) (state_of s o) h
    passes_still u Off at h = refl
    passes_still u Idle at h = refl
    passes_still u (Want o m seen) at h = refl
    passes_still u (Claimed o m p d a) at h = refl
    passes_still u (Sharing o drawn) at h = refl
    passes_still u Blocked at h = refl

    pub all_pass_still : AllPass s → AllPass next
    all_pass_still passing = each_thread s t on inside event (λ u y. IsTrue (passes next.statuses next.states next.threads u y.phase)) refl (λ u differ. passes_still u (thread_of s u).phase refl (passing u))
