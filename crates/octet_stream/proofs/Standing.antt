-- The right to an object stands while other threads take steps.
use Rattle.std.proofs.Common.{◌≡◌, ◌≢◌, ◌∙◌, inl, inr, ℕ, ◌<◌, Bool, ◌==◌, ◌&&◌, IsTrue, List, [], ◌∷◌, length, refl, sym, ap, subst, arith}
use Rattle.std.proofs.lemmas.Bool.{cases_eq, and_parts, eqb-true}
use Rattle.octet_model.specs.declared.event.Event.{Event}
use Rattle.octet_model.specs.Journals.{access_count}
use Rattle.octet_state.specs.declared.act.Mode.{Mode}
use Rattle.octet_state.specs.declared.act.Mode.TheVariants.{Read, Write, Update}
use Rattle.octet_state.specs.declared.phase.Phase.{Phase}
use Rattle.octet_state.specs.declared.phase.Phase.TheVariants.{Pass, Claimed}
use Rattle.octet_state.specs.declared.state_word.StateWord.{StateWord}
use Rattle.octet_state.specs.declared.state_word.StateWord.TheVariants.{WrEx, RdEx, RdSh, WrInt, RdInt, ShInt}
use Rattle.octet_state.specs.declared.status_word.StatusWord.{StatusWord}
use Rattle.octet_state.specs.Asking.{whom_to_ask, is_unanswered}
use Rattle.octet_state.specs.NextStep.{access_of}
use Rattle.octet_state.specs.Passing.{lets_pass, claim_lets_pass, may_pass, passes}
use Rattle.octet_state.specs.Soundness.{IsSound}
use Rattle.octet_state.specs.State.{Thread, ProtocolState, thread_of, status_of, status_at, state_of, state_at}
use Rattle.octet_state.specs.Steps.{Kind, May, ThreadStep, IsRun, after_run, step, target}
use Rattle.octet_state.proofs.lemmas.Laws.{run_is_sound}
use Rattle.octet_rule.specs.Views.{SeatView}
use Rattle.octet_stream.specs.Rights.{AreOthers, Conflicts, HasRight, RightStands}
use Rattle.octet_stream.proofs.Alike.{Alike, act_keeps, other_thread, as_many_threads, as_many_journals, journal_of_other, may_alike, step_alike}

-- ---- no two threads pass to conflicting accesses
writer_owns : (mode : Mode) (t : ℕ) (state : StateWord) → mode ≢ Read → IsTrue (lets_pass mode t state) → state ≡ WrEx t
writer_owns mode t (WrEx owner) writing h = ap (λ (u : ℕ). WrEx u) (eqb-true owner t h)
writer_owns Read t state writing h = absurd (writing refl)
writer_owns _ t state writing h = absurd cc

no_two_here : (mode how : Mode) (t u : ℕ) (state : StateWord) → how ≢ Read → IsTrue (lets_pass mode t state) → IsTrue (lets_pass how u state) → u ≡ t
no_two_here mode how t u state writing h k = eqb-true u t (subst (λ (w : StateWord). IsTrue (lets_pass mode t w)) (writer_owns how u state writing k) h)

three_parts : (a b c : Bool) → IsTrue (a && b && c) → IsTrue a × IsTrue b × IsTrue c
three_parts a b c h = let x = and_parts (a && b) c h in let y = and_parts a b x.0 in (y.0, y.1, x.1)

no_two_claims : (mode how : Mode) (t u object : ℕ) (a b : StatusWord) (by : ℕ) (p : Phase) → how ≢ Read → IsTrue (claim_lets_pass mode t object a by p) → IsTrue (claim_lets_pass how u object b by p) → u ≡ t
no_two_claims mode how t u object a b by (Claimed claimed m prior done asked) writing h k =
    let x = three_parts (claimed == object) (lets_pass mode t prior) (is_unanswered (whom_to_ask prior) by done asked t a) h in
    let y = three_parts (claimed == object) (lets_pass how u prior) (is_unanswered (whom_to_ask prior) by done asked u b) k in no_two_here mode how t u prior writing x.1 y.1
no_two_claims mode how t u object a b by _ writing h k = absurd cc

no_two : (s : ProtocolState) (mode how : Mode) (t u object : ℕ) (state : StateWord) → how ≢ Read → IsTrue (may_pass s.statuses s.threads mode t object state) → IsTrue (may_pass s.statuses s.threads how u object state) → u ≡ t
no_two s mode how t u object (WrInt by) writing h k = no_two_claims mode how t u object (status_of s t) (status_of s u) by (thread_of s by).phase writing h k
no_two s mode how t u object (RdInt by) writing h k = no_two_claims mode how t u object (status_of s t) (status_of s u) by (thread_of s by).phase writing h k
no_two s mode how t u object state writing h k = no_two_here mode how t u state writing h k

write_differs : Write ≢ Read
write_differs same = cc

update_differs : Update ≢ Read
update_differs same = cc

no_conflict : (s : ProtocolState) (mode how : Mode) (t u object : ℕ) → Conflicts mode how → IsTrue (may_pass s.statuses s.threads mode t object (state_of s object)) → IsTrue (may_pass s.statuses s.threads how u object (state_of s object)) → u ≡ t
no_conflict s mode Write t u object conflicts h k = no_two s mode Write t u object (state_of s object) write_differs h k
no_conflict s mode Update t u object conflicts h k = no_two s mode Update t u object (state_of s object) update_differs h k
no_conflict s Write Read t u object conflicts h k = sym (no_two s Read Write u t object (state_of s object) write_differs k h)
no_conflict s Update Read t u object conflicts h k = sym (no_two s Read Update u t object (state_of s object) update_differs k h)
no_conflict s Read Read t u object conflicts h k = absurd conflicts

-- ---- the thread is let pass in a state that differs in its phase alone
claim_same : (mode : Mode) (t object : ℕ) (status : StatusWord) (by : ℕ) (a b : ProtocolState) → Alike t a b → (thread_of a t).phase ≡ Pass object mode
    → IsTrue (claim_lets_pass mode t object status by (thread_of a by).phase) → IsTrue (claim_lets_pass mode t object status by (thread_of b by).phase)
claim_same mode t object status by a b al is_passing h = elim (cases_eq by t) [
  | inl is ↦ absurd (none (subst (λ (u : ℕ). IsTrue (claim_lets_pass mode t object status by (thread_of a u).phase)) is h))
  | inr differ ↦ subst (λ (y : Thread). IsTrue (claim_lets_pass mode t object status by y.phase)) (al.others by differ) h
]
  where
    none : IsTrue (claim_lets_pass mode t object status by (thread_of a t).phase) → ⊥
    none g = let at_pass : IsTrue (claim_lets_pass mode t object status by (Pass object mode)) = subst (λ (p : Phase). IsTrue (claim_lets_pass mode t object status by p)) is_passing g in cc

pass_same : (mode : Mode) (t object : ℕ) (a b : ProtocolState) → Alike t a b → (thread_of a t).phase ≡ Pass object mode → (state : StateWord)
    → IsTrue (may_pass a.statuses a.threads mode t object state) → IsTrue (may_pass b.statuses b.threads mode t object state)
pass_same mode t object a b al is_passing (WrInt by) h = claim_same mode t object (status_of b t) by a b al is_passing (subst (λ l. IsTrue (claim_lets_pass mode t object (status_at l t) by (thread_of a by).phase)) al.statuses h)
pass_same mode t object a b al is_passing (RdInt by) h = claim_same mode t object (status_of b t) by a b al is_passing (subst (λ l. IsTrue (claim_lets_pass mode t object (status_at l t) by (thread_of a by).phase)) al.statuses h)
pass_same mode t object a b al is_passing (WrEx owner) h = h
pass_same mode t object a b al is_passing (RdEx owner upto) h = h
pass_same mode t object a b al is_passing (RdSh number) h = h
pass_same mode t object a b al is_passing (ShInt by) h = h

-- a state is like another one as that is like it
turned : (t : ℕ) (a b : ProtocolState) → Alike t a b → Alike t b a
turned t a b al = record {
  counter = sym al.counter;
  statuses = sym al.statuses;
  states = sym al.states;
  cells = sym al.cells;
  count = sym al.count;
  journals_there = al.journals_here;
  journals_here = al.journals_there;
  others = λ u ne. sym (al.others u ne);
  made_same = λ u ne. sym (al.made_same u ne);
  accesses = λ u ne. sym (al.accesses u ne);
}

-- the state before an access is like the one after it
module _ (mode : Mode) (value t : ℕ) (s : ProtocolState) (sound : IsSound s) where
  abbrev k : Kind
  k = access_of mode value

  access_counter : (m : Mode) → s.counter ≡ (step (access_of m value) t s).counter
  access_counter Read = refl
  access_counter Write = refl
  access_counter Update = refl

  access_statuses : (m : Mode) → s.statuses ≡ (step (access_of m value) t s).statuses
  access_statuses Read = refl
  access_statuses Write = refl
  access_statuses Update = refl

  access_states : (m : Mode) → s.states ≡ (step (access_of m value) t s).states
  access_states Read = refl
  access_states Write = refl
  access_states Update = refl

  before_access : Alike t s (step k t s)
  before_access = record {
    counter = access_counter mode;
    statuses = access_statuses mode;
    states = access_states mode;
    cells = sym (act_keeps k t s).cells;
    count = sym (as_many_threads k t s);
    journals_there = sound.form.journals;
    journals_here = as_many_journals k t s ∙ (sound.form.journals ∙ sym (as_many_threads k t s));
    others = λ u ne. sym (other_thread k t s u ne);
    made_same = λ u ne. sym (ap (λ (j : List Event). length j) (journal_of_other k t s u ne));
    accesses = λ u ne. sym (ap access_count (journal_of_other k t s u ne));
  }

-- ---- other threads take steps
record Still (mode : Mode) (t object : ℕ) (a b : ProtocolState) : Type 0 where
  alike : Alike t a b
  sound : IsSound a
  passes_on : (thread_of a t).phase ≡ Pass object mode

still : (mode : Mode) (t object : ℕ) (run : List ThreadStep) (a b : ProtocolState) → Still mode t object a b → IsRun b run → AreOthers t run → (c : ProtocolState) × Still mode t object c (after_run b run)
still mode t object [] a b s is_run others = (a, s)
still mode t object (taken ∷ run) a b s is_run others =
    let u = taken.thread in let kind = taken.kind in
    let inside : u < length a.threads = let many = s.alike.count in let there = is_run.0 in omega arith in
    let may : May kind u a = may_alike t b a (turned t a b s.alike) u others.0 kind is_run.1 in
    let differ : t ≢ u = λ same. others.0 (sym same) in
    still mode t object run (step kind u a) (step kind u b) (record {
      alike = step_alike t a b s.alike u others.0 kind inside;
      sound = run_is_sound a (taken ∷ []) s.sound (inside, may, tt);
      passes_on = ap (λ (y : Thread). y.phase) (other_thread kind u a t differ) ∙ s.passes_on;
    }) is_run.2 others.1

lets_on : (mode : Mode) (t object : ℕ) (a b : ProtocolState) → Still mode t object a b → IsTrue (may_pass b.statuses b.threads mode t object (state_of b object))
lets_on mode t object a b s =
    let here : IsTrue (may_pass a.statuses a.threads mode t object (state_of a object)) = subst (λ (p : Phase). IsTrue (passes a.statuses a.states a.threads t p)) s.passes_on (s.sound.passing t) in
    pass_same mode t object a b s.alike s.passes_on (state_of b object) (subst (λ l. IsTrue (may_pass a.statuses a.threads mode t object (state_at l object))) s.alike.states here)

passes_now : (mode : Mode) (value : ℕ) (v : SeatView) (s : ProtocolState) → May (access_of mode value) v.number s → (object : ℕ) × ((thread_of s v.number).phase ≡ Pass object mode)
passes_now Read value v s may = may.1
passes_now Write value v s may = may.1
passes_now Update value v s may = may.1

pub right_stands : RightStands
right_stands mode value v told w took run is_run others =
    let s = took.before in let t = v.number in let after = step (access_of mode value) t s in
    let now = passes_now mode value v s took.may in
    let is : target v.thread.phase ≡ now.0 = ap (λ (y : Thread). target y.phase) (sym took.seen.stands) ∙ ap target now.1 in
    let end = still mode t now.0 run s after (record { alike = before_access mode value t s took.seen.sound; sound = took.seen.sound; passes_on = now.1 }) is_run others in
    let last = after_run after run in
    let sound : IsSound last = run_is_sound after run took.seen_after.sound is_run in
    let lets = lets_on mode t now.0 end.0 last end.1 in
    subst (λ (object : ℕ). HasRight mode t object last) (sym is) (record {
      lets = lets;
      alone = λ other how differ conflicts passes_too.
          differ (no_conflict last mode how t other now.0 conflicts lets (subst (λ (p : Phase). IsTrue (passes last.statuses last.states last.threads other p)) passes_too (sound.passing other)));
    })
