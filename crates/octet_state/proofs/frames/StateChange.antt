-- A step that changes the state of an object and one thread, and makes no event.
use Rattle.std.proofs.Common.{◌≡◌, ◌≢◌, ℕ, ◌+◌, ◌<◌, ◌≤◌, inl, inr, Bool, true, false, ◌||◌, IsTrue, length, Some, None, sym, refl, ap, ◌∙◌, subst, arith, length-set, get_or-set_same, get_or-set_other}
use Rattle.std.specs.Prelude.{if◌then◌else◌}
use Rattle.std.proofs.lemmas.Bool.{cases_eq, cases_lt, eq-eqb}
use Rattle.std.proofs.lemmas.List.{get_or_past}
use Rattle.octet_model.specs.Machine.{journal_of}
use Rattle.octet_model.specs.Journals.{access_count}
use Rattle.octet_model.specs.Frugal.{marks_at_end}
use Rattle.octet_model.specs.Log.{is_mark}
use Rattle.octet_state.specs.declared.state_word.StateWord.{StateWord}
use Rattle.octet_state.specs.declared.state_word.StateWord.TheVariants.{WrEx, RdEx, RdSh, WrInt, RdInt, ShInt}
use Rattle.octet_state.specs.declared.act.Mode.{Mode}
use Rattle.octet_state.specs.declared.act.Mode.TheVariants.{Read}
use Rattle.octet_state.specs.declared.phase.Phase.{Phase}
use Rattle.octet_state.specs.declared.phase.Phase.TheVariants.{Off, Idle, Want, Pass, FenceDue, Claimed, Sharing, Blocked}
use Rattle.octet_state.specs.State.{Thread, ProtocolState, thread_of, status_of, state_of, now, unstarted}
use Rattle.octet_state.specs.Steps.{with_state, proceeded, is_safe_point, most_accesses}
use Rattle.octet_state.specs.Form.{is_nothing, HoldsPhase, HasForm}
use Rattle.octet_state.specs.Positions.{NamesThread, is_resting, PriorNamesThread, access_to_come, HasMarksAtEnd, HasPositions}
use Rattle.octet_state.specs.Passing.{claim_lets_pass, may_pass, passes}
use Rattle.octet_state.specs.Table.{is_changed_by}
use Rattle.octet_state.specs.Intermediate.{change_of, change_by, ChangesAreByPhases}
use Rattle.octet_state.specs.Pasts.{KnowsDraws, StateKnows, PhaseKnows, HasPasts}
use Rattle.octet_state.specs.Handover.{ClaimHandsOver}
use Rattle.octet_state.specs.FrugalShape.{has_access, marks_for, fences_for, is_on, touches, AsksThreadZero, IsPrivateState, HasFrugalShape}
use Rattle.octet_state.specs.Soundness.{IsSound}
use Rattle.octet_state.proofs.frames.SeenByOthers.{TouchesAlike, each_thread}
use Rattle.octet_state.proofs.parts.FrugalShape.{private_state_on, shape_on}

-- what is to hold of a thread that changes the state of an object, and of that state
pub record ChangesWell (s : ProtocolState) (t object : ℕ) (w : StateWord) (x : Thread) : Type 0 where
  pub dues : IsTrue (is_nothing x.due || is_safe_point x.phase)
  pub phases : HoldsPhase (length s.threads) (length s.cells) t x.count x.phase
  pub ran : is_resting (thread_of s t).phase ≡ false
  pub runs : is_resting x.phase ≡ false
  pub named : NamesThread (length s.threads) w
  pub prior_named : PriorNamesThread (length s.threads) x.phase
  pub accesses : access_count (journal_of s.journals t) + access_to_come x.phase ≤ most_accesses
  pub at_end : HasMarksAtEnd x.phase (marks_at_end (journal_of s.journals t))
  -- the other threads' changes are as they were, and those of this thread are by its phase, of this object alone
  pub others_change : (u : ℕ) → u ≢ t → change_of w u ≡ change_of (state_of s object) u
  pub own_change : change_of w t ≡ change_by x.phase t object
  pub changed_nothing : (o : ℕ) → o ≢ object → change_by (thread_of s t).phase t o ≡ None
  pub changes_nothing : (o : ℕ) → o ≢ object → change_by x.phase t o ≡ None
  -- who passes to the object goes on
  pub others_pass : (mode : Mode) (u : ℕ) → u ≢ t → u < length s.threads → IsTrue (may_pass s.statuses s.threads mode u object (state_of s object)) → IsTrue (may_pass (proceeded (with_state s object w) t x None).statuses (proceeded (with_state s object w) t x None).threads mode u object w)
  pub passing : IsTrue (passes (proceeded (with_state s object w) t x None).statuses (proceeded (with_state s object w) t x None).states (proceeded (with_state s object w) t x None).threads t x.phase)
  pub state_knows : StateKnows s.journals s.counter object w
  pub knows : PhaseKnows s.journals s.counter t x.phase
  pub counts : x.count ≡ (thread_of s t).count
  pub handover : ClaimHandsOver s.journals s.statuses t x.phase

module _ (s : ProtocolState) (t object : ℕ) (w : StateWord) (x : Thread) (inside : t < length s.threads) (there : object < length s.cells) (sound : IsSound s) (well : ChangesWell s t object w x) where
  abbrev changed : ProtocolState
  changed = with_state s object w

  abbrev next : ProtocolState
  next = proceeded changed t x None

  within : object < length s.states
  within = let h = sound.form.states in omega arith

  pub own_state : state_of next object ≡ w
  own_state = get_or-set_same s.states object w (WrEx 0) within

  pub other_state : (o : ℕ) → o ≢ object → state_of next o ≡ state_of s o
  other_state o differ = get_or-set_other s.states object o w (WrEx 0) differ

  each : (P : ℕ → Thread → Type 0) → P t x → ((u : ℕ) → u ≢ t → P u (thread_of s u)) → (u : ℕ) → P u (thread_of next u)
  each = each_thread changed t x inside None

  each_state : (P : ℕ → StateWord → Type 0) → P object w → ((o : ℕ) → o ≢ object → P o (state_of s o)) → (o : ℕ) → P o (state_of next o)
  each_state P here others o = elim (cases_eq o object) [
    | inl same ↦ subst (λ (q : ℕ). P q (state_of next q)) (sym same) (subst (P object) (sym own_state) here)
    | inr differ ↦ subst (P o) (sym (other_state o differ)) (others o differ)
  ]

  form : HasForm next
  form = let old = sound.form in let many = length-set s.threads t x in record {
    some_thread = let h = old.some_thread in omega arith;
    few_threads = let h = old.few_threads in omega arith;
    statuses = old.statuses ∙ sym many;
    journals = old.journals ∙ sym many;
    states = length-set s.states object w ∙ old.states;
    starts = old.starts;
    bits = old.bits;
    dues = each (λ u y. IsTrue (is_nothing y.due || is_safe_point y.phase)) well.dues (λ u differ. old.dues u);
    phases = subst (λ (n : ℕ). (u : ℕ) → HoldsPhase n (length s.cells) u (thread_of next u).count (thread_of next u).phase) (sym many)
        (each (λ u y. HoldsPhase (length s.threads) (length s.cells) u y.count y.phase) well.phases (λ u differ. old.phases u));
  }

  positions : HasPositions next
  positions = let old = sound.positions in let many = length-set s.threads t x in record {
    reached = old.reached;
    blocked = each (λ u y. (status_of s u).blocked ≡ is_resting y.phase) (old.blocked t ∙ (well.ran ∙ sym well.runs)) (λ u differ. old.blocked u);
    last = old.last;
    named = subst (λ (n : ℕ). (o : ℕ) → NamesThread n (state_of next o)) (sym many) (each_state (λ o state. NamesThread (length s.threads) state) well.named (λ o differ. old.named o));
    prior_named = subst (λ (n : ℕ). (u : ℕ) → PriorNamesThread n (thread_of next u).phase) (sym many)
        (each (λ u y. PriorNamesThread (length s.threads) y.phase) well.prior_named (λ u differ. old.prior_named u));
    marks = λ place mark is. subst (λ (n : ℕ). IsTrue (is_mark n place.thread mark)) (sym many) (old.marks place mark is);
    accesses = each (λ u y. access_count (journal_of s.journals u) + access_to_come y.phase ≤ most_accesses) well.accesses (λ u differ. old.accesses u);
    few = old.few;
    at_end = each (λ u y. HasMarksAtEnd y.phase (marks_at_end (journal_of s.journals u))) well.at_end (λ u differ. old.at_end u);
  }

  -- at another object the thread claims nothing, before or after
  not_mine : (o by : ℕ) (state : StateWord) → o ≢ object → state_of s o ≡ state → is_changed_by state by ≡ true → by ≢ t
  not_mine o by state differ is changes same =
      let it : change_of state by ≡ Some state = ap (λ (b : Bool). if b then Some state else None) changes in
      let none : change_of state t ≡ None = ap (λ (v : StateWord). change_of v t) (sym is) ∙ (sound.intermediate t o ∙ well.changed_nothing o differ) in
      let also : change_of state t ≡ Some state = subst (λ (u : ℕ). change_of state u ≡ Some state) same it in cc

  claim_elsewhere : (mode : Mode) (u o by : ℕ) → by ≢ t → IsTrue (claim_lets_pass mode u o (status_of s u) by (thread_of s by).phase) → IsTrue (claim_lets_pass mode u o (status_of s u) by (thread_of next by).phase)
  claim_elsewhere mode u o by differ h = subst (λ (y : Thread). IsTrue (claim_lets_pass mode u o (status_of s u) by y.phase)) (sym (get_or-set_other s.threads t by x unstarted differ)) h

  pass_elsewhere : (mode : Mode) (u o : ℕ) (state : StateWord) → o ≢ object → state_of s o ≡ state → IsTrue (may_pass s.statuses s.threads mode u o state) → IsTrue (may_pass next.statuses next.threads mode u o state)
  pass_elsewhere mode u o (WrInt by) differ is h = claim_elsewhere mode u o by (not_mine o by (WrInt by) differ is (eq-eqb by by refl)) h
  pass_elsewhere mode u o (RdInt by) differ is h = claim_elsewhere mode u o by (not_mine o by (RdInt by) differ is (eq-eqb by by refl)) h
  pass_elsewhere mode u o (WrEx owner) differ is h = h
  pass_elsewhere mode u o (RdEx owner upto) differ is h = h
  pass_elsewhere mode u o (RdSh number) differ is h = h
  pass_elsewhere mode u o (ShInt by) differ is h = h

  pass_on : (mode : Mode) (u o : ℕ) → u ≢ t → u < length s.threads → IsTrue (may_pass s.statuses s.threads mode u o (state_of s o)) → IsTrue (may_pass next.statuses next.threads mode u o (state_of next o))
  pass_on mode u o apart is_there h = elim (cases_eq o object) [
    | inl same ↦ subst (λ (q : ℕ). IsTrue (may_pass next.statuses next.threads mode u q (state_of next q))) (sym same) (subst (λ (v : StateWord). IsTrue (may_pass next.statuses next.threads mode u object v)) (sym own_state)
        (well.others_pass mode u apart is_there (subst (λ (q : ℕ). IsTrue (may_pass s.statuses s.threads mode u q (state_of s q))) same h)))
    | inr differ ↦ subst (λ (v : StateWord). IsTrue (may_pass next.statuses next.threads mode u o v)) (sym (other_state o differ)) (pass_elsewhere mode u o (state_of s o) differ refl h)
  ]

  -- a thread in another phase than off is there
  is_there : (u : ℕ) (p : Phase) → (thread_of s u).phase ≡ p → (p ≡ Off → ⊥) → u < length s.threads
  is_there u p is not_off = elim (cases_lt u (length s.threads)) [
    | inl lt ↦ lt
    | inr past ↦ absurd (not_off (sym is ∙ ap (λ (y : Thread). y.phase) (get_or_past s.threads u unstarted past)))
  ]

  passes_on : (u : ℕ) (p : Phase) → (thread_of s u).phase ≡ p → u ≢ t → IsTrue (passes s.statuses s.states s.threads u p) → IsTrue (passes next.statuses next.states next.threads u p)
  passes_on u (Pass o mode) is apart h = pass_on mode u o apart (is_there u (Pass o mode) is (λ k. cc)) h
  passes_on u (FenceDue o number) is apart h = pass_on Read u o apart (is_there u (FenceDue o number) is (λ k. cc)) h
  passes_on u Off is apart h = refl
  passes_on u Idle is apart h = refl
  passes_on u (Want o mode seen) is apart h = refl
  passes_on u (Claimed o mode prior done asked) is apart h = refl
  passes_on u (Sharing o drawn) is apart h = refl
  passes_on u Blocked is apart h = refl

  intermediate : ChangesAreByPhases next
  intermediate u o = each (λ v y. change_of (state_of next o) v ≡ change_by y.phase v o)
      (each_state (λ q state. change_of state t ≡ change_by x.phase t q) well.own_change (λ q differ. sound.intermediate t q ∙ (well.changed_nothing q differ ∙ sym (well.changes_nothing q differ))) o)
      (λ v apart. each_state (λ q state. change_of state v ≡ change_by (thread_of s v).phase v q) (well.others_change v apart ∙ sound.intermediate v object) (λ q differ. sound.intermediate v q) o)
      u

  pasts : HasPasts next
  pasts = let old = sound.pasts in record {
    states = each_state (λ o state. StateKnows s.journals s.counter o state) well.state_knows (λ o differ. old.states o);
    phases = each (λ u y. PhaseKnows s.journals s.counter u y.phase) well.knows (λ u differ. old.phases u);
    counts = each (λ u y. y.count ≤ s.counter) (subst (λ (n : ℕ). n ≤ s.counter) (sym well.counts) (old.counts t)) (λ u differ. old.counts u);
    draws = each (λ u y. KnowsDraws s.journals y.count u (now s u)) (subst (λ (n : ℕ). KnowsDraws s.journals n t (now s t)) (sym well.counts) (old.draws t)) (λ u differ. old.draws u);
  }

  pub changes_soundly : HasFrugalShape (proceeded (with_state s object w) t x None) → IsSound (proceeded (with_state s object w) t x None)
  changes_soundly shape = record {
    form = form;
    one_history = sound.one_history;
    positions = positions;
    passing = each (λ u y. IsTrue (passes next.statuses next.states next.threads u y.phase)) well.passing (λ u apart. passes_on u (thread_of s u).phase refl apart (sound.passing u));
    intermediate = intermediate;
    pasts = pasts;
    handover = each (λ u y. ClaimHandsOver s.journals s.statuses u y.phase) well.handover (λ u differ. sound.handover u);
    frugal = shape;
  }

  -- the frugal shape, from that of the thread's change alone, where the thread touches the object
  pub shape_of_change : HasFrugalShape (proceeded s t x None) → IsTrue (touches s.journals next.threads object t) → ((u : ℕ) → IsPrivateState s.journals next.threads object u (state_of s object) → IsPrivateState s.journals next.threads object u w)
      → HasFrugalShape (proceeded (with_state s object w) t x None)
  shape_of_change shape touched private = shape_on s.journals s.journals next.threads next.threads s.states next.states (λ o u. refl)
      (λ o none. elim (cases_eq o object) [
        | inl same ↦ absurd (let never : touches s.journals next.threads object t ≡ false = subst (λ (q : ℕ). touches s.journals next.threads q t ≡ false) same (none t) in let always = touched in cc)
        | inr differ ↦ other_state o differ
      ])
      (λ o u one old. record {
        state = each_state (λ q state. IsPrivateState s.journals next.threads q u (state_of s q) → IsPrivateState s.journals next.threads q u state) (private u) (λ q differ h. h) o old.state;
        no_fence = old.no_fence;
        before = old.before;
        to_come = old.to_come;
      }) shape

  -- the frugal shape of a thread that is on the same object as before
  module _ (touching : TouchesAlike x (thread_of s t)) (on_it : IsTrue (marks_for x.phase object)) (private : (u : ℕ) → IsPrivateState s.journals s.threads object u (state_of s object) → IsPrivateState (proceeded (with_state s object w) t x None).journals (proceeded (with_state s object w) t x None).threads object u w) where
    kept : {A : Type 0} (f : Phase → A) → f x.phase ≡ f (thread_of s t).phase → (u : ℕ) → f (thread_of next u).phase ≡ f (thread_of s u).phase
    kept f same = each (λ u y. f y.phase ≡ f (thread_of s u).phase) same (λ u differ. refl)

    touches_same : (o u : ℕ) → touches next.journals next.threads o u ≡ touches s.journals s.threads o u
    touches_same o u = ap (λ (on : Bool). has_access (journal_of s.journals u) o || on) (kept (λ p. is_on p o) (λ i. touching.marks_same o i || touching.fences_same o i) u)

    touched : touches s.journals s.threads object t ≡ true
    touched = sym (touches_same object t) ∙ (ap (λ (y : Thread). has_access (journal_of s.journals t) object || is_on y.phase object) (get_or-set_same s.threads t x unstarted inside)
        ∙ last (has_access (journal_of s.journals t) object) (marks_for x.phase object) (fences_for x.phase object) on_it)
      where
        last : (a b c : Bool) → b ≡ true → (a || (b || c)) ≡ true
        last true b c h = refl
        last false true c h = refl
        last false false c h = absurd cc

    asks_on : (u : ℕ) → u ≢ t → AsksThreadZero (thread_of s u).phase → AsksThreadZero (thread_of next u).phase
    asks_on u differ h = subst (λ (y : Thread). AsksThreadZero y.phase) (sym (get_or-set_other s.threads t u x unstarted differ)) h

    private_on : (o u : ℕ) → IsPrivateState s.journals s.threads o u (state_of s o) → IsPrivateState next.journals next.threads o u (state_of next o)
    private_on o u h = elim (cases_eq o object) [
      | inl same ↦ subst (λ (q : ℕ). IsPrivateState next.journals next.threads q u (state_of next q)) (sym same) (subst (IsPrivateState next.journals next.threads object u) (sym own_state) (private u (subst (λ (q : ℕ). IsPrivateState s.journals s.threads q u (state_of s q)) same h)))
      | inr differ ↦ subst (IsPrivateState next.journals next.threads o u) (sym (other_state o differ)) (private_state_on s.journals s.journals s.threads next.threads o u (state_of s o) (λ by h. (asks_on u (not_mine o u (state_of s o) differ refl by) h.0, h.1, h.2)) h)
    ]

    pub shape_kept : HasFrugalShape (proceeded (with_state s object w) t x None)
    shape_kept = shape_on s.journals s.journals s.threads next.threads s.states next.states touches_same
        (λ o none. elim (cases_eq o object) [
          | inl same ↦ absurd (let never : touches s.journals s.threads object t ≡ false = subst (λ (q : ℕ). touches s.journals s.threads q t ≡ false) same (none t) in let always = touched in cc)
          | inr differ ↦ other_state o differ
        ])
        (λ o u one old. record {
          state = private_on o u old.state;
          no_fence = kept (λ p. fences_for p o) (touching.fences_same o) u ∙ old.no_fence;
          before = old.before;
          to_come = λ marks. old.to_come (sym (kept (λ p. marks_for p o) (touching.marks_same o) u) ∙ marks);
        }) sound.frugal
