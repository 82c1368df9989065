-- A step that changes one thread, and neither a word nor a journal.
use Rattle.std.proofs.Common.{◌≡◌, ◌≢◌, ℕ, ◌+◌, ◌<◌, ◌≤◌, Bool, ◌||◌, IsTrue, length, None, refl, sym, ap, ◌∙◌, subst, arith, length-set}
use Rattle.std.specs.Prelude.{IsFalse}
use Rattle.octet_model.specs.Machine.{journal_of}
use Rattle.octet_model.specs.Frugal.{marks_at_end}
use Rattle.octet_model.specs.Journals.{access_count}
use Rattle.octet_model.specs.Log.{is_mark}
use Rattle.octet_state.specs.State.{Thread, ProtocolState, thread_of, state_of, now}
use Rattle.octet_state.specs.Steps.{proceeded, is_safe_point, most_accesses}
use Rattle.octet_state.specs.Form.{is_nothing, HoldsPhase, HasForm}
use Rattle.octet_state.specs.Positions.{NamesThread, is_resting, PriorNamesThread, access_to_come, HasMarksAtEnd, HasPositions}
use Rattle.octet_state.specs.Passing.{passes}
use Rattle.octet_state.specs.Pasts.{KnowsDraws, PhaseKnows, HasPasts}
use Rattle.octet_state.specs.Handover.{ClaimHandsOver, AllHandOver}
use Rattle.octet_state.specs.FrugalShape.{has_access, marks_for, fences_for, is_on, touches, HasFrugalShape}
use Rattle.octet_state.specs.Soundness.{IsSound}
use Rattle.octet_state.proofs.frames.SeenByOthers.{LooksAlike, TouchesAlike, each_thread, looks, all_pass_on, changes_on, asks_zero}
use Rattle.octet_state.proofs.parts.FrugalShape.{private_state_on, shape_on}

-- what is to hold of a thread by itself
pub record StandsWell (s : ProtocolState) (t : ℕ) (x : Thread) : Type 0 where
  pub dues : IsTrue (is_nothing x.due || is_safe_point x.phase)
  pub phases : HoldsPhase (length s.threads) (length s.cells) t x.count x.phase
  pub prior_named : PriorNamesThread (length s.threads) x.phase
  pub accesses : access_count (journal_of s.journals t) + access_to_come x.phase ≤ most_accesses
  pub at_end : HasMarksAtEnd x.phase (marks_at_end (journal_of s.journals t))
  pub passing : IsTrue (passes s.statuses s.states s.threads t x.phase)
  pub knows : PhaseKnows s.journals s.counter t x.phase
  pub counts : x.count ≤ s.counter
  pub draws : KnowsDraws s.journals x.count t (now s t)
  pub handover : ClaimHandsOver s.journals s.statuses t x.phase

-- as it does of each thread of a sound state
pub stands_well : (s : ProtocolState) (t : ℕ) → IsSound s → StandsWell s t (thread_of s t)
stands_well s t sound = record {
  dues = sound.form.dues t;
  phases = sound.form.phases t;
  prior_named = sound.positions.prior_named t;
  accesses = sound.positions.accesses t;
  at_end = sound.positions.at_end t;
  passing = sound.passing t;
  knows = sound.pasts.phases t;
  counts = sound.pasts.counts t;
  draws = sound.pasts.draws t;
  handover = sound.handover t;
}

module _ (s : ProtocolState) (t : ℕ) (x : Thread) (inside : t < length s.threads) (sound : IsSound s) (alike : LooksAlike x (thread_of s t)) where
  each : (P : ℕ → Thread → Type 0) → P t x → ((u : ℕ) → u ≢ t → P u (thread_of s u)) → (u : ℕ) → P u (thread_of (proceeded s t x None) u)
  each = each_thread s t x inside None

  touches_same : TouchesAlike x (thread_of s t) → (object u : ℕ) → touches (proceeded s t x None).journals (proceeded s t x None).threads object u ≡ touches s.journals s.threads object u
  touches_same touching object u = ap (λ (on : Bool). has_access (journal_of s.journals u) object || on)
      (looks s t x inside None alike (λ p. is_on p object) (λ i. touching.marks_same object i || touching.fences_same object i) u)

  pub form : StandsWell s t x → HasForm (proceeded s t x None)
  form well = let old = sound.form in let many = length-set s.threads t x in record {
    some_thread = let h = old.some_thread in omega arith;
    few_threads = let h = old.few_threads in omega arith;
    statuses = old.statuses ∙ sym many;
    journals = old.journals ∙ sym many;
    states = old.states;
    starts = old.starts;
    bits = old.bits;
    dues = each (λ u y. IsTrue (is_nothing y.due || is_safe_point y.phase)) well.dues (λ u differ. old.dues u);
    phases = subst (λ (n : ℕ). (u : ℕ) → HoldsPhase n (length s.cells) u (thread_of (proceeded s t x None) u).count (thread_of (proceeded s t x None) u).phase) (sym many)
        (each (λ u y. HoldsPhase (length s.threads) (length s.cells) u y.count y.phase) well.phases (λ u differ. old.phases u));
  }

  pub positions : is_resting x.phase ≡ is_resting (thread_of s t).phase → StandsWell s t x → HasPositions (proceeded s t x None)
  positions resting well = let old = sound.positions in let many = length-set s.threads t x in record {
    reached = old.reached;
    blocked = λ u. old.blocked u ∙ sym (looks s t x inside None alike is_resting resting u);
    last = old.last;
    named = λ object. subst (λ (n : ℕ). NamesThread n (state_of s object)) (sym many) (old.named object);
    prior_named = subst (λ (n : ℕ). (u : ℕ) → PriorNamesThread n (thread_of (proceeded s t x None) u).phase) (sym many)
        (each (λ u y. PriorNamesThread (length s.threads) y.phase) well.prior_named (λ u differ. old.prior_named u));
    marks = λ place mark is. subst (λ (n : ℕ). IsTrue (is_mark n place.thread mark)) (sym many) (old.marks place mark is);
    accesses = each (λ u y. access_count (journal_of s.journals u) + access_to_come y.phase ≤ most_accesses) well.accesses (λ u differ. old.accesses u);
    few = old.few;
    at_end = each (λ u y. HasMarksAtEnd y.phase (marks_at_end (journal_of s.journals u))) well.at_end (λ u differ. old.at_end u);
  }

  pub pasts : StandsWell s t x → HasPasts (proceeded s t x None)
  pasts well = let old = sound.pasts in record {
    states = old.states;
    phases = each (λ u y. PhaseKnows s.journals s.counter u y.phase) well.knows (λ u differ. old.phases u);
    counts = each (λ u y. y.count ≤ s.counter) well.counts (λ u differ. old.counts u);
    draws = each (λ u y. KnowsDraws s.journals y.count u (now s u)) well.draws (λ u differ. old.draws u);
  }

  hand_over : StandsWell s t x → AllHandOver (proceeded s t x None)
  hand_over well = each (λ u y. ClaimHandsOver s.journals s.statuses u y.phase) well.handover (λ u differ. sound.handover u)

  -- the marks of the journals have not changed, and no thread touches an object that it did not touch
  pub frugal_shape : TouchesAlike x (thread_of s t) → HasFrugalShape (proceeded s t x None)
  frugal_shape touching = let moved = (proceeded s t x None).threads in shape_on s.journals s.journals s.threads moved s.states s.states (touches_same touching) (λ object none. refl) (λ object u one old. record {
    state = private_state_on s.journals s.journals s.threads moved object u (state_of s object) (λ by h. (asks_zero s t x inside None alike u h.0, h.1, h.2)) old.state;
    no_fence = subst IsFalse (sym (looks s t x inside None alike (λ p. fences_for p object) (touching.fences_same object) u)) old.no_fence;
    before = old.before;
    to_come = λ h. old.to_come (subst IsTrue (looks s t x inside None alike (λ p. marks_for p object) (touching.marks_same object) u) h);
  }) sound.frugal

  -- a thread that steps without a change of a word or a journal, and that stands well and looks as before, keeps the state sound where it keeps its frugal shape
  pub moves_soundly : is_resting x.phase ≡ is_resting (thread_of s t).phase → StandsWell s t x → HasFrugalShape (proceeded s t x None) → IsSound (proceeded s t x None)
  moves_soundly resting well shape = record {
    form = form well;
    one_history = sound.one_history;
    positions = positions resting well;
    passing = all_pass_on s t x inside None alike sound.passing well.passing;
    intermediate = changes_on s t x inside None alike sound.intermediate;
    pasts = pasts well;
    handover = hand_over well;
    frugal = shape;
  }
