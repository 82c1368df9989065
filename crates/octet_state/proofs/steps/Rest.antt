-- A thread that is marked blocked or running, or is given back for good, keeps the state sound.
use Rattle.std.proofs.Common.{◌≡◌, ℕ, ◌<◌, inl, inr, true, false, IsTrue, List, [], length, None, sym, refl, ap, ◌∙◌, subst, arith}
use Rattle.octet_model.specs.declared.event.Mark.{Mark}
use Rattle.octet_model.specs.Machine.{journal_of}
use Rattle.octet_model.specs.Frugal.{marks_at_end}
use Rattle.octet_state.specs.declared.phase.Phase.{Phase}
use Rattle.octet_state.specs.declared.phase.Phase.TheVariants.{Off, Idle, Blocked}
use Rattle.octet_state.specs.declared.phase.Due.TheVariants.{Nothing}
use Rattle.octet_state.specs.State.{ProtocolState, thread_of, now}
use Rattle.octet_state.specs.Steps.{ToBlock, ToUnblock, shown, moved, with_status, proceeded}
use Rattle.octet_state.specs.Form.{HoldsPhase}
use Rattle.octet_state.specs.Positions.{is_resting, PriorNamesThread, access_to_come, HasMarksAtEnd}
use Rattle.octet_state.specs.Passing.{passes}
use Rattle.octet_state.specs.Pasts.{PhaseKnows}
use Rattle.octet_state.specs.Handover.{ClaimHandsOver}
use Rattle.octet_state.specs.FrugalShape.{marks_for, fences_for}
use Rattle.octet_state.specs.Soundness.{IsSound}
use Rattle.octet_state.specs.Laws.{BlockIsLawful, UnblockIsLawful, RejoiningIsSound}
use Rattle.octet_state.proofs.frames.SeenByOthers.{busy, LooksAlike, TouchesAlike}
use Rattle.octet_state.proofs.frames.ThreadChange.{StandsWell, frugal_shape, moves_soundly}
use Rattle.octet_state.proofs.frames.WordOfStep.{does_at}
use Rattle.octet_state.proofs.frames.StatusChange.{swaps_soundly}

-- the phases in which a thread wants nothing
record Calm (p : Phase) : Type 0 where
  idle : busy p ≡ Idle
  no_marks : (o : ℕ) → marks_for p o ≡ false
  no_fence : (o : ℕ) → fences_for p o ≡ false
  none_to_come : access_to_come p ≡ 0
  holds : (threads objects me count : ℕ) → HoldsPhase threads objects me count p
  named : (threads : ℕ) → PriorNamesThread threads p
  ends : (marks : List Mark) → marks ≡ [] → HasMarksAtEnd p marks
  bare : (marks : List Mark) → HasMarksAtEnd p marks → marks ≡ []
  passing : (s : ProtocolState) (t : ℕ) → IsTrue (passes s.statuses s.states s.threads t p)
  knows : (s : ProtocolState) (t : ℕ) → PhaseKnows s.journals s.counter t p
  handover : (s : ProtocolState) (t : ℕ) → ClaimHandsOver s.journals s.statuses t p

off_is_calm : Calm Off
off_is_calm = record { idle = refl; no_marks = λ o. refl; no_fence = λ o. refl; none_to_come = refl; holds = λ n k me c. tt; named = λ n. tt; ends = λ m h. h; bare = λ m h. h; passing = λ s t. refl; knows = λ s t. tt; handover = λ s t. tt }

idle_is_calm : Calm Idle
idle_is_calm = record { idle = refl; no_marks = λ o. refl; no_fence = λ o. refl; none_to_come = refl; holds = λ n k me c. tt; named = λ n. tt; ends = λ m h. h; bare = λ m h. h; passing = λ s t. refl; knows = λ s t. tt; handover = λ s t. tt }

blocked_is_calm : Calm Blocked
blocked_is_calm = record { idle = refl; no_marks = λ o. refl; no_fence = λ o. refl; none_to_come = refl; holds = λ n k me c. tt; named = λ n. tt; ends = λ m h. h; bare = λ m h. h; passing = λ s t. refl; knows = λ s t. tt; handover = λ s t. tt }

calm_well : (s : ProtocolState) (t : ℕ) (p q : Phase) → IsSound s → (thread_of s t).phase ≡ p → Calm p → Calm q → StandsWell s t (moved q Nothing (thread_of s t))
calm_well s t p q sound is from to =
    let none : marks_at_end (journal_of s.journals t) ≡ [] = from.bare (marks_at_end (journal_of s.journals t)) (subst (λ (r : Phase). HasMarksAtEnd r (marks_at_end (journal_of s.journals t))) is (sound.positions.at_end t)) in record {
      dues = refl;
      phases = to.holds (length s.threads) (length s.cells) t (thread_of s t).count;
      prior_named = to.named (length s.threads);
      accesses = let a = sound.positions.accesses t in let b = to.none_to_come in omega arith;
      at_end = to.ends (marks_at_end (journal_of s.journals t)) none;
      passing = to.passing s t;
      knows = to.knows s t;
      counts = sound.pasts.counts t;
      draws = sound.pasts.draws t;
      handover = to.handover s t;
    }

calm_alike : (s : ProtocolState) (t : ℕ) (p q : Phase) → (thread_of s t).phase ≡ p → Calm p → Calm q → LooksAlike (moved q Nothing (thread_of s t)) (thread_of s t)
calm_alike s t p q is from to = record { busy_same = to.idle ∙ (sym from.idle ∙ sym (ap busy is)) }

calm_touching : (s : ProtocolState) (t : ℕ) (p q : Phase) → (thread_of s t).phase ≡ p → Calm p → Calm q → TouchesAlike (moved q Nothing (thread_of s t)) (thread_of s t)
calm_touching s t p q is from to = record {
  marks_same = λ o. to.no_marks o ∙ (sym (from.no_marks o) ∙ sym (ap (λ (r : Phase). marks_for r o) is));
  fences_same = λ o. to.no_fence o ∙ (sym (from.no_fence o) ∙ sym (ap (λ (r : Phase). fences_for r o) is));
}

-- from one of them to another, with the status that the new one shows
calm_soundly : (s : ProtocolState) (t : ℕ) (p q : Phase) → t < length s.threads → IsSound s → (thread_of s t).phase ≡ p → Calm p → Calm q
    → IsSound (proceeded (with_status s t (shown (is_resting q) (now s t))) t (moved q Nothing (thread_of s t)) None)
calm_soundly s t p q inside sound is from to =
    swaps_soundly s t (is_resting q) inside sound (moved q Nothing (thread_of s t)) (calm_alike s t p q is from to) (calm_touching s t p q is from to)
    (calm_well s t p q sound is from to) refl (λ status'. subst (λ (r : Phase). IsTrue (passes (with_status s t status').statuses (with_status s t status').states (with_status s t status').threads t r)) (sym is) (from.passing (with_status s t status') t)) (to.passing (with_status s t (shown (is_resting q) (now s t))) t)

-- from rest to off, with the status as it is
off_soundly : (s : ProtocolState) (t : ℕ) (p : Phase) → t < length s.threads → IsSound s → (thread_of s t).phase ≡ p → Calm p → is_resting p ≡ true → IsSound (proceeded s t (moved Off Nothing (thread_of s t)) None)
off_soundly s t p inside sound is from rests =
    moves_soundly s t (moved Off Nothing (thread_of s t)) inside sound (calm_alike s t p Off is from off_is_calm) (sym rests ∙ sym (ap is_resting is)) (calm_well s t p Off sound is from off_is_calm)
    (frugal_shape s t (moved Off Nothing (thread_of s t)) inside sound (calm_alike s t p Off is from off_is_calm) (calm_touching s t p Off is from off_is_calm))

pub rejoining_is_sound : RejoiningIsSound
rejoining_is_sound s t sound inside (inl stands) = off_soundly s t Off inside sound stands.1 off_is_calm refl
rejoining_is_sound s t sound inside (inr stands) = off_soundly s t Blocked inside sound stands.1 blocked_is_calm refl

pub block_is_lawful : BlockIsLawful
block_is_lawful s t place new true sound inside stands at stores = record {
  may = stands;
  sound = calm_soundly s t Idle Off inside sound stands.1 idle_is_calm off_is_calm;
  does = does_at s sound.form t inside (ToBlock true) place (λ word. new) tt at stores;
}
block_is_lawful s t place new false sound inside stands at stores = record {
  may = stands;
  sound = calm_soundly s t Idle Blocked inside sound stands.1 idle_is_calm blocked_is_calm;
  does = does_at s sound.form t inside (ToBlock false) place (λ word. new) tt at stores;
}

pub unblock_is_lawful : UnblockIsLawful
unblock_is_lawful s t place new sound inside (inl stands) at stores = record {
  may = (stands.0, inl stands.1);
  sound = calm_soundly s t Off Idle inside sound stands.1 off_is_calm idle_is_calm;
  does = does_at s sound.form t inside ToUnblock place (λ word. new) tt at stores;
}
unblock_is_lawful s t place new sound inside (inr stands) at stores = record {
  may = (stands.0, inr stands.1);
  sound = calm_soundly s t Blocked Idle inside sound stands.1 blocked_is_calm idle_is_calm;
  does = does_at s sound.form t inside ToUnblock place (λ word. new) tt at stores;
}
