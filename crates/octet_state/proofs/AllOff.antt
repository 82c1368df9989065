-- The journals of a sound state with every thread off are frugal.
use Rattle.std.proofs.Common.{◌≡◌, ℕ, Bool, true, false, ◌||◌, refl, sym, ap, ◌∙◌, subst}
use Rattle.octet_model.specs.declared.event.Place.{Place}
use Rattle.octet_model.specs.Machine.{journal_of}
use Rattle.octet_model.specs.Frugal.{marks_at_end, Accesses, IsPrivate, IsFrugal}
use Rattle.octet_state.specs.declared.phase.Phase.{Phase}
use Rattle.octet_state.specs.declared.phase.Phase.TheVariants.{Off}
use Rattle.octet_state.specs.State.{ProtocolState, thread_of}
use Rattle.octet_state.specs.Positions.{HasMarksAtEnd}
use Rattle.octet_state.specs.FrugalShape.{has_access, is_on, touches, IsTouchedBy}
use Rattle.octet_state.specs.Soundness.{IsSound}
use Rattle.octet_state.proofs.lemmas.Accesses.{no_access_at, finds_access}

module _ (s : ProtocolState) (sound : IsSound s) (off : (t : ℕ) → (thread_of s t).phase ≡ Off) where
  has_it : (place : Place) (object : ℕ) → Accesses s.journals place object → has_access (journal_of s.journals place.thread) object ≡ true
  has_it place object is = go (has_access (journal_of s.journals place.thread) object) refl
    where
      go : (b : Bool) → has_access (journal_of s.journals place.thread) object ≡ b → has_access (journal_of s.journals place.thread) object ≡ true
      go true it = it
      go false it = absurd (no_access_at (journal_of s.journals place.thread) place.event object is.0 it is.1 is.2)

  or_same : (b c : Bool) → c ≡ false → (b || c) ≡ b
  or_same true c none = refl
  or_same false c none = none

  touches_is : (object t : ℕ) → touches s.journals s.threads object t ≡ has_access (journal_of s.journals t) object
  touches_is object t = or_same (has_access (journal_of s.journals t) object) (is_on (thread_of s t).phase object) (ap (λ (p : Phase). is_on p object) (off t))

  touched_by : (place : Place) (object : ℕ) → Accesses s.journals place object → IsPrivate s.journals object place.thread → IsTouchedBy s.journals s.threads object place.thread
  touched_by place object is private = (
    touches_is object place.thread ∙ has_it place object is,
    λ other touching.
        let found = finds_access (journal_of s.journals other) object (sym (touches_is object other) ∙ touching) in
        private (record { thread = other; event = found.place }) (found.event, found.at, found.of),
  )

  pub frugal_when_off : IsFrugal s.journals
  frugal_when_off = record {
    unmarked = λ place object is private. (sound.frugal.private object place.thread (touched_by place object is private)).before place is;
    few = λ place object is. (sound.positions.few place object is).0;
    none_after = λ t. subst (λ (p : Phase). HasMarksAtEnd p (marks_at_end (journal_of s.journals t))) (off t) (sound.positions.at_end t);
  }
