-- A glance keeps the state sound.
use Rattle.std.proofs.Common.{ℕ, ◌<◌, Bool, true, false, ◌||◌, IsTrue, length, None, refl}
use Rattle.octet_state.specs.declared.phase.Due.{Due}
use Rattle.octet_state.specs.State.{ProtocolState, thread_of}
use Rattle.octet_state.specs.Steps.{ToGlance, moved, told, after, proceeded, is_safe_point}
use Rattle.octet_state.specs.Form.{is_nothing}
use Rattle.octet_state.specs.Soundness.{IsSound}
use Rattle.octet_state.specs.Laws.{GlanceIsLawful}
use Rattle.octet_state.proofs.frames.SeenByOthers.{LooksAlike}
use Rattle.octet_state.proofs.frames.ThreadChange.{StandsWell, stands_well, frugal_shape, moves_soundly}
use Rattle.octet_state.proofs.frames.WordOfStep.{does_at}

-- the same thread with something else due at a safe point
pub due_only : (s : ProtocolState) (t : ℕ) (due : Due) → IsSound s → IsTrue (is_safe_point (thread_of s t).phase) → StandsWell s t (moved (thread_of s t).phase due (thread_of s t))
due_only s t due sound safe = let old = stands_well s t sound in record {
  dues = or_safe (is_nothing due) (is_safe_point (thread_of s t).phase) safe;
  phases = old.phases;
  prior_named = old.prior_named;
  accesses = old.accesses;
  at_end = old.at_end;
  passing = old.passing;
  knows = old.knows;
  counts = old.counts;
  draws = old.draws;
  handover = old.handover;
}
  where
    or_safe : (a b : Bool) → IsTrue b → IsTrue (a || b)
    or_safe true b h = refl
    or_safe false b h = h

pub same_phase : (s : ProtocolState) (t : ℕ) (due : Due) → LooksAlike (moved (thread_of s t).phase due (thread_of s t)) (thread_of s t)
same_phase s t due = record { busy_same = refl }

pub due_soundly : (s : ProtocolState) (t : ℕ) (due : Due) → t < length s.threads → IsSound s → IsTrue (is_safe_point (thread_of s t).phase) → IsSound (proceeded s t (moved (thread_of s t).phase due (thread_of s t)) None)
due_soundly s t due inside sound safe = moves_soundly s t (moved (thread_of s t).phase due (thread_of s t)) inside sound (same_phase s t due) refl (due_only s t due sound safe)
    (frugal_shape s t (moved (thread_of s t).phase due (thread_of s t)) inside sound (same_phase s t due) record { marks_same = λ object. refl; fences_same = λ object. refl })

pub glance_is_lawful : GlanceIsLawful
glance_is_lawful s t place sound inside due safe is = record {
  may = (due, safe);
  sound = due_soundly s t (after ToGlance t (told ToGlance t s) (thread_of s t)).due inside sound safe;
  does = does_at s sound.form t inside ToGlance place (λ word. word) tt is refl;
}
