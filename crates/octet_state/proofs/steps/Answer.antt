-- An answer keeps the state sound.
use Rattle.std.proofs.Common.{◌≡◌, ℕ, false, ◌||◌, IsTrue, refl, subst}
use Rattle.octet_state.specs.declared.phase.Phase.{Phase}
use Rattle.octet_state.specs.declared.phase.Phase.TheVariants.{Off, Idle, Want, Pass, FenceDue, Claimed, Sharing, Blocked}
use Rattle.octet_state.specs.declared.phase.Due.{Due}
use Rattle.octet_state.specs.declared.phase.Due.TheVariants.{Nothing, Answer}
use Rattle.octet_state.specs.State.{Thread, ProtocolState, thread_of, now}
use Rattle.octet_state.specs.Steps.{ToAnswer, shown, moved, with_status, is_safe_point}
use Rattle.octet_state.specs.Form.{is_nothing}
use Rattle.octet_state.specs.Positions.{is_resting}
use Rattle.octet_state.specs.Passing.{passes}
use Rattle.octet_state.specs.Soundness.{IsSound}
use Rattle.octet_state.specs.Laws.{AnswerIsLawful}
use Rattle.octet_state.proofs.steps.Glance.{due_only}
use Rattle.octet_state.proofs.frames.WordOfStep.{does_at}
use Rattle.octet_state.proofs.frames.StatusChange.{swaps_soundly}

-- a safe point is no passing, and no rest
safe_goes : (s : ProtocolState) (t : ℕ) (p : Phase) → IsTrue (is_safe_point p) → IsTrue (passes s.statuses s.states s.threads t p)
safe_goes s t Off h = absurd cc
safe_goes s t Idle h = refl
safe_goes s t (Want o m seen) h = refl
safe_goes s t (Pass o m) h = absurd cc
safe_goes s t (FenceDue o n) h = absurd cc
safe_goes s t (Claimed o m prior done asked) h = refl
safe_goes s t (Sharing o drawn) h = absurd cc
safe_goes s t Blocked h = absurd cc

safe_runs : (p : Phase) → IsTrue (is_safe_point p) → false ≡ is_resting p
safe_runs Off h = absurd cc
safe_runs Idle h = refl
safe_runs (Want o m seen) h = refl
safe_runs (Pass o m) h = absurd cc
safe_runs (FenceDue o n) h = absurd cc
safe_runs (Claimed o m prior done asked) h = refl
safe_runs (Sharing o drawn) h = absurd cc
safe_runs Blocked h = absurd cc

-- where an answer is due, a safe point may come
answer_is_safe : (s : ProtocolState) (t : ℕ) → IsSound s → (thread_of s t).due ≡ Answer → IsTrue (is_safe_point (thread_of s t).phase)
answer_is_safe s t sound due = subst (λ (d : Due). IsTrue (is_nothing d || is_safe_point (thread_of s t).phase)) due (sound.form.dues t)

pub answer_is_lawful : AnswerIsLawful
answer_is_lawful s t place new sound inside due at stores =
    let x : Thread = moved (thread_of s t).phase Nothing (thread_of s t) in let p = (thread_of s t).phase in let safe = answer_is_safe s t sound due in record {
      may = due;
      sound = swaps_soundly s t false inside sound x record { busy_same = refl } record { marks_same = λ o. refl; fences_same = λ o. refl } (due_only s t Nothing sound safe) (safe_runs p safe)
          (λ status'. safe_goes (with_status s t status') t p safe) (safe_goes (with_status s t (shown false (now s t))) t p safe);
      does = does_at s sound.form t inside ToAnswer place (λ word. new) tt at stores;
    }
