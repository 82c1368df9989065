-- The right to an object, which stands from an access up to the next step of its thread.
use Rattle.std.specs.Prelude.{◌≡◌, ◌≢◌, ℕ, IsTrue, List, [], ◌∷◌}
use Rattle.octet_state.specs.declared.act.Mode.{Mode}
use Rattle.octet_state.specs.declared.act.Mode.TheVariants.{Read, Write, Update}
use Rattle.octet_state.specs.declared.phase.Phase.TheVariants.{Pass}
use Rattle.octet_state.specs.State.{ProtocolState, thread_of, state_of}
use Rattle.octet_state.specs.Steps.{ThreadStep, IsRun, after_run, step, target}
use Rattle.octet_state.specs.NextStep.{access_of}
use Rattle.octet_state.specs.Passing.{may_pass}
use Rattle.octet_rule.specs.Views.{SeatView}
use Rattle.octet_rule.specs.Rule.{Steps}
use Rattle.octet_recorder.specs.declared.access.Access.{Access}
use Rattle.octet_recorder.specs.declared.access.Access.TheVariants as want
use Rattle.octet_session.specs.Asking.{object_of}
use Rattle.octet_stream.specs.Accesses.{PollsReady}

-- none of these steps is this thread's
abbrev pub AreOthers : ℕ → List ThreadStep → Type 0
AreOthers thread [] = Unit {0}
AreOthers thread (taken ∷ run) = (taken.thread ≢ thread) × AreOthers thread run

-- of two accesses of one object, by different threads, at least one does not only read
abbrev pub Conflicts : Mode → Mode → Type 0
Conflicts Read Read = ⊥
Conflicts _ _ = Unit {0}

-- the thread has the right to such accesses of the object: the object's state lets it pass, and no other thread has come to a
-- conflicting access
pub record HasRight (mode : Mode) (thread object : ℕ) (s : ProtocolState) : Type 0 where
  pub lets : IsTrue (may_pass s.statuses s.threads mode thread object (state_of s object))
  pub alone : (other : ℕ) (how : Mode) → other ≢ thread → Conflicts mode how → (thread_of s other).phase ≡ Pass object how → ⊥

-- after an access its thread has the right to the object, in each state to which other threads can come before its next step
abbrev pub RightStands : Type 0
RightStands = (mode : Mode) (value : ℕ) (v : SeatView) (told : ℕ) (w : SeatView) (took : Steps (access_of mode value) v told w) (run : List ThreadStep)
    → IsRun (step (access_of mode value) v.number took.before) run → AreOthers v.number run
    → HasRight mode v.number (target v.thread.phase) (after_run (step (access_of mode value) v.number took.before) run)

-- how an access goes to its object
abbrev pub mode_of : Access → Mode
mode_of (want.Read object) = Read
mode_of (want.Write object value) = Write
mode_of (want.Update object change) = Update

-- the last step that a seat has taken is this access, and its thread has the right to the object in each state to which other threads
-- can come from there
pub record HoldsRight (wanted : Access) (w : SeatView) : Type 0 where
  pub value : ℕ
  pub before : SeatView
  pub told : ℕ
  pub took : Steps (access_of (mode_of wanted) value) before told w
  pub stands : (run : List ThreadStep) → IsRun (step (access_of (mode_of wanted) value) before.number took.before) run → AreOthers before.number run
      → HasRight (mode_of wanted) before.number (object_of wanted) (after_run (step (access_of (mode_of wanted) value) before.number took.before) run)

-- a poll that has made an access leaves its thread with the right to the object
abbrev pub ReadyHoldsRight : Type 0
ReadyHoldsRight = (wanted : Access) (v w : SeatView) → PollsReady wanted v w → HoldsRight wanted w
