-- Where a thread stands between two calls of its host.
use Rattle.std.specs.Prelude.{◌≡◌, ◌<◌, ℕ, Option, Some, None}
use Rattle.octet_session.specs.Standing.{Standing}
use Rattle.octet_session.specs.Asking.{object_of}
use Rattle.octet_host.specs.declared.stage.Stage.{Stage}
use Rattle.octet_host.specs.declared.stage.Stage.TheVariants.{Resting, Idle, Begun, Ended}
use Rattle.octet_host.specs.declared.misuse.Misuse.{Misuse}
use Rattle.octet_host.specs.declared.misuse.Misuse.TheVariants as misuse

-- the thread stands where the stage says: what it has begun, and whether it runs, rests or has ended
abbrev pub StandsAt : Type 0 → Type 0 → Type 0 → ℕ → Stage → Standing → Type 0
StandsAt Runs Rests HasEnded objects Resting standing = Rests × (standing.begun ≡ None)
StandsAt Runs Rests HasEnded objects Idle standing = Runs × (standing.begun ≡ None)
StandsAt Runs Rests HasEnded objects (Begun wanted) standing = Runs × (standing.begun ≡ Some wanted) × (object_of wanted < objects)
StandsAt Runs Rests HasEnded objects Ended standing = HasEnded

-- why a call is refused that is for a thread which runs and has begun nothing
abbrev pub why_not_idle : Stage → Option Misuse
why_not_idle Resting = Some misuse.Resting
why_not_idle Idle = None
why_not_idle (Begun wanted) = Some misuse.Begun
why_not_idle Ended = Some misuse.Resting

-- why a thread is not started
abbrev pub why_not_resting : Stage → Option Misuse
why_not_resting Resting = None
why_not_resting Idle = Some misuse.Running
why_not_resting (Begun wanted) = Some misuse.Running
why_not_resting Ended = Some misuse.Resting
