-- A second run and its threads as a session.
use Rattle.std.specs.Prelude.{◌≡◌, Option, Some, None}
use Rattle.octet_parallel.specs.Calls.{view_of}
use Rattle.octet_recorder.specs.declared.access.Access.{Access}
use Rattle.octet_rerun.specs.declared.halt.Halt.{Halt}
use Rattle.octet_rerun.specs.declared.halt.Halt.TheVariants as halt
use Rattle.octet_rerun.specs.declared.rerun.Rerun.{Rerun}
use Rattle.octet_rerun.specs.Reruns.{made_by, recorded_of, AwaitsSome, Halts}
use Rattle.octet_session.specs.declared.not_made.NotMade.{NotMade}
use Rattle.octet_session.specs.declared.not_made.NotMade.TheVariants.{Waits, NoRoom, Left}
use Rattle.octet_session.specs.declared.second_thread.SecondThread.{SecondThread}
use Rattle.octet_session.specs.Standing.{Standing}

-- how a thread of a second run stands
abbrev pub second_standing : SecondThread → Standing
second_standing thread = record {
  number = thread.follower.thread;
  journal = made_by thread.follower;
  begun = thread.begun;
  region = thread.region;
  left = Some thread.left;
}

-- the thread has made all that was recorded of it
abbrev pub HasMadeAll : Rerun → SecondThread → Type 0
HasMadeAll rerun thread = made_by thread.follower ≡ recorded_of rerun thread.follower.thread

-- the halt is no wait
abbrev pub IsNoWait : Halt → Type 0
IsNoWait (halt.Waits whom needs found) = ⊥
IsNoWait _ = Unit {0}

-- why a thread of a second run has not made this access, or has not ended: it looked at another thread, which has made too
-- few events; or there is no room, of which `HasCause` says when; or it has left its recording, as its follower says
abbrev pub IsSecondReason : Rerun → Option Access → SecondThread → NotMade Halt → Type 0
IsSecondReason rerun wanted after Waits = AwaitsSome (view_of after.follower.player)
IsSecondReason rerun (Some wanted) after NoRoom = Unit {0}
IsSecondReason rerun None after NoRoom = ⊥
IsSecondReason rerun wanted after (Left halt) = IsNoWait halt × Halts wanted rerun after.follower halt
