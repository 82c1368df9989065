-- Threads that note their last accesses.
use Rattle.std.specs.Prelude.{◌≡◌, ℕ, zero, suc, List, [], Option, Some, None, IfSome}
use Rattle.octet_model.specs.declared.event.Event.{Event}
use Rattle.octet_follow.specs.Calls.{journal_in}
use Rattle.octet_stream.specs.declared.long_follower.LongFollower.{LongFollower}
use Rattle.octet_stream.specs.declared.long_rerun.LongRerun.{LongRerun}
use Rattle.octet_stream.specs.Followers.{IsLongFollowerOf}
use Rattle.octet_tail.specs.declared.tail.Tail.{Tail}
use Rattle.octet_tail.specs.declared.tailed.TailedThread.{TailedThread}
use Rattle.octet_tail.specs.Tails.{room_of, IsTail}
use Rattle.octet_window.specs.Ordering.{accesses_in}

-- the accesses that a thread has made
abbrev pub made_by : LongFollower → List Event
made_by thread = accesses_in (journal_in thread.follower)

-- a thread of this run. Of what it has made the last accesses are noted, if any are
abbrev pub IsTailedOf : LongRerun → TailedThread LongFollower → Type 0
IsTailedOf rerun it = IsLongFollowerOf rerun it.thread × IfSome it.tail (IsTail (made_by it.thread))

-- there is room for so many accesses, and none was noted
abbrev pub HasRoom : ℕ → Option Tail → Type 0
HasRoom zero tail = tail ≡ None
HasRoom (suc last) (Some tail) = IsTail [] tail × (room_of tail ≡ suc last)
HasRoom (suc last) None = ⊥
