-- What a clause says of what a handle stands for.
use Rattle.std.specs.Prelude.{◌≡◌, ◌≤◌, length}
use Rattle.octet_model.specs.declared.limits.TheConstants.{MAX_THREADS}
use Rattle.octet_host_long.specs.declared.following.ClosedAgain.{ClosedAgain}
use Rattle.octet_host_long.specs.declared.repeated.LongCourse.{LongCourse}
use Rattle.octet_host_long.specs.Closed.{IsClosedAgain}
use Rattle.octet_host_long.specs.Threads.{IsLongRecorded, IsLongRepeated}
use Rattle.octet_host_script.specs.Threads.{IsRecorded, IsRepeated}
use Rattle.octet_c.specs.declared.held.Held.{Held}
use Rattle.octet_c.specs.declared.held.Held.TheVariants as held
use Rattle.octet_c.specs.declared.window.Window.{Window}
use Rattle.octet_c.specs.declared.window.Window.TheVariants as window
use Rattle.octet_c.specs.Records.{IsGood, AreGood}

-- what a run has left that was made again. Its notes may have been taken
abbrev pub IsLeftOf : ClosedAgain → Type 0
IsLeftOf it = (course : LongCourse) × (again : ClosedAgain) × IsClosedAgain course again × (it.values ≡ again.values)

-- there are as many threads as a run may have
abbrev pub IsOnTheWay : Window → Type 0
IsOnTheWay (window.Search search) = (1 ≤ length search.made) × (length search.made ≤ MAX_THREADS)
IsOnTheWay (window.Found found) = (1 ≤ length found.parts) × (length found.parts ≤ MAX_THREADS)
IsOnTheWay (window.Made texts) = Unit {0}

-- what a handle may stand for
abbrev pub IsHeld : Held → Type 0
IsHeld (held.Recorded it) = IsRecorded it
IsHeld (held.Repeated it) = IsRepeated it
IsHeld (held.LongRecorded it) = IsLongRecorded it
IsHeld (held.LongRepeated it) = IsLongRepeated it
IsHeld (held.Outlet it) = Unit {0}
IsHeld (held.Inlet it) = Unit {0}
IsHeld (held.Kept kept) = IsGood kept
IsHeld (held.Values kept) = AreGood kept
IsHeld (held.Again again) = IsLeftOf again
IsHeld (held.Window it) = IsOnTheWay it
IsHeld (held.Schedule it) = Unit {0}
