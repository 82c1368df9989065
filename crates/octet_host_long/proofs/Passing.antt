-- What is whole is taken.
use Rattle.std.proofs.Common.{ℕ, List, Ok}
use Rattle.octet_host_long.specs.declared.outlet.Outlet.{Outlet}
use Rattle.octet_host_long.specs.declared.outlet.Taken.{Taken}
use Rattle.octet_host_long.specs.declared.outlet.Taken.TheVariants as taken
use Rattle.octet_host_long.specs.Streams.{TakesWhole, TakesFrom}

-- whatever is given of something whole is taken from its stream
pub takes_whole : (before : Outlet) (room : List ℕ) (given : Taken) (out : List ℕ) (after : Outlet) → TakesWhole before room given out after → TakesFrom before room (Ok given) out after
takes_whole before room (taken.Copied long) out after takes = takes
takes_whole before room (taken.NoRoom long) out after takes = takes
takes_whole before room taken.Waits out after takes = absurd takes.passes
takes_whole before room taken.Ended out after takes = absurd takes.passes
