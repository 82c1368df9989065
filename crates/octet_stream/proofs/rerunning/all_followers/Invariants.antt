use Rattle.std.proofs.Common.{◌≡◌}
use Rattle.octet_stream.specs.Followers.{followers_of}
use Rattle.octet_stream.proofs.rerunning.all_followers.Given as goal

abbrev pub invariant-loop-thread : goal.invariant-loop-thread
invariant-loop-thread l = l.followers ≡ followers_of l.yielded
