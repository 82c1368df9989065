use Rattle.std.proofs.Common.{◌≡◌, ◌+◌, length}
use Rattle.octet_follow.specs.Calls as calls
use Rattle.octet_stream.specs.Followers.{EachAtStart}
use Rattle.octet_stream.proofs.Pairs.{AreFrom}
use Rattle.octet_stream.proofs.long_rerun.LongRerun.threads.Given as goal

abbrev pub invariant-loop-follower : goal.invariant-loop-follower
invariant-loop-follower l = record {
  start : AreFrom (λ n f. calls.IsAtStart l.self.course l.room.marks n f) l.number l.follower-iterator.rest.items;
  left : l.number + length l.follower-iterator.rest.items ≡ length l.fn.followers.items;
  many : length l.threads.items ≡ l.number;
  as_many : length l.feeders.items ≡ l.number;
  ends : EachAtStart l.self l.threads.items l.feeders.items;
}
