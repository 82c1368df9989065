use Rattle.std.proofs.Common.{◌≡◌, ◌+◌, ◌<◌, ◌^◌, length}
use Rattle.octet_follow.specs.Calls.{AreFollowersAt}
use Rattle.octet_follow.proofs.course.new.followers_of.Given as goal

abbrev pub invariant-loop-seat : goal.invariant-loop-seat
invariant-loop-seat l = record {
  left : l.number + length l.seat-iterator.rest.items < 2 ^ 8;
  count : length l.yielded ≡ l.number;
  followers : AreFollowersAt l.room 0 l.yielded l.followers.items;
}
