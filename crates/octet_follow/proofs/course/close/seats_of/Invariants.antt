use Rattle.std.proofs.Common.{◌≡◌, map}
use Rattle.octet_follow.proofs.course.close.seats_of.Given as goal

abbrev pub invariant-loop-follower : goal.invariant-loop-follower
invariant-loop-follower l = l.seats.items ≡ map (λ follower. follower.seat) l.yielded
