use Rattle.std.proofs.Common.{◌≡◌, ◌≤◌, ◌-◌, length, take}
use Rattle.std.specs.Vec.{vec_capacity}
use Rattle.octet_follow.proofs.follower.copy.Given as goal

abbrev pub decreases-loop-taken : goal.decreases-loop-taken
decreases-loop-taken l = length l.marks - l.taken

abbrev pub invariant-loop-taken : goal.invariant-loop-taken
invariant-loop-taken l = record {
  few : l.taken ≤ length l.marks;
  fits : l.taken ≤ vec_capacity l.initial.buffer;
  room : vec_capacity l.buffer ≡ vec_capacity l.initial.buffer;
  many : length l.buffer.items ≡ l.taken;
  copied : l.buffer.items ≡ take l.taken l.marks;
}
