use Rattle.std.proofs.Common.{◌≡◌, ℕ, ◌+◌, ◌<◌, All, length, slice_index_or}
use Rattle.octet_rerun.specs.declared.follower.Follower.{Follower}
use Rattle.octet_rerun.specs.Reruns.{IsAtStart}
use Rattle.octet_host_script.specs.Opened.{EachFirstAgain}
use Rattle.octet_host_script.specs.Threads.{IsRepeated}
use Rattle.octet_host_script.proofs.following.seat_all.Given as goal

abbrev pub invariant-loop-follower : goal.invariant-loop-follower
invariant-loop-follower l = record {
  rest : (k : ℕ) (none : Follower) → k < length l.follower-iterator.rest.items → IsAtStart l.course.value.rerun (length l.threads.items + k) (slice_index_or l.follower-iterator.rest.items k none);
  good : All IsRepeated l.threads.items;
  first : EachFirstAgain l.course.value.rerun l.threads.items;
  share : All (λ it. it.course.value ≡ l.course.value) l.threads.items;
  count : length l.threads.items + length l.follower-iterator.rest.items ≡ length l.fn.followers.items;
}
