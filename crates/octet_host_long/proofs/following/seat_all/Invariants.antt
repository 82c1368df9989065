use Rattle.std.proofs.Common.{◌≡◌, All, map}
use Rattle.octet_host_long.specs.Opened.{IsSeatAgain}
use Rattle.octet_host_long.proofs.following.seat_all.Given as goal

abbrev pub invariant-loop-follower : goal.invariant-loop-follower
invariant-loop-follower l = record {
  seats : All (IsSeatAgain l.course.value.rerun.session l.objects l.course.value.last) l.threads.items;
  share : All (λ it. it.course.value ≡ l.course.value) l.threads.items;
  followers : map (λ it. it.thread.thread) l.threads.items ≡ l.yielded;
}
