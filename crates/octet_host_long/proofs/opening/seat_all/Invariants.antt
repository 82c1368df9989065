use Rattle.std.proofs.Common.{◌≡◌, All, map}
use Rattle.octet_host_long.specs.Opened.{IsSeat}
use Rattle.octet_host_long.proofs.opening.seat_all.Given as goal

abbrev pub invariant-loop-track : goal.invariant-loop-track
invariant-loop-track l = record {
  seats : All (IsSeat l.heap.value.run l.objects) l.threads.items;
  share : All (λ it. it.heap.value ≡ l.heap.value) l.threads.items;
  tracks : map (λ it. it.track) l.threads.items ≡ l.yielded;
}
