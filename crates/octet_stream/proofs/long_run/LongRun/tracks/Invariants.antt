use Rattle.std.proofs.Common.{◌≡◌, ◌+◌, length}
use Rattle.octet_heap.specs.Markers as marker_of
use Rattle.octet_stream.specs.Runs.{EachNew}
use Rattle.octet_stream.proofs.Pairs.{AreFrom}
use Rattle.octet_stream.proofs.long_run.LongRun.tracks.Given as goal

abbrev pub invariant-loop-marker : goal.invariant-loop-marker
invariant-loop-marker l = record {
  new : AreFrom (λ n m. marker_of.IsNew l.self.heap l.room.marks n m) l.thread l.marker-iterator.rest.items;
  left : l.thread + length l.marker-iterator.rest.items ≡ length l.fn.markers.items;
  many : length l.tracks.items ≡ l.thread;
  as_many : length l.receivers.items ≡ l.thread;
  ends : EachNew l.self l.tracks.items l.receivers.items;
}
