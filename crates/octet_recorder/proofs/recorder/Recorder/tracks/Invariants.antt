use Rattle.std.proofs.Common.{◌≡◌, ◌+◌, length}
use Rattle.octet_recorder.specs.Tracks.{threads_in, EachNew}
use Rattle.octet_recorder.proofs.Beginning.{AreNew}
use Rattle.octet_recorder.proofs.recorder.Recorder.tracks.Given as goal

abbrev pub invariant-loop-worker : goal.invariant-loop-worker
invariant-loop-worker l = record {
  new : AreNew l.self.heap l.thread l.worker-iterator.rest.items;
  left : l.thread + length l.worker-iterator.rest.items ≡ threads_in l.self;
  many : length l.tracks.items ≡ l.thread;
  tracks : EachNew l.self l.tracks.items;
}
