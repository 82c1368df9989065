use Rattle.std.proofs.Common.{◌≡◌, ◌+◌, ◌<◌, ℕ, length, slice_index_or}
use Rattle.octet_threads.specs.declared.heap.runner.Runner.{Runner}
use Rattle.octet_threads.specs.Work.{SendsTo, workers_in, threads_in}
use Rattle.octet_threads.proofs.live_log.Connecting.{AreFeedsFrom}
use Rattle.octet_threads.proofs.heap.live.connect_all.Given as goal

abbrev pub invariant-loop-feed : goal.invariant-loop-feed
invariant-loop-feed l = record {
  feeds : AreFeedsFrom l.drainer l.thread l.feed-iterator.rest.items;
  left : l.thread + length l.feed-iterator.rest.items ≡ length l.fn.runners;
  workers : workers_in l.runners ≡ workers_in l.fn.runners;
  threads : threads_in l.runners ≡ threads_in l.fn.runners;
  sends : (thread : ℕ) (none : Runner) → thread < l.thread → SendsTo l.drainer thread (slice_index_or l.runners thread none).feed;
}
