use Rattle.std.proofs.Common.{◌≡◌, ◌-◌, ◌≤◌, length}
use Rattle.octet_log.specs.v1.Decoding.{threads_at}
use Rattle.octet_log.specs.Judging.{with_front}
use Rattle.octet_log.proofs.version1.Loops.{threads_from}
use Rattle.octet_log.proofs.v1.decoder.read_threads.Given as goal

abbrev pub invariant-loop-thread : goal.invariant-loop-thread
invariant-loop-thread l = record {
  judged : with_front l.logs.items (threads_from l.total l.threads (l.threads - l.thread) l.thread l.before l.rest) ≡ threads_at l.total l.threads l.bytes;
  shorter : length l.rest ≤ length l.bytes;
  sum : l.before ≤ 262144;
}
