use Rattle.std.proofs.Common.{◌≡◌, ◌≤◌, length, take, drop}
use Rattle.octet_model.specs.declared.limits.TheConstants.{MAX_ACCESSES}
use Rattle.octet_log.specs.Judging.{with_front}
use Rattle.octet_log.specs.v2.Decoding.{tail_at}
use Rattle.octet_log.proofs.v2.decoder.read_tail.Given as goal

-- the threads that have their accesses, and those that are left
abbrev pub invariant-loop-thread : goal.invariant-loop-thread
invariant-loop-thread l = record {
  judged : with_front (take l.thread l.logs.items) (tail_at l.total l.thread l.before (drop l.thread l.logs.items) l.rest) ≡ tail_at l.total 0 0 l.fn.logs.items l.bytes;
  shorter : length l.rest ≤ length l.bytes;
  length : length l.logs.items ≡ length l.fn.logs.items;
  before : l.before ≤ MAX_ACCESSES;
}
