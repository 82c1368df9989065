use Rattle.std.proofs.Common.{◌≡◌, ◌-◌, ◌≤◌, length}
use Rattle.octet_log.specs.v1.Decoding.{marks_at}
use Rattle.octet_log.specs.Judging.{with_front}
use Rattle.octet_log.proofs.v1.decoder.read_marks.Given as goal

abbrev pub invariant-loop : goal.invariant-loop
invariant-loop l = record {
  judged : with_front l.marks.items (marks_at l.total l.threads l.thread l.left (l.count - l.counter) l.rest) ≡ marks_at l.total l.threads l.thread l.accesses l.count l.bytes;
  shorter : length l.rest ≤ length l.bytes;
}
