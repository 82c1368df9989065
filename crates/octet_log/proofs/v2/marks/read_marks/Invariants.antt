use Rattle.std.proofs.Common.{◌≡◌, ◌+◌, ◌-◌, ◌≤◌, length}
use Rattle.octet_log.specs.Judging.{with_front}
use Rattle.octet_log.specs.v2.Decoding.{short_marks_at}
use Rattle.octet_log.proofs.v2.marks.read_marks.Given as goal

abbrev pub invariant-loop : goal.invariant-loop
invariant-loop l = record {
  judged : with_front l.all.items (short_marks_at l.total l.threads l.thread (l.count - l.counter) l.rest) ≡ with_front l.fn.marks (short_marks_at l.total l.threads l.thread l.count l.bytes);
  shorter : length l.rest ≤ length l.bytes;
  count : length l.all.items ≡ length l.fn.marks + l.counter;
}
