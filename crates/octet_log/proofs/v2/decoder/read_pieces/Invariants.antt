use Rattle.std.proofs.Common.{◌≡◌, ◌-◌, ◌≤◌, length}
use Rattle.octet_log.specs.declared.limits.TheConstants.{MAX_MARKS}
use Rattle.octet_log.specs.v2.Decoding.{pieces_at}
use Rattle.octet_log.proofs.v2.decoder.read_pieces.Given as goal

-- what is left, judged from here on, is what all is judged to be
abbrev pub invariant-loop : goal.invariant-loop
invariant-loop l = record {
  judged : pieces_at (length l.bytes - l.counter) l.total l.threads l.before l.logs.items l.rest ≡ pieces_at (length l.bytes) l.total l.threads 0 l.fn.logs.items l.bytes;
  shorter : length l.rest ≤ length l.bytes;
  length : length l.logs.items ≡ length l.fn.logs.items;
  before : l.before ≤ MAX_MARKS;
}
