use Rattle.std.proofs.Common.{◌≡◌, ◌≤◌, ◌*◌, ◌^◌, sum_by, take}
use Rattle.octet_slice.specs.Slice.{events_of}
use Rattle.octet_slice.proofs.slicing.all_events.Given as goal

abbrev pub invariant-loop-log : goal.invariant-loop-log
invariant-loop-log l = record {
  sum : l.all ≡ sum_by events_of (take l.log-index l.logs);
  few : l.all ≤ l.log-index * 2 ^ 33;
}
