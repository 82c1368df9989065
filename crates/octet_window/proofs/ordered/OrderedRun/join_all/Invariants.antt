use Rattle.octet_window.specs.Ordering.{parts_of, IsJoining, Keeps}
use Rattle.octet_window.proofs.ordered.OrderedRun.join_all.Given as goal

abbrev pub invariant-loop-from : goal.invariant-loop-from
invariant-loop-from l = record {
  joining : IsJoining (parts_of l.self) l.thread l.object l.writes l.from;
  keeps : Keeps (parts_of l.fn.self) (parts_of l.self);
}
