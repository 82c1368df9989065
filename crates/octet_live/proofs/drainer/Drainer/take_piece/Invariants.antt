use Rattle.std.proofs.Common.{◌≡◌, ◌++◌, length, set}
use Rattle.octet_ring.specs.Views.{received_of, known_of}
use Rattle.octet_live.proofs.drainer.Drainer.take_piece.Given as goal

abbrev pub invariant-loop : goal.invariant-loop
invariant-loop l = record {
  few : length l.self.marks.items ≡ l.counter;
  kept : l.self.kept ≡ l.fn.self.kept;
  rings : l.self.drain.rings ≡ l.fn.self.drain.rings;
  received : l.self.drain.received ≡ set l.fn.self.drain.received l.thread (received_of l.fn.self.drain l.thread ++ l.self.marks.items);
  some : length l.self.marks.items ≡ 0 → known_of l.self.drain l.thread ≡ known_of l.fn.self.drain l.thread;
}
