use Rattle.std.proofs.Common.{◌≡◌, length}
use Rattle.octet_live.specs.Drained.{DrainsOne}
use Rattle.octet_live.proofs.drainer.Drainer.add_sent.Given as goal

abbrev pub invariant-loop : goal.invariant-loop
invariant-loop g l =
    let state = g.D.Desk.state in
    record {
      drains : DrainsOne l.thread l.fn.self.kept l.fn.self.drain (state l.fn.desk) l.self.kept l.self.drain (state l.desk);
      as_many : length l.self.drain.received ≡ length l.fn.self.drain.received;
      begun : (state l.desk).begun ≡ (state l.fn.desk).begun;
    }
