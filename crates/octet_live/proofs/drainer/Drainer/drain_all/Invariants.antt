use Rattle.std.proofs.Common.{◌≡◌}
use Rattle.octet_live.specs.Drained.{Drains}
use Rattle.octet_live.proofs.drainer.Drainer.drain_all.Given as goal

abbrev pub invariant-loop : goal.invariant-loop
invariant-loop g l =
    let state = g.D.Desk.state in
    record {
      drains : Drains l.threads l.fn.self (state l.fn.desk) l.self (state l.desk);
      begun : (state l.desk).begun ≡ (state l.fn.desk).begun;
    }
