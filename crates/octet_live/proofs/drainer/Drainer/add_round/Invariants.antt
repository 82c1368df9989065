use Rattle.std.proofs.Common.{◌≡◌}
use Rattle.octet_live.specs.Drained.{Drains}
use Rattle.octet_live.proofs.drainer.Drainer.add_round.Given as goal

abbrev pub invariant-loop-thread : goal.invariant-loop-thread
invariant-loop-thread g l =
    let state = g.D.Desk.state in
    record {
      drains : Drains l.threads l.fn.self (state l.fn.desk) l.self (state l.desk);
      begun : (state l.desk).begun ≡ (state l.fn.desk).begun;
    }
