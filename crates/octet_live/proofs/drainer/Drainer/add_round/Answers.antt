use Rattle.std.proofs.Common.{rules, ◌≡◌, ◌∙◌, sym}
use Rattle.octet_live.specs.Drained.{threads_of}
use Rattle.octet_live.proofs.Drained.{drain_nothing, drains_on, one_drains}
use Rattle.octet_live.proofs.drainer.Drainer.add_round.Goals as goal

pub loop-thread-init : goal.loop-thread-init
loop-thread-init g c = record { drains = drain_nothing c.args.threads c.args.self.now (g.D.Desk.state c.args.desk.now); begun = search rules }

pub loop-thread-preserved : goal.loop-thread-preserved
loop-thread-preserved g c =
    let first = c.args.self.now in
    let mid = c.loop-thread.self in
    let next = c.add_sent.new.self in
    let all : c.args.threads ≡ threads_of mid = c.requires.threads.0 ∙ sym c.loop-thread.invariant.drains.as_many in record {
      drains = drains_on c.args.threads first mid next _ _ _ c.loop-thread.invariant.drains
          (one_drains c.args.threads c.loop-thread.thread mid next _ _ all c.loop-thread-test.true c.add_sent.ensures.drains);
      begun = c.add_sent.ensures.begun ∙ c.loop-thread.invariant.begun;
    }
