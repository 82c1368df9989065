use Rattle.std.proofs.Common.{◌≡◌, suc, ◌+◌, ◌-◌, ◌∙◌, sym, arith}
use Rattle.octet_machine.proofs.running.ManyTurns.{one_turn}
use Rattle.octet_machine.proofs.rounds.take_round.Goals as goal

pub loop-thread-preserved : goal.loop-thread-preserved
loop-thread-preserved c =
    let thread = c.loop-thread.thread in
    let end = c.threads-thread-end.result in
    let one : end - thread ≡ suc (end - (thread + 1)) = omega arith in
    record {
      threads = c.loop-thread.invariant.threads ∙ sym c.turn.ensures.threads;
      script = c.turn.ensures.script ∙ c.loop-thread.invariant.script;
      left = one_turn c.loop-thread.machine c.turn.new.self thread (end - thread) (end - (thread + 1)) _ c.turn.ensures.state one c.loop-thread.invariant.left;
    }
