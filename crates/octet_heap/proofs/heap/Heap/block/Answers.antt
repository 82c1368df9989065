use Rattle.std.proofs.Common.{None, ap}
use Rattle.octet_state.specs.declared.phase.Phase.TheVariants as phase
use Rattle.octet_rule.specs.Views.{SeatView}
use Rattle.octet_heap.proofs.Modelled.{same_model, same_standing}
use Rattle.octet_heap.proofs.heap.Heap.block.Goals as goal

pub returns-clause-thread : goal.returns-clause-thread
returns-clause-thread c = let m = c.args.worker.now in let moves = c.block.ensures.step.1.moves in
    same_model _ _ _ _ _ _ (ap (λ (v : SeatView). v.number) moves)
    (same_standing m.pending None m.changing None _ phase.Blocked c.requires.idle.1 c.requires.idle.2 (ap (λ (v : SeatView). v.thread.phase) moves))
    (ap (λ (v : SeatView). v.journal) moves)
