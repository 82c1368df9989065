use Rattle.std.proofs.Common.{None, ap}
use Rattle.octet_state.specs.declared.phase.Phase.TheVariants as phase
use Rattle.octet_rule.specs.Views.{SeatView}
use Rattle.octet_heap.specs.Workers.{seat_of}
use Rattle.octet_heap.proofs.Modelled.{same_model, same_standing, nothing_begun}
use Rattle.octet_heap.proofs.heap.Heap.unblock.Goals as goal

pub returns-clause-thread : goal.returns-clause-thread
returns-clause-thread c = let m = c.args.worker.now in let v = seat_of m in let moves = c.unblock.ensures.step.1.moves in
    let none = nothing_begun v.threads m.pending m.changing v.thread.phase c.requires.own.about c.requires.rests in
    same_model _ _ _ _ _ _ (ap (λ (v : SeatView). v.number) moves)
    (same_standing m.pending None m.changing None _ phase.Idle none.0 none.1 (ap (λ (v : SeatView). v.thread.phase) moves))
    (ap (λ (v : SeatView). v.journal) moves)
