use Rattle.std.proofs.Common.{◌≡◌, rules, refl}
use Rattle.octet_rule.specs.Seats.{view}
use Rattle.octet_heap.specs.Workers.{seat_of}
use Rattle.octet_heap.proofs.Modelled.{same_model, same_standing}
use Rattle.octet_heap.proofs.heap.Heap.safe_point.Goals as goal

pub returns-clause-thread : goal.returns-clause-thread
returns-clause-thread c = let m = c.args.worker.now in let e = c.safe_point.ensures in
    let number : (view c.safe_point.new.self.seat).number ≡ (seat_of m).number = search rules in
    same_model _ _ _ _ _ _ number (same_standing m.pending m.pending m.changing m.changing _ _ refl refl e.phase) e.journal
