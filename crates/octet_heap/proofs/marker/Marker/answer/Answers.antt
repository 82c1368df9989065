use Rattle.std.proofs.Common.{◌≡◌, rules, refl}
use Rattle.octet_rule.specs.Seats.{view}
use Rattle.octet_heap.specs.Markers.{marker_seat}
use Rattle.octet_heap.proofs.Modelled.{same_model, same_standing}
use Rattle.octet_heap.proofs.marker.Marker.answer.Goals as goal

pub returns-clause-thread : goal.returns-clause-thread
returns-clause-thread c = let m = c.args.self.now in let e = c.safe_point.ensures in
    let number : (view c.safe_point.new.self.seat).number ≡ (marker_seat m).number = search rules in
    same_model _ _ _ _ _ _ number (same_standing m.pending m.pending m.changing m.changing _ _ refl refl e.phase) e.journal
