use Rattle.std.proofs.Common.{rules, ◌≡◌, ◌++◌, ◌∷◌, [], sym, subst, ap, ◌∙◌}
use Rattle.octet_heap.specs.Markers.{marker_seats, ArePlain}
use Rattle.octet_heap.proofs.MarkersSeated.{marked_more}
use Rattle.octet_heap.proofs.heap.Heap.mark_all.Goals as goal

pub loop-seat-preserved : goal.loop-seat-preserved
loop-seat-preserved c = let i = c.loop-seat.invariant in let e = c.in_ok-new.ensures in
    let more = marked_more c.args.marks c.loop-seat.yielded c.loop-seat.markers.items c.in_ok-new.field-0 c.in-Some.seat i.seats i.plain e.0 e.1 in
    let grown : c.push.new.self.items ≡ c.loop-seat.markers.items ++ c.in_ok-new.field-0 ∷ [] = search rules in record {
      seats = ap marker_seats grown ∙ more.0;
      plain = subst (ArePlain c.args.marks) (sym grown) more.1;
    }
