use Rattle.std.proofs.Common.{◌≡◌, ◌∙◌, sym, subst, ap}
use Rattle.octet_heap.specs.Markers.{marker_seats, ArePlain}
use Rattle.octet_heap.proofs.MarkersSeated.{each_new, each_starts, same_count}
use Rattle.octet_heap.proofs.heap.Heap.for_markers.Goals as goal

pub returns-clause-markers : goal.returns-clause-markers
returns-clause-markers c = let seats_made = c.in_ok-words.ensures in let items = c.from_vec.ensures in
    let are : marker_seats c.from_vec.result ≡ c.in_ok-words.seats = ap marker_seats items ∙ (c.in_ok-markers.ensures.seats ∙ c.into_vec.ensures) in (
      same_count c.from_vec.result c.in_ok-words.seats are ∙ seats_made.2,
      each_new _ c.args.marks c.in_ok-words.seats c.from_vec.result are (subst (ArePlain c.args.marks) (sym items) c.in_ok-markers.ensures.plain) seats_made.3,
    )

pub returns-clause-threads : goal.returns-clause-threads
returns-clause-threads c = let new = returns-clause-markers c in (new.0, each_starts _ c.args.marks c.from_vec.result new.1)
