use Rattle.std.proofs.Common.{◌≡◌}
use Rattle.octet_heap.specs.Markers.{marker_seats, ArePlain}
use Rattle.octet_heap.proofs.heap.Heap.mark_all.Given as goal

abbrev pub invariant-loop-seat : goal.invariant-loop-seat
invariant-loop-seat l = record { seats : marker_seats l.markers.items ≡ l.yielded; plain : ArePlain l.marks l.markers.items }
