use Rattle.std.proofs.Common.{◌≡◌}
use Rattle.octet_heap.specs.Markers.{marker_seats}
use Rattle.octet_heap.proofs.heap.markers.all_seats.Given as goal

abbrev pub invariant-loop-marker : goal.invariant-loop-marker
invariant-loop-marker l = record { seats : l.seats.items ≡ marker_seats l.yielded }
