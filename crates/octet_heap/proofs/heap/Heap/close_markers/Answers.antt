use Rattle.std.proofs.Common.{rules, ◌≡◌, IfOk}
use Rattle.octet_rule.specs.Seats.{starts_of, Closes}
use Rattle.octet_heap.specs.Markers.{marker_seats}
use Rattle.octet_heap.proofs.Explained.{markers_explained}
use Rattle.octet_heap.proofs.MarkersSeated.{resting_seats}
use Rattle.octet_heap.proofs.heap.Heap.close_markers.Goals as goal

pub close-requires : goal.close-requires
close-requires c = let are : c.from_vec.result ≡ marker_seats c.args.markers = search rules in resting_seats c.args.self c.from_vec.result c.args.markers are c.requires.all c.requires.still

pub returns-clause-values : goal.returns-clause-values
returns-clause-values c =
    let cells : IfOk c.close.result (λ values. Closes (starts_of c.args.self.words) (marker_seats c.args.markers) values) = search rules in
    markers_explained (starts_of c.args.self.words) c.args.markers c.close.result cells
