use Rattle.std.proofs.Common.{◌≡◌, ◌∙◌, List, IfOk, sym, ap, subst, rules}
use Rattle.octet_model.specs.Machine.{Journals}
use Rattle.octet_rule.specs.Seats.{starts_of, Closes}
use Rattle.octet_heap.specs.declared.marker.Marker.{Marker}
use Rattle.octet_heap.specs.Markers as marker_of
use Rattle.octet_heap.specs.Markers.{marker_seats}
use Rattle.octet_heap.specs.Models.{heap_model, marker_journals}
use Rattle.octet_stream.specs.Recordings.{IsRecorded}
use Rattle.octet_stream.specs.Runs.{journals_of}
use Rattle.octet_stream.proofs.Recorded.{markers_recorded}
use Rattle.octet_stream.proofs.Stillness.{markers_in, each_rests, same_journals}
use Rattle.octet_stream.proofs.long_run.LongRun.close.Goals as goal

pub close_markers-requires-clause-still : goal.close_markers-requires-clause-still
close_markers-requires-clause-still c =
    let markers : c.in_ok-all_markers.field-0 ≡ markers_in c.args.tracks = search rules in
    subst (λ (l : List Marker). marker_of.EachRests c.args.self.heap l) (sym markers) (each_rests c.args.self c.args.tracks c.requires.still)

pub returns : goal.returns
returns c =
    let markers : c.in_ok-all_markers.field-0 ≡ markers_in c.args.tracks = search rules in
    let journals : marker_journals c.in_ok-all_markers.field-0 ≡ journals_of c.args.tracks = ap (λ (l : List Marker). marker_journals l) markers ∙ same_journals c.args.tracks in
    let cells : IfOk c.close_markers.result (λ values. Closes (starts_of c.args.self.heap.words) (marker_seats c.in_ok-all_markers.field-0) values) = search rules in
    subst (λ (l : Journals). IfOk c.close_markers.result (λ values. IsRecorded (heap_model c.args.self.heap).starts l values)) journals
    (markers_recorded (starts_of c.args.self.heap.words) c.in_ok-all_markers.field-0 c.close_markers.result cells)
