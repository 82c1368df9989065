use Rattle.std.proofs.Common.{rules, ◌≡◌, drop, length}
use Rattle.octet_model.specs.Journals.{gap_after, gapped_marks}
use Rattle.octet_heap.specs.Markers.{base_of}
use Rattle.octet_stream.specs.Tracks.{journal_of}
use Rattle.octet_stream.proofs.Flushed.{nothing_left}
use Rattle.octet_stream.proofs.long_run.LongRun.has_nothing_left.Goals as goal

pub returns-then-marks-eq0 : goal.returns-then-marks-eq0
returns-then-marks-eq0 c zero =
    let track = c.args.track.now in
    let none : length (gapped_marks 0 (drop (base_of track.marker) (journal_of track))) ≡ 0 = search rules in
    let gap : gap_after 0 (drop (base_of track.marker) (journal_of track)) ≡ 0 = search rules in
    nothing_left c.args.self.now track c.requires none gap
