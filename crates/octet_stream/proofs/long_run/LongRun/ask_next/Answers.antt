use Rattle.std.proofs.Common.{rules, ◌≡◌, drop, length}
use Rattle.octet_model.specs.Journals.{gapped_marks}
use Rattle.octet_heap.specs.Markers.{base_of}
use Rattle.octet_stream.specs.Tracks.{journal_of}
use Rattle.octet_stream.proofs.Joining.{joined_after}
use Rattle.octet_stream.proofs.long_run.LongRun.ask_next.Goals as goal

pub returns-in-Ok-clause-comes : goal.returns-in-Ok-clause-comes
returns-in-Ok-clause-comes c =
    let v = c.room_for_next.new.track in
    let w = c.go_on-answer.new.track in
    let same : length (gapped_marks 0 (drop (base_of w.marker) (journal_of w))) ≡ length (gapped_marks 0 (drop (base_of v.marker) (journal_of v))) = search rules in
    joined_after c.args.self.now c.args.wanted c.in-Ok.value v w c.room_for_next.ensures.own c.in-Ok.ensures.asks c.in-Ok.ensures.same.0 same c.args.track.now c.room_for_next.ensures.same c.in-Ok.ensures.made
