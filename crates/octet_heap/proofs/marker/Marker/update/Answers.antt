use Rattle.octet_heap.specs.Markers.{marker_seat}
use Rattle.octet_heap.specs.Models.{marker_model}
use Rattle.octet_heap.specs.Updates.{answer_after, update_to}
use Rattle.octet_heap.proofs.Modelled.{changes_by, idle_marker, after_update, marker_updates}
use Rattle.octet_heap.proofs.marker.Marker.update.Goals as goal

pub returns-in-None-clause-stands : goal.returns-in-None-clause-stands
returns-in-None-clause-stands c = let e = c.begin_update.ensures in
    marker_updates (answer_after c.args.change c.begin_update.result) c.begin_update.new.self (update_to c.args.object c.args.change) e.idle e.changing

pub returns-in-None-clause-thread : goal.returns-in-None-clause-thread
returns-in-None-clause-thread c = let m = c.args.self.now in let n = c.begin_update.new.self in let e = c.begin_update.ensures in
    let update = update_to c.args.object c.args.change in let answer = answer_after c.args.change c.begin_update.result in
    changes_by update c.begin_update.result (marker_seat m) (marker_seat n) (marker_model m).standing (marker_model n).standing e.number e.polls.journal
    (after_update answer n.pending n.changing (marker_seat n).thread.phase update (idle_marker answer n e.idle) e.pending e.changing)

pub returns-in-Some-clause-stands : goal.returns-in-Some-clause-stands
returns-in-Some-clause-stands c = let e = c.go_on_with_update.ensures in
    marker_updates (answer_after c.args.change c.go_on_with_update.result) c.go_on_with_update.new.self (update_to c.args.object c.args.change) e.idle e.changing

pub returns-in-Some-clause-thread : goal.returns-in-Some-clause-thread
returns-in-Some-clause-thread c = let m = c.args.self.now in let n = c.go_on_with_update.new.self in let e = c.go_on_with_update.ensures in
    let update = update_to c.args.object c.args.change in let answer = answer_after c.args.change c.go_on_with_update.result in
    changes_by update c.go_on_with_update.result (marker_seat m) (marker_seat n) (marker_model m).standing (marker_model n).standing e.number e.polls.journal
    (after_update answer n.pending n.changing (marker_seat n).thread.phase update (idle_marker answer n e.idle) e.pending e.changing)
