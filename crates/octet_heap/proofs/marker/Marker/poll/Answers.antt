use Rattle.std.proofs.Common.{◌∙◌, Option, ap}
use Rattle.octet_heap.specs.declared.pending_access.PendingAccess.{PendingAccess}
use Rattle.octet_heap.specs.declared.pending_update.PendingUpdate.{PendingUpdate}
use Rattle.octet_heap.specs.Builders.{Accessing, Updating}
use Rattle.octet_heap.specs.Models.{standing_of, marker_model}
use Rattle.octet_heap.specs.Markers.{marker_seat}
use Rattle.octet_heap.specs.Workers.{pending_after}
use Rattle.octet_heap.proofs.Modelled.{accesses_by, goes_on, goes_by_update, idle_marker, after_access, after_update, marker_accesses, marker_updates, update_there}
use Rattle.octet_heap.proofs.marker.Marker.poll.Goals as goal

pub returns-in-Some-clause-stands : goal.returns-in-Some-clause-stands
returns-in-Some-clause-stands c = let e = c.poll_access.ensures in marker_accesses c.poll_access.result c.poll_access.new.self c.in-Some.access e.idle e.pending

pub returns-in-Some-clause-thread : goal.returns-in-Some-clause-thread
returns-in-Some-clause-thread c = let m = c.args.self.now in let n = c.poll_access.new.self in let v = marker_seat m in let w = marker_seat n in
    let access = c.in-Some.access in let e = c.poll_access.ensures in let answer = c.poll_access.result in
    goes_on (marker_model m).standing (Accessing access) answer (marker_model m) (marker_model n)
    (ap (λ (p : Option PendingAccess). standing_of p m.changing v.thread.phase) c.in-Some.is)
    (accesses_by access answer v w (marker_model m).standing (marker_model n).standing e.number e.polls.journal (after_access answer n.pending n.changing w.thread.phase access (idle_marker answer n e.idle) e.pending))

pub returns-in-None-clause-stands : goal.returns-in-None-clause-stands
returns-in-None-clause-stands c = let m = c.args.self.now in let e = c.poll_update.ensures in let answer = c.poll_update.result in
    let update = update_there m.pending m.changing c.in-None.is c.requires.begun in
    marker_updates answer c.poll_update.new.self update.0 e.idle (e.changing ∙ ap (λ (o : Option PendingUpdate). pending_after answer o) update.1)

pub returns-in-None-clause-thread : goal.returns-in-None-clause-thread
returns-in-None-clause-thread c = let m = c.args.self.now in let n = c.poll_update.new.self in let v = marker_seat m in let w = marker_seat n in
    let e = c.poll_update.ensures in let answer = c.poll_update.result in
    let update = update_there m.pending m.changing c.in-None.is c.requires.begun in
    let polls = e.polls update.0 update.1 in
    let is = e.changing ∙ ap (λ (o : Option PendingUpdate). pending_after answer o) update.1 in
    goes_on (marker_model m).standing (Updating update.0) answer (marker_model m) (marker_model n)
    (λ i. standing_of (c.in-None.is i) (update.1 i) v.thread.phase)
    (goes_by_update update.0 answer v w (marker_model m).standing (marker_model n).standing e.number polls (after_update answer n.pending n.changing w.thread.phase update.0 (idle_marker answer n e.idle) e.pending is))
