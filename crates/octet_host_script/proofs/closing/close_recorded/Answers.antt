use Rattle.std.proofs.Common.{◌∙◌}
use Rattle.octet_host_script.specs.Records.{IsRecordedBy}
use Rattle.octet_host_script.proofs.Keeping.{keeps_one, keeps_theirs, refuses_to_keep}
use Rattle.octet_host_script.proofs.closing.close_recorded.Goals as goal

pub returns-clause-keeps : goal.returns-clause-keeps
returns-clause-keeps c =
    let heap = c.in_ok-heap.heap in let recording = c.in_ok-recording.recording in
    let recorded : IsRecordedBy heap.recorder recording = record {
      tracks = c.in_ok-tracks.tracks;
      all = c.in_ok-tracks.ensures.all ∙ heap.places;
      rest = c.in_ok-tracks.ensures.rest;
      of = c.in_ok-recording.ensures.of;
      faithful = c.in_ok-recording.ensures.faithful;
    } in
    keeps_one c.args.threads.items heap c.in_ok-heap.ensures.shared recording recorded c.kept_of.result c.kept_of.ensures.keeps

pub returns-clause-refused : goal.returns-clause-refused
returns-clause-refused c =
    let heap = c.in_ok-heap.heap in let recording = c.in_ok-recording.recording in
    let recorded : IsRecordedBy heap.recorder recording = record {
      tracks = c.in_ok-tracks.tracks;
      all = c.in_ok-tracks.ensures.all ∙ heap.places;
      rest = c.in_ok-tracks.ensures.rest;
      of = c.in_ok-recording.ensures.of;
      faithful = c.in_ok-recording.ensures.faithful;
    } in
    refuses_to_keep c.args.threads.items heap c.in_ok-heap.ensures.shared recording recorded c.kept_of.result c.kept_of.ensures.refused

pub returns-clause-theirs : goal.returns-clause-theirs
returns-clause-theirs c =
    let heap = c.in_ok-heap.heap in
    keeps_theirs c.args.threads.items heap c.in_ok-heap.ensures.shared c.in_ok-heap.ensures.as_one c.in_ok-heap.notes.items c.in_ok-heap.ensures.noted c.in_ok-tracks.tracks (c.in_ok-tracks.ensures.all ∙ heap.places) c.in_ok-tracks.ensures.found
    c.in_ok-recording.recording c.in_ok-recording.ensures.of c.in_ok-recording.ensures.faithful c.kept_of.result c.kept_of.ensures.keeps
