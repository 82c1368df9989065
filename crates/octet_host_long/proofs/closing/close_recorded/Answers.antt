use Rattle.std.proofs.Common.{◌≡◌, ◌∙◌, List, sym, subst}
use Rattle.octet_heap.specs.Models.{heap_model}
use Rattle.octet_stream.specs.Recordings.{IsRecorded}
use Rattle.octet_stream.specs.declared.track.Track.{Track}
use Rattle.octet_stream.specs.Runs.{journals_of}
use Rattle.octet_host.proofs.lemmas.Sealing.{all_share}
use Rattle.octet_host.proofs.lemmas.Taking.{any_more}
use Rattle.octet_host_long.specs.declared.recorded.LongHeap.{LongHeap}
use Rattle.octet_host_long.specs.declared.recorded.LongRecorded.{LongRecorded}
use Rattle.octet_host_long.specs.Closed.{IsClosedRecording}
use Rattle.octet_host_long.proofs.Leaving.{tracks_are}
use Rattle.octet_host_long.specs.Threads.{run_of}
use Rattle.octet_host_long.proofs.closing.close_recorded.Goals as goal

pub returns-clause-closed : goal.returns-clause-closed
returns-clause-closed c =
    let heap = c.in_ok-heap.heap in let values = c.in_ok-close.field-0 in
    let closed : IsClosedRecording heap.run values = record {
      tracks = c.in_ok-tracks.tracks;
      all = c.in_ok-tracks.ensures.all ∙ heap.places;
      rest = c.in_ok-tracks.ensures.rest;
      recorded = c.in_ok-close.ensures;
    } in
    any_more (λ it. it.heap.value ≡ heap) (λ it. IsClosedRecording (run_of it) values) (λ it same. subst (λ (h : LongHeap). IsClosedRecording h.run values) (sym same) closed) c.args.threads.items c.in_ok-heap.ensures.shared

pub returns-clause-theirs : goal.returns-clause-theirs
returns-clause-theirs c = λ share.
    let heap = c.in_ok-heap.heap in let threads = c.args.threads.items in let values = c.in_ok-close.field-0 in
    let each = all_share (λ (it : LongRecorded). it.heap.value) threads heap c.in_ok-heap.ensures.shared share in
    let are = tracks_are threads heap c.in_ok-heap.ensures.shared c.in_ok-heap.ensures.as_one c.in_ok-heap.notes.items c.in_ok-heap.ensures.noted c.in_ok-tracks.tracks (c.in_ok-tracks.ensures.all ∙ heap.places) c.in_ok-tracks.ensures.found each in record {
      heap = heap;
      share = each;
      recorded = subst (λ (ts : List Track). IsRecorded (heap_model heap.run.heap).starts (journals_of ts) values) are c.in_ok-close.ensures;
    }
