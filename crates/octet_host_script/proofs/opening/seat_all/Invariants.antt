use Rattle.std.proofs.Common.{◌≡◌, ℕ, ◌+◌, ◌<◌, All, length, slice_index_or}
use Rattle.octet_recorder.specs.declared.track.Track.{Track}
use Rattle.octet_recorder.specs.Tracks.{IsNew}
use Rattle.octet_host_script.specs.Opened.{EachFirst}
use Rattle.octet_host_script.specs.Threads.{IsRecorded}
use Rattle.octet_host_script.proofs.opening.seat_all.Given as goal

abbrev pub invariant-loop-track : goal.invariant-loop-track
invariant-loop-track l = record {
  rest : (k : ℕ) (none : Track) → k < length l.track-iterator.rest.items → IsNew l.heap.value.recorder (length l.threads.items + k) (slice_index_or l.track-iterator.rest.items k none);
  good : All IsRecorded l.threads.items;
  first : EachFirst l.heap.value.recorder l.threads.items;
  share : All (λ it. it.heap.value ≡ l.heap.value) l.threads.items;
  count : length l.threads.items + length l.track-iterator.rest.items ≡ length l.fn.tracks.items;
}
