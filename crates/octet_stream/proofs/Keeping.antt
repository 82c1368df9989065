-- A track stays one of its run while it makes accesses, and what it answers is what a session says.
use Rattle.std.proofs.Common.{◌≡◌, ◌∙◌, ℕ, Bool, true, false, List, [], ◌∷◌, ◌++◌, map, Some, None, sym, ap, append-nil, arith}
use Rattle.octet_model.specs.declared.event.Event.{Event}
use Rattle.octet_model.specs.declared.event.Event.TheVariants as event
use Rattle.octet_model.specs.declared.event.Mark.{Mark}
use Rattle.octet_digest.specs.declared.digest.Digest.{Digest}
use Rattle.octet_digest.specs.Digests.{bits_of, digest_of, digest_with}
use Rattle.octet_heap.specs.declared.marker.Marker.{Marker}
use Rattle.octet_heap.specs.Markers.{marker_seat, base_of, IsMarkerOf, IsSameBuffer}
use Rattle.octet_recorder.specs.declared.access.Access.{Access}
use Rattle.octet_recorder.specs.Tracks.{pending_of, changing_of}
use Rattle.octet_stream.specs.declared.long_run.LongRun.{LongRun}
use Rattle.octet_stream.specs.declared.track.Stage.TheVariants.{Free, Begun}
use Rattle.octet_stream.specs.declared.track.Track.{Track}
use Rattle.octet_stream.specs.Tracks.{journal_of, IsTrackOf}
use Rattle.octet_stream.specs.Accesses.{MayGoOn}
use Rattle.octet_stream.proofs.Digests.{after_marks, after_access}
use Rattle.octet_stream.proofs.Sent.{grows}

-- a track that has made an access
abbrev pub made_by : Track → Marker → Digest → Track
made_by v marker digest = record v { marker = marker; digest = digest; stage = Free; region = false }

-- a track that waits for an access which its marker has begun, and lets so many polls pass
abbrev pub waiting_by : Track → Marker → Access → ℕ → Track
waiting_by v marker wanted polls = record v { marker = marker; stage = Begun wanted; backoff = polls }

module _ (run : LongRun) (v : Track) (marker : Marker) (own : IsTrackOf run v) (running : v.ended ≡ false) (still : IsMarkerOf run.heap marker) (same : IsSameBuffer v.marker marker) where
  pub keeps_made : (digest : Digest) (access : Event) (marks : List Mark) → marker.pending ≡ None → marker.changing ≡ None
      → (marker_seat marker).journal ≡ journal_of v ++ (map (λ mark. event.Marked mark) marks ++ access ∷ [])
      → bits_of digest ≡ digest_with access (bits_of v.digest) → IsTrackOf run (made_by v marker digest)
  keeps_made digest access marks no_access no_update grown with_it = record {
    own = still;
    stands = (no_access, no_update);
    digest = with_it ∙ (ap (λ (d : ℕ). digest_with access d) own.digest ∙ (sym (after_access (journal_of v) marks access) ∙ ap (λ (l : List Event). digest_of l) (sym grown)));
    items = grows (journal_of v) (map (λ mark. event.Marked mark) marks ++ access ∷ []) (marker_seat marker).journal (base_of v.marker) (base_of marker) v.ended _ running own.items grown same.0;
    buffer = omega (arith, own.buffer, same.1);
    ring = omega (arith, own.ring, same.1);
  }

  pub keeps_waiting : (wanted : Access) (polls : ℕ) (marks : List Mark) → marker.pending ≡ pending_of (Some wanted) → marker.changing ≡ changing_of (Some wanted)
      → (marker_seat marker).journal ≡ journal_of v ++ (map (λ mark. event.Marked mark) marks ++ []) → IsTrackOf run (waiting_by v marker wanted polls)
  keeps_waiting wanted polls marks access update grown =
      let marked : (marker_seat marker).journal ≡ journal_of v ++ map (λ mark. event.Marked mark) marks = grown ∙ ap (λ (l : List Event). journal_of v ++ l) (append-nil (map (λ mark. event.Marked mark) marks)) in record {
        own = still;
        stands = (access, update);
        digest = own.digest ∙ (sym (after_marks (journal_of v) marks) ∙ ap (λ (l : List Event). digest_of l) (sym marked));
        items = grows (journal_of v) (map (λ mark. event.Marked mark) marks) (marker_seat marker).journal (base_of v.marker) (base_of marker) v.ended _ running own.items marked same.0;
        buffer = omega (arith, own.buffer, same.1);
        ring = omega (arith, own.ring, same.1);
      }

-- a track that goes on has not ended
pub runs_on : (begun : Bool) (wanted : Access) (v : Track) → MayGoOn begun wanted v → v.ended ≡ false
runs_on true wanted v may = may.1
runs_on false wanted v may = may.2
