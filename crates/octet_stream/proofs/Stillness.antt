-- Tracks that rest leave markers that rest.
use Rattle.std.proofs.Common.{◌≡◌, ℕ, zero, suc, ◌<◌, List, [], ◌∷◌, length, map, slice_index_or, refl, ap, arith}
use Rattle.octet_model.specs.Machine.{Journals}
use Rattle.octet_heap.specs.declared.marker.Marker.{Marker}
use Rattle.octet_heap.specs.Markers as marker_of
use Rattle.octet_heap.specs.Models.{marker_journals}
use Rattle.octet_stream.specs.declared.long_run.LongRun.{LongRun}
use Rattle.octet_stream.specs.declared.track.Track.{Track}
use Rattle.octet_stream.specs.Tracks.{journal_of}
use Rattle.octet_stream.specs.Runs.{journals_of, EachRests}

abbrev pub markers_in : List Track → List Marker
markers_in tracks = map (λ track. track.marker) tracks

pub each_mapped : {X Y : Type 0} (f : X → Y) (P : ℕ → Y → Type 0) (xs : List X) → ((place : ℕ) (none : X) → place < length xs → P place (f (slice_index_or xs place none)))
    → (place : ℕ) (none : Y) → place < length (map f xs) → P place (slice_index_or (map f xs) place none)
each_mapped f P [] each place none there = absurd (omega (arith, there))
each_mapped f P (x ∷ xs) each zero none there = each 0 x (omega arith)
each_mapped f P (x ∷ xs) each (suc place) none there = each_mapped f (λ n. P (suc n)) xs (λ n other lt. each (suc n) other (omega (arith, lt))) place none (omega (arith, there))

pub each_rests : (run : LongRun) (tracks : List Track) → EachRests run tracks → marker_of.EachRests run.heap (markers_in tracks)
each_rests run tracks still = each_mapped (λ (t : Track). t.marker) (λ n m. marker_of.RestsAs run.heap n m) tracks (λ place none there. let r = still place none there in (r.own.own, r.number, r.rests))

pub same_journals : (tracks : List Track) → marker_journals (markers_in tracks) ≡ journals_of tracks
same_journals [] = refl
same_journals (t ∷ tracks) = ap (λ (l : Journals). journal_of t ∷ l) (same_journals tracks)
