use Rattle.std.proofs.Common.{rules, ◌≡◌, ◌+◌, ℕ, List, [], ◌∷◌, ◌++◌, length, length-append, slice_index_or, sym, ap, subst, arith}
use Rattle.octet_heap.specs.declared.marker.Marker.{Marker}
use Rattle.octet_heap.specs.Markers as marker_of
use Rattle.octet_stream.specs.declared.receiver.Receiver.{Receiver}
use Rattle.octet_stream.specs.declared.track.Track.{Track}
use Rattle.octet_stream.specs.Runs.{IsNew, EachNew}
use Rattle.octet_stream.proofs.Pairs.{AreFrom, from_each, each_pair_more}
use Rattle.octet_stream.proofs.long_run.LongRun.tracks.Goals as goal

pub loop-marker-init : goal.loop-marker-init
loop-marker-init c =
    let run = c.args.self.now in
    let new = λ (n : ℕ) (m : Marker). marker_of.IsNew run.heap c.args.room.marks n m in
    let no_tracks : c.new-tracks.result.items ≡ [] = search rules in
    let no_receivers : c.new-receivers.result.items ≡ [] = search rules in
    let all : c.into_iter-marker-iterator.result.rest.items ≡ c.args.markers.items = search rules in record {
      new = subst (AreFrom new 0) (sym all) (from_each new 0 c.args.markers.items (λ t other there. let same : t ≡ 0 + t = omega arith in
          subst (λ (n : ℕ). new n (slice_index_or c.args.markers.items t other)) same (c.requires.new t other there)));
      left = omega (arith, ap (λ (l : List Marker). length l) all);
      many = ap (λ (l : List Track). length l) no_tracks;
      as_many = ap (λ (l : List Receiver). length l) no_receivers;
      ends = subst (λ (l : List Track). EachNew run l c.new-receivers.result.items) (sym no_tracks) (λ t other nobody there. absurd (omega (arith, there)));
    }

pub track-requires-clause-new : goal.track-requires-clause-new
track-requires-clause-new c =
    let run = c.args.self.now in
    let new = λ (n : ℕ) (m : Marker). marker_of.IsNew run.heap c.args.room.marks n m in
    let next : c.loop-marker.marker-iterator.rest.items ≡ c.in-Some.marker ∷ c.next.new.self.rest.items = search rules in
    (subst (AreFrom new c.loop-marker.thread) next c.loop-marker.invariant.new).0

pub loop-marker-preserved : goal.loop-marker-preserved
loop-marker-preserved c =
    let run = c.args.self.now in let i = c.loop-marker.invariant in
    let new = λ (n : ℕ) (m : Marker). marker_of.IsNew run.heap c.args.room.marks n m in
    let next : c.loop-marker.marker-iterator.rest.items ≡ c.in-Some.marker ∷ c.next.new.self.rest.items = search rules in
    let tracks : c.push.new.self.items ≡ c.loop-marker.tracks.items ++ c.in_ok-track.track ∷ [] = search rules in
    let receivers : c.push-in-loop-marker.new.self.items ≡ c.loop-marker.receivers.items ++ c.in_ok-track.receiver ∷ [] = search rules in
    let many : length c.loop-marker.receivers.items ≡ length c.loop-marker.tracks.items = omega (arith, i.many, i.as_many) in
    let last = subst (λ (t : ℕ). IsNew run t c.in_ok-track.track c.in_ok-track.receiver) (sym i.many) c.in_ok-track.ensures in
    let more = each_pair_more (IsNew run) c.loop-marker.tracks.items c.loop-marker.receivers.items c.in_ok-track.track c.in_ok-track.receiver many i.ends last in record {
      new = (subst (AreFrom new c.loop-marker.thread) next i.new).1;
      left = omega (arith, i.left, ap (λ (l : List Marker). length l) next);
      many = omega (arith, i.many, ap (λ (l : List Track). length l) tracks, length-append c.loop-marker.tracks.items (c.in_ok-track.track ∷ []));
      as_many = omega (arith, i.as_many, ap (λ (l : List Receiver). length l) receivers, length-append c.loop-marker.receivers.items (c.in_ok-track.receiver ∷ []));
      ends = subst (λ (l : List Track). EachNew run l c.push-in-loop-marker.new.self.items) (sym tracks) (subst (λ (l : List Receiver). EachNew run (c.loop-marker.tracks.items ++ c.in_ok-track.track ∷ []) l) (sym receivers) more);
    }
