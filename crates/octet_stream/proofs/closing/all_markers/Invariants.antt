use Rattle.std.proofs.Common.{◌≡◌, map}
use Rattle.octet_stream.proofs.closing.all_markers.Given as goal

abbrev pub invariant-loop-track : goal.invariant-loop-track
invariant-loop-track l = l.markers ≡ map (λ track. track.marker) l.yielded
