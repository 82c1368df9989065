use Rattle.std.proofs.Common.{◌≡◌, ◌+◌, All, drop, length}
use Rattle.octet_recorder.specs.Tracks.{EachRests}
use Rattle.octet_host.specs.Sealed.{AreFound}
use Rattle.octet_host_script.proofs.closing.tracks_on.Given as goal

abbrev pub invariant-loop-place : goal.invariant-loop-place
invariant-loop-place l = record {
  rest : All (λ tag. tag ≡ l.run) l.place-iterator.rest.items;
  taken : EachRests l.run.recorder l.tracks;
  count : length l.tracks + length l.place-iterator.rest.items ≡ length l.fn.desk.items;
  noted : drop (length l.tracks) l.fn.notes.items ≡ l.noted.rest.items;
  found : AreFound (λ it. it) l.run.seals.items l.fn.notes.items l.tracks;
}
