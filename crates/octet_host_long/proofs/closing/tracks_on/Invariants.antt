use Rattle.std.proofs.Common.{◌≡◌, ◌+◌, All, drop, length}
use Rattle.octet_stream.specs.Runs.{EachRests}
use Rattle.octet_host.specs.Sealed.{AreFound}
use Rattle.octet_host_long.proofs.closing.tracks_on.Given as goal

abbrev pub invariant-loop-place : goal.invariant-loop-place
invariant-loop-place l = record {
  rest : All (λ tag. tag ≡ l.sealed) l.place-iterator.rest.items;
  taken : EachRests l.sealed.run l.tracks;
  count : length l.tracks + length l.place-iterator.rest.items ≡ length l.fn.desk.items;
  noted : drop (length l.tracks) l.fn.notes.items ≡ l.noted.rest.items;
  found : AreFound (λ it. it) l.sealed.seals.items l.fn.notes.items l.tracks;
}
