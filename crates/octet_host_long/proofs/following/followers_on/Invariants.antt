use Rattle.std.proofs.Common.{◌≡◌, ◌+◌, All, drop, length}
use Rattle.octet_stream.specs.Followers.{EachOf}
use Rattle.octet_host.specs.Sealed.{AreFound}
use Rattle.octet_host_long.specs.Closed.{HaveMade}
use Rattle.octet_host_long.proofs.following.followers_on.Given as goal

abbrev pub invariant-loop-place : goal.invariant-loop-place
invariant-loop-place l = record {
  rest : All (λ tag. tag ≡ l.sealed) l.place-iterator.rest.items;
  taken : EachOf l.sealed.rerun.session l.followers;
  made : HaveMade l.followers l.made;
  count : length l.followers + length l.place-iterator.rest.items ≡ length l.fn.desk.items;
  noted : drop (length l.followers) l.fn.notes.items ≡ l.noted.rest.items;
  found : AreFound (λ it. it.thread) l.sealed.seals.items l.fn.notes.items l.followers;
}
