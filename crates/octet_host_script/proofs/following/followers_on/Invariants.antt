use Rattle.std.proofs.Common.{◌≡◌, ◌+◌, All, length}
use Rattle.octet_rerun.specs.Reruns.{EachAtEnd}
use Rattle.octet_host_script.proofs.following.followers_on.Given as goal

abbrev pub invariant-loop-place : goal.invariant-loop-place
invariant-loop-place l = record {
  rest : All (λ tag. tag ≡ l.rerun) l.place-iterator.rest.items;
  taken : EachAtEnd l.rerun l.followers;
  count : length l.followers + length l.place-iterator.rest.items ≡ length l.fn.desk.items;
}
