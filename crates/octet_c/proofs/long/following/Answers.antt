use Rattle.octet_host_long.specs.declared.inlet.Inlet.{Inlet}
use Rattle.octet_host_long.specs.Threads.{IsLongRepeated}
use Rattle.octet_c.specs.declared.held.Held.TheVariants as held
use Rattle.octet_c.proofs.Pairs.{all_held}
use Rattle.octet_c.proofs.long.following.Goals as goal

pub returns-clause-follows : goal.returns-clause-follows
returns-clause-follows c = record {
  repeated = c.in_ok-repeated.repeated.items;
  inlets = c.in_ok-repeated.inlets.items;
  follows = c.in_ok-repeated.ensures.follows;
  sessions_are = c.in_ok-threads.ensures.each;
  streams_are = c.in_ok-ends.ensures.each;
}

pub returns-clause-good : goal.returns-clause-good
returns-clause-good c = (
  all_held (λ held. held.value) (λ it. held.LongRepeated it) IsLongRepeated (λ it good. good) c.in_ok-threads.threads.items c.in_ok-repeated.repeated.items c.in_ok-threads.ensures.each c.in_ok-repeated.ensures.good,
  all_held (λ held. held.value) (λ it. held.Inlet it) (λ (it : Inlet). Unit {0}) (λ it good. tt) c.in_ok-ends.ends.items c.in_ok-repeated.inlets.items c.in_ok-ends.ensures.each (λ k d lt. tt),
)
