use Rattle.octet_host_long.specs.declared.outlet.Outlet.{Outlet}
use Rattle.octet_host_long.specs.Threads.{IsLongRecorded}
use Rattle.octet_c.specs.declared.held.Held.TheVariants as held
use Rattle.octet_c.proofs.Pairs.{all_held}
use Rattle.octet_c.proofs.long.opened.Goals as goal

pub returns-clause-opens : goal.returns-clause-opens
returns-clause-opens c = record {
  recorded = c.in_ok-recorded.recorded.items;
  outlets = c.in_ok-recorded.outlets.items;
  opens = c.in_ok-recorded.ensures.opens;
  sessions_are = c.in_ok-threads.ensures.each;
  streams_are = c.in_ok-ends.ensures.each;
}

pub returns-clause-good : goal.returns-clause-good
returns-clause-good c = (
  all_held (λ held. held.value) (λ it. held.LongRecorded it) IsLongRecorded (λ it good. good) c.in_ok-threads.threads.items c.in_ok-recorded.recorded.items c.in_ok-threads.ensures.each c.in_ok-recorded.ensures.good,
  all_held (λ held. held.value) (λ it. held.Outlet it) (λ (it : Outlet). Unit {0}) (λ it good. tt) c.in_ok-ends.ends.items c.in_ok-recorded.outlets.items c.in_ok-ends.ensures.each (λ k d lt. tt),
)
