use Rattle.std.proofs.Common.{◌≡◌, ◌-◌, length, vec_capacity}
use Rattle.rtrb.specs.Ring.{received, SameConsumer}
use Rattle.octet_stream.specs.declared.gathering.Gathered.TheVariants.{Nothing}
use Rattle.octet_stream.specs.Fed.{Gathers}
use Rattle.octet_stream.proofs.gathering.gather.Given as goal

abbrev pub invariant-loop-feed : goal.invariant-loop-feed
invariant-loop-feed l = record {
  ring : SameConsumer l.initial.feed l.feed;
  room : vec_capacity l.marks ≡ vec_capacity l.initial.marks;
  gathers : Gathers Nothing (received l.initial.feed) l.initial.marks.items (received l.feed) l.marks.items;
}

abbrev pub decreases-loop-feed : goal.decreases-loop-feed
decreases-loop-feed l = vec_capacity l.initial.marks - length l.marks.items
