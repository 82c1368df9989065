use Rattle.std.proofs.Common.{◌≡◌, ◌-◌, length}
use Rattle.octet_live.specs.Feeds.{HasSent, end_of}
use Rattle.octet_live.proofs.feed.Feed.send.Given as goal

abbrev pub invariant-loop-self : goal.invariant-loop-self
invariant-loop-self l = record {
  sent : HasSent l.self l.marks;
  same : end_of l.self ≡ end_of l.fn.self;
}

abbrev pub decreases-loop-self : goal.decreases-loop-self
decreases-loop-self l = length l.marks - l.self.sent
