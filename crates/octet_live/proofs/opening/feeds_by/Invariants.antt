use Rattle.std.proofs.Common.{◌≡◌, map}
use Rattle.octet_live.specs.Feeds.{feed_by}
use Rattle.octet_live.proofs.opening.feeds_by.Given as goal

abbrev pub invariant-loop-sender : goal.invariant-loop-sender
invariant-loop-sender l = l.feeds ≡ map feed_by l.yielded
