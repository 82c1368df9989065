-- What a feed has sent of its thread's marks.
use Rattle.std.specs.Prelude.{◌≡◌, ℕ, ◌≤◌, List, [], length, take}
use Rattle.octet_model.specs.declared.log.Gapped.{Gapped}
use Rattle.octet_ring.specs.Views.{RingName, SenderView}
use Rattle.octet_live.specs.declared.feed.Feed.{Feed}

-- the sender has sent the first `sent` of these marks
abbrev pub AreSent : SenderView → ℕ → List Gapped → Type 0
AreSent sender sent marks = (sender.sent ≡ take sent marks) × (sent ≤ length marks)

-- what the feed has sent are the first of these marks, in order
abbrev pub HasSent : Feed → List Gapped → Type 0
HasSent feed marks = AreSent feed.sender feed.sent marks

-- the feed has sent nothing
abbrev pub HasSentNothing : Feed → Type 0
HasSentNothing feed = (feed.sender.sent ≡ []) × (feed.sent ≡ 0)

-- the thread of a feed, and the name of its ring
abbrev pub end_of : Feed → ℕ × RingName
end_of feed = (feed.sender.thread, feed.sender.ring)

-- a feed by this sender, which has sent nothing yet
abbrev pub feed_by : SenderView → Feed
feed_by sender = record { sender = sender; sent = 0 }
