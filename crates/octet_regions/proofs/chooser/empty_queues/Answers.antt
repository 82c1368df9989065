use Rattle.octet_regions.proofs.QueuesByAccess.{empty_more}
use Rattle.octet_regions.proofs.chooser.empty_queues.Goals as goal

pub loop-preserved : goal.loop-preserved
loop-preserved c = empty_more c.loop.counter c.loop.queues.items c.push.new.self.items c.new.result c.in_ok-push.ensures.items (record { regions = c.new.ensures.regions; waits = c.new.ensures.waits; known = c.new.ensures.known; taken = c.new.ensures.taken; over = c.new.ensures.over }) c.loop.invariant
