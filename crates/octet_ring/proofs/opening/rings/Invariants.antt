use Rattle.octet_ring.proofs.Opened.{Opened}
use Rattle.octet_ring.proofs.opening.rings.Given as goal

abbrev pub invariant-loop-thread : goal.invariant-loop-thread
invariant-loop-thread l = Opened l.room l.thread l.senders.items l.ends.items
