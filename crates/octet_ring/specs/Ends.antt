-- The ends as contracts see them.
use Rattle.std.specs.Prelude.{◌+◌, ◌-◌, ◌≤◌, List, map, length}
use Rattle.rtrb.specs.declared.producer.Producer.{Producer}
use Rattle.rtrb.specs.declared.consumer.Consumer.{Consumer}
use Rattle.rtrb.specs.Ring.{sent, known_free, producer_capacity, received, known_items}
use Rattle.octet_ring.specs.declared.limits.TheConstants.{MAX_ROOM}
use Rattle.octet_ring.specs.declared.sender.Sender.TheInside.{Inside as InsideOfSender}
use Rattle.octet_ring.specs.declared.drain.Drain.TheInside.{Inside as InsideOfDrain}
use Rattle.octet_model.specs.declared.log.Gapped.{Gapped}
use Rattle.octet_ring.specs.Views.{RingName, SenderView, DrainView}

module _ {T A P : Type 0} where
  abbrev pub ring_of_producer : Producer T A P → RingName
  ring_of_producer p = record { words = p.end.words; slots = p.end.slots; names = p.end.names }

  abbrev pub ring_of_consumer : Consumer T A P → RingName
  ring_of_consumer c = record { words = c.end.words; slots = c.end.slots; names = c.end.names }

-- what contracts see of a sender
abbrev pub sender_view : InsideOfSender → SenderView
sender_view s = record {
  ring = ring_of_producer s.end;
  thread = s.thread;
  room = producer_capacity s.end;
  sent = sent s.end;
  taken = length (sent s.end) + known_free s.end - producer_capacity s.end;
}

-- the room of the sender's ring is within its limit
abbrev pub HasRoom : InsideOfSender → Type 0
HasRoom s = producer_capacity s.end ≤ MAX_ROOM

module _ {A P : Type 0} where
  abbrev pub ends_view : List (Consumer Gapped A P) → DrainView
  ends_view ends = record {
    rings = map ring_of_consumer ends;
    received = map received ends;
    known = map (λ end. length (known_items end)) ends;
  }

-- what contracts see of a drain
abbrev pub drain_view : InsideOfDrain → DrainView
drain_view d = ends_view d.ends.items
