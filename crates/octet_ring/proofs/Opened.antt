-- The ends of the first rings, while all are made.
use Rattle.std.proofs.Common.{◌≡◌, ℕ, ◌<◌, List, [], map, length, replicate, slice_index_or}
use Rattle.rtrb.specs.declared.consumer.Consumer.{Consumer}
use Rattle.rtrb.specs.Ring.{received}
use Rattle.octet_model.specs.declared.log.Gapped.{Gapped}
use Rattle.octet_ring.specs.Ends.{ring_of_consumer}
use Rattle.octet_ring.specs.Views.{SenderView, IsFresh}
use Rattle.octet_ring.proofs.Placed.{count_of}

module _ {A P : Type 0} where
  -- so many rings are made, of this room, each sender the next thread's
  pub record Opened (room count : ℕ) (senders : List SenderView) (ends : List (Consumer Gapped A P)) : Type 0 where
    pub many : length senders ≡ count
    pub rings : map (λ (sender : SenderView). sender.ring) senders ≡ map ring_of_consumer ends
    pub fresh : (thread : ℕ) (none : SenderView) → thread < length senders → IsFresh room thread (slice_index_or senders thread none)
    pub lists : map received ends ≡ replicate count []
    pub counts : map count_of ends ≡ replicate count 0
