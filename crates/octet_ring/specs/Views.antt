-- What contracts see of the ends of rings.
use Rattle.std.specs.Prelude.{◌≡◌, ◌≢◌, ℕ, ◌<◌, List, [], ◌++◌, length, Some, slice_get, slice_index_or}
use denote.RawPtr.{Ptr}
use Rattle.rtrb.specs.Shared.{Names}
use Rattle.octet_model.specs.declared.log.Gapped.{Gapped}

-- the ring that an end is of, by what its memory is told apart by
pub record RingName : Type 0 where
  pub words : Ptr
  pub slots : Ptr
  pub names : Names

-- the view of a sender: its thread, its ring with its room, the marks that it sent, oldest first,
-- and how many of these it knows as taken
pub record SenderView : Type 0 where
  pub ring : RingName
  pub thread : ℕ
  pub room : ℕ
  pub sent : List Gapped
  pub taken : ℕ

-- the view of a drain: for each thread its ring, the marks received, oldest first,
-- and the number of further marks known
pub record DrainView : Type 0 where
  pub rings : List RingName
  pub received : List (List Gapped)
  pub known : List ℕ

-- the marks received from a thread
abbrev pub received_of : DrainView → ℕ → List Gapped
received_of drain thread = slice_index_or drain.received thread []

-- the number of further marks known of a thread
abbrev pub known_of : DrainView → ℕ → ℕ
known_of drain thread = slice_index_or drain.known thread 0

-- the sender is of these rings: its ring is that of its thread
abbrev pub IsOf : DrainView → SenderView → Type 0
IsOf drain sender = (sender.thread < length drain.received) × (slice_get drain.rings sender.thread ≡ Some sender.ring)

-- the sender sent what was received of its thread, and `count` marks more
abbrev pub AreLeft : ℕ → DrainView → SenderView → Type 0
AreLeft count drain sender = (more : List Gapped) × (sender.sent ≡ received_of drain sender.thread ++ more) × (length more ≡ count)

-- the sender is that of the same thread, on the same ring, with the same room
abbrev pub SameSender : SenderView → SenderView → Type 0
SameSender old new = (new.ring ≡ old.ring) × (new.thread ≡ old.thread) × (new.room ≡ old.room)

-- the drain has the same rings
abbrev pub SameRings : DrainView → DrainView → Type 0
SameRings old new = (new.rings ≡ old.rings) × (length new.received ≡ length old.received)

-- the number of known marks changes at this thread alone
abbrev pub LearnsOf : DrainView → ℕ → DrainView → Type 0
LearnsOf old thread new = (length new.known ≡ length old.known) × ((other : ℕ) → other ≢ thread → known_of new other ≡ known_of old other)

-- the sender of this thread and this room has sent nothing
abbrev pub IsFresh : ℕ → ℕ → SenderView → Type 0
IsFresh room thread sender = (sender.thread ≡ thread) × (sender.room ≡ room) × (sender.sent ≡ []) × (sender.taken ≡ 0)

-- each sender is that of its thread, of these rings and this room, and has sent nothing
abbrev pub AreFresh : ℕ → DrainView → List SenderView → Type 0
AreFresh room drain senders = (thread : ℕ) (none : SenderView) → thread < length senders →
    IsFresh room thread (slice_index_or senders thread none) × IsOf drain (slice_index_or senders thread none)
