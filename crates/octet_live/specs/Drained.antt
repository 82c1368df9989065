-- What a drainer adds of the marks that feeds send, and of those that they never sent.
use Rattle.std.specs.Prelude.{◌≡◌, ◌≢◌, ℕ, ◌≤◌, ◌<◌, List, [], ◌∷◌, ◌++◌, length, slice_set, slice_index_or, Option, None, Some}
use Rattle.octet_base.specs.Desk.{DeskState}
use Rattle.octet_base.specs.declared.fault.DeskFault.{DeskFault}
use Rattle.octet_model.specs.declared.log.Gapped.{Gapped}
use Rattle.octet_log.specs.v2.Pieces.{Piece, ArePieces, marks_of}
use Rattle.octet_ring.specs.Views.{RingName, DrainView, IsOf, received_of}
use Rattle.octet_live.specs.declared.feed.Feed.{Feed}
use Rattle.octet_live.specs.declared.drainer.Drainer.{Drainer}
use Rattle.octet_live.specs.Feeds.{HasSentNothing}
use Rattle.octet_live.specs.Written.{AddsPieces, HasFront}

-- the number of threads whose marks the drainer takes
abbrev pub threads_of : Drainer → ℕ
threads_of drainer = length drainer.drain.received

-- the names of the threads' rings
abbrev pub rings_of : Drainer → List RingName
rings_of drainer = drainer.drain.rings

-- the marks that the drainer has taken of a thread
abbrev pub taken_of : Drainer → ℕ → List Gapped
taken_of drainer thread = received_of drainer.drain thread

-- the feed is that of this thread, and sends by a ring from which the drainer takes
abbrev pub IsFeedOf : Drainer → ℕ → Feed → Type 0
IsFeedOf drainer thread feed = (feed.sender.thread ≡ thread) × IsOf drainer.drain feed.sender

-- each thread's feed is one of this drainer, and has sent nothing
abbrev pub AreFeeds : Drainer → List Feed → Type 0
AreFeeds drainer feeds = (thread : ℕ) (none : Feed) → thread < length feeds →
    IsFeedOf drainer thread (slice_index_or feeds thread none) × HasSentNothing (slice_index_or feeds thread none)

-- the drainer is for so many threads. It has taken nothing, and nothing was refused
pub record IsFresh (threads : ℕ) (drainer : Drainer) : Type 0 where
  pub as_many : threads_of drainer ≡ threads
  pub none : (thread : ℕ) → taken_of drainer thread ≡ []
  pub kept : drainer.kept ≡ None

-- the pieces are of this thread, and each has a mark
abbrev pub AreOf : ℕ → List Piece → Type 0
AreOf thread [] = Unit {0}
AreOf thread (piece ∷ pieces) = ((piece.thread ≡ thread) × (1 ≤ length piece.marks)) × AreOf thread pieces

-- the pieces are added, if none was refused before
abbrev pub GoesOn : Option DeskFault → List Piece → DeskState → Option DeskFault → DeskState → Type 0
GoesOn None pieces before kept after = AddsPieces pieces before kept after
GoesOn (Some fault) pieces before kept after = (pieces ≡ []) × (kept ≡ Some fault) × (after ≡ before)

-- the marks that were received of a thread meanwhile are added in pieces
pub record DrainsOne (thread : ℕ) (kept : Option DeskFault) (drain : DrainView) (before : DeskState) (kept' : Option DeskFault) (drain' : DrainView) (after : DeskState) : Type 0 where
  pub pieces : List Piece
  pub own : AreOf thread pieces
  pub goes : GoesOn kept pieces before kept' after
  pub received : drain'.received ≡ slice_set drain.received thread (received_of drain thread ++ marks_of thread pieces)
  pub rings : drain'.rings ≡ drain.rings

-- the marks that were taken of each thread meanwhile are added in pieces
pub record Drains (threads : ℕ) (drainer : Drainer) (before : DeskState) (drainer' : Drainer) (after : DeskState) : Type 0 where
  pub pieces : List Piece
  pub are : ArePieces threads pieces
  pub goes : GoesOn drainer.kept pieces before drainer'.kept after
  pub taken : (thread : ℕ) → thread < threads → taken_of drainer' thread ≡ taken_of drainer thread ++ marks_of thread pieces
  pub as_many : threads_of drainer' ≡ threads_of drainer
  pub rings : rings_of drainer' ≡ rings_of drainer

-- some first of these marks of a thread are added in pieces, and all of them if no piece was refused
pub record AddsFront (thread : ℕ) (marks : List Gapped) (kept : Option DeskFault) (before : DeskState) (kept' : Option DeskFault) (after : DeskState) : Type 0 where
  pub pieces : List Piece
  pub own : AreOf thread pieces
  pub goes : GoesOn kept pieces before kept' after
  pub rest : List Gapped
  pub front : marks ≡ marks_of thread pieces ++ rest
  pub whole : kept' ≡ None → rest ≡ []

-- more of a thread's own marks are added after those taken. If no piece was refused, all are
pub record AddsLeft (thread : ℕ) (own : List Gapped) (drainer : Drainer) (before : DeskState) (drainer' : Drainer) (after : DeskState) : Type 0 where
  pub pieces : List Piece
  pub are : AreOf thread pieces
  pub goes : GoesOn drainer.kept pieces before drainer'.kept after
  pub front : HasFront own (taken_of drainer thread ++ marks_of thread pieces) drainer'.kept
  pub others : (other : ℕ) → other ≢ thread → taken_of drainer' other ≡ taken_of drainer other
  pub as_many : threads_of drainer' ≡ threads_of drainer
  pub rings : rings_of drainer' ≡ rings_of drainer

-- more of each thread's own marks are added after those taken. If no piece was refused, all are
pub record AddsAllLeft (threads : ℕ) (own : ℕ → List Gapped) (drainer : Drainer) (before : DeskState) (drainer' : Drainer) (after : DeskState) : Type 0 where
  pub pieces : List Piece
  pub are : ArePieces threads pieces
  pub goes : GoesOn drainer.kept pieces before drainer'.kept after
  pub each : (thread : ℕ) → thread < threads → HasFront (own thread) (taken_of drainer thread ++ marks_of thread pieces) drainer'.kept
