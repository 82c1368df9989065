-- What C is told of streams, with what is copied.
use Rattle.std.specs.Prelude.{◌≡◌, ◌≢◌, ◌⊎◌, ℕ, ℤ, Bool, List, [], length, Option, Some, Result, Ok, Err, true, false}
use Rattle.octet_blocks.specs.declared.fault.FeedFault.{FeedFault}
use Rattle.octet_blocks.specs.declared.fault.FeedFault.TheVariants as feed
use Rattle.octet_blocks.specs.declared.fault.GatherFault.{GatherFault}
use Rattle.octet_blocks.specs.declared.fault.GatherFault.TheVariants as gather
use Rattle.octet_blocks.specs.Reading.{waiting_items, taken, Feeds, HasFault, HasTaken, LacksRoom}
use Rattle.octet_tail.specs.declared.fault.SearchFault.{SearchFault}
use Rattle.octet_tail.specs.declared.fault.SearchFault.TheVariants as search
use Rattle.octet_tail.specs.declared.found.Found.{Found}
use Rattle.octet_tail.specs.declared.search.Search.{Search}
use Rattle.octet_tail.specs.Searches.{fed_by, HasSearched, SearchesOn, IsSameSearch, HasSearchFault, FindsIn, HasFindFault}
use Rattle.octet_marks.specs.declared.piece.Piece.{Piece}
use Rattle.octet_marks.specs.declared.piece.Piece.TheVariants as pieces
use Rattle.octet_marks.specs.Reading.{piece_bytes}
use Rattle.octet_host.specs.Copies.{copied}
use Rattle.octet_host_long.specs.declared.inlet.Inlet.{Inlet}
use Rattle.octet_host_long.specs.declared.outlet.Outlet.{Outlet}
use Rattle.octet_host_long.specs.declared.outlet.Taken.{Taken}
use Rattle.octet_host_long.specs.declared.outlet.Taken.TheVariants as took
use Rattle.octet_host_long.specs.Opened.{head_with}
use Rattle.octet_host_long.specs.Streams.{head_of, TakesFrom}
use Rattle.octet_c.specs.declared.held.Held.{Held}
use Rattle.octet_c.specs.declared.held.Held.TheVariants as held
use Rattle.octet_c.specs.declared.status.TheConstants as status
use Rattle.octet_c.specs.declared.window.Window.{Window}
use Rattle.octet_c.specs.declared.window.Window.TheVariants as window
use Rattle.octet_c.specs.Long.{IsSize}
use Rattle.octet_c.specs.Statuses.{said_of_lack}

-- as much of what a marks file begins with is copied as there is room for, and its length is told; or nothing is
abbrev pub HeadCopied : List ℕ → ℕ → List ℕ → ℤ → List ℕ → List ℕ → ℕ → ℕ → Type 0
HeadCopied starts threads declared said room out before size =
    (IsSize threads (length starts) × (said ≡ status.READY) × (out ≡ copied (piece_bytes (pieces.Head (head_with threads starts declared))) room)
    × (size ≡ length (piece_bytes (pieces.Head (head_with threads starts declared)))))
    ⊎ ((IsSize threads (length starts) → ⊥) × (said ≡ status.BAD_SIZE) × (out ≡ room) × (size ≡ before))
    ⊎ ((said ≡ status.NO_MEMORY) × (out ≡ room) × (size ≡ before))

-- what a stream comes to that gives, in the words of C
abbrev pub FitsTaken : Result Taken GatherFault → ℤ → ℕ → ℕ → Type 0
FitsTaken (Ok (took.Copied long)) said before size = (said ≡ status.READY) × (size ≡ long)
FitsTaken (Ok (took.NoRoom long)) said before size = (said ≡ status.NO_ROOM) × (size ≡ long)
FitsTaken (Ok took.Waits) said before size = (said ≡ status.PENDING) × (size ≡ before)
FitsTaken (Ok took.Ended) said before size = (said ≡ status.OVER) × (size ≡ before)
FitsTaken (Err gather.Broken) said before size = (said ≡ status.BAD_MARKS) × (size ≡ before)
FitsTaken (Err gather.OutOfMemory) said before size = (said ≡ status.NO_MEMORY) × (size ≡ before)

-- a stream is asked for what its thread has handed on
pub record Takes (it : Outlet) (said : ℤ) (room out : List ℕ) (before size : ℕ) (that : Outlet) : Type 0 where
  pub given : Result Taken GatherFault
  pub takes : TakesFrom it room given out that
  pub fits : FitsTaken given said before size

-- the stream behind a handle is asked so, if one is there that gives. Else nothing has changed
abbrev pub TakesHeld : Option Held → ℤ → List ℕ → List ℕ → ℕ → ℕ → Option Held → Type 0
TakesHeld (Some (held.Outlet it)) said room out before size (Some (held.Outlet that)) = Takes it said room out before size that
TakesHeld (Some (held.Outlet it)) said room out before size _ = ⊥
TakesHeld it said room out before size that = (said ≡ said_of_lack status.NO_STREAM it) × (that ≡ it) × (out ≡ room) × (size ≡ before)

-- why bytes are not taken, in the words of C. The place of the file that is refused is told
abbrev pub FitsFault : FeedFault → ℤ → ℕ → ℕ → Type 0
FitsFault feed.OutOfMemory said before place = (said ≡ status.NO_MEMORY) × (place ≡ before)
FitsFault (feed.Refused cause at) said before place = (said ≡ status.BAD_MARKS) × (place ≡ at)
FitsFault feed.OtherRun said before place = (said ≡ status.OTHER_RUN) × (place ≡ before)
FitsFault feed.Over said before place = (said ≡ status.OVER) × (place ≡ before)

-- what a stream comes to that is fed
abbrev pub FitsFed : List ℕ → Inlet → Result ℕ FeedFault → ℤ → ℕ → ℕ → Type 0
FitsFed bytes that (Ok count) said before now = (said ≡ status.READY) × (now ≡ count) × HasTaken bytes count that.reader
FitsFed bytes that (Err fault) said before now = FitsFault fault said before now × HasFault that.reader fault

-- a stream is fed these bytes, or some of them
pub record FeedsInlet (bytes : List ℕ) (it : Inlet) (said : ℤ) (before now : ℕ) (that : Inlet) : Type 0 where
  pub given : Result ℕ FeedFault
  pub head : that.head ≡ it.head
  pub feeds : Feeds (head_of it) (taken bytes given) it.reader that.reader
  pub fits : FitsFed bytes that given said before now

-- why a search goes on no more, in the words of C
abbrev pub FitsSearchFault : SearchFault → ℤ → ℕ → ℕ → Type 0
FitsSearchFault search.OutOfMemory said before place = (said ≡ status.NO_MEMORY) × (place ≡ before)
FitsSearchFault (search.Refused cause at) said before place = (said ≡ status.BAD_MARKS) × (place ≡ at)
FitsSearchFault search.ManyEvents said before place = (said ≡ status.BAD_MARKS) × (place ≡ before)
FitsSearchFault search.NotNoted said before place = (said ≡ status.NO_NOTES) × (place ≡ before)
FitsSearchFault search.Apart said before place = (said ≡ status.OTHER_RUN) × (place ≡ before)

-- what a search comes to that is fed
abbrev pub FitsSearched : List ℕ → Search → Result Unit SearchFault → ℤ → ℕ → ℕ → Type 0
FitsSearched bytes that (Ok done) said before now = (said ≡ status.READY) × (now ≡ length bytes)
FitsSearched bytes that (Err fault) said before now = FitsSearchFault fault said before now × HasSearchFault that fault

-- a search is fed these bytes, or none of them
pub record FeedsSearch (bytes : List ℕ) (it : Search) (said : ℤ) (before now : ℕ) (that : Search) : Type 0 where
  pub given : Result Unit SearchFault
  pub searches : SearchesOn (fed_by bytes given) it that
  pub fits : FitsSearched bytes that given said before now

-- what comes of the last accesses is fed so, if it is to be. Else nothing has changed
abbrev pub FeedsWindow : List ℕ → Window → ℤ → ℕ → ℕ → Window → Type 0
FeedsWindow bytes (window.Search it) said before now (window.Search that) = FeedsSearch bytes it said before now that
FeedsWindow bytes (window.Search it) said before now _ = ⊥
FeedsWindow bytes it said before now that = (said ≡ status.OTHER_KIND) × (that ≡ it) × (now ≡ before)

-- a search finds the last accesses, by all whole pieces that it was fed
pub record FindsAll (it : Search) (found : Found) : Type 0 where
  pub finds : (fed : List ℕ) (all : List Piece) → HasSearched fed all it → FindsIn fed it.made it.last found

-- a search comes to its end. Else nothing has changed
abbrev pub FindsWindow : Window → ℤ → ℕ → ℕ → Window → Type 0
FindsWindow (window.Search it) said before now (window.Found found) = (said ≡ status.READY) × (now ≡ before) × FindsAll it found
FindsWindow (window.Search it) said before now (window.Search that) = (fault : SearchFault) × FitsSearchFault fault said before now × HasFindFault it fault × IsSameSearch it that
FindsWindow (window.Search it) said before now _ = ⊥
FindsWindow it said before now that = (said ≡ status.OTHER_KIND) × (that ≡ it) × (now ≡ before)

-- the stream behind a handle is fed so, if one is there that feeds. Else nothing has changed
abbrev pub FeedsHeld : List ℕ → Option Held → ℤ → ℕ → ℕ → Option Held → Type 0
FeedsHeld bytes (Some (held.Inlet it)) said before now (Some (held.Inlet that)) = FeedsInlet bytes it said before now that
FeedsHeld bytes (Some (held.Inlet it)) said before now _ = ⊥
FeedsHeld bytes (Some (held.Window it)) said before now (Some (held.Window that)) = FeedsWindow bytes it said before now that
FeedsHeld bytes (Some (held.Window it)) said before now _ = ⊥
FeedsHeld bytes it said before now that = (said ≡ said_of_lack status.NO_STREAM it) × (that ≡ it) × (now ≡ before)

-- it was said that the file has no more
abbrev pub HasNoMore : Inlet → Type 0
HasNoMore that = that.reader.is_over ≡ true

-- what a stream comes to that is told so
abbrev pub FitsEnd : Inlet → Result Bool FeedFault → ℤ → ℕ → ℕ → Type 0
FitsEnd that (Ok true) said before now = (said ≡ status.READY) × (now ≡ before) × HasNoMore that × (waiting_items that.reader.waiting ≡ [])
FitsEnd that (Ok false) said before now = (said ≡ status.PENDING) × (now ≡ before) × LacksRoom that.reader
FitsEnd that (Err fault) said before now = FitsFault fault said before now × HasFault that.reader fault × (fault ≢ feed.OutOfMemory → HasNoMore that)

-- a stream is told that its file has no more
pub record EndsInlet (it : Inlet) (said : ℤ) (before now : ℕ) (that : Inlet) : Type 0 where
  pub given : Result Bool FeedFault
  pub head : that.head ≡ it.head
  pub feeds : Feeds (head_of it) [] it.reader that.reader
  pub fits : FitsEnd that given said before now

-- the stream behind a handle is told so, if one is there that feeds. Else nothing has changed
abbrev pub EndsHeld : Option Held → ℤ → ℕ → ℕ → Option Held → Type 0
EndsHeld (Some (held.Inlet it)) said before now (Some (held.Inlet that)) = EndsInlet it said before now that
EndsHeld (Some (held.Inlet it)) said before now _ = ⊥
EndsHeld (Some (held.Window it)) said before now (Some (held.Window that)) = FindsWindow it said before now that
EndsHeld (Some (held.Window it)) said before now _ = ⊥
EndsHeld it said before now that = (said ≡ said_of_lack status.NO_STREAM it) × (that ≡ it) × (now ≡ before)
