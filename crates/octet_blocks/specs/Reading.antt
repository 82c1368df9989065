-- What a thread is given of a file.
use Rattle.std.specs.Prelude.{◌≡◌, ◌≢◌, ◌⊎◌, ◌||◌, ℕ, Bool, true, false, List, [], ◌∷◌, ◌++◌, length, min, take, drop, Result, Ok, Err, None}
use Rattle.std.specs.List.{AllByRecursion, list_any}
use Rattle.rtrb.specs.Ring.{sent, known_free, SameProducer}
use Rattle.octet_log.specs.Inputs.{AreBytes}
use Rattle.octet_marks.specs.declared.cause.MarksCause.{MarksCause}
use Rattle.octet_marks.specs.declared.cause.MarksFault.{MarksFault}
use Rattle.octet_marks.specs.declared.cause.MarksFault.TheVariants as marks
use Rattle.octet_marks.specs.declared.piece.Head.{Head}
use Rattle.octet_marks.specs.declared.piece.Piece.{Piece}
use Rattle.octet_marks.specs.declared.piece.Piece.TheVariants as pieces
use Rattle.octet_marks.specs.Counts.{is_end_of}
use Rattle.octet_marks.specs.Files.{Unread, unread_of, fed_with, HasRead}
use Rattle.octet_marks.specs.Reading.{piece_at}
use Rattle.octet_stream.specs.declared.feeder.Feeder.{Feeder}
use Rattle.octet_stream.specs.declared.item.Item.{Item}
use Rattle.octet_stream.specs.declared.item.Item.TheVariants as item
use Rattle.octet_blocks.specs.declared.fault.FeedFault.{FeedFault}
use Rattle.octet_blocks.specs.declared.fault.FeedFault.TheVariants.{OutOfMemory, Refused, OtherRun, Over}
use Rattle.octet_blocks.specs.declared.reader.BlockReader.{BlockReader}
use Rattle.octet_blocks.specs.declared.reader.TheConstants.{MAX_TAKEN}
use Rattle.octet_blocks.specs.declared.reader.Waiting.{Waiting}
use Rattle.octet_blocks.specs.declared.reader.Waiting.TheVariants as waiting
use Rattle.octet_blocks.specs.Items.{block_items, items_at, items_in}

-- the items that wait
abbrev pub waiting_items : Waiting → List Item
waiting_items waiting.Nothing = []
waiting_items (waiting.Items rest) = drop rest.given (block_items rest.block)
waiting_items waiting.ThreadEnd = item.ThreadEnd ∷ []
waiting_items waiting.BreaksOff = item.BreaksOff ∷ []

-- what a thread is told whose file has no more, unless it has its end
abbrev pub break_items : Bool → Bool → List Item
break_items true false = item.BreaksOff ∷ []
break_items true true = []
break_items false ended = []

-- a piece is no head but this one
abbrev pub IsOfRun : Head → Piece → Type 0
IsOfRun wanted (pieces.Head head) = head ≡ wanted
IsOfRun wanted (pieces.Block block) = Unit {0}
IsOfRun wanted (pieces.End end) = Unit {0}

-- the last of these pieces is another head
pub record HasOtherHead (wanted : Head) (all : List Piece) : Type 0 where
  pub front : List Piece
  pub head : Head
  pub last : all ≡ front ++ pieces.Head head ∷ []
  pub other : head ≢ wanted

-- no piece comes next: it is cut, or refused
abbrev pub HasNoNext : Unread → Type 0
HasNoNext unread = (piece_at unread.threads unread.bytes ≡ Ok None) ⊎ ((cause : MarksCause) × (piece_at unread.threads unread.bytes ≡ Err cause))

-- how far a file was read: up to another head; or each piece is of the run, and where the file has no more none comes next
abbrev pub ReadsTo : Head → Bool → Bool → List Piece → Unread → Type 0
ReadsTo wanted true over all unread = HasOtherHead wanted all
ReadsTo wanted false false all unread = AllByRecursion (IsOfRun wanted) all
ReadsTo wanted false true all unread = AllByRecursion (IsOfRun wanted) all × HasNoNext unread

-- of the bytes that were fed these pieces were read. What the thread was given, and what waits for room, are just what they are
-- to it. Where the file has no more, and no end of the thread, it is told so
pub record HasFed (wanted : Head) (reader : BlockReader) (fed : List ℕ) (all : List Piece) : Type 0 where
  pub are : AreBytes fed
  pub read : HasRead fed all (unread_of reader.reader)
  pub items : sent reader.feeder.end ++ waiting_items reader.waiting ≡ items_in reader.feeder.thread all ++ break_items reader.is_over reader.has_ended
  pub ended : reader.has_ended ≡ list_any (is_end_of reader.feeder.thread) all
  pub reads : ReadsTo wanted reader.is_other reader.is_over all (unread_of reader.reader)

-- it is the same thread's, by the same ring
pub record SameReader (before after : BlockReader) : Type 0 where
  pub thread : after.feeder.thread ≡ before.feeder.thread
  pub ring : SameProducer before.feeder.end after.feeder.end

-- what waits was given, as far as there was room
pub record Gives (before after : BlockReader) : Type 0 where
  pub same : SameReader before after
  pub rest : after ≡ record before { feeder = after.feeder; waiting = after.waiting }
  pub items : sent after.feeder.end ++ waiting_items after.waiting ≡ sent before.feeder.end ++ waiting_items before.waiting

-- whether a piece is another head
abbrev pub IsJudged : Head → Piece → Bool → Type 0
IsJudged wanted piece false = IsOfRun wanted piece
IsJudged wanted piece true = (head : Head) × (piece ≡ pieces.Head head) × (head ≢ wanted)

-- what a piece is to the thread waits for room
pub record TurnsTo (wanted : Head) (piece : Piece) (before after : BlockReader) : Type 0 where
  pub feeder : after.feeder ≡ before.feeder
  pub reader : after.reader ≡ before.reader
  pub over : after.is_over ≡ before.is_over
  pub items : waiting_items after.waiting ≡ items_at before.feeder.thread piece
  pub ended : after.has_ended ≡ (before.has_ended || is_end_of before.feeder.thread piece)
  pub judged : IsJudged wanted piece after.is_other

-- these bytes were fed, and more pieces may have been read
pub record Feeds (wanted : Head) (bytes : List ℕ) (before after : BlockReader) : Type 0 where
  pub same : SameReader before after
  pub more : (fed : List ℕ) (all : List Piece) → HasFed wanted before fed all → (next : List Piece) × HasFed wanted after (fed ++ bytes) (all ++ next)

-- something waits, since the ring was full as far as its feeder knew, when the same items had been sent
pub record LacksRoom (reader : BlockReader) : Type 0 where
  pub waits : waiting_items reader.waiting ≢ []
  pub feeder : Feeder
  pub ring : SameProducer feeder.end reader.feeder.end
  pub sent_all : sent reader.feeder.end ≡ sent feeder.end
  pub full : known_free feeder.end ≡ 0

-- all was read and given before these bytes were fed
pub record IsBehindAll (bytes : List ℕ) (reader : BlockReader) : Type 0 where
  pub nothing : waiting_items reader.waiting ≡ []
  pub unread : Unread
  pub cut : piece_at unread.threads unread.bytes ≡ Ok None
  pub behind : unread_of reader.reader ≡ fed_with bytes unread

-- the fault of a reader, as that of one that feeds
abbrev pub unread_fault : MarksFault → FeedFault
unread_fault (marks.Refused cause at) = Refused cause at
unread_fault marks.OutOfMemory = OutOfMemory

-- why bytes are not taken: what comes next is refused, or the file is another run's, or it has no more
abbrev pub HasFault : BlockReader → FeedFault → Type 0
HasFault reader OutOfMemory = Unit {0}
HasFault reader (Refused cause at) = (piece_at (unread_of reader.reader).threads (unread_of reader.reader).bytes ≡ Err cause) × (at ≡ (unread_of reader.reader).place) × (reader.is_other ≡ false)
HasFault reader OtherRun = reader.is_other ≡ true
HasFault reader Over = reader.is_over ≡ true

-- the bytes that a call took
abbrev pub taken : List ℕ → Result ℕ FeedFault → List ℕ
taken bytes (Ok count) = take count bytes
taken bytes (Err fault) = []

-- so many bytes were taken: all that may be at once, behind all that was given; or none, since the thread has no room
abbrev pub HasTaken : List ℕ → ℕ → BlockReader → Type 0
HasTaken bytes count after = ((count ≡ min (length bytes) MAX_TAKEN) × IsBehindAll (take count bytes) after) ⊎ ((count ≡ 0) × LacksRoom after)
