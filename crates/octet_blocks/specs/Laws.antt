-- What is recorded is what is written, and what is read again.
use Rattle.std.specs.Prelude.{◌≡◌, ◌≢◌, ◌⊎◌, ℕ, ◌<◌, Bool, true, List, [], ◌∷◌, ◌++◌, length, sum_by, None, Ok}
use Rattle.std.specs.List.{AllByRecursion, flat_map}
use Rattle.rtrb.specs.Ring.{sent, received}
use Rattle.octet_model.specs.declared.event.Event.{Event}
use Rattle.octet_model.specs.Journals.{gap_after, gapped_marks}
use Rattle.octet_model.specs.Machine.{Journals, journal_of}
use Rattle.octet_follow.specs.Blocks.{IsTold}
use Rattle.octet_marks.specs.declared.piece.Head.{Head}
use Rattle.octet_marks.specs.declared.piece.Piece.{Piece}
use Rattle.octet_marks.specs.declared.piece.Piece.TheVariants as pieces
use Rattle.octet_marks.specs.Counts.{events_at}
use Rattle.octet_marks.specs.Files.{Unread, IsNext, HasRead}
use Rattle.octet_marks.specs.Reading.{piece_bytes, piece_at}
use Rattle.octet_stream.specs.declared.item.Item.{Item}
use Rattle.octet_stream.specs.declared.long_follower.LongFollower.{LongFollower}
use Rattle.octet_stream.specs.declared.long_rerun.LongRerun.{LongRerun}
use Rattle.octet_stream.specs.Followers.{IsLongFollowerOf}
use Rattle.octet_stream.specs.Items.{AreOf, marks_in, after_in}
use Rattle.octet_blocks.specs.declared.reader.BlockReader.{BlockReader}
use Rattle.octet_blocks.specs.declared.writer.BlockWriter.{BlockWriter}
use Rattle.octet_blocks.specs.Files.{pieces_of, IsOfOne, AreBehind, AreWrittenOf, file_bytes}
use Rattle.octet_blocks.specs.Items.{items_in}
use Rattle.octet_blocks.specs.Reading.{HasFed, waiting_items, break_items}
use Rattle.octet_blocks.specs.Writing.{HasWritten, Gathers}

-- what was written of a thread is what its journal hands on, up to as many events as the blocks have. More may have been
-- handed on
abbrev pub BlocksBeginJournal : Type 0
BlocksBeginJournal = (journal : List Event) (base : ℕ) (ended : Bool) (later : List Item) (writer : BlockWriter) (all : List Piece) (given : List ℕ)
    → AreOf journal base ended (received writer.receiver.end ++ later) → HasWritten writer all given
    → AreOf journal writer.events writer.has_ended (items_in writer.receiver.thread all)

-- where all items of a thread that has ended were gathered, the thread's end was written
abbrev pub EndIsWritten : Type 0
EndIsWritten = (journal : List Event) (base : ℕ) (writer : BlockWriter) (all : List Piece) (given : List ℕ)
    → AreOf journal base true (received writer.receiver.end) → HasWritten writer all given → writer.held ≡ None → writer.has_ended ≡ true

-- nothing waits for a block's end, and the last piece is the thread's end. The marks of the blocks are those of the journal, with
-- the accesses before each of them, and after the last
pub record IsWhole (journal : List Event) (writer : BlockWriter) (all : List Piece) : Type 0 where
  pub no_marks : writer.marks.items ≡ []
  pub none_held : writer.held ≡ None
  pub front : List Piece
  pub last : all ≡ front ++ pieces.End (record { thread = writer.receiver.thread; events = length journal }) ∷ []
  pub marks : marks_in 0 (items_in writer.receiver.thread all) ≡ gapped_marks 0 journal
  pub after : after_in 0 (items_in writer.receiver.thread all) ≡ gap_after 0 journal

-- the blocks of a thread that has ended are its journal's marks
abbrev pub BlocksAreOfJournal : Type 0
BlocksAreOfJournal = (journal : List Event) (base : ℕ) (ended : Bool) (later : List Item) (writer : BlockWriter) (all : List Piece) (given : List ℕ)
    → AreOf journal base ended (received writer.receiver.end ++ later) → HasWritten writer all given → writer.has_ended ≡ true → IsWhole journal writer all

-- the writer's bytes behind a file are these pieces behind the file's. They are pieces of the writer's thread, so each other
-- thread's pieces are as before
pub record IsAdded (head : Head) (all : List Piece) (writer : BlockWriter) (given : List ℕ) (next : List Piece) : Type 0 where
  pub bytes : file_bytes head all ++ writer.bytes.items ≡ file_bytes head (all ++ next)
  pub of_one : AllByRecursion (IsOfOne head.threads) (all ++ next)
  pub own : HasWritten writer (pieces_of writer.receiver.thread (all ++ next)) given
  pub others : (other : ℕ) → other ≢ writer.receiver.thread → pieces_of other (all ++ next) ≡ pieces_of other all

-- what a writer gathers, once all its bytes were passed on, may be put behind a file that has what it wrote before.
-- So the bytes of all writers may be put there in whatever order they come
abbrev pub WriterAddsToFile : Type 0
WriterAddsToFile = (head : Head) (all : List Piece) (before after : BlockWriter) (given : List ℕ) → AllByRecursion (IsOfOne head.threads) all → before.receiver.thread < head.threads
    → HasWritten before (pieces_of before.receiver.thread all) given → before.bytes.items ≡ [] → Gathers before after → (next : List Piece) × IsAdded head all after given next

-- what the writers of all threads have made of journals stands behind a head as a file has it
abbrev pub WrittenStandsBehind : Type 0
WrittenStandsBehind = (head : Head) (all : List Piece) (journals : Journals) → AreWrittenOf head all journals → AreBehind head all

-- the bytes of such a file are read as its pieces, and none is left
abbrev pub FileIsRead : Type 0
FileIsRead = (head : Head) (all : List Piece) → AreBehind head all → (unread : Unread) × (unread.bytes ≡ []) × HasRead (file_bytes head all) (pieces.Head head ∷ all) unread

-- what comes next of a file: the first of these pieces, or none where it is not whole yet. Nothing is refused
abbrev pub GoesOn : List Piece → Unread → Type 0
GoesOn [] unread = (unread.bytes ≡ []) × (piece_at unread.threads unread.bytes ≡ Ok None)
GoesOn (piece ∷ later) unread = ((after : Unread) × IsNext unread piece after) ⊎ ((length unread.bytes < length (piece_bytes piece)) × (piece_at unread.threads unread.bytes ≡ Ok None))

-- the pieces that were read are the first of these. What was not read yet, and what was not fed, are the bytes of the others
pub record IsReadOf (all read : List Piece) (unread : Unread) (rest : List ℕ) : Type 0 where
  pub later : List Piece
  pub parts : all ≡ read ++ later
  pub left : flat_map piece_bytes later ≡ unread.bytes ++ rest
  pub next : GoesOn later unread

-- however a reader is fed such a file, it reads its pieces, and refuses none of them
abbrev pub FileIsNeverRefused : Type 0
FileIsNeverRefused = (head : Head) (all : List Piece) (fed rest : List ℕ) (read : List Piece) (unread : Unread) → AreBehind head all
    → file_bytes head all ≡ fed ++ rest → HasRead fed read unread → IsReadOf (pieces.Head head ∷ all) read unread rest

-- these bytes are fewer than the first of the pieces has; where there is none, they are none
abbrev pub IsCutIn : List Piece → List ℕ → Type 0
IsCutIn [] left = left ≡ []
IsCutIn (piece ∷ later) left = length left < length (piece_bytes piece)

-- the front of a file is read as those of its pieces that are whole
pub record IsReadWhole (all : List Piece) (front : List ℕ) : Type 0 where
  pub read : List Piece
  pub later : List Piece
  pub unread : Unread
  pub parts : all ≡ read ++ later
  pub has : HasRead front read unread
  pub cut : IsCutIn later unread.bytes
  pub none : piece_at unread.threads unread.bytes ≡ Ok None

-- such a file that ends anywhere is read as its pieces that are whole
abbrev pub CutFileIsRead : Type 0
CutFileIsRead = (head : Head) (all : List Piece) (front rest : List ℕ) → AreBehind head all → file_bytes head all ≡ front ++ rest → IsReadWhole (pieces.Head head ∷ all) front

-- the thread of this journal was given what the journal hands on, up to as many events as these pieces have. Then it was told
-- its end, or that its recording breaks off
pub record IsGiven (journal : List Event) (reader : BlockReader) (read : List Piece) : Type 0 where
  pub items : AreOf journal (sum_by (events_at reader.feeder.thread) read) reader.has_ended (items_in reader.feeder.thread read)
  pub sent_all : sent reader.feeder.end ≡ items_in reader.feeder.thread read ++ break_items true reader.has_ended

-- a reader that was fed a file of these journals, or its front, and is done with it, has given its thread the journal as far as
-- the pieces go that it has read. Of a whole file these are all
abbrev pub ReaderGivesJournal : Type 0
ReaderGivesJournal = (head : Head) (all : List Piece) (journals : Journals) (fed rest : List ℕ) (reader : BlockReader) (read : List Piece) → AreWrittenOf head all journals
    → file_bytes head all ≡ fed ++ rest → HasFed head reader fed read → reader.feeder.thread < head.threads → reader.is_over ≡ true → waiting_items reader.waiting ≡ []
    → IsGiven (journal_of journals reader.feeder.thread) reader read × (rest ≡ [] → read ≡ pieces.Head head ∷ all)

-- a follower was told this journal, or its first events where its recording breaks off
pub record IsToldOf (journal : List Event) (events : ℕ) (ended : Bool) (thread : LongFollower) : Type 0 where
  pub told : List Event
  pub left : List Event
  pub parts : journal ≡ told ++ left
  pub count : events ≡ length told
  pub whole : ended ≡ true → told ≡ journal
  pub is_told : IsTold told thread.follower

-- a follower that has received what such a reader gave it was told the recorded journal, as far as the pieces go
abbrev pub FollowerIsToldRecording : Type 0
FollowerIsToldRecording = (journal : List Event) (reader : BlockReader) (read : List Piece) (rerun : LongRerun) (thread : LongFollower) → IsGiven journal reader read
    → IsLongFollowerOf rerun thread → received thread.feed ≡ sent reader.feeder.end → thread.marks.items ≡ [] → IsToldOf journal (sum_by (events_at reader.feeder.thread) read) reader.has_ended thread

-- so a thread that was recorded to its end, and follows a reader of the whole file, was told the journal that it had
abbrev pub RecordingIsFollowed : Type 0
RecordingIsFollowed = (head : Head) (all : List Piece) (journals : Journals) (are : AreWrittenOf head all journals) (reader : BlockReader) (read : List Piece) (rerun : LongRerun) (thread : LongFollower)
    (within : reader.feeder.thread < head.threads) → (are.written reader.feeder.thread within).writer.has_ended ≡ true
    → HasFed head reader (file_bytes head all) read → reader.is_over ≡ true → waiting_items reader.waiting ≡ []
    → IsLongFollowerOf rerun thread → received thread.feed ≡ sent reader.feeder.end → thread.marks.items ≡ [] → IsTold (journal_of journals reader.feeder.thread) thread.follower
