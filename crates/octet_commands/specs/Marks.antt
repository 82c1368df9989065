-- What `marks` answers, and what it leaves: the text of a marks file, said piece by piece while the file is taken.
use Rattle.std.specs.Prelude.{ℕ, ◌≡◌, ◌⊎◌, ◌++◌, ◌-◌, ◌<◌, ◌≤◌, Bool, true, false, List, [], ◌∷◌, length, take, Option, None, Some, Result, Ok, Err, IfSome, IsSomeAnd}
use Rattle.std.specs.FinMap.{get}
use Rattle.std.specs.List.{flat_map}
use Rattle.octet_base.specs.Desk.{Contents, DeskState, Rose, Says}
use Rattle.octet_base.specs.declared.fault.DeskFault.{DeskFault}
use Rattle.octet_base.specs.declared.fault.DeskFault.TheVariants as fault
use Rattle.octet_model.specs.declared.list.OutOfMemory as memory
use Rattle.octet_marks.specs.declared.cause.MarksCause.{MarksCause}
use Rattle.octet_marks.specs.declared.cause.MarksFault.{MarksFault}
use Rattle.octet_marks.specs.declared.cause.MarksFault.TheVariants.{Refused, OutOfMemory}
use Rattle.octet_marks.specs.declared.piece.Piece.{Piece}
use Rattle.octet_marks.specs.Files.{Unread, unfed, fed_with, IsNext, ending_of}
use Rattle.octet_marks.specs.Reading.{piece_at}
use Rattle.octet_marks.specs.Texts.{piece_text, ending_text, refusal_line}
use Rattle.octet_commands.specs.declared.marks.TheConstants.{TOO_MANY_BYTES}
use Rattle.octet_commands.specs.declared.reply.Reply.{Reply}
use Rattle.octet_commands.specs.declared.reply.Status.TheVariants.{Done, Log, Read, Write, Memory, TooLong}
use Rattle.octet_commands.specs.Answer.{Answer, code_of, says, read_failed, too_long}
use Rattle.octet_commands.specs.Delivery.{code_given}
use Rattle.octet_commands.specs.Outputs.{IsWhole, IsCutShort}

-- the pieces are read one after the other
abbrev pub ReadsTo : Unread → List Piece → Unread → Type 0
ReadsTo before [] after = after ≡ before
ReadsTo before (piece ∷ pieces) after = (mid : Unread) × IsNext before piece mid × ReadsTo mid pieces after

-- a file of which these bytes were fed
abbrev pub fed : List ℕ → Unread
fed bytes = fed_with bytes unfed

-- the bytes of a file by which it is judged: all, if there are not too many
abbrev pub judged : List ℕ → List ℕ
judged bytes = take TOO_MANY_BYTES bytes

-- the lines of pieces
abbrev pub pieces_text : List Piece → List ℕ
pieces_text pieces = flat_map piece_text pieces

-- the answer where the next piece is not whole: the text of those before it, and how the file ends. Or the file is too long
abbrev pub SaysEnding : List ℕ → List ℕ → Unread → List ℕ → Answer → Type 0
SaysEnding name bytes stands text answer =
    ((length bytes < TOO_MANY_BYTES) × (answer ≡ says Done (text ++ ending_text (ending_of stands))))
    ⊎ ((TOO_MANY_BYTES ≤ length bytes) × (answer ≡ says TooLong (text ++ (too_long name (TOO_MANY_BYTES - 1)).text)))

-- the answer after the text of pieces, by what stands behind them: a piece that is not whole, or damage
abbrev pub SaysRest : List ℕ → List ℕ → Unread → List ℕ → Answer → Type 0
SaysRest name bytes stands text answer =
    ((piece_at stands.threads stands.bytes ≡ Ok None) × SaysEnding name bytes stands text answer)
    ⊎ ((cause : MarksCause) × (piece_at stands.threads stands.bytes ≡ Err cause) × (answer ≡ says Log (text ++ refusal_line cause stands.place)))

-- the answer to the bytes of a file: the text of its pieces, and then what stands behind them
abbrev pub MarksAnswers : List ℕ → List ℕ → Answer → Type 0
MarksAnswers name bytes answer =
    (pieces : List Piece) × (stands : Unread) × ReadsTo (fed (judged bytes)) pieces stands × SaysRest name bytes stands (pieces_text pieces) answer

-- the answer to a file: it is not there, or that to its bytes. Of a desk that tells nothing, the answer to some bytes
abbrev pub FileAnswers : List ℕ → Option Contents → Answer → Type 0
FileAnswers name contents answer =
    (IsSomeAnd contents (λ t. get t.files name ≡ None) × (answer ≡ read_failed))
    ⊎ ((bytes : List ℕ) × IfSome contents (λ t. get t.files name ≡ Some bytes) × MarksAnswers name bytes answer)

-- the file is there, its pieces are read up to its end, or to where it is cut, and it is not too long
pub record IsMarksRead (name : List ℕ) (contents : Contents) : Type 0 where
  pub bytes : List ℕ
  pub pieces : List Piece
  pub stands : Unread
  pub there : get contents.files name ≡ Some bytes
  pub short : length bytes < TOO_MANY_BYTES
  pub reads : ReadsTo (fed bytes) pieces stands
  pub ends : piece_at stands.threads stands.bytes ≡ Ok None

-- the answer where a take failed: the text of first pieces of the file, and that reading failed
abbrev pub FileFails : List ℕ → Option Contents → Answer → Type 0
FileFails name contents answer =
    (answer ≡ read_failed)
    ⊎ ((bytes : List ℕ) × (pieces : List Piece) × (stands : Unread) × IfSome contents (λ t. get t.files name ≡ Some bytes) × ReadsTo (fed (judged bytes)) pieces stands
    × (answer ≡ says Read (pieces_text pieces ++ read_failed.text)))

-- the answer is that to the file, and no take failed; or a take failed, which it says
abbrev pub IsFileFound : List ℕ → DeskState → DeskState → Answer → Type 0
IsFileFound name before after answer =
    (FileAnswers name before.contents answer × (after.take_faults ≡ before.take_faults))
    ⊎ (FileFails name before.contents answer × Rose before.take_faults after.take_faults)

-- what is told before and after is related so
abbrev pub WhereTold : DeskState → DeskState → (Contents → Contents → Type 0) → Type 0
WhereTold before after Left = (t t' : Contents) → before.contents ≡ Some t → after.contents ≡ Some t' → Left t t'

-- an answer was cut short
abbrev pub IsFileCut : List ℕ → DeskState → DeskState → Contents → Contents → Type 0
IsFileCut name before after t t' = (answer : Answer) × IsFileFound name before after answer × IsCutShort answer t t'

-- how it ends: the answer was said whole, and the status is its own; or a call that says failed; or memory was refused.
-- Then some first bytes of the answer were said. Nothing is written
pub data MarksEnding (name : List ℕ) (before after : DeskState) (code : ℕ) : Type 0 where
  SaidWhole : (answer : Answer) → IsFileFound name before after answer → code ≡ code_of answer.status → after.write_faults ≡ before.write_faults → WhereTold before after (IsWhole answer) → MarksEnding name before after code
  SayFailed : code ≡ code_of Write → Rose before.write_faults after.write_faults → WhereTold before after (IsFileCut name before after) → MarksEnding name before after code
  MemoryRefused : code ≡ code_of Memory → after.write_faults ≡ before.write_faults → WhereTold before after (IsFileCut name before after) → MarksEnding name before after code

-- the text of a marks file was said while the file was taken, as far as nothing failed
pub record IsMarksSaid (name : List ℕ) (before after : DeskState) (code : ℕ) : Type 0 where
  pub begun : after.begun ≡ before.begun
  pub ends : MarksEnding name before after code

-- the next piece is read, and its lines are added to a text; or it is not whole, or it is refused
abbrev pub AddsNext : Unread → Unread → List ℕ → List ℕ → Result Bool MarksFault → Type 0
AddsNext before after text text' (Ok true) = (piece : Piece) × IsNext before piece after × (text' ≡ text ++ piece_text piece)
AddsNext before after text text' (Ok false) = (piece_at before.threads before.bytes ≡ Ok None) × (after ≡ before) × (text' ≡ text)
AddsNext before after text text' (Err (Refused cause at)) = (piece_at before.threads before.bytes ≡ Err cause) × (at ≡ before.place) × (after ≡ before) × (text' ≡ text)
AddsNext before after text text' (Err OutOfMemory) = Unit {0}

-- pieces are read and their lines are added to a text, up to one that is not whole, or is refused
abbrev pub AddsAll : Unread → Unread → List ℕ → List ℕ → Result (Unit {0}) MarksFault → Type 0
AddsAll before after text text' (Ok done) = (pieces : List Piece) × ReadsTo before pieces after × (piece_at after.threads after.bytes ≡ Ok None) × (text' ≡ text ++ pieces_text pieces)
AddsAll before after text text' (Err (Refused cause at)) =
    (pieces : List Piece) × ReadsTo before pieces after × (piece_at after.threads after.bytes ≡ Err cause) × (at ≡ after.place) × (text' ≡ text ++ pieces_text pieces)
AddsAll before after text text' (Err OutOfMemory) = Unit {0}

-- the lines of the pieces that were read
abbrev pub AreLines : Unread → Unread → List ℕ → Bool → Type 0
AreLines before after text false = (pieces : List Piece) × ReadsTo before pieces after × (piece_at after.threads after.bytes ≡ Ok None) × (text ≡ pieces_text pieces)
AreLines before after text true =
    (pieces : List Piece) × ReadsTo before pieces after × ((cause : MarksCause) × (piece_at after.threads after.bytes ≡ Err cause) × (text ≡ pieces_text pieces ++ refusal_line cause after.place))

-- an answer's text is said, and the status is the answer's, or that of the call. Otherwise memory was refused before
abbrev pub IsLastSaid : Answer → DeskState → DeskState → ℕ → Type 0
IsLastSaid answer before after code =
    ((made : Result (Unit {0}) DeskFault) × Says answer.text before made after × (code ≡ code_given answer.status made))
    ⊎ ((after ≡ before) × (code ≡ code_of Memory))

-- the text of a reply is said, if there is a reply
abbrev pub IsReplySaid : Result Reply memory.OutOfMemory → DeskState → DeskState → ℕ → Type 0
IsReplySaid (Ok reply) before after code = (made : Result (Unit {0}) DeskFault) × Says reply.text before made after × (code ≡ code_given reply.status made)
IsReplySaid (Err lacking) before after code = (after ≡ before) × (code ≡ code_of Memory)

-- a take failed, or there was no such file, and it is said that reading failed; or memory was refused to the take
abbrev pub IsUnreadSaid : DeskFault → DeskState → DeskState → ℕ → Type 0
IsUnreadSaid fault.OutOfMemory before after code = (after ≡ before) × (code ≡ code_of Memory)
IsUnreadSaid fault.Failed before after code = IsLastSaid read_failed before after code
IsUnreadSaid fault.Absent before after code = IsLastSaid read_failed before after code
IsUnreadSaid fault.TooLong before after code = IsLastSaid read_failed before after code

-- reading ends at damage, after these pieces, and the answer's last part is said; or the lines of these pieces could not be said
abbrev pub EndsAfter : List Piece → Unread → DeskState → DeskState → ℕ → Type 0
EndsAfter pieces stands before after code =
    ((cause : MarksCause) × (piece_at stands.threads stands.bytes ≡ Err cause) × IsLastSaid (says Log (pieces_text pieces ++ refusal_line cause stands.place)) before after code)
    ⊎ ((fault : DeskFault) × Says (pieces_text pieces) before (Err fault) after × (code ≡ code_given Done (Err fault)))

-- the lines of all pieces that are whole, once these bytes are fed, are said, and there is no status yet.
-- Otherwise reading ends with a status, or memory was refused before anything was said
abbrev pub IsTold : List ℕ → Unread → Unread → DeskState → DeskState → Option ℕ → Type 0
IsTold bytes unread unread' before after None =
    (pieces : List Piece) × ReadsTo (fed_with bytes unread) pieces unread' × (piece_at unread'.threads unread'.bytes ≡ Ok None) × Says (pieces_text pieces) before (Ok tt) after
IsTold bytes unread unread' before after (Some code) =
    ((after ≡ before) × (code ≡ code_of Memory))
    ⊎ ((pieces : List Piece) × (stands : Unread) × ReadsTo (fed_with bytes unread) pieces stands × EndsAfter pieces stands before after code)
