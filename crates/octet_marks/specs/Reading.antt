-- The next piece of a marks file, by how far its threads are.
use Rattle.std.specs.Prelude.{ℕ, ◌+◌, ◌==◌, List, ◌∷◌, ◌++◌, length, codes, take, drop, replicate, Option, Some, None, false, Result, Ok, Err, nat_lt, slice_set, slice_index, if◌then◌else◌}
use Rattle.std.specs.Str.{bytes_eq}
use Rattle.octet_marks.specs.declared.cause.MarksCause.{MarksCause}
use Rattle.octet_marks.specs.declared.cause.MarksCause.TheVariants.{NoMagic, BadVersion, BadKind, BadBody}
use Rattle.octet_marks.specs.declared.piece.TheConstants.{VERSION, HEAD, BLOCK, END}
use Rattle.octet_marks.specs.declared.piece.Piece.{Piece}
use Rattle.octet_marks.specs.declared.piece.Piece.TheVariants as pieces
use Rattle.octet_marks.specs.declared.progress.Progress.{Progress}
use Rattle.octet_marks.specs.Judging.{◌>>=◌, wanted}
use Rattle.octet_marks.specs.Bodies.{head_body, block_body, end_body, head_of, block_of, end_of}
use Rattle.octet_marks.specs.Frames.{frame_bytes, frame_at}
use Rattle.octet_marks.specs.Standing.{block_after, end_after}

-- the bytes of a piece. The head stands behind the magic and the version
abbrev pub piece_bytes : Piece → List ℕ
piece_bytes (pieces.Head head) = codes "OCTM" ++ VERSION ∷ frame_bytes HEAD (head_body head)
piece_bytes (pieces.Block block) = frame_bytes BLOCK (block_body block)
piece_bytes (pieces.End end) = frame_bytes END (end_body end)

-- a piece that was read, how far each thread is after it, and how many bytes it has
pub record Read : Type 0 where
  pub piece : Piece
  pub threads : List Progress
  pub size : ℕ

-- a thread of which no block has come
abbrev pub fresh : Progress
fresh = record { events = 0; accesses = 0; ended = false }

-- what a body spells, or the refusal of the body
abbrev pub spelled : {A : Type 0} → Option A → Result A MarksCause
spelled None = Err BadBody
spelled (Some x) = Ok x

-- the head that a frame of this kind spells
unfoldable pub first_piece : ℕ → List ℕ → ℕ → Result Read MarksCause
first_piece kind body size = do
  known ← wanted (kind == HEAD) BadKind
  head ← spelled (head_of body)
  Ok (record { piece = pieces.Head head; threads = replicate head.threads fresh; size = 5 + size })

-- the block that a body spells, where the threads are so far
unfoldable pub block_piece : List Progress → List ℕ → ℕ → Result Read MarksCause
block_piece threads body size = do
  block ← spelled (block_of body)
  after ← block_after threads block
  Ok (record { piece = pieces.Block block; threads = slice_set threads block.thread after; size = size })

-- the end that a body spells, where the threads are so far
unfoldable pub end_piece : List Progress → List ℕ → ℕ → Result Read MarksCause
end_piece threads body size = do
  end ← spelled (end_of body)
  after ← end_after threads end
  Ok (record { piece = pieces.End end; threads = slice_set threads end.thread after; size = size })

-- the block or the end that a frame of this kind spells, where the threads are so far
unfoldable pub later_piece : List Progress → ℕ → List ℕ → ℕ → Result Read MarksCause
later_piece threads kind body size =
    if kind == BLOCK then block_piece threads body size
    else if kind == END then end_piece threads body size
    else Err BadKind

-- the piece in a frame, if the frame is whole
abbrev pub in_frame : (ℕ → List ℕ → ℕ → Result Read MarksCause) → Option (ℕ × List ℕ × ℕ) → Result (Option Read) MarksCause
in_frame read None = Ok None
in_frame read (Some frame) = read frame.0 frame.1 frame.2 >>= λ found. Ok (Some found)

-- the head at the front; nothing, if it is cut
unfoldable pub head_at : List ℕ → Result (Option Read) MarksCause
head_at bytes =
    if nat_lt (length bytes) 5 then Ok None else do
      magic ← wanted (bytes_eq (take 4 bytes) (codes "OCTM")) NoMagic
      version ← wanted (slice_index (drop 4 bytes) 0 == VERSION) BadVersion
      frame ← frame_at (drop 5 bytes)
      in_frame first_piece frame

-- the block or the end at the front; nothing, if it is cut
unfoldable pub later_at : List Progress → List ℕ → Result (Option Read) MarksCause
later_at threads bytes = do
  frame ← frame_at bytes
  in_frame (later_piece threads) frame

-- the next piece: the head, as long as no thread is known; then a block or an end. Nothing, if it is cut
abbrev pub piece_at : List Progress → List ℕ → Result (Option Read) MarksCause
piece_at threads bytes = if length threads == 0 then head_at bytes else later_at threads bytes
