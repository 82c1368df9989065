-- Which pieces a marks file may have, and in which order.
use Rattle.std.specs.Prelude.{◌≡◌, ◌^◌, ◌<◌, ◌≤◌, ◌==◌, List, [], ◌∷◌, length, replicate, Result, Ok, Err, slice_set, if◌then◌else◌}
use Rattle.std.specs.List.{AllByRecursion}
use Rattle.octet_model.specs.declared.event.Mark.{Mark}
use Rattle.octet_model.specs.declared.event.Mark.TheVariants.{Join, Draw, Fence}
use Rattle.octet_model.specs.declared.log.Gapped.{Gapped}
use Rattle.octet_model.specs.declared.limits.TheConstants.{MAX_THREADS}
use Rattle.octet_marks.specs.declared.cause.MarksCause.{MarksCause}
use Rattle.octet_marks.specs.declared.cause.MarksCause.TheVariants.{BadKind}
use Rattle.octet_marks.specs.declared.limits.TheConstants.{MAX_BODY, MAX_OBJECTS_OF_FILE}
use Rattle.octet_marks.specs.declared.piece.Head.{Head}
use Rattle.octet_marks.specs.declared.piece.Block.{Block}
use Rattle.octet_marks.specs.declared.piece.Piece.{Piece}
use Rattle.octet_marks.specs.declared.piece.Piece.TheVariants as pieces
use Rattle.octet_marks.specs.declared.progress.Progress.{Progress}
use Rattle.octet_marks.specs.Judging.{◌>>=◌}
use Rattle.octet_marks.specs.Bodies.{block_body}
use Rattle.octet_marks.specs.Marks.{number_of}
use Rattle.octet_marks.specs.Reading.{fresh}
use Rattle.octet_marks.specs.Standing.{block_after, end_after}

-- a Join names one of at most sixteen threads
abbrev pub HasSource : Mark → Type 0
HasSource (Join from upto) = from < MAX_THREADS
HasSource (Draw number) = Unit {0}
HasSource (Fence number) = Unit {0}

-- a mark that has bytes of its own
pub record IsSpelled (gapped : Gapped) : Type 0 where
  pub source : HasSource gapped.mark
  pub gap : gapped.gap < 2 ^ 32
  pub number : number_of gapped.mark < 2 ^ 64

-- a head has 1 to 16 threads, a digest of 32 bytes, and at most 65,535 objects
pub record IsHead (head : Head) : Type 0 where
  pub some_thread : 1 ≤ head.threads
  pub few_threads : head.threads ≤ MAX_THREADS
  pub whole : length head.declared.bytes ≡ 32
  pub few_objects : length head.starts ≤ MAX_OBJECTS_OF_FILE
  pub fit : AllByRecursion (λ start. start < 2 ^ 64) head.starts

-- a block has numbers that fit into their fields, and a body within the limit
pub record IsBlock (block : Block) : Type 0 where
  pub first : block.first < 2 ^ 64
  pub gap : block.gap < 2 ^ 32
  pub digest : block.digest < 2 ^ 64
  pub marks : AllByRecursion IsSpelled block.marks
  pub short : length (block_body block) ≤ MAX_BODY

-- a piece that has bytes of its own
abbrev pub IsPiece : Piece → Type 0
IsPiece (pieces.Head head) = IsHead head
IsPiece (pieces.Block block) = IsBlock block
IsPiece (pieces.End end) = end.events < 2 ^ 64

-- how far the threads are after a piece, if it may stand next: the head, as long as no thread is known, then blocks and ends
abbrev pub threads_after : List Progress → Piece → Result (List Progress) MarksCause
threads_after threads (pieces.Head head) = if length threads == 0 then Ok (replicate head.threads fresh) else Err BadKind
threads_after threads (pieces.Block block) = if length threads == 0 then Err BadKind else do
  after ← block_after threads block
  Ok (slice_set threads block.thread after)
threads_after threads (pieces.End end) = if length threads == 0 then Err BadKind else do
  after ← end_after threads end
  Ok (slice_set threads end.thread after)

-- the pieces may stand in this order where the threads are so far, and the threads are so far after them
abbrev pub Leads : List Progress → List Piece → List Progress → Type 0
Leads threads [] after = threads ≡ after
Leads threads (piece ∷ pieces) after = (next : List Progress) × IsPiece piece × (threads_after threads piece ≡ Ok next) × Leads next pieces after
