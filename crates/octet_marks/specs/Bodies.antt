-- The bodies of the three kinds of a marks file's pieces, as bytes.
use Rattle.std.specs.Prelude.{ℕ, zero, suc, ◌/◌, ◌%◌, ◌==◌, ◌&&◌, List, [], ◌∷◌, ◌++◌, length, take, drop, Option, Some, None, nat_le, if◌then◌else◌}
use Rattle.std.specs.List.{flat_map}
use Rattle.std.specs.Int.{to_be_bytes, from_be_bytes, w32, w64}
use Rattle.octet_model.specs.declared.limits.TheConstants.{MAX_THREADS}
use Rattle.octet_model.specs.declared.log.Gapped.{Gapped}
use Rattle.octet_marks.specs.declared.limits.TheConstants.{MAX_OBJECTS_OF_FILE}
use Rattle.octet_marks.specs.declared.piece.Head.{Head}
use Rattle.octet_marks.specs.declared.piece.Block.{Block}
use Rattle.octet_marks.specs.declared.piece.End.{End}
use Rattle.octet_marks.specs.Fields.{◌>>=◌, byte_at, bytes_at, number_at}
use Rattle.octet_marks.specs.Marks.{marks_bytes, marks_of}

-- the body of a head: how many threads, the digest of what the host declares, and the starting value of each object
abbrev pub head_body : Head → List ℕ
head_body head = head.threads ∷ head.declared.bytes ++ flat_map (to_be_bytes w64) head.starts

-- the body of a block: its thread, how many events of the thread come before it, the accesses after its last mark,
-- the digest, and its marks
abbrev pub block_body : Block → List ℕ
block_body block =
    block.thread ∷ to_be_bytes w64 block.first ++ to_be_bytes w32 block.gap ++ to_be_bytes w64 block.digest
    ++ marks_bytes [] block.marks

-- the body of an end: its thread, and how many events the thread has made
abbrev pub end_body : End → List ℕ
end_body end = end.thread ∷ to_be_bytes w64 end.events

-- `count` numbers of eight bytes each
unfoldable pub numbers_at : ℕ → List ℕ → List ℕ
numbers_at zero bytes = []
numbers_at (suc count) bytes = from_be_bytes w64 (take 8 bytes) ∷ numbers_at count (drop 8 bytes)

-- the head with these threads and this digest, whose starting values the bytes spell.
-- It has 1 to 16 threads and at most 65,535 objects
unfoldable pub head_with : ℕ → List ℕ → List ℕ → Option Head
head_with threads declared bytes =
    if nat_le 1 threads && nat_le threads MAX_THREADS && (length bytes % 8 == 0) && nat_le (length bytes / 8) MAX_OBJECTS_OF_FILE
    then Some (record { threads = threads; starts = numbers_at (length bytes / 8) bytes; declared = record { bytes = declared } })
    else None

-- the head that a body spells, if it spells one
unfoldable pub head_of : List ℕ → Option Head
head_of body = do
  threads ← byte_at body
  declared ← bytes_at 32 threads.1
  head_with threads.0 declared.0 declared.1

-- the block without its marks, and the bytes of the marks
unfoldable pub block_start : List ℕ → Option (Block × List ℕ)
block_start body = do
  thread ← byte_at body
  first ← number_at w64 thread.1
  gap ← number_at w32 first.1
  digest ← number_at w64 gap.1
  Some (record { thread = thread.0; first = first.0; marks = []; gap = gap.0; digest = digest.0 }, digest.1)

-- the block with these marks
abbrev pub with_marks : Block → List Gapped → Block
with_marks block marks = record { thread = block.thread; first = block.first; marks = marks; gap = block.gap; digest = block.digest }

-- the block that a body spells, if it spells one
unfoldable pub block_of : List ℕ → Option Block
block_of body = do
  start ← block_start body
  marks ← marks_of start.1
  Some (with_marks start.0 marks)

-- the end that a body spells, if it spells one
unfoldable pub end_of : List ℕ → Option End
end_of body = do
  thread ← byte_at body
  events ← number_at w64 thread.1
  if length events.1 == 0 then Some (record { thread = thread.0; events = events.0 }) else None
