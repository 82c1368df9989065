-- Bytes of version 2 judged from the front, field by field: the log and the digest that they spell,
-- or the first cause to refuse them.
use Rattle.std.specs.Prelude.{ℕ, zero, suc, ◌+◌, ◌-◌, ◌==◌, ◌&&◌, List, [], ◌∷◌, ◌++◌, length, take, drop, replicate, Result, Ok, Err, nat_lt, nat_le, not, sum_by, if◌then◌else◌}
use Rattle.octet_model.specs.declared.event.Mark.{Mark}
use Rattle.octet_model.specs.declared.event.Mark.TheVariants.{Join, Draw, Fence}
use Rattle.octet_model.specs.declared.log.Gapped.{Gapped}
use Rattle.octet_model.specs.declared.log.ThreadLog.{ThreadLog}
use Rattle.octet_model.specs.declared.limits.TheConstants.{MAX_ACCESSES, MAX_THREADS}
use Rattle.octet_log.specs.declared.cause.LogCause.{LogCause}
use Rattle.octet_log.specs.declared.cause.LogCause.TheVariants.{BadThreads, CutShort, BadMark, TooManyAccesses, Trailing, BadPiece, GapsOver, TooManyMarks}
use Rattle.octet_log.specs.declared.limits.TheConstants.{MAX_MARKS}
use Rattle.octet_log.specs.Judging.{◌>>=◌, wanted, byte_at, each_at}
use Rattle.octet_log.specs.v2.Short.{short_at}

-- the Join that the bytes after its gap spell: another thread of the log, and a number
abbrev pub join_at : ℕ → ℕ → ℕ → ℕ → List ℕ → Result (Mark × List ℕ) LogCause
join_at total threads thread place bytes = do
  named ← byte_at total bytes
  other ← wanted (nat_lt named.0 threads && not (named.0 == thread)) (BadMark place)
  upto ← short_at total named.1
  Ok (Join named.0 upto.0, upto.1)

-- the Draw or Fence that the bytes after its gap spell: a number of at least 1
abbrev pub numbered_at : ℕ → ℕ → (ℕ → Mark) → List ℕ → Result (Mark × List ℕ) LogCause
numbered_at total place mark bytes = do
  number ← short_at total bytes
  some_number ← wanted (nat_le 1 number.0) (BadMark place)
  Ok (mark number.0, number.1)

-- the mark of this kind that the bytes after its gap spell
abbrev pub kind_at : ℕ → ℕ → ℕ → ℕ → ℕ → List ℕ → Result (Mark × List ℕ) LogCause
kind_at total threads thread place kind bytes =
    if kind == 1 then join_at total threads thread place bytes
    else if kind == 2 then numbered_at total place (λ number. Draw number) bytes
    else numbered_at total place (λ number. Fence number) bytes

-- a mark of a thread, and the bytes after it
unfoldable pub short_mark_at : ℕ → ℕ → ℕ → List ℕ → Result (Gapped × List ℕ) LogCause
short_mark_at total threads thread bytes = do
  kind ← byte_at total bytes
  known ← wanted (nat_le 1 kind.0 && nat_le kind.0 3) (BadMark (total - length bytes))
  gap ← short_at total kind.1
  small ← wanted (nat_le gap.0 MAX_ACCESSES) (BadMark (total - length bytes))
  mark ← kind_at total threads thread (total - length bytes) kind.0 gap.1
  Ok (record { gap = gap.0; mark = mark.0 }, mark.1)

-- the next `count` marks of a thread, and the bytes after them
abbrev pub short_marks_at : ℕ → ℕ → ℕ → ℕ → List ℕ → Result (List Gapped × List ℕ) LogCause
short_marks_at total threads thread count bytes = each_at {S = Unit {0}} count (λ _. short_mark_at total threads thread) (λ state _. state) tt bytes

-- the marks of the piece at a place, where the pieces before it have so many marks
unfoldable pub piece_at : ℕ → ℕ → ℕ → ℕ → ℕ → List ℕ → Result (List Gapped × List ℕ) LogCause
piece_at total threads place thread before bytes = do
  known ← wanted (nat_lt thread threads) (BadPiece place)
  count ← short_at total bytes
  some_mark ← wanted (nat_le 1 count.0) (BadPiece place)
  few ← wanted (nat_le (before + count.0) MAX_MARKS) TooManyMarks
  short_marks_at total threads thread count.0 count.1

-- the logs with more marks of one thread. The first of the logs is of the thread with the first number
unfoldable pub added : ℕ → ℕ → List Gapped → List ThreadLog → List ThreadLog
added first thread more [] = []
added first thread more (log ∷ logs) = record { accesses = log.accesses; marks = log.marks ++ (if first == thread then more else []) } ∷ added (suc first) thread more logs

-- the logs with the marks of all pieces up to the byte ff.
-- There are fewer pieces than `most`, and `before` marks stand before them
unfoldable pub pieces_at : ℕ → ℕ → ℕ → ℕ → List ThreadLog → List ℕ → Result (List ThreadLog × List ℕ) LogCause
pieces_at zero total threads before logs bytes = Err (CutShort total)
pieces_at (suc most) total threads before logs bytes = do
  thread ← byte_at total bytes
  if thread.0 == 255 then Ok (logs, thread.1) else do
    marks ← piece_at total threads (total - length bytes) thread.0 before thread.1
    pieces_at most total threads (before + length marks.0) (added 0 thread.0 marks.0 logs) marks.1

-- the log of a thread with its accesses, where the threads before it have so many
unfoldable pub accesses_at : ℕ → ℕ → ℕ → ThreadLog → List ℕ → Result (ThreadLog × List ℕ) LogCause
accesses_at total thread before log bytes = do
  accesses ← short_at total bytes
  allowed ← wanted (nat_le (before + accesses.0) MAX_ACCESSES) TooManyAccesses
  within ← wanted (nat_le (sum_by (λ m. m.gap) log.marks) accesses.0) (GapsOver thread)
  Ok (record { accesses = accesses.0; marks = log.marks }, accesses.1)

-- the logs of the threads from a number on, with their accesses
unfoldable pub tail_at : ℕ → ℕ → ℕ → List ThreadLog → List ℕ → Result (List ThreadLog × List ℕ) LogCause
tail_at total thread before [] bytes = Ok ([], bytes)
tail_at total thread before (log ∷ logs) bytes = do
  first ← accesses_at total thread before log bytes
  others ← tail_at total (suc thread) (before + first.0.accesses) logs first.1
  Ok (first.0 ∷ others.0, others.1)

-- a digest, and the bytes after it
abbrev pub digest_at : ℕ → List ℕ → Result (List ℕ × List ℕ) LogCause
digest_at total bytes = if nat_lt (length bytes) 32 then Err (CutShort total) else Ok (take 32 bytes, drop 32 bytes)

-- the logs of the threads before any piece is read
abbrev pub no_marks : ℕ → List ThreadLog
no_marks threads = replicate threads (record { accesses = 0; marks = [] })

-- the log and digest that the bytes after OCTL and the version 2 spell: threads, digest, pieces, tail, nothing more.
-- Each piece takes bytes of its own, which limits the number of pieces
unfoldable pub second_at : ℕ → List ℕ → Result (List ThreadLog × List ℕ) LogCause
second_at total bytes = do
  threads ← byte_at total bytes
  allowed ← wanted (nat_le 1 threads.0 && nat_le threads.0 MAX_THREADS) BadThreads
  digest ← digest_at total threads.1
  pieces ← pieces_at (length digest.1) total threads.0 0 (no_marks threads.0) digest.1
  logs ← tail_at total 0 0 pieces.0 pieces.1
  ended ← wanted (length logs.1 == 0) (Trailing (total - length logs.1))
  Ok (logs.0, digest.0)
