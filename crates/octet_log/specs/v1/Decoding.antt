-- Bytes of version 1 judged from the front, field by field: the log that they spell, or the first cause to refuse them.
use Rattle.std.specs.Prelude.{ℕ, suc, ◌+◌, ◌-◌, ◌==◌, ◌&&◌, List, length, take, drop, codes, Option, Some, None, Result, Ok, Err, nat_lt, nat_le, if◌then◌else◌}
use Rattle.std.specs.Str.{bytes_eq}
use Rattle.std.specs.Int.{Width, w32, w64, byte_len, from_be_bytes}
use Rattle.octet_model.specs.declared.event.Mark.{Mark}
use Rattle.octet_model.specs.declared.event.Mark.TheVariants.{Join, Draw, Fence}
use Rattle.octet_model.specs.declared.log.Gapped.{Gapped}
use Rattle.octet_model.specs.declared.log.ThreadLog.{ThreadLog}
use Rattle.octet_model.specs.declared.limits.TheConstants.{MAX_ACCESSES, MAX_THREADS}
use Rattle.octet_model.specs.Log.{is_mark}
use Rattle.octet_log.specs.declared.cause.LogCause.{LogCause}
use Rattle.octet_log.specs.declared.cause.LogCause.TheVariants.{NoMagic, BadVersion, BadThreads, CutShort, BadMark, TooManyAccesses, Trailing}
use Rattle.octet_log.specs.Judging.{◌>>=◌, wanted, byte_at, each_at}

-- a field that is a number, the highest byte first, and the bytes after it
abbrev pub number_at : Width → ℕ → List ℕ → Result (ℕ × List ℕ) LogCause
number_at w total bytes = if nat_lt (length bytes) (byte_len w) then Err (CutShort total) else Ok (from_be_bytes w (take (byte_len w) bytes), drop (byte_len w) bytes)

-- the mark that a kind, a thread and a number spell. A Draw or a Fence has the thread 0
abbrev pub spelled_mark : ℕ → ℕ → ℕ → Option Mark
spelled_mark kind thread number =
    if kind == 1 then Some (Join thread number)
    else if (kind == 2) && (thread == 0) then Some (Draw number)
    else if (kind == 3) && (thread == 0) then Some (Fence number)
    else None

-- the mark with its gap, or its refusal. It is refused where it is no valid mark of the thread,
-- or where its gap passes the accesses that are left
abbrev pub judged_mark : ℕ → ℕ → ℕ → ℕ → ℕ → Option Mark → Result Gapped LogCause
judged_mark place threads thread left gap None = Err (BadMark place)
judged_mark place threads thread left gap (Some mark) =
    if nat_le gap left && is_mark threads thread mark then Ok (record { gap = gap; mark = mark }) else Err (BadMark place)

-- a whole mark of 14 bytes, and the bytes after it
unfoldable pub mark_at : ℕ → ℕ → ℕ → ℕ → List ℕ → Result (Gapped × List ℕ) LogCause
mark_at total threads thread left bytes = do
  whole ← wanted (nat_le 14 (length bytes)) (CutShort total)
  kind ← byte_at total bytes
  gap ← number_at w32 total kind.1
  named ← byte_at total gap.1
  number ← number_at w64 total named.1
  mark ← judged_mark (total - length bytes) threads thread left gap.0 (spelled_mark kind.0 named.0 number.0)
  Ok (mark, number.1)

-- the next `count` marks of a thread, whose gaps use up the thread's accesses
abbrev pub marks_at : ℕ → ℕ → ℕ → ℕ → ℕ → List ℕ → Result (List Gapped × List ℕ) LogCause
marks_at total threads thread accesses count bytes = each_at count (mark_at total threads thread) (λ left mark. left - mark.gap) accesses bytes

-- the log of a thread, where the threads before it have so many accesses
unfoldable pub thread_at : ℕ → ℕ → ℕ → ℕ → List ℕ → Result (ThreadLog × List ℕ) LogCause
thread_at total threads thread before bytes = do
  accesses ← number_at w32 total bytes
  allowed ← wanted (nat_le (before + accesses.0) MAX_ACCESSES) TooManyAccesses
  count ← number_at w32 total accesses.1
  marks ← marks_at total threads thread accesses.0 count.0 count.1
  Ok (record { accesses = accesses.0; marks = marks.0 }, marks.1)

-- the logs of all threads, each read with its number and the accesses of the threads before it
abbrev pub threads_at : ℕ → ℕ → List ℕ → Result (List ThreadLog × List ℕ) LogCause
threads_at total threads bytes = each_at threads (λ (thread, before). thread_at total threads thread before) (λ (thread, before) log. (suc thread, before + log.accesses)) (0, 0) bytes

-- the logs that the bytes after the word OCTL spell: the version, the number of threads, their logs, nothing more
unfoldable pub body_at : ℕ → List ℕ → Result (List ThreadLog) LogCause
body_at total bytes = do
  version ← byte_at total bytes
  known ← wanted (version.0 == 1) BadVersion
  threads ← byte_at total version.1
  allowed ← wanted (nat_le 1 threads.0 && nat_le threads.0 MAX_THREADS) BadThreads
  logs ← threads_at total threads.0 threads.1
  ended ← wanted (length logs.1 == 0) (Trailing (total - length logs.1))
  Ok logs.0

-- the logs that all of the bytes spell in version 1, or the cause to refuse them
unfoldable pub decoded : List ℕ → Result (List ThreadLog) LogCause
decoded bytes = do
  magic ← wanted (bytes_eq (take 4 bytes) (codes "OCTL")) NoMagic
  body_at (length bytes) (drop 4 bytes)
