-- Reading one thread after the other, as a loop does.
use Rattle.std.proofs.Common.{◌≡◌, ℕ, suc, ◌-◌, ◌+◌, List, Result, add-one}
use Rattle.octet_model.specs.declared.log.ThreadLog.{ThreadLog}
use Rattle.octet_log.specs.declared.cause.LogCause.{LogCause}
use Rattle.octet_log.specs.Judging.{each_at, with_front}
use Rattle.octet_log.specs.v1.Decoding.{thread_at}

-- the log of the thread whose number stands in front of the accesses before it
abbrev pub read_next : ℕ → ℕ → ℕ × ℕ → List ℕ → Result (ThreadLog × List ℕ) LogCause
read_next total threads (thread, before) bytes = thread_at total threads thread before bytes

abbrev pub next_thread : ℕ × ℕ → ThreadLog → ℕ × ℕ
next_thread (thread, before) log = (suc thread, before + log.accesses)

-- the logs of count threads from a number on, after that many accesses
abbrev pub threads_from : ℕ → ℕ → ℕ → ℕ → ℕ → List ℕ → Result (List ThreadLog × List ℕ) LogCause
threads_from total threads count thread before bytes = each_at count (read_next total threads) next_thread (thread, before) bytes

-- the number of the next thread, as the code counts it
pub counted_on : (total threads count thread before : ℕ) (bytes : List ℕ) (front : List ThreadLog) (all : Result (List ThreadLog × List ℕ) LogCause) → with_front front (threads_from total threads count (suc thread) before bytes) ≡ all → with_front front (threads_from total threads count (thread + 1) before bytes) ≡ all
counted_on total threads count thread before bytes front all h = rw (add-one thread) h
