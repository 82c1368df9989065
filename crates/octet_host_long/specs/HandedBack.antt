-- Why a run of any length is not ended.
use Rattle.std.specs.Prelude.{◌≡◌, ℕ, List}
use Rattle.octet_follow.specs.Calls.{followers_in}
use Rattle.octet_heap.specs.Models.{heap_model}
use Rattle.octet_stream.specs.Tracks.{number_of}
use Rattle.octet_host.specs.declared.fault.CloseFault.{CloseFault}
use Rattle.octet_host.specs.HandedBack.{Both, RefusesToClose}
use Rattle.octet_host_long.specs.declared.recorded.LongRecorded.{LongRecorded}
use Rattle.octet_host_long.specs.declared.repeated.LongRepeated.{LongRepeated}
use Rattle.octet_host_long.specs.Threads.{run_of, rerun_of}

-- a recorded thread has this number
abbrev pub IsRecordedAt : ℕ → ℕ → LongRecorded → Type 0
IsRecordedAt number threads it = number_of it.track ≡ number

-- its run has so many threads
abbrev pub IsRecordedAmong : ℕ → ℕ → LongRecorded → Type 0
IsRecordedAmong number threads it = (heap_model (run_of it).heap).threads ≡ threads

-- it has this number, in a run of so many
abbrev pub IsRecordedAs : ℕ → ℕ → LongRecorded → Type 0
IsRecordedAs = Both IsRecordedAt IsRecordedAmong

-- a thread that is made again has this number
abbrev pub IsRepeatedAt : ℕ → ℕ → LongRepeated → Type 0
IsRepeatedAt number threads it = it.thread.thread.follower.number ≡ number

-- its run has so many threads
abbrev pub IsRepeatedAmong : ℕ → ℕ → LongRepeated → Type 0
IsRepeatedAmong number threads it = followers_in (rerun_of it).course ≡ threads

-- it has this number, in a run of so many
abbrev pub IsRepeatedAs : ℕ → ℕ → LongRepeated → Type 0
IsRepeatedAs = Both IsRepeatedAt IsRepeatedAmong

-- why the run of recorded threads is not ended
abbrev pub RefusesRecorded : List LongRecorded → CloseFault → Type 0
RefusesRecorded = RefusesToClose (λ it. it.stage) IsRecordedAt IsRecordedAmong (λ it. ⊥) (λ it. ⊥)

-- why that of threads that are made again is not
abbrev pub RefusesRepeated : List LongRepeated → CloseFault → Type 0
RefusesRepeated = RefusesToClose (λ it. it.stage) IsRepeatedAt IsRepeatedAmong (λ it. ⊥) (λ it. ⊥)
