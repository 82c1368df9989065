-- The refusals of bytes of version 1, each of a whole input. All before the refused field or mark is whole and good.
use Rattle.std.specs.Prelude.{◌≡◌, ◌≢◌, ◌⊎◌, ℕ, ◌+◌, ◌<◌, ◌≤◌, ◌^◌, List, [], ◌∷◌, ◌++◌, codes, length, take, sum_by, Err, IsTrue}
use Rattle.std.specs.List.{list_all, flat_map}
use Rattle.std.specs.Int.{w32, to_be_bytes}
use Rattle.octet_model.specs.declared.log.Gapped.{Gapped}
use Rattle.octet_model.specs.declared.log.ThreadLog.{ThreadLog}
use Rattle.octet_model.specs.declared.limits.TheConstants.{MAX_ACCESSES, MAX_THREADS}
use Rattle.octet_model.specs.Log.{is_mark, are_thread_logs}
use Rattle.octet_model.specs.Texts.{mark_bytes, thread_bytes}
use Rattle.octet_log.specs.declared.cause.LogCause.TheVariants.{NoMagic, BadVersion, BadThreads, CutShort, BadMark, TooManyAccesses}
use Rattle.octet_log.specs.v1.Decoding.{decoded}
use Rattle.octet_log.specs.Inputs.{IsInput}

-- the number of accesses of all logs
abbrev pub accesses_of : List ThreadLog → ℕ
accesses_of logs = sum_by (λ log. log.accesses) logs

-- the sum of the gaps of the marks
abbrev pub gaps_of : List Gapped → ℕ
gaps_of marks = sum_by (λ m. m.gap) marks

-- an input that does not begin with OCTL has no magic
abbrev pub LacksMagic : Type 0
LacksMagic = (bytes : List ℕ) → take 4 bytes ≢ codes "OCTL" → decoded bytes ≡ Err NoMagic

-- a version other than 1 is bad
abbrev pub OtherVersionIsBad : Type 0
OtherVersionIsBad = (version : ℕ) (rest : List ℕ) → version ≢ 1 → decoded (codes "OCTL" ++ version ∷ rest) ≡ Err BadVersion

-- a number of threads that is 0 or above the limit is bad
abbrev pub ThreadsAreBad : Type 0
ThreadsAreBad = (threads : ℕ) (rest : List ℕ) → (threads ≡ 0) ⊎ (MAX_THREADS < threads) → decoded (codes "OCTL" ++ 1 ∷ threads ∷ rest) ≡ Err BadThreads

-- the logs of the first threads are all good, and more threads are to come
pub record IsStart (threads : ℕ) (logs : List ThreadLog) : Type 0 where
  pub few : threads ≤ MAX_THREADS
  pub more : length logs < threads
  pub good : IsTrue (are_thread_logs threads 0 logs)
  pub accesses : accesses_of logs ≤ MAX_ACCESSES

-- the bytes of the head and of the logs of the first threads
abbrev pub start_bytes : ℕ → List ThreadLog → List ℕ
start_bytes threads logs = codes "OCTL" ++ 1 ∷ threads ∷ flat_map thread_bytes logs

-- the next thread is read in part: its accesses, the number of its marks, and the first marks.
-- All are good, and more marks are to come
pub record IsWithin (threads : ℕ) (logs : List ThreadLog) (accesses count : ℕ) (marks : List Gapped) : Type 0 where
  pub start : IsStart threads logs
  pub sum : accesses_of logs + accesses ≤ MAX_ACCESSES
  pub fits : count < 2 ^ 32
  pub more : length marks < count
  pub gaps : gaps_of marks ≤ accesses
  pub good : IsTrue (list_all (λ m. is_mark threads (length logs) m.mark) marks)

-- the bytes up to and with the first marks of the next thread
abbrev pub within_bytes : ℕ → List ThreadLog → ℕ → ℕ → List Gapped → List ℕ
within_bytes threads logs accesses count marks = start_bytes threads logs ++ (to_be_bytes w32 accesses ++ to_be_bytes w32 count ++ flat_map mark_bytes marks)

-- an input that ends within the head is cut where it ends
abbrev pub HeadIsCut : Type 0
HeadIsCut = (decoded (codes "OCTL") ≡ Err (CutShort 4)) × (decoded (codes "OCTL" ++ 1 ∷ []) ≡ Err (CutShort 5))

-- an input that ends within a thread's accesses is cut where it ends
abbrev pub AccessesAreCut : Type 0
AccessesAreCut = (threads : ℕ) (logs : List ThreadLog) (field : List ℕ) → IsStart threads logs → length field < 4
    → decoded (start_bytes threads logs ++ field) ≡ Err (CutShort (length (start_bytes threads logs ++ field)))

-- an input that ends within a thread's number of marks is cut where it ends
abbrev pub CountIsCut : Type 0
CountIsCut = (threads : ℕ) (logs : List ThreadLog) (accesses : ℕ) (field : List ℕ) → IsStart threads logs → accesses_of logs + accesses ≤ MAX_ACCESSES → length field < 4
    → decoded (start_bytes threads logs ++ (to_be_bytes w32 accesses ++ field)) ≡ Err (CutShort (length (start_bytes threads logs ++ (to_be_bytes w32 accesses ++ field))))

-- an input that ends within a mark is cut where it ends
abbrev pub MarkIsCut : Type 0
MarkIsCut = (threads : ℕ) (logs : List ThreadLog) (accesses count : ℕ) (marks : List Gapped) (mark : List ℕ) → IsWithin threads logs accesses count marks → length mark < 14
    → decoded (within_bytes threads logs accesses count marks ++ mark) ≡ Err (CutShort (length (within_bytes threads logs accesses count marks ++ mark)))

-- the bytes spell no mark that may stand next.
-- Such a mark is valid for the thread and has a gap of at most the accesses left
abbrev pub SpellsNoNext : ℕ → List ThreadLog → ℕ → List Gapped → List ℕ → Type 0
SpellsNoNext threads logs accesses marks bytes = (next : Gapped) → IsTrue (is_mark threads (length logs) next.mark) → gaps_of marks + next.gap ≤ accesses → bytes ≢ mark_bytes next

-- a whole mark that may not stand next is bad, at its place
abbrev pub MarkIsBad : Type 0
MarkIsBad = (threads : ℕ) (logs : List ThreadLog) (accesses count : ℕ) (marks : List Gapped) (mark rest : List ℕ) → IsInput (within_bytes threads logs accesses count marks ++ (mark ++ rest))
    → IsWithin threads logs accesses count marks → length mark ≡ 14 → SpellsNoNext threads logs accesses marks mark
    → decoded (within_bytes threads logs accesses count marks ++ (mark ++ rest)) ≡ Err (BadMark (length (within_bytes threads logs accesses count marks)))

-- a thread's accesses that pass the limit, with those of the threads before it, are too many
abbrev pub AccessesAreTooMany : Type 0
AccessesAreTooMany = (threads : ℕ) (logs : List ThreadLog) (accesses : ℕ) (rest : List ℕ) → IsStart threads logs → accesses < 2 ^ 32 → MAX_ACCESSES < accesses_of logs + accesses
    → decoded (start_bytes threads logs ++ (to_be_bytes w32 accesses ++ rest)) ≡ Err TooManyAccesses
