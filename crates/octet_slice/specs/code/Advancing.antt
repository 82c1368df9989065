-- What passing marks leaves of what is gathered.
use Rattle.std.specs.Prelude.{◌≡◌, ℕ, ◌<◌, Bool, true, false, List, length}
use Rattle.octet_model.specs.declared.log.ThreadLog.{ThreadLog}
use Rattle.octet_model.specs.Machine.{Journals}
use Rattle.octet_slice.specs.code.Reached.{Gathered, left}
use Rattle.octet_slice.specs.Gathering.{AreOfLog, IsPartOfPast}

-- marks were passed, if one was there to pass. What is gathered stays in the past, and fewer marks are left
pub record Advances (logs : List ThreadLog) (before : Gathered) (passes : Bool) (after : Gathered) : Type 0 where
  pub stays_part : (journals : Journals) (thread now : ℕ) → AreOfLog journals logs → IsPartOfPast journals thread now before → IsPartOfPast journals thread now after
  pub many : length after.threads ≡ length before.threads
  pub still : passes ≡ false → after ≡ before
  pub fewer : passes ≡ true → left logs after.threads < left logs before.threads
