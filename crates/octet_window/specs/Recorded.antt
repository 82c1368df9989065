-- What is recorded of a run in order: a script of straight-line programs, with its log and its outcome.
use Rattle.std.specs.Prelude.{◌≡◌, ℕ, ◌<◌, ◌≤◌, List, length, map}
use Rattle.octet_model.specs.declared.log.ThreadLog.{ThreadLog}
use Rattle.octet_model.specs.declared.outcome.End.{End}
use Rattle.octet_model.specs.declared.outcome.End.TheVariants.{Done}
use Rattle.octet_model.specs.declared.script.Script.{Script}
use Rattle.octet_model.specs.Machine.{Journals, journal_of}
use Rattle.octet_model.specs.Orders.{starting_heap, commands_of, journals_after, IsLawfulOrder}
use Rattle.octet_recorder.specs.Programs.{IsProgramOf}
use Rattle.octet_window.specs.Ordering.{Parts}

-- the script has a straight-line program for each journal of the run, and the run's starting values
pub record HasPrograms (script : Script) (run : Parts) : Type 0 where
  pub starts : starting_heap script ≡ run.starts
  pub many : length script.threads ≡ length run.journals
  pub each : (thread : ℕ) → thread < length run.journals → IsProgramOf (length script.objects) (commands_of script thread) (journal_of run.journals thread)
  pub within : (thread : ℕ) → length (commands_of script thread) ≤ script.fuel

-- each thread is done
abbrev pub all_done : Journals → List End
all_done journals = map (λ journal. Done) journals

-- each lawful order of the script and the log makes these journals
abbrev pub Makes : Script → List ThreadLog → Journals → Type 0
Makes script log journals = (order : List ℕ) → IsLawfulOrder script log order → journals_after script log order ≡ journals
