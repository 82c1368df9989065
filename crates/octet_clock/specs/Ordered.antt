-- The check of journals alone.
use Rattle.std.specs.Prelude.{◌≡◌, ℕ, List, [], length, slice_get, Some}
use Rattle.octet_model.specs.declared.log.Log.{Log}
use Rattle.octet_model.specs.declared.script.Script.{Script}
use Rattle.octet_model.specs.Machine.{Journals, starting_state}
use Rattle.octet_model.specs.Orders.{journals_after, IsLawfulOrder}
use Rattle.octet_model.specs.Plays.{by_journals, lowest_play}
use Rattle.octet_replay.specs.declared.need.Need.{Need}
use Rattle.octet_replay.specs.Threads.{need_of}
use Rattle.octet_clock.specs.declared.journal_check.JournalCheck.{JournalCheck}
use Rattle.octet_clock.specs.Checker.{Holds}
use Rattle.octet_clock.specs.Following.{counted, Follows}

-- the journals are those of a lawful order of some script and some log
pub record AreOfLawfulOrder (journals : Journals) : Type 0 where
  pub script : Script
  pub log : Log
  pub order : List ℕ
  pub is_lawful : IsLawfulOrder script log.threads order
  pub are : journals_after script log.threads order ≡ journals

-- each journal has one need: its thread waits for the first event of the journal
pub record AreNeedsAtStart (journals : Journals) (needs : List Need) : Type 0 where
  pub as_many : length needs ≡ length journals
  pub each : (thread : ℕ) (need : Need) → slice_get needs thread ≡ Some need → need ≡ need_of (by_journals journals thread [])

-- the check took in the first steps of the lowest play, as many as events are counted
pub record ChecksAt (journals : Journals) (check : JournalCheck) : Type 0 where
  pub many : length check.checker.marks.items ≡ length journals
  pub follows : Follows (by_journals journals) (starting_state [] journals) (lowest_play [] journals) check.waits
  pub holds : Holds journals (lowest_play [] journals) (counted check.waits) check.checker
