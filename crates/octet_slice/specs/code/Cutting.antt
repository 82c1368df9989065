-- The log of the gathered events.
use Rattle.std.specs.Prelude.{◌-◌, ◌^◌, ◌<◌, ◌≤◌, List, [], ◌∷◌, length, take}
use Rattle.octet_model.specs.declared.log.ThreadLog.{ThreadLog}
use Rattle.octet_slice.specs.declared.gathering.Reach.{Reach}

-- the marks taken in are marks of the log, and the other gathered events are few enough to be counted
pub record CanCut (log : ThreadLog) (reach : Reach) : Type 0 where
  pub accesses : reach.count - reach.taken_in.marks < 2 ^ 32
  pub marks : reach.taken_in.marks ≤ length log.marks

-- the log of the gathered events of one thread
abbrev pub cut_thread : ThreadLog → Reach → ThreadLog
cut_thread log reach = record { accesses = reach.count - reach.taken_in.marks; marks = take reach.taken_in.marks log.marks }

-- the log of the gathered events of all threads
abbrev pub cut_log : List ThreadLog → List Reach → List ThreadLog
cut_log [] threads = []
cut_log (log ∷ logs) [] = []
cut_log (log ∷ logs) (reach ∷ threads) = cut_thread log reach ∷ cut_log logs threads
