-- A journal that follows the log of its thread.
use Rattle.std.specs.Prelude.{◌≡◌, ℕ, ◌≤◌, List, ◌++◌, Some, slice_get}
use Rattle.octet_model.specs.declared.event.Event.{Event}
use Rattle.octet_model.specs.declared.log.Gapped.{Gapped}
use Rattle.octet_model.specs.declared.log.ThreadLog.{ThreadLog}
use Rattle.octet_model.specs.Journals.{access_count, gap_after, gapped_marks}

-- no mark of the rest comes before so many accesses
abbrev pub Ahead : List Gapped → ℕ → Type 0
Ahead rest gap = (next : Gapped) → slice_get rest 0 ≡ Some next → gap ≤ next.gap

-- the journal has the first accesses and marks of the log, and the next mark is still to come
pub record IsOnTrack (log : ThreadLog) (journal : List Event) : Type 0 where
  pub accesses : access_count journal ≤ log.accesses
  pub rest : List Gapped
  pub marks : log.marks ≡ gapped_marks 0 journal ++ rest
  pub ahead : Ahead rest (gap_after 0 journal)
