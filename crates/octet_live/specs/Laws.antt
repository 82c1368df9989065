-- The laws of a log that is written while its threads run, as the public functions of laws.rt prove them.
use Rattle.std.specs.Prelude.{◌≡◌, ◌≢◌, ℕ, ◌<◌, List, [], length, slice_index_or, Option, Some}
use Rattle.octet_base.specs.Desk.{DeskState, Rose}
use Rattle.octet_base.specs.declared.fault.DeskFault.{DeskFault}
use Rattle.octet_base.specs.declared.fault.DeskFault.TheVariants.{Failed, TooLong, Absent}
use Rattle.octet_model.specs.declared.log.Gapped.{Gapped}
use Rattle.octet_model.specs.declared.log.ThreadLog.{ThreadLog}
use Rattle.octet_log.specs.v2.Pieces.{Piece}
use Rattle.octet_live.specs.declared.drainer.Drainer.{Drainer}
use Rattle.octet_live.specs.Written.{AddsPieces, IsWritten, Writes}
use Rattle.octet_live.specs.Drained.{IsFresh, Drains, AddsAllLeft}

-- the marks that a log has of a thread
abbrev pub marks_at : List ThreadLog → ℕ → List Gapped
marks_at logs thread = (slice_index_or logs thread (record { accesses = 0; marks = [] })).marks

-- what a fresh drainer takes meanwhile, and then what is left of each thread, are first marks of each,
-- and all of them if no piece is refused
abbrev pub DrainedIsWritten : Type 0
DrainedIsWritten = (threads : ℕ) (own : ℕ → List Gapped) (drainer mid last : Drainer) (before between after : DeskState) → IsFresh threads drainer
    → Drains threads drainer before mid between → AddsAllLeft threads own mid between last after → Writes threads own before last.kept after

-- if first marks of each thread are written, the log that has all marks of each is written
abbrev pub MarksAreWritten : Type 0
MarksAreWritten = (threads : ℕ) (own : ℕ → List Gapped) (logs : List ThreadLog) → length logs ≡ threads → ((thread : ℕ) → thread < threads → marks_at logs thread ≡ own thread)
    → (kept : Option DeskFault) (before after : DeskState) → Writes threads own before kept after → IsWritten logs before kept after

-- a piece that failed is one that the desk has counted. No piece is refused as too long, or as absent
abbrev pub FailuresAreCounted : Type 0
FailuresAreCounted = (pieces : List Piece) (before after : DeskState) (kept : Option DeskFault) → AddsPieces pieces before kept after
    → (kept ≡ Some Failed → Rose before.write_faults after.write_faults) × (kept ≢ Some TooLong) × (kept ≢ Some Absent)
