-- What a clause says of a log whose marks are written while its threads run.
use Rattle.std.specs.Prelude.{◌≡◌, ℕ, ◌≤◌, ◌<◌, ◌⊎◌, List, [], ◌∷◌, ◌++◌, length, Option, None, Some, Ok, Err, IsTrue}
use Rattle.octet_base.specs.Desk.{DeskState, Adds}
use Rattle.octet_base.specs.declared.fault.DeskFault.{DeskFault}
use Rattle.octet_base.specs.declared.fault.DeskFault.TheVariants.{OutOfMemory}
use Rattle.octet_model.specs.declared.log.Gapped.{Gapped}
use Rattle.octet_model.specs.declared.log.ThreadLog.{ThreadLog}
use Rattle.octet_model.specs.Log.{is_log}
use Rattle.octet_log.specs.declared.limits.TheConstants.{MAX_MARKS}
use Rattle.octet_log.specs.v2.Pieces.{Piece, piece_bytes, ArePieces, HaveMarks, marks_in, marks_of}

-- the desk refuses to add the piece, of at most 256 marks.
-- Without memory for the piece's bytes, the desk is not asked
abbrev pub IsRefused : Piece → DeskState → Option DeskFault → DeskState → Type 0
IsRefused piece before kept after =
    ((kept ≡ Some OutOfMemory) × (after ≡ before))
    ⊎ ((fault : DeskFault) × (kept ≡ Some fault) × (length piece.marks ≤ 256) × Adds (piece_bytes piece) before (Err fault) after)

-- pieces of at most 256 marks are added to the file that is begun, one with each call of the desk.
-- No call is made after the first that is refused
abbrev pub AddsPieces : List Piece → DeskState → Option DeskFault → DeskState → Type 0
AddsPieces [] before kept after = (kept ≡ None) × (after ≡ before)
AddsPieces (piece ∷ pieces) before kept after =
    IsRefused piece before kept after
    ⊎ ((mid : DeskState) × (length piece.marks ≤ 256) × Adds (piece_bytes piece) before (Ok tt) mid × AddsPieces pieces mid kept after)

-- the pieces that have the marks of a log are added: all of them, or those before the first that is refused
pub record IsWritten (logs : List ThreadLog) (before : DeskState) (kept : Option DeskFault) (after : DeskState) : Type 0 where
  pub pieces : List Piece
  pub are : ArePieces (length logs) pieces
  pub have : HaveMarks 0 pieces logs
  pub adds : AddsPieces pieces before kept after

-- the pieces added so far are of some valid log of so many threads, which has no more marks than a log may have
pub record IsPartlyWritten (threads : ℕ) (before after : DeskState) : Type 0 where
  pub logs : List ThreadLog
  pub valid : IsTrue (is_log logs)
  pub as_many : length logs ≡ threads
  pub few : marks_in logs ≤ MAX_MARKS
  pub kept : Option DeskFault
  pub written : IsWritten logs before kept after

-- the marks added are the first of a thread's own, and all of them if no piece was refused
pub record HasFront (own : List Gapped) (added : List Gapped) (kept : Option DeskFault) : Type 0 where
  pub rest : List Gapped
  pub front : own ≡ added ++ rest
  pub whole : kept ≡ None → rest ≡ []

-- some first marks of each thread are added in pieces, and all of them if no piece is refused
pub record Writes (threads : ℕ) (own : ℕ → List Gapped) (before : DeskState) (kept : Option DeskFault) (after : DeskState) : Type 0 where
  pub pieces : List Piece
  pub are : ArePieces threads pieces
  pub adds : AddsPieces pieces before kept after
  pub each : (thread : ℕ) → thread < threads → HasFront (own thread) (marks_of thread pieces) kept
