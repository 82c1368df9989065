-- How a log is written while its threads run: call by call, up to the first that is refused.
use Rattle.std.specs.Prelude.{ℕ, ◌≡◌, ◌≤◌, ◌⊎◌, List, [], ◌∷◌, length, Option, None, Some, Result, Ok, Err}
use Rattle.sha2.specs.Sha256.{sha256}
use Rattle.std.specs.Global.{Vec}
use Rattle.octet_base.specs.Desk.{DeskState, Takes, Adds}
use Rattle.octet_base.specs.declared.fault.DeskFault.{DeskFault}
use Rattle.octet_base.specs.declared.fault.DeskFault.TheVariants.{OutOfMemory}
use Rattle.octet_model.specs.declared.limits.TheConstants.{MAX_SCRIPT_FILE}
use Rattle.octet_model.specs.declared.log.Log.{Log}
use Rattle.octet_model.specs.declared.log.ThreadLog.{ThreadLog}
use Rattle.octet_model.specs.declared.outcome.Outcome.{Outcome}
use Rattle.octet_model.specs.Orders.{IsFaithful}
use Rattle.octet_model.specs.Texts.{outcome_text}
use Rattle.octet_log.specs.v2.Pieces.{Piece, ArePieces, head_bytes, piece_bytes, tail_bytes, pieced_bytes, SpellsPieces}
use Rattle.octet_commands.specs.declared.inputs.Source.{Source}
use Rattle.octet_commands.specs.declared.reply.Status.TheVariants.{Done}
use Rattle.octet_commands.specs.Inputs.{IsScriptRead}
use Rattle.octet_commands.specs.Delivery.{Act, Begin, Add, Finish, Say, Does, IsRefused, code_given}

-- the calls are made one after the other, and then what is next follows. They end at the first that is refused,
-- or where memory is refused before one
abbrev pub MakesThen : List Act → (DeskState → Result (Unit {0}) DeskFault → DeskState → Type 0) → DeskState → Result (Unit {0}) DeskFault → DeskState → Type 0
MakesThen [] Next before result after = Next before result after
MakesThen (act ∷ acts) Next before result after =
    ((result ≡ Err OutOfMemory) × (after ≡ before))
    ⊎ ((IsRefused result × Does act before result after)
    ⊎ ((mid : DeskState) × Does act before (Ok tt) mid × MakesThen acts Next mid result after))

-- the calls are made one after the other, up to the first that is refused, and nothing follows
abbrev pub MakesSome : List Act → DeskState → Result (Unit {0}) DeskFault → DeskState → Type 0
MakesSome acts = MakesThen acts (λ before result after. (result ≡ Ok tt) × (after ≡ before))

-- pieces of at most 256 marks are added in the same way, each with one call
abbrev pub MakesPieces : List Piece → (DeskState → Result (Unit {0}) DeskFault → DeskState → Type 0) → DeskState → Result (Unit {0}) DeskFault → DeskState → Type 0
MakesPieces [] Next before result after = Next before result after
MakesPieces (piece ∷ pieces) Next before result after =
    ((result ≡ Err OutOfMemory) × (after ≡ before))
    ⊎ ((IsRefused result × (length piece.marks ≤ 256) × Adds (piece_bytes piece) before result after)
    ⊎ ((mid : DeskState) × (length piece.marks ≤ 256) × Adds (piece_bytes piece) before (Ok tt) mid × MakesPieces pieces Next mid result after))

-- the desk refuses one of the pieces
abbrev pub RefusesPiece : List Piece → DeskState → DeskFault → DeskState → Type 0
RefusesPiece pieces before fault after = MakesPieces pieces (λ mid result end. ⊥) before (Err fault) after

-- the calls that begin the file and give it its head
abbrev pub opening_acts : List ℕ → List ℕ → List ThreadLog → List Act
opening_acts name digest logs = Begin name ∷ Add (head_bytes (length logs) digest) ∷ []

-- the log is written, and then other calls are made
abbrev pub WritesLog : List ℕ → List ℕ → List Piece → List ThreadLog → List Act → DeskState → Result (Unit {0}) DeskFault → DeskState → Type 0
WritesLog name digest pieces logs rest = MakesThen (opening_acts name digest logs) (MakesPieces pieces (MakesSome (Add (tail_bytes logs) ∷ Finish ∷ rest)))

-- the log and an outcome are a faithful recording of the script. The log is written and the outcome is said,
-- up to the first call that is refused, or until memory is refused
abbrev pub IsToldLive : Source → List ℕ → Log → List Piece → DeskState → Result (Unit {0}) DeskFault → DeskState → Type 0
IsToldLive source name log pieces before result after =
    (outcome : Outcome) × IsFaithful source.script log.threads outcome
    × WritesLog name (sha256 source.text) pieces log.threads (Say (outcome_text source.script outcome) ∷ []) before result after

-- the log was not written whole, and nothing was said. A call was refused, or memory was:
-- before the next call, or after a refused piece
abbrev pub IsCutLive : Source → List ℕ → Log → List Piece → DeskState → Result (Unit {0}) DeskFault → DeskState → Type 0
IsCutLive source name log pieces before result after =
    (IsRefused result × WritesLog name (sha256 source.text) pieces log.threads [] before result after)
    ⊎ ((result ≡ Err OutOfMemory)
    × ((mid : DeskState) × (fault : DeskFault) × MakesSome (opening_acts name (sha256 source.text) log.threads) before (Ok tt) mid × RefusesPiece pieces mid fault after))

-- a log with as many threads as the script is written in version 2, with the digest of the script's text.
-- Its pieces have 1 to 256 marks
pub record IsWrittenLive (source : Source) (name : List ℕ) (before : DeskState) (result : Result (Unit {0}) DeskFault) (after : DeskState) : Type 0 where
  pub log : Log
  pub pieces : List Piece
  pub as_many : length log.threads ≡ length source.script.threads
  pub are : ArePieces (length log.threads) pieces
  pub spelled : SpellsPieces (pieced_bytes (sha256 source.text) pieces log.threads) (sha256 source.text) log.threads
  pub ends : IsToldLive source name log pieces before result after ⊎ IsCutLive source name log pieces before result after

-- the script is taken and read, and then its log is written while the run goes on
pub record IsRunLive (script_name log_name : List ℕ) (before after : DeskState) (code : ℕ) : Type 0 where
  pub source : Source
  pub read : IsScriptRead script_name before.contents (Ok source)
  pub bytes : Vec ℕ
  pub mid : DeskState
  pub taken : Takes script_name MAX_SCRIPT_FILE before (Ok bytes) mid
  pub made : Result (Unit {0}) DeskFault
  pub written : IsWrittenLive source log_name mid made after
  pub code_is : code ≡ code_given Done made

-- the calls are made, unless a piece was refused
abbrev pub MakesUnless : Option DeskFault → List Act → DeskState → Result (Unit {0}) DeskFault → DeskState → Type 0
MakesUnless None acts before result after = MakesSome acts before result after
MakesUnless (Some fault) acts before result after = (result ≡ Err fault) × (after ≡ before)
