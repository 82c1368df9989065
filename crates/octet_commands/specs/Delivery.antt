-- How an answer is given to the desk: call by call, up to the first that is refused.
use Rattle.std.specs.Prelude.{ℕ, zero, suc, ◌≡◌, ◌⊎◌, ◌++◌, List, [], ◌∷◌, map, take, drop, length, Option, None, Some, Result, Ok, Err}
use Rattle.std.specs.List.{flat_map}
use Rattle.octet_base.specs.Desk.{DeskState, Begins, Adds, Finishes, Says}
use Rattle.octet_base.specs.declared.fault.DeskFault.{DeskFault}
use Rattle.octet_base.specs.declared.fault.DeskFault.TheVariants.{OutOfMemory}
use Rattle.octet_commands.specs.declared.reply.Reply.{Reply}
use Rattle.octet_commands.specs.declared.reply.Status.{Status}
use Rattle.octet_commands.specs.declared.reply.Status.TheVariants.{Write, Memory}
use Rattle.octet_commands.specs.Answer.{Answer, answer_of, code_of}

-- a call that writes or says, with its bytes
pub data Act : Type 0 where
  Begin : (name : List ℕ) → Act
  Add : (bytes : List ℕ) → Act
  Finish : Act
  Say : (bytes : List ℕ) → Act

-- the effect of the call on the desk
abbrev pub Does : Act → DeskState → Result (Unit {0}) DeskFault → DeskState → Type 0
Does (Begin name) = Begins name
Does (Add bytes) = Adds bytes
Does Finish = Finishes
Does (Say bytes) = Says bytes

-- the call was refused
abbrev pub IsRefused : Result (Unit {0}) DeskFault → Type 0
IsRefused (Ok done) = ⊥
IsRefused (Err fault) = Unit {0}

-- the calls are made one after the other, up to the first that is refused
abbrev pub Makes : List Act → DeskState → Result (Unit {0}) DeskFault → DeskState → Type 0
Makes [] before result after = (result ≡ Ok tt) × (after ≡ before)
Makes (act ∷ acts) before result after =
    (IsRefused result × Does act before result after)
    ⊎ ((mid : DeskState) × Does act before (Ok tt) mid × Makes acts mid result after)

-- the pieces of bytes, `size` bytes each, the last one shorter if need be, and at most `n` of them
abbrev pub pieces_within : ℕ → ℕ → List ℕ → List (List ℕ)
pieces_within size n [] = []
pieces_within size zero (byte ∷ bytes) = []
pieces_within size (suc n) (byte ∷ bytes) = take size (byte ∷ bytes) ∷ pieces_within size n (drop size (byte ∷ bytes))

-- the pieces of 65,536 bytes. There are no more of them than bytes
abbrev pub pieces : List ℕ → List (List ℕ)
pieces bytes = pieces_within 65536 (length bytes) bytes

-- the calls that write a begun file in pieces and finish it
abbrev pub rest_acts : List ℕ → List Act
rest_acts bytes = map Add (pieces bytes) ++ Finish ∷ []

-- the calls that write a file
abbrev pub file_acts : List ℕ × List ℕ → List Act
file_acts file = Begin file.0 ∷ rest_acts file.1

-- the calls that give an answer: its files are written in order, then its text is said in one call
abbrev pub acts_of : Answer → List Act
acts_of answer = flat_map file_acts answer.files ++ Say answer.text ∷ []

-- the exit status: this one, or that of the call that was refused
abbrev pub code_given : Status → Result (Unit {0}) DeskFault → ℕ
code_given status (Ok done) = code_of status
code_given status (Err OutOfMemory) = code_of Memory
code_given status (Err _) = code_of Write

-- the reply is given to the desk. Without memory for a reply, no call is made
abbrev pub IsGiven : Option Reply → DeskState → DeskState → ℕ → Type 0
IsGiven (Some reply) before after code =
    (made : Result (Unit {0}) DeskFault) × Makes (acts_of (answer_of reply)) before made after × (code ≡ code_given reply.status made)
IsGiven None before after code = (after ≡ before) × (code ≡ code_of Memory)
