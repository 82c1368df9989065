-- The cause of each status.
use Rattle.std.specs.Prelude.{ℕ, ◌≡◌, ◌⊎◌, List, Option, Some}
use Rattle.octet_base.specs.Desk.{Contents, DeskState, Rose}
use Rattle.octet_commands.specs.declared.reply.Status.{Status}
use Rattle.octet_commands.specs.declared.reply.Status.TheVariants.{Done, Read, Write, Memory, NotFound, NotAll}
use Rattle.octet_commands.specs.Answer.{Answer}
use Rattle.octet_commands.specs.Request.{Quarry, Request, request_in}
use Rattle.octet_commands.specs.declared.request.Request.TheVariants.{Hunt, Outcomes, Always}
use Rattle.octet_commands.specs.Commands.{IsAnswer}

-- the request is for a search through all interleavings
abbrev pub Searches : Request → Type 0
Searches (Outcomes script most) = Unit {0}
Searches (Always claim script log most) = Unit {0}
Searches _ = ⊥

-- the words have an answer of this status, by what is told of the files
abbrev pub IsDue : List (List ℕ) → Option Contents → Status → Type 0
IsDue words contents status = (answer : Answer) × IsAnswer words contents answer × (answer.status ≡ status)

-- the words ask for a hunt, and the two statuses say that a run was found and that none was.
-- Which of them comes depends on the schedules that are tried
pub record FindsOrNot (words : List (List ℕ)) (status other : Status) : Type 0 where
  pub quarry : Quarry
  pub script_name : List ℕ
  pub log_name : List ℕ
  pub tries : ℕ
  pub asked : request_in words ≡ Some (Hunt quarry script_name log_name tries)
  pub differ : ((status ≡ Done) × (other ≡ NotFound)) ⊎ ((status ≡ NotFound) × (other ≡ Done))

-- the words ask for a search through all interleavings, and one of the two statuses says that not all was seen
pub record SeesAllOrNot (words : List (List ℕ)) (status other : Status) : Type 0 where
  pub request : Request
  pub asked : request_in words ≡ Some request
  pub searches : Searches request
  pub differ : (status ≡ NotAll) ⊎ (other ≡ NotAll)

-- the words may end with either status: a hunt may find a run or not, and a search may be cut off
abbrev pub MayDiffer : List (List ℕ) → Status → Status → Type 0
MayDiffer words status other = FindsOrNot words status other ⊎ SeesAllOrNot words status other

-- a status comes only with its cause: Write with a counted fault of a write,
-- Read with one of a take or where it is due. Memory needs no cause, and any other status is due
abbrev pub IsCause : List (List ℕ) → DeskState → DeskState → Status → Type 0
IsCause words before after Write = Rose before.write_faults after.write_faults
IsCause words before after Memory = Unit {0}
IsCause words before after Read = Rose before.take_faults after.take_faults ⊎ IsDue words before.contents Read
IsCause words before after status = IsDue words before.contents status

-- no call of the desk failed
pub record NoneFailed (before after : DeskState) : Type 0 where
  pub takes : ¬ Rose before.take_faults after.take_faults
  pub writes : ¬ Rose before.write_faults after.write_faults
