-- How a reply is found: what it answers, and which calls of the desk that takes.
use Rattle.octet_model.specs.declared.limits.TheConstants.{MAX_LOG_FILE, MAX_SCRIPT_FILE}
use Rattle.std.specs.Prelude.{ℕ, ◌≡◌, ◌≢◌, ◌⊎◌, Option, None, Some}
use Rattle.octet_base.specs.Desk.{DeskState, Rose}
use Rattle.octet_commands.specs.declared.reply.Reply.{Reply}
use Rattle.octet_commands.specs.declared.reply.Status.TheVariants.{Done}
use Rattle.octet_commands.specs.Answer.{Answer, answer_of, read_failed}
use Rattle.octet_commands.specs.Request.{Request}
use Rattle.octet_commands.specs.declared.request.Request.TheVariants.{Tidy, Show, Marks, OfPair, Parallel, Convert, Run, Gen, Hunt, Outcomes, Always}
use Rattle.octet_commands.specs.Inputs.{TakesOne, TakesBoth}
use Rattle.octet_commands.specs.Commands.{Answers}

-- the reply is one of these answers, and no take failed. Otherwise a take failed, which the reply says,
-- or memory was refused
abbrev pub Finds : (Answer → Type 0) → ℕ → Option Reply → ℕ → Type 0
Finds Answers before (Some reply) after = (Answers (answer_of reply) × (after ≡ before)) ⊎ ((answer_of reply ≡ read_failed) × Rose before after)
Finds Answers before None after = Unit {0}

-- the reply is no success, if there is one
abbrev pub IsNoSuccess : Option Reply → Type 0
IsNoSuccess (Some reply) = reply.status ≢ Done
IsNoSuccess None = Unit {0}

-- the files of a request are taken, each once, in order, with its own limit.
-- The second is asked for only after a first that was taken and passes. A marks file is not taken so, but piece by piece
abbrev pub TakesFiles : Option Request → Type 0 → DeskState → DeskState → Type 0
TakesFiles None Short before after = after ≡ before
TakesFiles (Some (Tidy script)) Short before after = TakesOne script MAX_SCRIPT_FILE Short before after
TakesFiles (Some (Show log)) Short before after = TakesOne log MAX_LOG_FILE Short before after
TakesFiles (Some (Marks file)) Short before after = ⊥
TakesFiles (Some (OfPair task script log object)) Short before after = TakesBoth script log object Short before after
TakesFiles (Some (Parallel script log)) Short before after = TakesBoth script log None Short before after
TakesFiles (Some (Convert script log out)) Short before after = TakesBoth script log None Short before after
TakesFiles (Some (Run task script log)) Short before after = TakesOne script MAX_SCRIPT_FILE Short before after
TakesFiles (Some (Gen number script log)) Short before after = after ≡ before
TakesFiles (Some (Hunt quarry script log tries)) Short before after = TakesOne script MAX_SCRIPT_FILE Short before after
TakesFiles (Some (Outcomes script most)) Short before after = TakesOne script MAX_SCRIPT_FILE Short before after
TakesFiles (Some (Always claim script log most)) Short before after = TakesOne script MAX_SCRIPT_FILE Short before after

-- a reply is found for a request, unless memory is refused, with the calls that take its files
pub record Replies (request : Option Request) (before : DeskState) (reply : Option Reply) (after : DeskState) : Type 0 where
  pub found : Finds (Answers request before.contents) before.take_faults reply after.take_faults
  pub calls : TakesFiles request (IsNoSuccess reply) before after
  pub begun : after.begun ≡ before.begun
  pub write_faults : after.write_faults ≡ before.write_faults
