-- How words are served whose answer is found before any of it is written or said.
use Rattle.std.specs.Prelude.{ℕ, Option}
use Rattle.octet_base.specs.Desk.{DeskState}
use Rattle.octet_commands.specs.declared.reply.Reply.{Reply}
use Rattle.octet_commands.specs.Request.{Request}
use Rattle.octet_commands.specs.Replies.{Replies}
use Rattle.octet_commands.specs.Delivery.{IsGiven}

-- the reply is found first, with all that is to be written and said, and is then given
pub record IsReplied (request : Option Request) (before after : DeskState) (code : ℕ) : Type 0 where
  pub mid : DeskState
  pub reply : Option Reply
  pub found : Replies request before reply mid
  pub given : IsGiven reply mid after code
