-- How words are served.
use Rattle.std.specs.Prelude.{ℕ, ◌⊎◌, Option, Some}
use Rattle.octet_base.specs.Desk.{DeskState}
use Rattle.octet_commands.specs.Request.{Request}
use Rattle.octet_commands.specs.declared.request.Request.TheVariants.{Marks, Run}
use Rattle.octet_commands.specs.declared.request.Way.TheVariants.{AsTheyCome}
use Rattle.octet_commands.specs.Replies.{IsNoSuccess}
use Rattle.octet_commands.specs.Serving.{IsReplied}
use Rattle.octet_top.specs.Live.{IsRunLive}
use Rattle.octet_commands.specs.Marks.{IsMarksSaid}

-- a request is served, or words that ask for none: the reply is found and given. A run whose threads come beside
-- each other has a reply only where it is refused. Otherwise its log is written while its threads run.
-- The text of a marks file is said while the file is taken
abbrev pub IsServed : Option Request → DeskState → DeskState → ℕ → Type 0
IsServed (Some (Run AsTheyCome script log)) before after code =
    ((replied : IsReplied (Some (Run AsTheyCome script log)) before after code) × IsNoSuccess replied.reply) ⊎ IsRunLive script log before after code
IsServed (Some (Marks file)) before after code = IsMarksSaid file before after code
IsServed request before after code = IsReplied request before after code
