use Rattle.std.proofs.lemmas.Bool.{leb-true}
use Rattle.octet_outcomes.proofs.Quieting.{is_over}
use Rattle.octet_outcomes.proofs.quiet.is_over.Goals as goal

pub returns-in-Some : goal.returns-in-Some
returns-in-Some c passed = is_over c.args.commands.now c.args.quiets.now c.args.demand c.in-Some.from c.args.place c.requires c.in-Some.ensures (leb-true c.in-Some.from c.args.place passed)
