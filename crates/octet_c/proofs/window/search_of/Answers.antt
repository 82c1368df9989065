use Rattle.octet_c.proofs.Windowing.{left_taken}
use Rattle.octet_c.proofs.window.search_of.Goals as goal

pub returns-in-Ok-clause-left : goal.returns-in-Ok-clause-left
returns-in-Ok-clause-left c = left_taken c.args.again.now c.take_made-made.new.self c.requires c.take_made-made.ensures.gone

pub returns-in-Err-clause-left : goal.returns-in-Err-clause-left
returns-in-Err-clause-left c = left_taken c.args.again.now c.take_made-made.new.self c.requires c.take_made-made.ensures.gone
