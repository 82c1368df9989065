use Rattle.octet_commands.specs.Request.{shown_quarry}
use Rattle.octet_commands.specs.declared.request.Way.TheVariants.{AsTheyCome}
use Rattle.octet_commands.specs.Commands.{aim_of}
use Rattle.octet_commands.proofs.lemmas.Recorded.{recorded_whole}
use Rattle.octet_commands.proofs.answering.Hunted.{met_faithfully}
use Rattle.octet_commands.proofs.hunt.found_text.Goals as goal

pub outcome_text-requires-clause-ends : goal.outcome_text-requires-clause-ends
outcome_text-requires-clause-ends c = (recorded_whole AsTheyCome c.args.source.now.script c.args.find.now.recorded.log c.args.find.now.recorded.outcome (met_faithfully c.args.source.now.script (aim_of (shown_quarry c.args.quarry) c.args.wanted) c.args.find.now.recorded c.args.find.now.hops c.requires.meets)).ends

pub outcome_text-requires-clause-reads : goal.outcome_text-requires-clause-reads
outcome_text-requires-clause-reads c = (recorded_whole AsTheyCome c.args.source.now.script c.args.find.now.recorded.log c.args.find.now.recorded.outcome (met_faithfully c.args.source.now.script (aim_of (shown_quarry c.args.quarry) c.args.wanted) c.args.find.now.recorded c.args.find.now.hops c.requires.meets)).reads

pub outcome_text-requires-clause-heap : goal.outcome_text-requires-clause-heap
outcome_text-requires-clause-heap c = (recorded_whole AsTheyCome c.args.source.now.script c.args.find.now.recorded.log c.args.find.now.recorded.outcome (met_faithfully c.args.source.now.script (aim_of (shown_quarry c.args.quarry) c.args.wanted) c.args.find.now.recorded c.args.find.now.hops c.requires.meets)).heap
