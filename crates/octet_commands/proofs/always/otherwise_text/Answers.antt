use Rattle.octet_commands.specs.Request.{shown_claim}
use Rattle.octet_commands.specs.declared.request.Way.TheVariants.{AsTheyCome}
use Rattle.octet_commands.proofs.lemmas.Recorded.{recorded_whole}
use Rattle.octet_commands.proofs.answering.Hunted.{refuted_faithfully}
use Rattle.octet_commands.proofs.always.otherwise_text.Goals as goal

pub outcome_text-requires-clause-ends : goal.outcome_text-requires-clause-ends
outcome_text-requires-clause-ends c = (recorded_whole AsTheyCome c.args.source.now.script c.args.find.now.recorded.log c.args.find.now.recorded.outcome (refuted_faithfully c.args.source.now.script (shown_claim c.args.claim) c.args.wanted c.args.find.now.recorded c.requires)).ends

pub outcome_text-requires-clause-reads : goal.outcome_text-requires-clause-reads
outcome_text-requires-clause-reads c = (recorded_whole AsTheyCome c.args.source.now.script c.args.find.now.recorded.log c.args.find.now.recorded.outcome (refuted_faithfully c.args.source.now.script (shown_claim c.args.claim) c.args.wanted c.args.find.now.recorded c.requires)).reads

pub outcome_text-requires-clause-heap : goal.outcome_text-requires-clause-heap
outcome_text-requires-clause-heap c = (recorded_whole AsTheyCome c.args.source.now.script c.args.find.now.recorded.log c.args.find.now.recorded.outcome (refuted_faithfully c.args.source.now.script (shown_claim c.args.claim) c.args.wanted c.args.find.now.recorded c.requires)).heap
