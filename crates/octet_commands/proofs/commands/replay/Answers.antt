use Rattle.octet_model.specs.Orders.{lowest_order}
use Rattle.octet_commands.proofs.lemmas.Recorded.{executed_whole}
use Rattle.octet_commands.proofs.commands.replay.Goals as goal

pub outcome_text-requires-clause-ends : goal.outcome_text-requires-clause-ends
outcome_text-requires-clause-ends c = (executed_whole c.args.pair.now.source.script c.args.pair.now.loaded.log.threads (lowest_order c.args.pair.now.source.script c.args.pair.now.loaded.log.threads) c.in-Ok.outcome c.in-Ok.ensures.outcome).ends

pub outcome_text-requires-clause-reads : goal.outcome_text-requires-clause-reads
outcome_text-requires-clause-reads c = (executed_whole c.args.pair.now.source.script c.args.pair.now.loaded.log.threads (lowest_order c.args.pair.now.source.script c.args.pair.now.loaded.log.threads) c.in-Ok.outcome c.in-Ok.ensures.outcome).reads

pub outcome_text-requires-clause-heap : goal.outcome_text-requires-clause-heap
outcome_text-requires-clause-heap c = (executed_whole c.args.pair.now.source.script c.args.pair.now.loaded.log.threads (lowest_order c.args.pair.now.source.script c.args.pair.now.loaded.log.threads) c.in-Ok.outcome c.in-Ok.ensures.outcome).heap
