use Rattle.octet_model.specs.Orders.{lowest_order}
use Rattle.octet_commands.proofs.lemmas.Recorded.{executed_if}
use Rattle.octet_top.proofs.parallel.play_pair.Goals as goal

pub outcome_text-requires-clause-ends : goal.outcome_text-requires-clause-ends
outcome_text-requires-clause-ends g c = (executed_if c.args.pair.now.source.script c.args.pair.now.loaded.log.threads (lowest_order c.args.pair.now.source.script c.args.pair.now.loaded.log.threads) c.in_ok-outcome.field-0 c.in-Some.outcome c.in-Some.is c.in_ok-outcome.ensures.outcome).ends

pub outcome_text-requires-clause-reads : goal.outcome_text-requires-clause-reads
outcome_text-requires-clause-reads g c = (executed_if c.args.pair.now.source.script c.args.pair.now.loaded.log.threads (lowest_order c.args.pair.now.source.script c.args.pair.now.loaded.log.threads) c.in_ok-outcome.field-0 c.in-Some.outcome c.in-Some.is c.in_ok-outcome.ensures.outcome).reads

pub outcome_text-requires-clause-heap : goal.outcome_text-requires-clause-heap
outcome_text-requires-clause-heap g c = (executed_if c.args.pair.now.source.script c.args.pair.now.loaded.log.threads (lowest_order c.args.pair.now.source.script c.args.pair.now.loaded.log.threads) c.in_ok-outcome.field-0 c.in-Some.outcome c.in-Some.is c.in_ok-outcome.ensures.outcome).heap
