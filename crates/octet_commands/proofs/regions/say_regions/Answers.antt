use Rattle.octet_model.specs.Orders.{lowest_order}
use Rattle.octet_commands.proofs.lemmas.Checking.{serial_answered}
use Rattle.octet_commands.proofs.lemmas.Recorded.{executed_whole}
use Rattle.octet_commands.proofs.regions.say_regions.Goals as goal

pub returns : goal.returns
returns c =
    let e = c.in-Ok.ensures in
    serial_answered c.args.pair.now c.in-Ok.found _ e.lawful e.serial e.shows e.outcome c.in_ok-say_serial.ensures

pub say_serial-requires-clause-ends : goal.say_serial-requires-clause-ends
say_serial-requires-clause-ends c = (executed_whole c.args.pair.now.source.script c.args.pair.now.loaded.log.threads (lowest_order c.args.pair.now.source.script c.args.pair.now.loaded.log.threads) c.in-Ok.found.outcome c.in-Ok.ensures.outcome).ends

pub say_serial-requires-clause-reads : goal.say_serial-requires-clause-reads
say_serial-requires-clause-reads c = (executed_whole c.args.pair.now.source.script c.args.pair.now.loaded.log.threads (lowest_order c.args.pair.now.source.script c.args.pair.now.loaded.log.threads) c.in-Ok.found.outcome c.in-Ok.ensures.outcome).reads

pub say_serial-requires-clause-heap : goal.say_serial-requires-clause-heap
say_serial-requires-clause-heap c = (executed_whole c.args.pair.now.source.script c.args.pair.now.loaded.log.threads (lowest_order c.args.pair.now.source.script c.args.pair.now.loaded.log.threads) c.in-Ok.found.outcome c.in-Ok.ensures.outcome).heap
