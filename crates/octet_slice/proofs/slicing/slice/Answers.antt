use Rattle.std.proofs.Common.{arith}
use Rattle.octet_slice.specs.code.Reached.{gathered}
use Rattle.octet_slice.proofs.Summing.{few_events}
use Rattle.octet_slice.proofs.SliceFound.{cut_is_valid, cuts, few_events_of, makes_it, same_many, sliced}
use Rattle.octet_slice.proofs.slicing.slice.Goals as goal

pub events_of-events-requires : goal.events_of-events-requires
events_of-events-requires c =
    few_events c.as_slice-logs.result.now c.args.thread c.index-logs-thread.result (omega arith) c.index-logs-thread.is (few_events_of c.args.log.now c.as_slice-logs.result.now c.as_slice-logs.ensures)

pub all_events-all-requires-clause-each : goal.all_events-all-requires-clause-each
all_events-all-requires-clause-each c = few_events_of c.args.log.now c.as_slice-logs.result.now c.as_slice-logs.ensures

pub cut-requires-clause-each : goal.cut-requires-clause-each
cut-requires-clause-each c =
    cuts c.args.script.now c.args.log.now c.requires.lawful c.requires.ordered c.as_slice-logs.result.now c.as_slice-logs.ensures (gathered c.in_ok-past.past) c.args.thread c.args.event (omega arith)
    c.index-logs-thread.result c.index-logs-thread.is (omega (arith, c.if-event-events.false, c.events_of-events.ensures)) c.in_ok-past.ensures.gathered

pub cut-requires-clause-valid : goal.cut-requires-clause-valid
cut-requires-clause-valid c =
    cut_is_valid c.args.script.now c.args.log.now c.requires.lawful c.requires.ordered c.as_slice-logs.result.now c.as_slice-logs.ensures (gathered c.in_ok-past.past) c.args.thread c.args.event (omega arith)
    c.index-logs-thread.result c.index-logs-thread.is (omega (arith, c.if-event-events.false, c.events_of-events.ensures)) c.in_ok-past.ensures.gathered

pub replay_to-requires-clause-agree : goal.replay_to-requires-clause-agree
replay_to-requires-clause-agree c =
    same_many c.args.script.now c.args.log.now c.requires.lawful c.requires.ordered c.as_slice-logs.result.now c.as_slice-logs.ensures (gathered c.in_ok-past.past) c.args.thread c.args.event (omega arith)
    c.index-logs-thread.result c.index-logs-thread.is (omega (arith, c.if-event-events.false, c.events_of-events.ensures)) c.in_ok-past.ensures.gathered c.in_ok-part.part.threads c.in_ok-part.ensures

pub replay_to-requires-clause-there : goal.replay_to-requires-clause-there
replay_to-requires-clause-there c =
    makes_it c.args.script.now c.args.log.now c.requires.lawful c.requires.ordered c.as_slice-logs.result.now c.as_slice-logs.ensures (gathered c.in_ok-past.past) c.args.thread c.args.event (omega arith)
    c.index-logs-thread.result c.index-logs-thread.is (omega (arith, c.if-event-events.false, c.events_of-events.ensures)) c.in_ok-past.ensures.gathered c.in_ok-part.part.threads c.in_ok-part.ensures

pub returns-clause-sliced : goal.returns-clause-sliced
returns-clause-sliced c =
    sliced c.args.script.now c.args.log.now c.requires.lawful c.requires.ordered c.as_slice-logs.result.now c.as_slice-logs.ensures (gathered c.in_ok-past.past) c.args.thread c.args.event (omega arith)
    c.index-logs-thread.result c.index-logs-thread.is (omega (arith, c.if-event-events.false, c.events_of-events.ensures)) c.in_ok-past.ensures.gathered c.in_ok-part.part.threads c.in_ok-part.ensures
    c.in_ok-replayed.replayed c.all_events-all.result c.in_ok-replayed.ensures c.all_events-all.ensures
