use Rattle.std.proofs.Common.{arith}
use Rattle.octet_slice.proofs.Summing.{few_events, sum_more}
use Rattle.octet_slice.proofs.slicing.all_events.Goals as goal

pub events_of-all-requires : goal.events_of-all-requires
events_of-all-requires c = few_events c.args.logs.now c.loop-log.log-index c.log-item.result c.loop-log-test.true c.log-item.is c.requires.each

pub overflow_add-all : goal.overflow_add-all
overflow_add-all c =
    omega (arith, few_events c.args.logs.now c.loop-log.log-index c.log-item.result c.loop-log-test.true c.log-item.is c.requires.each, c.events_of-all.ensures)

pub loop-log-preserved : goal.loop-log-preserved
loop-log-preserved c = record {
  sum = sum_more c.args.logs.now c.loop-log.log-index c.loop-log.all c.events_of-all.result c.log-item.result c.loop-log-test.true c.log-item.is c.loop-log.invariant.sum c.events_of-all.ensures;
  few = omega (arith, few_events c.args.logs.now c.loop-log.log-index c.log-item.result c.loop-log-test.true c.log-item.is c.requires.each, c.events_of-all.ensures);
}
