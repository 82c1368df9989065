use Rattle.octet_replay.proofs.lemmas.Collecting.{collected, collected_fit}
use Rattle.octet_replay.proofs.order.journals.Goals as goal

pub returns-clause-journals : goal.returns-clause-journals
returns-clause-journals c =
    collected c.args.script.now c.args.log.now c.in_ok-replayer.replayer c.collect.new.replayer c.in_ok-journals.journals c.in_ok-replayer.ensures.opens c.in_ok-journals.ensures.same.0 c.in_ok-journals.ensures.same.1
    c.in_ok-replayer.ensures.agree c.in_ok-journals.ensures.halted c.in_ok-journals.ensures.journals

pub returns-clause-places : goal.returns-clause-places
returns-clause-places c =
    collected_fit c.args.script.now c.args.log.now c.in_ok-journals.journals c.in_ok-replayer.ensures.agree
    (collected c.args.script.now c.args.log.now c.in_ok-replayer.replayer c.collect.new.replayer c.in_ok-journals.journals c.in_ok-replayer.ensures.opens c.in_ok-journals.ensures.same.0 c.in_ok-journals.ensures.same.1
    c.in_ok-replayer.ensures.agree c.in_ok-journals.ensures.halted c.in_ok-journals.ensures.journals)
