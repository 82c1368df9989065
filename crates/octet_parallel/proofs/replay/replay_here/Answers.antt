use Rattle.octet_parallel.proofs.verdicts.Verdicts.{judged_if_ordered, refused_judged}
use Rattle.octet_parallel.proofs.replay.replay_here.Goals as goal

pub returns-in-Ok : goal.returns-in-Ok
returns-in-Ok c =
    let found = c.outcome_if_ordered in
    judged_if_ordered c.args.script.now c.args.log.now.threads c.in-Ok.verified.verdict c.in-Ok.ensures.verdict found.result c.in-Ok.verified.outcome found.ensures.some found.ensures.none
    c.in-Ok.ensures.outcome

pub returns-in-Err : goal.returns-in-Err
returns-in-Err c = refused_judged c.args.script.now c.args.log.now.threads c.in-Err.fault c.none_unless_no_memory.result c.none_unless_no_memory.ensures c.in-Err.ensures.refused
