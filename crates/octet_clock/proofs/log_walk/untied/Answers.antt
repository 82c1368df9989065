use Rattle.octet_clock.proofs.plays.WalksAlone.{untied_decided}
use Rattle.octet_clock.proofs.log_walk.untied.Goals as goal

pub returns : goal.returns
returns c =
    untied_decided c.args.log.now.threads c.run.new.self c.run.ensures.at c.run.ensures.halted c.as_slice.result.now c.as_slice.ensures c.has_made_all.result c.has_made_all.ensures.all c.has_made_all.ensures.some
