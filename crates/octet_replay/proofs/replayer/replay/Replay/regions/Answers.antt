use Rattle.std.proofs.Common.{◌<◌, length, rules, ◌∙◌}
use Rattle.octet_replay.proofs.Stepping.{has_thread, regions_are}
use Rattle.octet_replay.proofs.replayer.replay.Replay.regions.Goals as goal

pub index-requires : goal.index-requires
index-requires c =
    let within : c.args.thread < length c.args.self.now.threads.items = has_thread c.args.self.now c.requires.at c.args.thread c.requires.within in
    search rules

pub returns-clause-regions : goal.returns-clause-regions
returns-clause-regions c = c.regions.ensures.regions ∙ regions_are c.args.self.now c.requires.at c.args.thread c.index.result.now c.index.ensures c.requires.within
