use Rattle.std.proofs.Common.{rules}
use Rattle.octet_stream.proofs.HandingOn.{handed_on}
use Rattle.octet_stream.proofs.long_run.LongRun.hand_on.Goals as goal

pub returns-clause-own : goal.returns-clause-own
returns-clause-own c =
    handed_on c.args.self.now c.args.track.now _ c.args.ends c.requires.own c.requires.running c.clear.ensures.own c.clear.ensures.seat c.clear.ensures.pending c.clear.ensures.changing c.clear.ensures.emptied
    (search rules) (search rules) (search rules) (search rules) (search rules)
