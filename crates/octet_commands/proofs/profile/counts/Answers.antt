use Rattle.std.proofs.Common.{◌∙◌}
use Rattle.octet_commands.proofs.profiling.Counted.{counts_all}
use Rattle.octet_commands.proofs.profile.counts.Goals as goal

pub returns-clause-counts : goal.returns-clause-counts
returns-clause-counts c =
    c.in_ok-numbers.ensures.counts
    ∙ counts_all c.args.wanted c.args.script.now c.args.log.now c.in_ok-replayer.replayer c.count_steps.new.replayer c.in_ok-replayer.ensures.opens c.in_ok-numbers.ensures.same.0 c.in_ok-numbers.ensures.same.1
    c.in_ok-replayer.ensures.agree c.in_ok-numbers.ensures.halted
