use Rattle.std.proofs.Common.{List, map, ap, ◌∙◌}
use Rattle.octet_replay.specs.Threads.{end_told}
use Rattle.octet_replay.specs.declared.thread.ThreadReplay.{ThreadReplay}
use Rattle.octet_replay.proofs.Judging.{outcome_is}
use Rattle.octet_replay.proofs.ending.end.Goals as goal

pub returns-clause-outcome : goal.returns-clause-outcome
returns-clause-outcome c =
    outcome_is c.args.replay c.requires.at c.requires.halted c.in_ok-ends.ends c.in_ok-reads_of.field-0 c.from_vec.result
    (c.in_ok-ends.ensures ∙ ap (λ (threads : List ThreadReplay). map end_told threads) c.as_slice.ensures.value)
    c.in_ok-reads_of.ensures c.from_vec.ensures
