use Rattle.std.proofs.Common.{ap, ◌∙◌}
use Rattle.octet_model.specs.Traces.{trace_of}
use Rattle.octet_commands.specs.Slices.{is_match}
use Rattle.octet_commands.proofs.answering.Matches.{result_by}
use Rattle.octet_commands.proofs.stop.find_with.Goals as goal

pub returns-clause-found : goal.returns-clause-found
returns-clause-found g c =
    result_by _ _ (λ event answer given. c.requires.computes given.0 answer (rw c.new-kept.ensures at given.1) ∙ ap (is_match c.args.pair.now.wanted c.args.value) given.2)
    (trace_of c.args.pair.now.source.script c.args.pair.now.loaded.log.threads) c.first.result c.first.ensures.found
