use Rattle.octet_parallel.proofs.verdicts.Verdicts.{of_lawful, ordered_judged, unordered_judged}
use Rattle.octet_parallel.proofs.replay.judged.Goals as goal

pub ordered-requires : goal.ordered-requires
ordered-requires c = of_lawful c.args.script.now c.args.log.now c.args.finished c.requires

pub returns-then-is_ordered : goal.returns-then-is_ordered
returns-then-is_ordered c = ordered_judged c.args.script.now c.args.log.now.threads c.args.finished c.requires (c.in_ok-is_ordered.ensures.0 c.if-is_ordered.true)

pub returns : goal.returns
returns c = unordered_judged c.args.script.now c.args.log.now.threads c.args.finished c.requires (λ is. let yes = c.in_ok-is_ordered.ensures.1 is in let no = c.if-is_ordered.false in absurd cc)
