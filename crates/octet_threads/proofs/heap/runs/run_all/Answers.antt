use Rattle.std.proofs.Common.{rules}
use Rattle.octet_threads.specs.Runners.{IsSame}
use Rattle.octet_model.proofs.lemmas.Lists.{zip_of_each}
use Rattle.octet_threads.proofs.heap.runs.run_all.Goals as goal

pub returns-clause-same : goal.returns-clause-same
returns-clause-same g c = zip_of_each IsSame c.args.runners.now c.for_each_mut.new.s c.for_each_mut.auto.s (λ i d within. let at = (c.for_each_mut.ensures i d within).1 in search (rules, at.argument_is, at.left, at.call))
