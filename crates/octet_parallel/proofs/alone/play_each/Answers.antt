use Rattle.std.proofs.Common.{rules}
use Rattle.octet_model.proofs.lemmas.Lists.{zip_of_each}
use Rattle.octet_parallel.specs.Alone.{PlaysAlone}
use Rattle.octet_parallel.proofs.alone.play_each.Goals as goal

pub returns : goal.returns
returns g c = zip_of_each (PlaysAlone c.args.log.now.threads) c.args.threads.now c.for_each_mut.new.s c.for_each_mut.auto.s (λ i d within. let at = (c.for_each_mut.ensures i d within).1 in search (rules, at.argument_is, at.left, at.call))
