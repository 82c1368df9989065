use Rattle.std.proofs.Common.{◌+◌, slice_index, slice_set, ap, ◌∙◌}
use Rattle.octet_watch.specs.Tally.{saturated}
use Rattle.octet_watch.proofs.Counting.{counts_one}
use Rattle.octet_watch.proofs.classes.Classes.add.Goals as goal

pub returns-clause-counts : goal.returns-clause-counts
returns-clause-counts g c = counts_one _ _ c.class_of-class.result c.args.numbers.now _ c.class_of-class.ensures.answer c.count_one.ensures

pub returns-clause-by_function : goal.returns-clause-by_function
returns-clause-by_function g c = λ class_of each.
    c.count_one.ensures ∙ ap (λ k. slice_set c.args.numbers.now k (saturated (slice_index c.args.numbers.now k + 1))) (each _ _ c.class_of-class.ensures.answer)
