use Rattle.std.proofs.Common.{◌≤◌, get_or, length, ap, arith, ◌∙◌}
use Rattle.std.proofs.lemmas.List.{take_at}
use Rattle.octet_watch.proofs.Counting.{counts_journal, tally_of_counts, length-tally, counts_by_function}
use Rattle.octet_watch.proofs.classes.Classes.tally.Goals as goal

pub loop-journal-preserved : goal.loop-journal-preserved
loop-journal-preserved g c =
    counts_journal _ c.args.journals.now c.loop-journal.journal-index c.as_slice.result.now c.journal-item.result _ c.loop-journal.numbers.items _ c.count_journal.new.numbers _
    (omega (arith, ap length c.as_slice-journal-items.ensures))
    (c.as_slice.ensures ∙ c.journal-item.is ∙ ap (λ journals. get_or journals c.loop-journal.journal-index c.journal-item.result) c.as_slice-journal-items.ensures)
    c.deref_mut.ensures.value
    (take_at c.count_journal.new.numbers _ _ (omega arith))
    c.loop-journal.invariant c.count_journal.ensures

pub returns-clause-tally : goal.returns-clause-tally
returns-clause-tally g c =
    let past : length c.args.journals.now ≤ c.loop-journal.journal-index = omega (arith, ap length c.as_slice-journal-items.ensures) in
    tally_of_counts _ c.args.self.now.count c.args.journals.now c.loop-journal.journal-index c.loop-journal.numbers.items c.from_vec.result past c.from_vec.ensures c.loop-journal.invariant

pub returns-clause-by_function : goal.returns-clause-by_function
returns-clause-by_function g c =
    let past : length c.args.journals.now ≤ c.loop-journal.journal-index = omega (arith, ap length c.as_slice-journal-items.ensures) in
    counts_by_function _ c.args.self.now.count c.args.journals.now c.from_vec.result
    (tally_of_counts _ c.args.self.now.count c.args.journals.now c.loop-journal.journal-index c.loop-journal.numbers.items c.from_vec.result past c.from_vec.ensures c.loop-journal.invariant)

pub returns-clause-length : goal.returns-clause-length
returns-clause-length g c =
    let past : length c.args.journals.now ≤ c.loop-journal.journal-index = omega (arith, ap length c.as_slice-journal-items.ensures) in
    length-tally _ c.args.self.now.count c.args.journals.now c.from_vec.result
    (tally_of_counts _ c.args.self.now.count c.args.journals.now c.loop-journal.journal-index c.loop-journal.numbers.items c.from_vec.result past c.from_vec.ensures c.loop-journal.invariant)
