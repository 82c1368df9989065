use Rattle.std.proofs.Common.{[], ◌∷◌, get_or, take}
use Rattle.std.proofs.lemmas.List.{take_more}
use Rattle.octet_watch.proofs.Counting.{counts_more}
use Rattle.octet_watch.proofs.classes.Classes.count_journal.Goals as goal

pub loop-event-preserved : goal.loop-event-preserved
loop-event-preserved g c =
    counts_more _ (take c.loop-event.event-index c.args.journal.now) (get_or c.args.journal.now c.loop-event.event-index _ ∷ []) _ c.args.numbers.now c.loop-event.numbers _ c.loop-event.invariant
    c.add.ensures.counts
    (take_more c.args.journal.now c.loop-event.event-index _ c.loop-event-test.true)
