use Rattle.std.proofs.Common.{take, replicate}
use Rattle.octet_watch.specs.Tally.{AnswersAt, all_events, CountsOn}
use Rattle.octet_watch.proofs.classes.Classes.tally.Given as goal

abbrev pub invariant-loop-journal : goal.invariant-loop-journal
invariant-loop-journal g l =
    CountsOn (AnswersAt (λ shown answer. (goal.Fn-dyn g).post (l.self.class.vtable, l.self.class.value) (shown, tt) answer)) (all_events (take l.journal-index l.journals)) (replicate l.self.count 0) l.numbers.items
