use Rattle.std.proofs.Common.{take}
use Rattle.octet_watch.specs.Tally.{AnswersAt, CountsOn}
use Rattle.octet_watch.proofs.classes.Classes.count_journal.Given as goal

abbrev pub invariant-loop-event : goal.invariant-loop-event
invariant-loop-event g l =
    CountsOn (AnswersAt (λ shown answer. (goal.Fn-dyn g).post (l.self.class.vtable, l.self.class.value) (shown, tt) answer)) (take l.event-index l.journal) l.initial.numbers l.numbers
