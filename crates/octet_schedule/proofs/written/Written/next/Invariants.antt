use Rattle.std.proofs.Common.{◌≡◌, ◌≤◌, ◌<◌, ℕ, false, get_or}
use Rattle.octet_schedule.proofs.written.Written.next.Given as goal

abbrev pub invariant-loop-at : goal.invariant-loop-at
invariant-loop-at l =
    (l.self ≡ l.initial.self)
    × ((before : ℕ) → l.initial.self.place ≤ before → before < l.at → get_or l.ready (get_or l.initial.self.picks.items before 0) false ≡ false)
