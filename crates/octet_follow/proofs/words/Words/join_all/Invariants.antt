use Rattle.std.proofs.Common.{◌≡◌, ℕ, ◌++◌, map, length}
use Rattle.octet_follow.specs.Seats.{view, BelongsTo, AreNumbered, left_by}
use Rattle.octet_follow.proofs.words.Words.join_all.Given as goal

abbrev pub decreases-loop-seats : goal.decreases-loop-seats
decreases-loop-seats l = length l.seats.items

abbrev pub invariant-loop-seats : goal.invariant-loop-seats
invariant-loop-seats l = BelongsTo l.self l.first × ((view l.first).number ≡ 0) × ((view l.first).follower ≡ (view l.initial.first).follower)
    × ((view l.first).joined ++ map left_by l.seats.items ≡ map left_by l.initial.seats.items) × ((t : ℕ) × AreNumbered l.self t l.seats.items)
