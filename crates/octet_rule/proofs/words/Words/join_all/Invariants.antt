use Rattle.std.proofs.Common.{◌≡◌, ℕ, ◌++◌, map, length}
use Rattle.octet_rule.specs.Seats.{view, BelongsTo, RestsAs, AreResting, left_by}
use Rattle.octet_rule.proofs.words.Words.join_all.Given as goal

abbrev pub decreases-loop-seats : goal.decreases-loop-seats
decreases-loop-seats l = length l.seats.items

abbrev pub invariant-loop-seats : goal.invariant-loop-seats
invariant-loop-seats l = BelongsTo l.self l.first × RestsAs 0 l.first
    × ((view l.first).thread ≡ (view l.initial.first).thread) × ((view l.first).journal ≡ (view l.initial.first).journal)
    × ((view l.first).trail ≡ (view l.initial.first).trail)
    × ((view l.first).joined ++ map left_by l.seats.items ≡ map left_by l.initial.seats.items) × ((t : ℕ) × AreResting l.self t l.seats.items)
