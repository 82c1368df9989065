use Rattle.std.proofs.Common.{◌≡◌, ◌+◌, [], length}
use Rattle.octet_seats.specs.Rows.{AreInRow}
use Rattle.octet_follow.specs.Seats.{view, BelongsTo, IsFresh, IsFreshSeat}
use Rattle.octet_follow.proofs.words.Words.split_all.Given as goal

abbrev pub invariant-loop : goal.invariant-loop
invariant-loop l = BelongsTo l.self l.first × IsFresh 0 l.first × ((view l.first).followers_made ≡ l.counter) × ((view l.first).joined ≡ []) × AreInRow (IsFreshSeat l.self) 1 l.seats.items × (1 + length l.seats.items ≡ l.counter)
