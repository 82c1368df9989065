use Rattle.std.proofs.Common.{◌≡◌, ◌+◌, [], length}
use Rattle.octet_rule.specs.Seats.{view, BelongsTo, IsFresh}
use Rattle.octet_rule.proofs.Ending.{AreFresh}
use Rattle.octet_rule.proofs.words.Words.split_all.Given as goal

abbrev pub invariant-loop-thread : goal.invariant-loop-thread
invariant-loop-thread l = BelongsTo l.self l.first × IsFresh 0 l.first × ((view l.first).seats_made ≡ l.thread) × ((view l.first).joined ≡ []) × AreFresh l.self 1 l.seats.items × (1 + length l.seats.items ≡ l.thread)
