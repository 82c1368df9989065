use Rattle.std.proofs.Common.{◌≡◌}
use Rattle.std.specs.Prelude.{replicate}
use Rattle.octet_marks.specs.Reading.{fresh}
use Rattle.octet_marks.proofs.reading.fresh_threads.Given as goal

abbrev pub invariant-loop : goal.invariant-loop
invariant-loop l = l.all.items ≡ replicate l.counter fresh
