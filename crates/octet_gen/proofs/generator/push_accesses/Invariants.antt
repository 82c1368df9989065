use Rattle.std.proofs.Common.{◌≡◌, ◌++◌}
use Rattle.octet_gen.specs.Generated.{number_after, accesses_from}
use Rattle.octet_gen.proofs.generator.push_accesses.Given as goal

abbrev pub invariant-loop-place : goal.invariant-loop-place
invariant-loop-place l =
    (l.commands ≡ l.initial.commands ++ accesses_from l.initial.draws.number 0 l.thread l._place)
    × (l.draws.number ≡ number_after l.initial.draws.number l._place)
