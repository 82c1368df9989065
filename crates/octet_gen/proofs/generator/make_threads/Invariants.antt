use Rattle.std.proofs.Common.{◌≡◌, ◌*◌}
use Rattle.octet_gen.specs.Generated.{number_after, generated_threads}
use Rattle.octet_gen.proofs.generator.make_threads.Given as goal

abbrev pub invariant-loop-thread : goal.invariant-loop-thread
invariant-loop-thread l =
    (l.threads ≡ generated_threads l.number l.thread)
    × (l.draws.number ≡ number_after l.number (16 * l.thread))
