use Rattle.std.proofs.Common.{◌≡◌, ◌+◌, ◌≤◌, length}
use Rattle.octet_ring.specs.Views.{received_of, known_of, SameRings}
use Rattle.octet_tests.proofs.ring_tests.take_rest.Given as goal

abbrev pub invariant-loop : goal.invariant-loop
invariant-loop l =
    (l.left ≤ known_of l.drain l.thread + l.counter)
    × (length (received_of l.drain l.thread) ≡ length (received_of l.initial.drain l.thread) + l.counter)
    × SameRings l.initial.drain l.drain
