use Rattle.std.proofs.Common.{arith, ◌≡◌, ◌+◌, ◌++◌, ◌∙◌, ap, [], length, slice_index_or}
use Rattle.octet_ring.specs.Views.{received_of}
use Rattle.octet_ring.proofs.lemmas.Left.{all_taken}
use Rattle.octet_tests.proofs.ring_tests.take_rest.Goals as goal

pub returns-clause-all : goal.returns-clause-all
returns-clause-all c =
    let early = c.rest-left.ensures in
    let late = c.rest.ensures in
    let thread : c.rest-left.new.sender.thread ≡ c.args.thread = early.sender.0.1 ∙ c.requires.thread in
    let first : c.rest.new.sender.sent ≡ received_of c.rest-left.new.self c.args.thread ++ early.sent.0 =
    late.sender.1 ∙ early.sent.1 ∙ ap (λ n. received_of c.rest-left.new.self n ++ early.sent.0) thread in
    let then : c.rest.new.sender.sent ≡ received_of c.rest.new.self c.args.thread ++ late.sent.0 =
    late.sent.1 ∙ ap (λ n. received_of c.rest.new.self n ++ late.sent.0) (late.sender.0.1 ∙ thread) in
    let took : length (received_of c.rest.new.self c.args.thread) ≡ length (received_of c.rest-left.new.self c.args.thread) + c.rest-left.result =
    let all : c.loop.counter ≡ c.rest-left.result = omega (arith, c.loop-test.false, c.loop.auto.counter-end) in
    ap (λ lists. length (slice_index_or lists c.args.thread [])) late.received ∙ c.loop.invariant.1 ∙ ap (λ n. length (received_of c.rest-left.new.self c.args.thread) + n) all in
    all_taken c.rest.new.sender.sent (received_of c.rest-left.new.self c.args.thread) (received_of c.rest.new.self c.args.thread) early.sent.0 late.sent.0 c.rest-left.result first early.sent.2 took then
