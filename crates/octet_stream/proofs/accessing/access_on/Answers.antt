use Rattle.std.proofs.Common.{Bool, subst}
use Rattle.octet_heap.specs.Calls.{access_to}
use Rattle.octet_stream.specs.Accesses.{MayAccess}
use Rattle.octet_stream.proofs.accessing.access_on.Goals as goal

pub returns-then-begun-clause-polls : goal.returns-then-begun-clause-polls
returns-then-begun-clause-polls c =
    let access = access_to c.args.object c.args.mode c.args.value in
    c.poll.ensures.polls access (subst (λ (begun : Bool). MayAccess begun access c.args.marker.now) c.if-begun.true c.requires.may)
