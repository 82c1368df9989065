use Rattle.std.proofs.Common.{length, ap, arith, length-append}
use Rattle.rtrb.specs.Ring.{known_items}
use Rattle.octet_stream.proofs.receiver.Receiver.take.Goals as goal

pub returns-clause-some : goal.returns-clause-some
returns-clause-some c = let more = c.in-Ok.ensures.ok.1 in omega (arith, ap length more.1, length-append (known_items c.args.self.now.end) more.0)
