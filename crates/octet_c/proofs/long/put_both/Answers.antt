use Rattle.std.proofs.Common.{sym}
use Rattle.octet_c.proofs.Pairs.{holds_of}
use Rattle.octet_c.proofs.long.put_both.Goals as goal

pub returns-clause-sessions : goal.returns-clause-sessions
returns-clause-sessions c = holds_of (λ held. held.value) c.args.boxes.0.items c.put_all.new.handles (c.put_all.ensures.ready (c.put_all.ensures.fits (sym c.requires.count.0)))

pub returns-clause-streams : goal.returns-clause-streams
returns-clause-streams c = holds_of (λ held. held.value) c.args.boxes.1.items c.put_all-2.new.handles (c.put_all-2.ensures.ready (c.put_all-2.ensures.fits (sym c.requires.count.1)))
