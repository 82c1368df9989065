use Rattle.octet_tail.proofs.Asking.{still_noted}
use Rattle.octet_tail.proofs.tailed.TailedSession.finish.Goals as goal

pub returns-clause-own : goal.returns-clause-own
returns-clause-own g c = (c.finish.ensures.own, still_noted c.args.thread.now.tail _ _ c.finish.ensures.marks c.requires.own.1)
