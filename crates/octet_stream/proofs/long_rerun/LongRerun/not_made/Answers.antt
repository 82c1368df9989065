use Rattle.std.proofs.Common.{Some}
use Rattle.octet_stream.proofs.Reasons.{reason_same}
use Rattle.octet_stream.proofs.long_rerun.LongRerun.not_made.Goals as goal

pub returns-clause-reason : goal.returns-clause-reason
returns-clause-reason c = reason_same c.hold-why.new.thread _ c.args.self.now (Some c.args.wanted) _ c.hold-why.ensures.reason
