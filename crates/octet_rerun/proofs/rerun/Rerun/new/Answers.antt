use Rattle.octet_rerun.proofs.Repeating.{orders_by}
use Rattle.octet_rerun.proofs.rerun.Rerun.new.Goals as goal

pub open-requires : goal.open-requires
open-requires c = record { ordered = orders_by c.args.script.now c.args.log.now.threads _ c.in_ok-first.ensures.verdict c.in-Ordered.is }
