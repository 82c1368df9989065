use Rattle.octet_slice.proofs.Seeking.{found_from}
use Rattle.octet_slice.proofs.finding.first.Goals as goal

pub returns-clause-found : goal.returns-clause-found
returns-clause-found g c = found_from _ c.args.script.now c.args.log.now c.in_ok-tracer.tracer c.seek-found.result c.in_ok-tracer.ensures.begins c.seek-found.ensures.found
