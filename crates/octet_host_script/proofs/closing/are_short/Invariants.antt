use Rattle.std.proofs.Common.{◌≡◌, ◌≤◌, ◌+◌, drop}
use Rattle.octet_log.specs.v2.Pieces.{marks_in}
use Rattle.octet_log.specs.declared.limits.TheConstants.{MAX_MARKS}
use Rattle.octet_host_script.proofs.closing.are_short.Given as goal

abbrev pub invariant-loop-log : goal.invariant-loop-log
invariant-loop-log l = record {
  sum : l.total + marks_in (drop l.log-index l.logs) ≡ marks_in l.logs;
  few : l.total ≤ MAX_MARKS;
}
