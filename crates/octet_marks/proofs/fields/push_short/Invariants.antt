use Rattle.std.proofs.Common.{◌≡◌, ◌<◌, ◌-◌, ◌++◌}
use Rattle.octet_log.specs.v2.Short.{groups}
use Rattle.octet_log.proofs.version2.Groups.{room}
use Rattle.octet_marks.proofs.fields.push_short.Given as goal

-- what is written and the groups that are left are the number's bytes
abbrev pub invariant-loop : goal.invariant-loop
invariant-loop l = record {
  bytes : l.out.items ++ groups (9 - l.counter) l.left ≡ l.fn.out.items ++ groups 9 l.number;
  small : l.left < room (9 - l.counter);
}
