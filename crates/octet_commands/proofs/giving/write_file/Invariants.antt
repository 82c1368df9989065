use Rattle.std.proofs.Common.{◌≡◌, length, Some, Result}
use Rattle.octet_base.specs.Desk.{DeskState}
use Rattle.octet_base.specs.declared.fault.DeskFault.{DeskFault}
use Rattle.octet_commands.specs.Delivery.{Makes, rest_acts, file_acts}
use Rattle.octet_commands.proofs.giving.write_file.Given as goal

-- whatever comes of what is left, comes of the whole file
abbrev pub invariant-loop-rest : goal.invariant-loop-rest
invariant-loop-rest g l =
    let state = g.D.Desk.state in
    record {
      whole : (end : DeskState) (result : Result (Unit {0}) DeskFault) → Makes (rest_acts l.rest) (state l.desk) result end → Makes (file_acts (l.name, l.bytes)) (state l.fn.desk) result end;
      begun : (state l.desk).begun ≡ Some l.name;
    }

abbrev pub decreases-loop-rest : goal.decreases-loop-rest
decreases-loop-rest g l = length l.rest
