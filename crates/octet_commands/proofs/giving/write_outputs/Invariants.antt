use Rattle.std.proofs.Common.{◌≡◌, None, Result, map, drop}
use Rattle.std.specs.List.{flat_map}
use Rattle.octet_base.specs.Desk.{DeskState}
use Rattle.octet_base.specs.declared.fault.DeskFault.{DeskFault}
use Rattle.octet_commands.specs.Answer.{file_of}
use Rattle.octet_commands.specs.Delivery.{Makes, file_acts}
use Rattle.octet_commands.proofs.giving.write_outputs.Given as goal

-- whatever comes of the files that are left, comes of all
abbrev pub invariant-loop-output : goal.invariant-loop-output
invariant-loop-output g l =
    let state = g.D.Desk.state in
    record {
      whole : (end : DeskState) (result : Result (Unit {0}) DeskFault)
          → Makes (flat_map file_acts (map file_of (drop l.output-index l.outputs))) (state l.desk) result end → Makes (flat_map file_acts (map file_of l.outputs)) (state l.fn.desk) result end;
      begun : (state l.desk).begun ≡ None;
    }
