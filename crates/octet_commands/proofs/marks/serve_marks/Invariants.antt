use Rattle.std.proofs.Common.{◌-◌}
use Rattle.octet_marks.specs.Files.{unread_of}
use Rattle.octet_commands.specs.declared.marks.TheConstants.{TOO_MANY_BYTES}
use Rattle.octet_commands.proofs.reading.Ended.{IsUnderWay}
use Rattle.octet_commands.proofs.marks.serve_marks.Given as goal

-- the pieces of the bytes that were taken were read, and said
abbrev pub invariant-loop-from : goal.invariant-loop-from
invariant-loop-from g l =
    let state = g.D.Desk.state in
    IsUnderWay l.name (state l.fn.desk) (state l.desk) l.from (unread_of l.reader)

abbrev pub decreases-loop-from : goal.decreases-loop-from
decreases-loop-from g l = TOO_MANY_BYTES - l.from
