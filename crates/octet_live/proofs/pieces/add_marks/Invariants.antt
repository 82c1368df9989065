use Rattle.std.proofs.Common.{◌≡◌, length, Option, None}
use Rattle.octet_base.specs.Desk.{DeskState}
use Rattle.octet_base.specs.declared.fault.DeskFault.{DeskFault}
use Rattle.octet_live.specs.Drained.{AddsFront}
use Rattle.octet_live.proofs.pieces.add_marks.Given as goal

-- whatever comes of the marks that are left, comes of all
abbrev pub invariant-loop-left : goal.invariant-loop-left
invariant-loop-left g l =
    let state = g.D.Desk.state in
    record {
      whole : (kept : Option DeskFault) (end : DeskState) → AddsFront l.thread l.left None (state l.desk) kept end → AddsFront l.thread l.marks None (state l.fn.desk) kept end;
      begun : (state l.desk).begun ≡ (state l.fn.desk).begun;
    }

abbrev pub decreases-loop-left : goal.decreases-loop-left
decreases-loop-left g l = length l.left
