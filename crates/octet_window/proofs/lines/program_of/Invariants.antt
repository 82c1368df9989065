use Rattle.std.proofs.Common.{◌≡◌, ◌++◌, drop}
use Rattle.octet_window.specs.Noting.{program_of}
use Rattle.octet_window.proofs.lines.program_of.Given as goal

abbrev pub invariant-loop-note : goal.invariant-loop-note
invariant-loop-note l = l.program ++ program_of (drop l.note-index l.notes) ≡ program_of l.notes
