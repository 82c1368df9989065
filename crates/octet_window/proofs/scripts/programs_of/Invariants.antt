use Rattle.std.proofs.Common.{◌≡◌, map, take}
use Rattle.octet_window.specs.Noting.{program_of}
use Rattle.octet_window.proofs.scripts.programs_of.Given as goal

abbrev pub invariant-loop-notes : goal.invariant-loop-notes
invariant-loop-notes l = l.programs ≡ map program_of (take l.notes-index l.threads)
