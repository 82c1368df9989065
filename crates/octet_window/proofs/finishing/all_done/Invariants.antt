use Rattle.std.proofs.Common.{◌≡◌, take}
use Rattle.octet_window.specs.Recorded.{all_done}
use Rattle.octet_window.proofs.finishing.all_done.Given as goal

abbrev pub invariant-loop-journal : goal.invariant-loop-journal
invariant-loop-journal l = l.ends ≡ all_done (take l._journal-index l.journals)
