use Rattle.std.proofs.Common.{◌≡◌, length}
use Rattle.octet_tail.proofs.Windowed.{AreFirst}
use Rattle.octet_tail.proofs.window.notes_all.Given as goal

abbrev pub invariant-loop-thread : goal.invariant-loop-thread
invariant-loop-thread l = record {
  noted : AreFirst l.fronts l.parts l.thread l.all.items;
  count : length l.all.items ≡ l.thread;
}
