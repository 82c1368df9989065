use Rattle.std.proofs.Common.{◌≡◌, [], drop}
use Rattle.octet_window.specs.Noting.{touched_in}
use Rattle.octet_window.proofs.touching.touched_in.Given as goal

abbrev pub invariant-loop-thread : goal.invariant-loop-thread
invariant-loop-thread l = touched_in l.objects.items (drop l.thread-index l.threads) ≡ touched_in [] l.threads
