use Rattle.std.proofs.Common.{◌≡◌, ◌++◌, drop, length}
use Rattle.octet_window.specs.Noting.{AllIn}
use Rattle.octet_window.specs.Playing.{all_renamed, AllOf}
use Rattle.octet_window.proofs.scripts.all_renamed.Given as goal

abbrev pub invariant-loop-thread : goal.invariant-loop-thread
invariant-loop-thread l = record {
  renamed : l.others.items ++ all_renamed l.objects (drop l.thread-index l.threads) ≡ all_renamed l.objects l.threads;
  inside : AllIn (length l.objects) l.others.items;
  there : AllOf l.objects (drop l.thread-index l.threads);
}
