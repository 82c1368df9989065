use Rattle.octet_parallel.specs.Apart.{KnowsThreads, AreSeenIn}
use Rattle.octet_parallel.proofs.apart.note_threads.Given as goal

abbrev pub invariant-loop-thread : goal.invariant-loop-thread
invariant-loop-thread l = record {
  known : KnowsThreads l.uses l.threads l.thread;
  seen : AreSeenIn l.threads l.fn.uses → AreSeenIn l.threads l.uses;
}
