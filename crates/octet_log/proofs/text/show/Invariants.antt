use Rattle.std.proofs.Common.{◌≡◌, ◌++◌, drop}
use Rattle.octet_log.specs.Texts.{thread_texts, log_text}
use Rattle.octet_log.proofs.text.show.Given as goal

-- what is written, and then the threads' texts that are left
abbrev pub invariant-loop-thread : goal.invariant-loop-thread
invariant-loop-thread l = l.out.items ++ thread_texts l.thread (drop l.thread l.thread_log-items) ≡ log_text l.log.threads
