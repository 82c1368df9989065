use Rattle.std.proofs.Common.{◌≡◌, ◌++◌, drop}
use Rattle.std.specs.List.{flat_map}
use Rattle.octet_model.specs.Texts.{mark_bytes, thread_bytes}
use Rattle.octet_log.proofs.v1.encoder.push_thread.Given as goal

-- what is written and what is left are the thread's bytes
abbrev pub invariant-loop-gapped : goal.invariant-loop-gapped
invariant-loop-gapped l = l.out.items ++ flat_map mark_bytes (drop l.gapped-index l.gapped-items) ≡ l.fn.out.items ++ thread_bytes l.thread
