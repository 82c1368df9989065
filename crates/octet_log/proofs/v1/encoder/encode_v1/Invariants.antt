use Rattle.std.proofs.Common.{◌≡◌, ◌++◌, drop}
use Rattle.std.specs.List.{flat_map}
use Rattle.octet_model.specs.Texts.{thread_bytes, log_bytes}
use Rattle.octet_log.proofs.v1.encoder.encode_v1.Given as goal

-- what is written and what is left are the log's bytes
abbrev pub invariant-loop-thread : goal.invariant-loop-thread
invariant-loop-thread l = l.out.items ++ flat_map thread_bytes (drop l.thread-index l.thread-items) ≡ log_bytes l.log.threads
