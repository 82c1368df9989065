use Rattle.std.proofs.Common.{◌≡◌, ◌++◌, drop}
use Rattle.std.specs.List.{flat_map}
use Rattle.octet_log.specs.Texts.{mark_line, thread_text}
use Rattle.octet_log.proofs.text.push_thread.Given as goal

-- what is written, and then the lines that are left
abbrev pub invariant-loop-gapped : goal.invariant-loop-gapped
invariant-loop-gapped l = l.out.items ++ flat_map mark_line (drop l.gapped-index l.gapped-items) ≡ l.fn.out.items ++ thread_text l.thread l.log
