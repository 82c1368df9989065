use Rattle.std.proofs.Common.{◌≡◌, take}
use Rattle.octet_model.proofs.clone.clone_threads.Given as goal

abbrev pub invariant-loop-commands : goal.invariant-loop-commands
invariant-loop-commands l = l.copy ≡ take l.commands-index l.threads
