use Rattle.octet_parallel.specs.Apart.{TakesCommands}
use Rattle.octet_parallel.proofs.apart.note_commands.Given as goal

abbrev pub invariant-loop-command : goal.invariant-loop-command
invariant-loop-command l = TakesCommands l.fn.uses l.thread l.commands l.command-index l.uses
