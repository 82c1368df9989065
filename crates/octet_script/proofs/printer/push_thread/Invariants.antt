use Rattle.std.proofs.Common.{◌≡◌, ◌++◌, drop, map}
use Rattle.std.specs.List.{flat_map}
use Rattle.octet_script.specs.Spelling.{object_names, canonical_line, command_form, thread_forms}
use Rattle.octet_script.proofs.printer.push_thread.Given as goal

abbrev pub invariant-loop-command : goal.invariant-loop-command
invariant-loop-command l =
    l.out.items ++ flat_map (canonical_line (object_names l.objects)) (map command_form (drop l.command-index l.commands)) ≡ l.fn.out.items ++ flat_map (canonical_line (object_names l.objects)) (thread_forms l.commands)
