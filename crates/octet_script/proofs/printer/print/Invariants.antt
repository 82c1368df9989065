use Rattle.std.proofs.Common.{◌≡◌, ◌++◌, true, take, drop}
use Rattle.std.specs.List.{list_all}
use Rattle.octet_model.specs.declared.object.Object.{Object}
use Rattle.octet_model.specs.Name.{is_name}
use Rattle.octet_script.specs.Spelling.{object_names, canonical_text}
use Rattle.octet_script.proofs.spelling.Printed.{object_lines, thread_lines}
use Rattle.octet_script.proofs.printer.print.Given as goal

abbrev pub invariant-loop-object : goal.invariant-loop-object
invariant-loop-object l = record {
  written : l.out.items ++ object_lines (drop l.object-index l.objects) ++ thread_lines (object_names l.script.objects) l.script.threads ≡ canonical_text l.script;
  named : list_all (λ (o : Object). is_name o.name) (take l.object-index l.objects) ≡ true;
}

abbrev pub invariant-loop-commands : goal.invariant-loop-commands
invariant-loop-commands l =
    l.out.items ++ thread_lines (object_names l.script.objects) (drop l.commands-index l.commands-items) ≡ canonical_text l.script
