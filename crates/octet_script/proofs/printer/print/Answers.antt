use Rattle.std.proofs.Common.{rules, ◌≡◌, refl, arith}
use Rattle.std.proofs.lemmas.Grind.{common_steps}
use Rattle.octet_script.specs.Spelling.{canonical_text}
use Rattle.octet_script.proofs.spelling.Canonical.{printed_spells}
use Rattle.octet_script.proofs.spelling.Printed.{first_line_written}
use Rattle.octet_script.proofs.printer.print.Goals as goal

pub loop-object-init : goal.loop-object-init
loop-object-init c = record {
  written = rw c.as_slice-objects.ensures (first_line_written c.args.script.now c.extend_from_slice-2.new.self.items (search rules));
  named = refl;
}

pub returns-clause-spells : goal.returns-clause-spells
returns-clause-spells c =
    let script = c.args.script.now in
    let text = c.loop-commands.out.items in
    let written : text ≡ canonical_text script = grind (arith, common_steps) in
    printed_spells script c.as_slice-objects.result.now c.loop-object.object-index text c.as_slice-objects.ensures (omega arith) c.loop-object.invariant.named written
