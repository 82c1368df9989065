use Rattle.std.proofs.Common.{◌∙◌, sym}
use Rattle.std.proofs.lemmas.Bool.{ltb-true}
use Rattle.octet_script.proofs.spelling.Printed.{names_at}
use Rattle.octet_script.proofs.printer.name_of.Goals as goal

pub returns-in-Some : goal.returns-in-Some
returns-in-Some c =
    let lookup = c.in-Some.ensures.lookup in
    c.as_bytes.ensures.bytes ∙ names_at c.args.objects.now c.args.object c.in-Some.object.now (ltb-true c.args.object _ (sym lookup.0)) lookup.1
