use Rattle.std.proofs.Common.{◌≡◌, rules}
use Rattle.octet_window.specs.Windows.{name_of}
use Rattle.octet_window.proofs.Names.{name_is_name}
use Rattle.octet_window.proofs.objects.name_of.Goals as goal

pub new-requires : goal.new-requires
new-requires c =
    let text : c.as_bytes.result.now ≡ name_of c.args.object = search rules in
    name_is_name c.args.object c.as_bytes.result.now c.ranges.object.fits text
