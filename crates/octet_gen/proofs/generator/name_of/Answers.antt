use Rattle.std.proofs.Common.{◌≡◌, rules}
use Rattle.octet_gen.specs.Generated.{generated_name}
use Rattle.octet_gen.proofs.Names.{name_is_name}
use Rattle.octet_gen.proofs.generator.name_of.Goals as goal

pub new-requires : goal.new-requires
new-requires c =
    let text : c.as_bytes.result.now ≡ generated_name c.args.place = search rules in
    name_is_name c.args.place c.as_bytes.result.now c.requires text
