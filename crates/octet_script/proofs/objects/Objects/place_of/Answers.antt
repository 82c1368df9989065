use Rattle.std.proofs.Common.{◌∙◌, List, ap}
use Rattle.octet_script.specs.Spelling.{Declaration, declared_names, object_named}
use Rattle.octet_script.proofs.spelling.Declared.{place_is}
use Rattle.octet_script.proofs.objects.Objects.place_of.Goals as goal

pub returns : goal.returns
returns c = c.get_index_of.ensures.index ∙ place_is c.args.name.now c.self.inside.starts.entries ∙ ap (λ (os : List Declaration). object_named (declared_names os) c.args.name.now) c.self.view_is
