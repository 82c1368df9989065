use Rattle.std.proofs.Common.{◌≡◌, Some, length, sym, ◌∙◌}
use Rattle.octet_model.specs.Thread.{access_of}
use Rattle.octet_parallel.proofs.uses.Known.{noted, object_there}
use Rattle.octet_parallel.proofs.apart.note.Goals as goal

pub returns-in-Some : goal.returns-in-Some
returns-in-Some c =
    let access = c.in-Some.access in
    let accesses : access_of c.args.command ≡ Some access = sym c.access.ensures ∙ c.in-Some.is in
    noted c.args.uses.now c.args.thread c.args.command access c.with_access.result
    (object_there (length c.args.uses.now) c.args.command access c.requires accesses) accesses _ c.with_access.ensures
