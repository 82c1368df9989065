use Rattle.std.proofs.Common.{true, false, sym, ◌∙◌}
use Rattle.octet_regions.specs.code.Bounds.{bounds_of}
use Rattle.octet_regions.proofs.LastAccesses.{conflicts_by}
use Rattle.octet_regions.proofs.last.LastRegions.conflicts.Goals as goal

pub returns-then-writes : goal.returns-then-writes
returns-then-writes c = λ seen keeps.
    conflicts_by seen c.args.access (bounds_of c.beside.result) c.in-Some.object true c.args.self.now.all.objects.items (sym c.object.ensures ∙ c.in-Some.is) (sym c.writes.ensures ∙ c.if-writes.true) keeps.all c.beside.ensures

pub returns-else-writes : goal.returns-else-writes
returns-else-writes c = λ seen keeps.
    conflicts_by seen c.args.access (bounds_of c.beside-else-writes.result) c.in-Some.object false c.args.self.now.writing.objects.items (sym c.object.ensures ∙ c.in-Some.is) (sym c.writes.ensures ∙ c.if-writes.false) keeps.writing c.beside-else-writes.ensures
