use Rattle.std.proofs.Common.{List, All, map, sym, ap, ◌∙◌, subst}
use Rattle.std.proofs.lemmas.List.Sorted.{All-permutation}
use Rattle.octet_outcomes.specs.declared.endings.Ending.{Ending}
use Rattle.octet_outcomes.specs.Endings.{IsEnding, heap_at, heap_of}
use Rattle.octet_outcomes.specs.Runs.{AreAllOutcomes}
use Rattle.octet_outcomes.proofs.Ends.{all_ended}
use Rattle.octet_outcomes.proofs.endings.endings_of.Goals as goal

pub returns-clause-each : goal.returns-clause-each
returns-clause-each c =
    subst (λ (es : List Ending). All (IsEnding c.args.script.now) es) (sym c.from_vec.ensures)
    (All-permutation (IsEnding c.args.script.now) c.in_ok-endings.endings.items c.in_order.result.items c.in_order.ensures c.in_ok-endings.ensures.each)

pub returns-clause-all : goal.returns-clause-all
returns-clause-all c whole =
    let s = c.args.found.now.moments in
    subst (λ (es : List Ending). AreAllOutcomes c.args.script.now (map heap_of es)) (sym c.from_vec.ensures)
    (all_ended c.args.script.now s c.args.found.now.edges.rows c.in_ok-places.places.items c.in_ok-endings.endings.items c.in_order.result.items c.requires.led whole c.requires.ways.some c.requires.ways.first
    c.in_ok-places.ensures (c.in_ok-endings.ensures.heaps ∙ ap (map (heap_at s.moments)) c.deref.ensures.value) c.in_order.ensures)
