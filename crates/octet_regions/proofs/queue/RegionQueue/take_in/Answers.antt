use Rattle.std.proofs.Common.{rules, length, ◌≡◌, ℕ, ◌-◌, List, Some, ◌∷◌, ◌++◌, [], Vec, Global, slice_get, get_or, refl, sym, ap, ◌∙◌, subst, arith}
use Rattle.std.proofs.lemmas.Option.{slice_get_read}
use Rattle.octet_regions.specs.declared.queue.QueuedRegion.{QueuedRegion}
use Rattle.octet_regions.specs.code.Bounds.{bounds_of}
use Rattle.octet_regions.specs.code.Earlier.{KeepsQueue}
use Rattle.octet_regions.proofs.Queues.{queue_begins, queue_joins, same_region}
use Rattle.octet_regions.proofs.queue.RegionQueue.take_in.Goals.{else-many-gt0-via-then-many-gt0+else-index-region, else-many-gt0-via-else-many-gt0}
use Rattle.octet_regions.proofs.queue.RegionQueue.take_in.Goals as goal

pub returns-then-index-region-clause-keeps : goal.returns-then-index-region-clause-keeps
returns-then-index-region-clause-keeps c = λ seen access is rise by knows keeps.
    let queue = c.add_waits.new.self in
    let keeps' = subst (λ (regions : List QueuedRegion). KeepsQueue seen c.args.region.thread regions c.args.self.now.waits.items) (sym (ap (λ (v : Vec QueuedRegion Global). v.items) c.in_ok-add_waits.ensures.regions)) keeps in
    let last = c.len-many.result - 1 in
    let many : c.len-many.result ≡ length queue.regions.items = search rules in
    let at = slice_get_read queue.regions.items c.len-many.result last c.index_mut.result.now many (omega arith) c.index_mut.ensures.value in
    let at' = slice_get_read queue.regions.items c.len-many.result last c.index.result.now many (omega arith) c.index.ensures in
    let same : c.index_mut.result.now ≡ c.index.result.now = cc in
    let named : c.index_mut.result.now.number ≡ c.args.region.number = ap (λ (n : QueuedRegion). n.number) same ∙ c.if-index-region.true in
    queue_joins seen access c.args.region.thread c.args.region.number (is ∙ same_region c.args.region c.args.region.thread c.args.region.number refl refl) rise queue.regions.items c.args.self.now.waits.items queue.waits.items c.args.self.now.known queue.known (bounds_of c.args.conflicts) by
    c.in_ok-add_waits.ensures.adds knows keeps' last c.index_mut.result.now (record { number = c.index_mut.result.now.number; waits_upto = c.len-waits_upto.result }) at (omega (arith, many)) named named (search rules)

pub returns-clause-keeps : goal.returns-clause-keeps
returns-clause-keeps c = λ seen access is rise by knows keeps.
    let queue = c.add_waits.new.self in
    let keeps' = subst (λ (regions : List QueuedRegion). KeepsQueue seen c.args.region.thread regions c.args.self.now.waits.items) (sym (ap (λ (v : Vec QueuedRegion Global). v.items) c.in_ok-add_waits.ensures.regions)) keeps in
    let many : c.len-many.result ≡ length queue.regions.items = search rules in
    let item : QueuedRegion = record { number = c.args.region.number; waits_upto = c.len-waits_upto.result } in
    subst (λ (regions : List QueuedRegion). KeepsQueue (seen ++ access ∷ []) c.args.region.thread regions queue.waits.items) (sym c.in_ok-push.ensures.items)
    (queue_begins seen access c.args.region.thread c.args.region.number (is ∙ same_region c.args.region c.args.region.thread c.args.region.number refl refl) rise queue.regions.items c.args.self.now.waits.items queue.waits.items c.args.self.now.known queue.known (bounds_of c.args.conflicts) by
    c.in_ok-add_waits.ensures.adds knows keeps' item refl (search rules)
    (λ i last ends at. elim c.else-many-gt0.branch [
      | else-many-gt0-via-then-many-gt0+else-index-region w ↦ λ same. w.if-index-region.false (
          let at' : slice_get queue.regions.items i ≡ Some w.index.result.now = slice_get_read queue.regions.items c.len-many.result i w.index.result.now many (omega (arith, ends, many))
          (w.index.ensures ∙ ap (λ (k : ℕ). get_or queue.regions.items k w.index.result.now) (omega (arith, ends, many))) in
          let one : w.index.result.now ≡ last = cc in ap (λ (n : QueuedRegion). n.number) one ∙ same)
      | else-many-gt0-via-else-many-gt0 w ↦ absurd (omega (arith, ends, many, w.if-many-gt0.false))
    ]))
