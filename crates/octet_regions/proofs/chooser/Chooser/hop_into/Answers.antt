use Rattle.std.proofs.Common.{ℕ, None, Option, Some, length, refl, sym, ◌∙◌, subst}
use Rattle.std.proofs.lemmas.Option.{slice_get_read, slice_get_within}
use Rattle.octet_regions.specs.code.Earlier.{region_of}
use Rattle.octet_regions.specs.code.Walk.{EarliestIs}
use Rattle.octet_regions.proofs.Walking.{from_differs, hop_behind, hop_is, some_above, some_earliest}
use Rattle.octet_regions.proofs.chooser.Chooser.hop_into.Goals as goal

pub unreachable-requires-in_default-lowest_unmet : goal.unreachable-requires-in_default-lowest_unmet
unreachable-requires-in_default-lowest_unmet c =
    let queue = slice_get_read c.args.self.now.queues.items (length c.args.self.now.queues.items) c.args.thread c.index-queue.result.now refl (slice_get_within c.args.self.now.queues.items c.args.thread c.requires.behind.queue c.requires.behind.is_there) c.index-queue.ensures in
    some_above c.args.accesses.now c.args.self.now c.requires.stuck c.args.thread c.index-queue.result.now queue c.in-Some.item (sym c.next.ensures ∙ c.in-Some.is) c.in_default-lowest_unmet.ensures

pub lowest_unmet-requires : goal.lowest_unmet-requires
lowest_unmet-requires c =
    let queue = slice_get_read c.args.self.now.queues.items (length c.args.self.now.queues.items) c.args.thread c.index-queue.result.now refl (slice_get_within c.args.self.now.queues.items c.args.thread c.requires.behind.queue c.requires.behind.is_there) c.index-queue.ensures in
    (c.requires.stuck.keeps.queues c.args.thread c.index-queue.result.now queue).within c.index-queue.result.now.taken c.in-Some.item (sym c.next.ensures ∙ c.in-Some.is)

pub earliest_before-requires-clause-differ : goal.earliest_before-requires-clause-differ
earliest_before-requires-clause-differ c =
    let queue = slice_get_read c.args.self.now.queues.items (length c.args.self.now.queues.items) c.args.thread c.index-queue.result.now refl (slice_get_within c.args.self.now.queues.items c.args.thread c.requires.behind.queue c.requires.behind.is_there) c.index-queue.ensures in
    from_differs c.args.accesses.now c.args.self.now c.requires.stuck c.args.thread c.index-queue.result.now queue c.in-Some.item (sym c.next.ensures ∙ c.in-Some.is) c.in-Some-lowest_unmet.from c.in-Some-lowest_unmet.ensures

pub unreachable-requires-in_default-2 : goal.unreachable-requires-in_default-2
unreachable-requires-in_default-2 c =
    let queue = slice_get_read c.args.self.now.queues.items (length c.args.self.now.queues.items) c.args.thread c.index-queue.result.now refl (slice_get_within c.args.self.now.queues.items c.args.thread c.requires.behind.queue c.requires.behind.is_there) c.index-queue.ensures in
    let from = c.in-Some-lowest_unmet.from in
    let earliest = subst (λ (o : Option ℕ). EarliestIs c.args.accesses.now from c.of-bound.result (region_of c.args.thread c.in-Some.item.number) o) c.in_default-2.is c.in_ok-number.ensures in
    some_earliest c.args.accesses.now c.args.self.now c.requires.stuck c.args.thread c.index-queue.result.now queue c.in-Some.item (sym c.next.ensures ∙ c.in-Some.is) from c.in-Some-lowest_unmet.ensures
    (subst (λ (b : ℕ). EarliestIs c.args.accesses.now from b (region_of c.args.thread c.in-Some.item.number) None) c.of-bound.ensures earliest)

pub returns-clause-hop : goal.returns-clause-hop
returns-clause-hop c =
    let queue = slice_get_read c.args.self.now.queues.items (length c.args.self.now.queues.items) c.args.thread c.index-queue.result.now refl (slice_get_within c.args.self.now.queues.items c.args.thread c.requires.behind.queue c.requires.behind.is_there) c.index-queue.ensures in
    let from = c.in-Some-lowest_unmet.from in
    let earliest = subst (λ (o : Option ℕ). EarliestIs c.args.accesses.now from c.of-bound.result (region_of c.args.thread c.in-Some.item.number) o) c.in-Some-2.is c.in_ok-number.ensures in
    hop_is c.args.accesses.now c.args.self.now c.requires.stuck c.args.thread c.index-queue.result.now queue c.in-Some.item (sym c.next.ensures ∙ c.in-Some.is) from c.in-Some-lowest_unmet.ensures c.in-Some-2.number
    (subst (λ (b : ℕ). EarliestIs c.args.accesses.now from b (region_of c.args.thread c.in-Some.item.number) (Some c.in-Some-2.number)) c.of-bound.ensures earliest)

pub returns-clause-behind : goal.returns-clause-behind
returns-clause-behind c =
    let queue = slice_get_read c.args.self.now.queues.items (length c.args.self.now.queues.items) c.args.thread c.index-queue.result.now refl (slice_get_within c.args.self.now.queues.items c.args.thread c.requires.behind.queue c.requires.behind.is_there) c.index-queue.ensures in
    let from = c.in-Some-lowest_unmet.from in
    let earliest = subst (λ (o : Option ℕ). EarliestIs c.args.accesses.now from c.of-bound.result (region_of c.args.thread c.in-Some.item.number) o) c.in-Some-2.is c.in_ok-number.ensures in
    hop_behind c.args.accesses.now c.args.self.now c.requires.stuck c.args.thread c.index-queue.result.now queue c.in-Some.item (sym c.next.ensures ∙ c.in-Some.is) from c.in-Some-lowest_unmet.ensures c.in-Some-2.number
    (subst (λ (b : ℕ). EarliestIs c.args.accesses.now from b (region_of c.args.thread c.in-Some.item.number) (Some c.in-Some-2.number)) c.of-bound.ensures earliest)
