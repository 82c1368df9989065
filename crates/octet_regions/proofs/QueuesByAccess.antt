-- The queues of accesses, one access after another.
use Rattle.std.proofs.Common.{◌≡◌, ℕ, ◌+◌, ◌<◌, inl, inr, List, [], ◌∷◌, ◌++◌, length, Some, slice_get, slice_set, get_or, refl, sym, ◌∙◌, subst, arith, length-set, length-append}
use Rattle.std.proofs.lemmas.Option.{slice_get_read}
use Rattle.octet_model.specs.declared.event.Event.TheVariants.{Read}
use Rattle.octet_regions.specs.declared.access.Access.{Access}
use Rattle.octet_regions.specs.declared.queue.RegionQueue.{RegionQueue}
use Rattle.octet_regions.specs.declared.queue.QueuedRegion.{QueuedRegion}
use Rattle.octet_regions.specs.declared.queue.Wait.{Wait}
use Rattle.octet_regions.specs.declared.region.Region.{Region}
use Rattle.octet_regions.specs.Before.{IsRegion}
use Rattle.octet_regions.specs.code.Chooser.{AreEmptyQueues, AreQueuesOf, IsEmptyQueue, IsQueueOf}
use Rattle.octet_regions.specs.code.Earlier.{BoundConflicts, KeepsQueue, KnowsWaits, RegionsRise, region_of}
use Rattle.octet_regions.proofs.Queues.{queue_stays, set_cases}
use Rattle.octet_regions.proofs.LastAccesses.{last_cases}

-- what is read where there is none
abbrev pub no_access : Access
no_access = record { region = record { thread = 0; number = 0 }; event = Read 0 0 }

no_region : (region : Region) → ¬ IsRegion [] region
no_region region r = cc (r.is_there)

pub empty_more : (threads : ℕ) (queues more : List RegionQueue) (queue : RegionQueue) → more ≡ queues ++ queue ∷ [] → IsEmptyQueue queue → AreEmptyQueues threads queues → AreEmptyQueues (threads + 1) more
empty_more threads queues more queue is empty are = subst (λ (l : List RegionQueue). AreEmptyQueues (threads + 1) l) (sym is) (record {
  as_many = omega (arith, are.as_many, length-append queues (queue ∷ []));
  each = λ thread one at. elim (last_cases queues queue thread one at) [
    | inl old ↦ are.each thread one old
    | inr new ↦ subst IsEmptyQueue (sym new.1) empty
  ];
})

pub queues_begin : (threads : ℕ) (queues : List RegionQueue) → AreEmptyQueues threads queues → AreQueuesOf threads [] queues
queues_begin threads queues empty = record {
  as_many = empty.as_many;
  each = λ thread queue is.
      let e = empty.each thread queue is in record {
        keeps = subst (λ (waits : List Wait). KeepsQueue [] thread queue.regions.items waits) (sym e.waits) (subst (λ (regions : List QueuedRegion). KeepsQueue [] thread regions []) (sym e.regions) (record {
          rising = λ i j one other lt is_one is_other. absurd cc;
          each = λ i item is_node. absurd cc;
          all = λ number r. absurd (no_region (region_of thread number) r);
          in_order = λ i j one other lt is_one is_other. absurd cc;
          within = λ i item is_node. absurd cc;
          spanned = λ k lt. absurd (omega (arith, lt));
          held = λ i k item wait is_node at lt earlier. absurd cc;
          awaited = λ i item region is_node before. absurd cc;
        }));
        knows = λ other number lt. absurd (omega (arith, lt, e.known other));
        taken = e.taken;
        over = e.over;
      };
}

-- with one more access
pub queues_more : (threads : ℕ) (seen : List Access) (access : Access) (queues : List RegionQueue) (old new : RegionQueue) (conflicts : ℕ → ℕ) → RegionsRise (seen ++ access ∷ []) → AreQueuesOf threads seen queues → access.region.thread < length queues
    → old ≡ get_or queues access.region.thread old → BoundConflicts seen access conflicts → new.taken ≡ old.taken → new.over ≡ old.over → (KnowsWaits old.waits.items old.known → KnowsWaits new.waits.items new.known)
    → ((seen : List Access) (one : Access) → one.region ≡ access.region → RegionsRise (seen ++ one ∷ []) → BoundConflicts seen one conflicts → KnowsWaits old.waits.items old.known
    → KeepsQueue seen access.region.thread old.regions.items old.waits.items → KeepsQueue (seen ++ one ∷ []) access.region.thread new.regions.items new.waits.items)
    → AreQueuesOf threads (seen ++ access ∷ []) (slice_set queues access.region.thread new)
queues_more threads seen access queues old new conflicts rise are within was by taken over knows kept = record {
  as_many = length-set queues access.region.thread new ∙ are.as_many;
  each = λ thread queue is. elim (set_cases queues access.region.thread thread queue new within is) [
    | inl here ↦
        let at : slice_get queues access.region.thread ≡ Some old = slice_get_read queues (length queues) access.region.thread old refl within was in
        let had = are.each access.region.thread old at in
        subst (λ (l : RegionQueue). IsQueueOf (seen ++ access ∷ []) thread l) (sym here.1)
        (subst (λ (t : ℕ). IsQueueOf (seen ++ access ∷ []) t new) (sym here.0) (record {
          keeps = kept seen access refl rise by had.knows had.keeps;
          knows = knows had.knows;
          taken = taken ∙ had.taken;
          over = over ∙ had.over;
        }))
    | inr there ↦
        let had = are.each thread queue there.1 in
        record { keeps = queue_stays seen access thread queue.regions.items queue.waits.items there.0 had.keeps; knows = had.knows; taken = had.taken; over = had.over }
  ];
}
