-- The walk through regions that are left.
use Rattle.std.proofs.Common.{◌≡◌, ◌≢◌, ℕ, zero, suc, ◌-◌, ◌<◌, ◌≤◌, ◌⊎◌, inl, inr, Bool, true, false, ◌||◌, ◌&&◌, ◌==◌, IsTrue, List, [], ◌∷◌, ◌++◌, length, Option, Some, None, slice_get, slice_set, get_or, take, drop, refl, sym, ap, ◌∙◌, subst, arith, length-append}
use Rattle.std.proofs.lemmas.Bool.{cases_eq, cases_lt, and_parts, and_from, eqb-true, eq-eqb}
use Rattle.std.proofs.lemmas.Option.{slice_get_within, slice_get-get_or}
use Rattle.std.proofs.lemmas.List.{take-append-drop}
use Rattle.octet_model.specs.HappensBefore.{is_write}
use Rattle.octet_model.proofs.lemmas.Lists.{slice_get-append, slice_get_last}
use Rattle.octet_regions.specs.declared.access.Access.{Access}
use Rattle.octet_regions.specs.declared.chooser.Chooser.{Chooser}
use Rattle.octet_regions.specs.declared.queue.RegionQueue.{RegionQueue}
use Rattle.octet_regions.specs.declared.queue.QueuedRegion.{QueuedRegion}
use Rattle.octet_regions.specs.declared.last.LastRegions.{LastRegions}
use Rattle.octet_regions.specs.declared.region.Hop.{Hop}
use Rattle.octet_regions.specs.declared.region.Region.{Region}
use Rattle.octet_regions.specs.Before.{InConflict, RegionBefore}
use Rattle.octet_regions.specs.code.Bounds.{bound_in}
use Rattle.octet_regions.specs.Choice.{IsCycle, IsHop, IsLowestLeft, IsWalk, TakesAll, walk_end}
use Rattle.octet_regions.specs.code.Chooser.{IsBehind, IsStuck, KeepsChoice, LowestBehind}
use Rattle.octet_regions.specs.code.Earlier.{BoundConflicts, Conflicts, KeepsLast, LowestUnmet, RegionsRise, region_of}
use Rattle.octet_regions.specs.code.Walk.{EarliestFrom, EarliestIs, HasInto, IsFrom, NotesFrom, WalksTo}
use Rattle.octet_regions.proofs.LastAccesses.{last_cases}
use Rattle.octet_regions.proofs.Queues.{same_region, set_elsewhere, set_there}
use Rattle.octet_regions.proofs.Choosing.{before_left, free_is, got, none_left, left_above, left_from, left_is_above, next_is}

or_comm : (a b : Bool) → IsTrue (a || b) → IsTrue (b || a)
or_comm true true is = refl
or_comm true false is = refl
or_comm false true is = refl
or_comm false false is = is

pub other_way : (a b : Access) → InConflict a b → InConflict b a
other_way a b c = record { by_others = λ same. c.by_others (sym same); object = c.object; of_one = c.of_same; of_same = c.of_one; one_writes = or_comm (is_write a.event) (is_write b.event) c.one_writes }

-- nothing is behind the end
pub notes_none : (accesses : List Access) (region : Region) (later : LastRegions) → KeepsLast [] later → NotesFrom accesses (length accesses) region later
notes_none accesses region later keeps = record {
  seen = [];
  keeps = keeps;
  from_there = λ i access is. absurd cc;
  all = λ j access ge is in_region. absurd (omega (arith, ge, slice_get_within accesses j access is));
}

pub found_none : (accesses : List Access) (thread from : ℕ) (region : Region) → EarliestFrom accesses (length accesses) thread from region None
found_none accesses thread from region = λ other before ge past. omega (arith, past, slice_get_within accesses before.first before.one before.is_first)

-- from the start on is at all
pub found_is : (accesses : List Access) (place thread from : ℕ) (region : Region) (found : Option ℕ) → place ≤ 0 → EarliestFrom accesses place thread from region found → EarliestIs accesses thread from region found
found_is accesses place thread from region (Some number) start is = (is.0, is.1, λ other before ge. is.2 other before ge (omega arith))
found_is accesses place thread from region None start is = λ other before ge. is other before ge (omega arith)

module _ (accesses : List Access) (place thread from : ℕ) (region : Region) (later : LastRegions) (access : Access) (differ : thread ≢ region.thread) (rise : RegionsRise accesses)
    (here : slice_get accesses place ≡ Some access) where
  at_place : (other : ℕ) (before : RegionBefore accesses (region_of thread other) region) → place ≤ before.first → (suc place ≤ before.first) ⊎ ((before.first ≡ place) × (before.one ≡ access))
  at_place other before ge = elim (cases_eq before.first place) [
    | inl same ↦ inr (same, (let a : slice_get accesses place ≡ Some before.one = ap (slice_get accesses) (sym same) ∙ before.is_first in cc))
    | inr not ↦ inl (omega (arith, ge, not))
  ]

  found_still : (found : Option ℕ) → ((other : ℕ) (before : RegionBefore accesses (region_of thread other) region) → from ≤ other → before.first ≡ place → ¬ (before.one ≡ access)) → EarliestFrom accesses (suc place) thread from region found → EarliestFrom accesses place thread from region found
  found_still (Some number) none is = (is.0, is.1, λ other before ge past. elim (at_place other before past) [ inl on ↦ is.2 other before ge on | inr one ↦ absurd (none other before ge one.0 one.1) ])
  found_still None none is = λ other before ge past. elim (at_place other before past) [ inl on ↦ is other before ge on | inr one ↦ none other before ge one.0 one.1 ]

  -- an access of the region itself is noted, and is before nothing of it
  pub noted_more : (after : LastRegions) → access.region ≡ region → ((seen : List Access) → KeepsLast seen later → KeepsLast (seen ++ access ∷ []) after) → NotesFrom accesses (suc place) region later → NotesFrom accesses place region after
  noted_more after own kept notes = record {
    seen = notes.seen ++ access ∷ [];
    keeps = kept notes.seen notes.keeps;
    from_there = λ i one is. elim (last_cases notes.seen access i one is) [
      | inl old ↦ (let f = notes.from_there i one old in (f.0, (f.1.0, omega (arith, f.1.1), f.1.2)))
      | inr new ↦ (ap (λ (a : Access). a.region) new.1 ∙ own, (place, omega arith, here ∙ ap (λ (a : Access). Some a) (sym new.1)))
    ];
    all = λ j one ge is in_region. elim (cases_eq j place) [
      | inl same ↦ (length notes.seen, (let a : slice_get accesses place ≡ Some one = ap (slice_get accesses) (sym same) ∙ is in let one_is : one ≡ access = cc in slice_get_last notes.seen access ∙ ap (λ (a : Access). Some a) (sym one_is)))
      | inr not ↦ (let k = notes.all j one (omega (arith, ge, not)) is in_region in (k.0, slice_get-append notes.seen (access ∷ []) k.0 one k.1))
    ];
  }

  pub own_is_not_before : (found : Option ℕ) → access.region ≡ region → EarliestFrom accesses (suc place) thread from region found → EarliestFrom accesses place thread from region found
  own_is_not_before found own is =
      found_still found (λ other before ge at one. differ (sym (ap (λ (q : Region). q.thread) before.in_region) ∙ ap (λ (a : Access). a.region.thread) one ∙ ap (λ (q : Region). q.thread) own)) is

  -- another one is not noted
  pub noted_still : access.region ≢ region → NotesFrom accesses (suc place) region later → NotesFrom accesses place region later
  noted_still other notes = record {
    seen = notes.seen;
    keeps = notes.keeps;
    from_there = λ i one is. (let f = notes.from_there i one is in (f.0, (f.1.0, omega (arith, f.1.1), f.1.2)));
    all = λ j one ge is in_region. elim (cases_eq j place) [
      | inl same ↦ absurd (other (let a : slice_get accesses place ≡ Some one = ap (slice_get accesses) (sym same) ∙ is in let one_is : one ≡ access = cc in ap (λ (a : Access). a.region) (sym one_is) ∙ in_region))
      | inr not ↦ notes.all j one (omega (arith, ge, not)) is in_region
    ];
  }

  -- it is found where it is before the region
  pub found_here : NotesFrom accesses (suc place) region later
      → ((seen : List Access) → KeepsLast seen later → (access.region.thread ≡ thread) × (from ≤ access.region.number) × ((number : ℕ) × Conflicts seen (region_of region.thread number) access))
      → EarliestFrom accesses place thread from region (Some access.region.number)
  found_here notes told =
      let y = told notes.seen notes.keeps in
      let c = y.2.1 in
      let f = notes.from_there c.place c.one c.is_there in (
        y.1,
        record {
          first = place;
          second = f.1.0;
          one = access;
          two = c.one;
          earlier = omega (arith, f.1.1);
          is_first = here;
          is_second = f.1.2;
          in_region = same_region access.region thread access.region.number y.0 refl;
          in_other = f.0;
          conflict = other_way c.one access c.conflict;
        },
        λ other before ge past. elim (at_place other before past) [
          | inl on ↦
              let r = rise place before.first access before.one on here before.is_first (y.0 ∙ sym (ap (λ (q : Region). q.thread) before.in_region)) in
              omega (arith, r, ap (λ (q : Region). q.number) before.in_region)
          | inr one ↦ omega (arith, ap (λ (a : Access). a.region.number) one.1, ap (λ (q : Region). q.number) before.in_region)
        ],
      )

  -- and else nothing is found here
  pub found_not : (found : Option ℕ) → NotesFrom accesses (suc place) region later
      → ((seen : List Access) → KeepsLast seen later → access.region.thread ≡ thread → from ≤ access.region.number → (number : ℕ) → ¬ Conflicts seen (region_of region.thread number) access)
      → EarliestFrom accesses (suc place) thread from region found → EarliestFrom accesses place thread from region found
  found_not found notes told is =
      found_still found (λ other before ge at one.
      let own : access.region ≡ region_of thread other = ap (λ (a : Access). a.region) (sym one) ∙ before.in_region in
      let past : suc place ≤ before.second = omega (arith, before.earlier, at) in
      let k = notes.all before.second before.two past before.is_second before.in_other in
      told notes.seen notes.keeps (ap (λ (q : Region). q.thread) own) (omega (arith, ge, ap (λ (q : Region). q.number) own)) region.number (record {
        place = k.0;
        one = before.two;
        is_there = k.1;
        in_region = before.in_other;
        conflict = subst (λ (a : Access). InConflict before.two a) one (other_way before.one before.two before.conflict);
      })) is

-- what is_before tells, by the bound of the conflicts
module _ (later : LastRegions) (access : Access) (other : ℕ) (bound : ℕ → ℕ) (differ : access.region.thread ≢ other) (by : (seen : List Access) → KeepsLast seen later → BoundConflicts seen access bound) where
  pub some_conflict : 0 < bound other → (seen : List Access) → KeepsLast seen later → (number : ℕ) × Conflicts seen (region_of other number) access
  some_conflict above seen keeps = let number = bound other - 1 in (number, (by seen keeps other (λ same. differ (sym same))).reached number (omega (arith, above)))

  pub no_conflict : bound other ≤ 0 → (seen : List Access) → KeepsLast seen later → (number : ℕ) → ¬ Conflicts seen (region_of other number) access
  no_conflict none seen keeps number c = omega (arith, none, (by seen keeps other (λ same. differ (sym same))).below number c)

-- the hop into a thread's next region, where the choice ended
module _ (accesses : List Access) (chooser : Chooser) (stuck : IsStuck accesses chooser) (thread : ℕ) (queue : RegionQueue) (is_queue : slice_get chooser.queues.items thread ≡ Some queue) (item : QueuedRegion)
    (at : slice_get queue.regions.items queue.taken ≡ Some item) where
  -- some bound is above what was taken
  pub some_above : LowestUnmet queue chooser.upto item.waits_upto None → ⊥
  some_above none = stuck.none_free (region_of thread item.number) (free_is accesses chooser stuck.keeps thread queue is_queue item at none)

  module _ (from : ℕ) (lowest : LowestUnmet queue chooser.upto item.waits_upto (Some from)) where
    -- which is another one
    pub from_differs : from ≢ thread
    from_differs same =
        let b = before_left accesses chooser stuck.keeps thread queue is_queue item from at lowest.0 in
        b.2.conflict.by_others (ap (λ (q : Region). q.thread) b.2.in_region ∙ same ∙ sym (ap (λ (q : Region). q.thread) b.2.in_other))

    -- so some region of that thread is left and before
    pub some_earliest : EarliestIs accesses from (bound_in chooser.upto from) (region_of thread item.number) None → ⊥
    some_earliest none =
        let b = before_left accesses chooser stuck.keeps thread queue is_queue item from at lowest.0 in
        none b.0 b.2 (left_above accesses chooser stuck.keeps (region_of from b.0) b.1)

    pub hop_is : (number : ℕ) → EarliestIs accesses from (bound_in chooser.upto from) (region_of thread item.number) (Some number)
        → IsHop accesses chooser.order.items (record { before = region_of from number; after = region_of thread item.number })
    hop_is number earliest =
        let before = earliest.1 in
        record {
          into_next = next_is accesses chooser stuck.keeps thread queue is_queue item at;
          left = left_from accesses chooser stuck.keeps (region_of from number) (record { place = before.first; access = before.one; is_there = before.is_first; in_region = before.in_region }) earliest.0;
          is_before = before;
          lowest = λ other left is. elim (cases_lt other.thread from) [
            | inl lt ↦ absurd (lowest.1 other.thread lt (left_is_above accesses chooser stuck.keeps thread queue is_queue item other at left is))
            | inr ge ↦ omega arith
          ];
          earliest = λ other left is same.
              let other_is = same_region other from other.number same refl in
              earliest.2 other.number (subst (λ (r : Region). RegionBefore accesses r (region_of thread item.number)) other_is is)
              (subst (λ (t : ℕ). bound_in chooser.upto t ≤ other.number) same (left_above accesses chooser stuck.keeps other left));
        }

    pub hop_behind : (number : ℕ) → EarliestIs accesses from (bound_in chooser.upto from) (region_of thread item.number) (Some number) → IsBehind chooser.queues.items from
    hop_behind number earliest =
        let before = before_left accesses chooser stuck.keeps thread queue is_queue item from at lowest.0 in
        let l = got chooser.queues.items from (stuck.keeps.there (region_of from before.0) before.1.is_region) in
        elim (cases_lt l.0.taken (length l.0.regions.items)) [
          | inl lt ↦ record { queue = l.0; is_there = l.1; behind = lt }
          | inr ge ↦ absurd (none_left accesses chooser stuck.keeps from l.0 l.1 (omega arith) number (hop_is number earliest).left)
        ]

-- regions are equal where the test says so
pub equal_if : (a b : Region) → ((a.thread == b.thread) && (a.number == b.number)) ≡ true → a ≡ b
equal_if a b is = let parts = and_parts (a.thread == b.thread) (a.number == b.number) is in same_region a b.thread b.number (eqb-true a.thread b.thread parts.0) (eqb-true a.number b.number parts.1)

pub differ_if : (a b : Region) → ((a.thread == b.thread) && (a.number == b.number)) ≡ false → a ≢ b
differ_if a b is same =
    let yes_ : ((a.thread == b.thread) && (a.number == b.number)) ≡ true = and_from (a.thread == b.thread) (a.number == b.number) (eq-eqb a.thread b.thread (ap (λ (r : Region). r.thread) same)) (eq-eqb a.number b.number (ap (λ (r : Region). r.number) same)) in
    let none : true ≡ false = sym yes_ ∙ is in cc

-- the hops behind a place
drop_first : {X : Type 0} (xs : List X) (i : ℕ) (x : X) → slice_get xs i ≡ Some x → slice_get (drop i xs) 0 ≡ Some x
drop_first [] i x is = absurd cc
drop_first (y ∷ xs) zero x is = is
drop_first (y ∷ xs) (suc i) x is = drop_first xs i x is

pub from_here : (hops rest : List Hop) (first thread : ℕ) (hop : Hop) → rest ≡ drop first hops → slice_get hops first ≡ Some hop → hop.after.thread ≡ thread → IsFrom hops thread rest
from_here hops rest first thread hop is at into = record {
  lead = take first hops;
  parts = sym (ap (λ (r : List Hop). take first hops ++ r) is ∙ take-append-drop first hops);
  first = hop;
  is_first = ap (λ (r : List Hop). slice_get r 0) is ∙ drop_first hops first hop at;
  into = into;
}

-- a walk with one hop more
walk_more : (accesses : List Access) (taken : List Region) (start : ℕ) (hops : List Hop) (hop : Hop) → IsWalk accesses taken start hops → hop.after.thread ≡ walk_end start hops → IsHop accesses taken hop
    → IsWalk accesses taken start (hops ++ hop ∷ [])
walk_more accesses taken start [] hop walks into is = (into, is, tt)
walk_more accesses taken start (one ∷ hops) hop walks into is = (walks.0, walks.1, walk_more accesses taken one.before.thread hops hop walks.2 into is)

end_more : (start : ℕ) (hops : List Hop) (hop : Hop) → walk_end start (hops ++ hop ∷ []) ≡ hop.before.thread
end_more start [] hop = refl
end_more start (one ∷ hops) hop = end_more one.before.thread hops hop

pub walks_more : (accesses : List Access) (taken : List Region) (start at : ℕ) (came : List Bool) (hops after : List Hop) (hop : Hop) → at < length came → get_or came at false ≡ false → WalksTo accesses taken start at came hops
    → hop.after.thread ≡ at → IsHop accesses taken hop → after ≡ hops ++ hop ∷ [] → WalksTo accesses taken start hop.before.thread (slice_set came at true) after
walks_more accesses taken start at came hops after hop within fresh walks into is after_is = subst (λ (hs : List Hop). WalksTo accesses taken start hop.before.thread (slice_set came at true) hs) (sym after_is) (record {
  walks = walk_more accesses taken start hops hop walks.walks (into ∙ sym walks.ends) is;
  ends = end_more start hops hop;
  once = λ i j one other lt is_one is_other.
      let past : slice_get hops i ≡ Some one = elim (last_cases hops hop i one is_one) [
        | inl old ↦ old
        | inr new ↦ absurd (omega (arith, lt, new.0, slice_get_within (hops ++ hop ∷ []) j other is_other, length-append hops (hop ∷ [])))
      ] in
      elim (last_cases hops hop j other is_other) [
        | inl old ↦ walks.once i j one other lt past old
        | inr new ↦ λ same. (
            let here : one.after.thread ≡ at = same ∙ ap (λ (h : Hop). h.after.thread) new.1 ∙ into in
            let marked : slice_get came at ≡ Some true = ap (slice_get came) (sym here) ∙ walks.marked i one past in
            let clear : slice_get came at ≡ Some false = slice_get-get_or came at false within ∙ ap (λ (b : Bool). Some b) fresh in
            cc)
      ];
  marked = λ i one is_one. elim (last_cases hops hop i one is_one) [
    | inl old ↦ elim (cases_eq one.after.thread at) [
      | inl same ↦ ap (slice_get (slice_set came at true)) same ∙ set_there came at true within
      | inr differ ↦ set_elsewhere came at one.after.thread true differ ∙ walks.marked i one old
    ]
    | inr new ↦ ap (slice_get (slice_set came at true)) (ap (λ (h : Hop). h.after.thread) new.1 ∙ into) ∙ set_there came at true within
  ];
  walked = λ thread yes_. elim (cases_eq thread at) [
    | inl same ↦ record { place = length hops; hop = hop; is_there = slice_get_last hops hop; into = into ∙ sym same }
    | inr differ ↦ (let had = walks.walked thread (sym (set_elsewhere came at thread true differ) ∙ yes_) in record { place = had.place; hop = had.hop; is_there = slice_get-append hops (hop ∷ []) had.place had.hop had.is_there; into = had.into })
  ];
})

-- the lowest thread that is behind is the lowest with a region left
pub lowest_left_is : (accesses : List Access) (chooser : Chooser) → KeepsChoice accesses chooser → (start : ℕ) → LowestBehind chooser.queues.items (Some start) → IsLowestLeft accesses chooser.order.items start
lowest_left_is accesses chooser keeps start lowest =
    let b = lowest.0 in
    let n = got b.queue.regions.items b.queue.taken b.behind in
    record {
      region = region_of start n.0.number;
      left = (next_is accesses chooser keeps start b.queue b.is_there n.0 n.1).left;
      of_thread = refl;
      lowest = λ other left. elim (cases_lt other.thread start) [
        | inr ge ↦ omega arith
        | inl lt ↦ absurd (
            let l = got chooser.queues.items other.thread (keeps.there other left.is_region) in
            elim (cases_lt l.0.taken (length l.0.regions.items)) [
              | inl behind ↦ lowest.1 other.thread lt (record { queue = l.0; is_there = l.1; behind = behind })
              | inr ended ↦ none_left accesses chooser keeps other.thread l.0 l.1 (omega arith) other.number left
            ])
      ];
    }

-- the cycle, where the walk comes to a thread at which it was
pub cycle_is : (accesses : List Access) (chooser : Chooser) → KeepsChoice accesses chooser → (start at : ℕ) (came : List Bool) (hops cycle : List Hop) → LowestBehind chooser.queues.items (Some start)
    → WalksTo accesses chooser.order.items start at came hops → IsFrom hops at cycle → IsCycle accesses chooser.order.items cycle
cycle_is accesses chooser keeps start at came hops cycle lowest walks from = record {
  start = start;
  starts = lowest_left_is accesses chooser keeps start lowest;
  lead = from.lead;
  walks = subst (λ (hs : List Hop). IsWalk accesses chooser.order.items start hs) from.parts walks.walks;
  some = slice_get_within cycle 0 from.first from.is_first;
  once = subst (λ (hs : List Hop). (i j : ℕ) (one other : Hop) → i < j → slice_get hs i ≡ Some one → slice_get hs j ≡ Some other → one.after.thread ≢ other.after.thread) from.parts walks.once;
  comes_back = λ first is. ap (walk_end start) (sym from.parts) ∙ walks.ends ∙ sym from.into ∙ ap (λ (h : Hop). h.after.thread) (let one : from.first ≡ first = cc (from.is_first, is) in one);
}

-- some region is left where a thread is behind
pub not_all : (accesses : List Access) (chooser : Chooser) → KeepsChoice accesses chooser → (start : ℕ) → LowestBehind chooser.queues.items (Some start) → ¬ TakesAll accesses chooser.order.items
not_all accesses chooser keeps start lowest all = let l = lowest_left_is accesses chooser keeps start lowest in l.left.not_taken (all l.region l.left.is_region)

-- a thread at which the walk was has a hop into it
pub was_there : (accesses : List Access) (taken : List Region) (start at : ℕ) (came : List Bool) (hops : List Hop) → WalksTo accesses taken start at came hops → at < length came → get_or came at false ≡ true → HasInto hops at
was_there accesses taken start at came hops walks within yes_ = walks.walked at (slice_get-get_or came at false within ∙ ap (λ (b : Bool). Some b) yes_)

-- what is read where there is none
abbrev pub no_hop : Hop
no_hop = record { before = record { thread = 0; number = 0 }; after = record { thread = 0; number = 0 } }
