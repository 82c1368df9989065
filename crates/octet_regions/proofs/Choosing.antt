-- What a chooser knows of the regions that are left.
use Rattle.std.proofs.Common.{◌≡◌, ◌≢◌, ℕ, zero, suc, ◌+◌, ◌-◌, ◌^◌, ◌<◌, ◌≤◌, ◌⊎◌, inl, inr, true, false, is_some, List, [], ◌∷◌, ◌++◌, length, Option, Some, None, slice_get, slice_set, get_or, refl, sym, ap, ◌∙◌, subst, arith, length-set, append-nil, append_assoc, Vec, Global}
use Rattle.std.specs.List.{Contains}
use Rattle.std.proofs.lemmas.Bool.{cases_eq, cases_lt}
use Rattle.std.proofs.lemmas.Option.{slice_get_within, slice_get_read}
use Rattle.std.proofs.lemmas.List.Elements.{Contains-append_left, Contains-append_right, Contains-append_cases}
use Rattle.std.proofs.lemmas.List.Sums.{sum_by-set}
use Rattle.octet_regions.specs.declared.access.Access.{Access}
use Rattle.octet_regions.specs.declared.bounds.Bounds.{Bounds}
use Rattle.octet_regions.specs.declared.chooser.Chooser.{Chooser}
use Rattle.octet_regions.specs.declared.queue.RegionQueue.{RegionQueue}
use Rattle.octet_regions.specs.declared.queue.QueuedRegion.{QueuedRegion}
use Rattle.octet_regions.specs.declared.queue.Wait.{Wait}
use Rattle.octet_regions.specs.declared.region.Region.{Region}
use Rattle.octet_regions.specs.Before.{IsRegion, RegionBefore}
use Rattle.octet_regions.specs.code.Bounds.{bound_in, IsRaised}
use Rattle.octet_regions.specs.Choice.{IsLeft, IsNext, IsFree, IsChosen, IsChoice, TakesAll}
use Rattle.octet_regions.specs.code.Chooser.{AreWithin, FitQueues, FreeIs, AreQueuesOf, HasPassed, IsQueueOf, KeepsTaken, KeepsChoice, IsBehind, left_of}
use Rattle.octet_regions.specs.code.Earlier.{IsHeld, IsUnmet, KeepsQueue, PassesWaits, TellsFree, region_of}
use Rattle.octet_regions.proofs.Queues.{set_cases, same_region}

-- what is read where there is none
pub got : {X : Type 0} (xs : List X) (i : ℕ) → i < length xs → (x : X) × (slice_get xs i ≡ Some x)
got [] i lt = absurd (omega arith)
got (x ∷ xs) zero lt = (x, refl)
got (x ∷ xs) (suc i) lt = got xs i (omega arith)

single : (region other : Region) → other ≡ region → Contains (region ∷ []) other
single region other same = (0, omega arith, sym same)

one_item : {X : Type 0} (x y : X) → Contains (x ∷ []) y → y ≡ x
one_item x y (zero, lt, is) = sym is
one_item x y (suc k, lt, is) = absurd (omega (arith, lt))

pub no_item : {X : Type 0} (x : X) → ¬ Contains [] x
no_item x c = omega (arith, c.1)

-- where nothing is read a list has ended
pub past_end : {X : Type 0} (xs : List X) (i : ℕ) → slice_get xs i ≡ None → length xs ≤ i
past_end [] i is = omega arith
past_end (x ∷ xs) zero is = absurd cc
past_end (x ∷ xs) (suc i) is = omega (arith, past_end xs i is)

-- before the first choice
pub begins : (threads : ℕ) (accesses : List Access) (queues : List RegionQueue) (upto : Bounds) (chooser : Chooser) → chooser.queues.items ≡ queues → chooser.upto ≡ upto → chooser.order.items ≡ []
    → FitQueues threads accesses → AreQueuesOf threads accesses queues → ((thread : ℕ) → bound_in upto thread ≡ 0) → KeepsChoice accesses chooser
begins threads accesses queues upto chooser same_queues same_upto none fit are zeros = record {
  few = omega (arith, fit.few, are.as_many, ap (λ (l : List RegionQueue). length l) same_queues);
  queues = λ thread queue is. (of thread queue is).keeps;
  there = λ region r. omega (arith, fit.there r.place r.access r.is_there, ap (λ (q : Region). q.thread) r.in_region, are.as_many, ap (λ (l : List RegionQueue). length l) same_queues);
  room = λ region r. subst (λ (q : Region). q.number + 1 < 2 ^ 32) r.in_region (fit.room r.place r.access r.is_there);
  taken = λ thread queue is. record {
    below = λ i item at lt. absurd (omega (arith, lt, (of thread queue is).taken));
    above = λ i item at le. omega (arith, zeros thread, ap (λ (b : Bounds). bound_in b thread) same_upto);
    within = omega (arith, (of thread queue is).taken);
  };
  passed = λ thread queue is. record {
    of_taken = λ i item at lt. absurd (omega (arith, lt, (of thread queue is).taken));
    are_over = λ k wait at lt. absurd (omega (arith, lt, (of thread queue is).over));
  };
  ordered = λ region has. absurd (no_item region (subst (λ (l : List Region). Contains l region) none has));
  bounded = λ region r lt. absurd (omega (arith, lt, zeros region.thread, ap (λ (b : Bounds). bound_in b region.thread) same_upto));
}
  where
    of : (thread : ℕ) (queue : RegionQueue) → slice_get chooser.queues.items thread ≡ Some queue → IsQueueOf accesses thread queue
    of thread queue is = are.each thread queue (ap (λ (l : List RegionQueue). slice_get l thread) (sym same_queues) ∙ is)

module _ (accesses : List Access) (chooser : Chooser) (keeps : KeepsChoice accesses chooser) where
  abbrev order : List Region
  order = chooser.order.items

  -- what is left is at or above the bound of its thread
  pub left_above : (region : Region) → IsLeft accesses order region → bound_in chooser.upto region.thread ≤ region.number
  left_above region left = elim (cases_lt region.number (bound_in chooser.upto region.thread)) [
    | inl lt ↦ absurd (left.not_taken (keeps.bounded region left.is_region lt))
    | inr ge ↦ omega arith
  ]

  pub left_from : (region : Region) → IsRegion accesses region → bound_in chooser.upto region.thread ≤ region.number → IsLeft accesses order region
  left_from region r ge = record { is_region = r; not_taken = λ has. omega (arith, keeps.ordered region has, ge) }

  -- the queue of a thread
  module _ (thread : ℕ) (queue : RegionQueue) (is_queue : slice_get chooser.queues.items thread ≡ Some queue) where
    -- none is left where no item is
    pub none_left : length queue.regions.items ≤ queue.taken → (number : ℕ) → ¬ IsLeft accesses order (region_of thread number)
    none_left ended number left =
        let k = (keeps.queues thread queue is_queue).all number left.is_region in
        let lt = (keeps.taken thread queue is_queue).below k.0 k.1 k.2 (omega (arith, slice_get_within queue.regions.items k.0 k.1 k.2, ended)) in
        omega (arith, left_above (region_of thread number) left, lt, k.3)

    -- the item at which the queue is has the thread's next region
    pub next_is : (item : QueuedRegion) → slice_get queue.regions.items queue.taken ≡ Some item → IsNext accesses order (region_of thread item.number)
    next_is item at = record {
      left = left_from (region_of thread item.number) ((keeps.queues thread queue is_queue).each queue.taken item at) ((keeps.taken thread queue is_queue).above queue.taken item at (omega arith));
      first = λ other left same.
          let other' : IsLeft accesses order (region_of thread other.number) = subst (λ (r : Region). IsLeft accesses order r) (same_region other thread other.number same refl) left in
          let k = (keeps.queues thread queue is_queue).all other.number other'.is_region in
          elim (cases_lt k.0 queue.taken) [
            | inl lt ↦ absurd (omega (arith, (keeps.taken thread queue is_queue).below k.0 k.1 k.2 lt, left_above (region_of thread other.number) other', k.3))
            | inr ge ↦ elim (cases_eq k.0 queue.taken) [
              | inl here ↦ (let one : k.1 ≡ item = (let at' : slice_get queue.regions.items queue.taken ≡ Some k.1 = ap (slice_get queue.regions.items) (sym here) ∙ k.2 in cc) in omega (arith, ap (λ (n : QueuedRegion). n.number) one, k.3))
              | inr differ ↦ omega (arith, (keeps.queues thread queue is_queue).rising queue.taken k.0 item k.1 (omega arith) at k.2, k.3)
            ]
          ];
    }

    -- so it is the only next region of the thread
    pub next_only : (item : QueuedRegion) (number : ℕ) → slice_get queue.regions.items queue.taken ≡ Some item → IsNext accesses order (region_of thread number) → item.number ≡ number
    next_only item number at next =
        let one = (next_is item at).first (region_of thread number) next.left refl in
        let other = next.first (region_of thread item.number) (next_is item at).left refl in
        omega (arith, one, other)

    -- a wait that is not gone past and not taken is for a region that is left and before the item's
    pub held_left : (item : QueuedRegion) (k : ℕ) (wait : Wait) → slice_get queue.regions.items queue.taken ≡ Some item → slice_get queue.waits.items k ≡ Some wait → queue.over ≤ k → k < item.waits_upto → bound_in chooser.upto wait.of < wait.bound
        → IsLeft accesses order (region_of wait.of (wait.bound - 1)) × RegionBefore accesses (region_of wait.of (wait.bound - 1)) (region_of thread item.number)
    held_left item k wait at is from lt above =
        let held = (keeps.queues thread queue is_queue).held queue.taken k item wait at is lt (λ j earlier lower is_earlier. omega (arith, from, (keeps.passed thread queue is_queue).of_taken j earlier is_earlier lower)) in
        let before = held.is_before in
        (left_from (region_of wait.of (wait.bound - 1)) (record { place = before.first; access = before.one; is_there = before.is_first; in_region = before.in_region }) (omega (arith, above)), before)

    pub before_left : (item : QueuedRegion) (other : ℕ) → slice_get queue.regions.items queue.taken ≡ Some item → IsUnmet queue chooser.upto item.waits_upto other
        → (number : ℕ) × IsLeft accesses order (region_of other number) × RegionBefore accesses (region_of other number) (region_of thread item.number)
    before_left item other at unmet =
        let above : bound_in chooser.upto unmet.wait.of < unmet.wait.bound = subst (λ (o : ℕ). bound_in chooser.upto o < unmet.wait.bound) (sym unmet.of_thread) unmet.above in
        let h = held_left item unmet.place unmet.wait at unmet.is_there unmet.from_here unmet.sooner above in
        (unmet.wait.bound - 1, subst (λ (o : ℕ). IsLeft accesses order (region_of o (unmet.wait.bound - 1))) unmet.of_thread h.0, subst (λ (o : ℕ). RegionBefore accesses (region_of o (unmet.wait.bound - 1)) (region_of thread item.number)) unmet.of_thread h.1)

    -- and one that is left and before it is waited for so
    pub left_is_above : (item : QueuedRegion) (region : Region) → slice_get queue.regions.items queue.taken ≡ Some item → IsLeft accesses order region → RegionBefore accesses region (region_of thread item.number)
        → IsUnmet queue chooser.upto item.waits_upto region.thread
    left_is_above item region at left before =
        let a = (keeps.queues thread queue is_queue).awaited queue.taken item region at before in
        let above = left_above region left in
        record {
          place = a.place;
          wait = a.wait;
          is_there = a.is_there;
          from_here = elim (cases_lt a.place queue.over) [
            | inr ge ↦ omega arith
            | inl lt ↦ absurd (
                let over = (keeps.passed thread queue is_queue).are_over a.place a.wait a.is_there lt in
                let over' : a.wait.bound ≤ bound_in chooser.upto region.thread = subst (λ (o : ℕ). a.wait.bound ≤ bound_in chooser.upto o) a.of_thread over in
                omega (arith, over', a.above, above))
          ];
          sooner = a.sooner;
          of_thread = a.of_thread;
          above = omega (arith, a.above, above);
        }

    -- where all waits of the next region are gone past, it is free
    pub free_is : (item : QueuedRegion) → slice_get queue.regions.items queue.taken ≡ Some item → ((other : ℕ) → ¬ IsUnmet queue chooser.upto item.waits_upto other) → IsFree accesses order (region_of thread item.number)
    free_is item at none = record {
      next = next_is item at;
      none_before = λ other left before. none other.thread (left_is_above item other at left before);
    }

    pub over_free : (item : QueuedRegion) → slice_get queue.regions.items queue.taken ≡ Some item → item.waits_upto ≤ queue.over → IsFree accesses order (region_of thread item.number)
    over_free item at le = free_is item at (λ other unmet. omega (arith, le, unmet.from_here, unmet.sooner))

    -- else none of the thread is
    pub not_free : (item : QueuedRegion) → IsHeld queue chooser.upto item → (number : ℕ) → ¬ IsFree accesses order (region_of thread number)
    not_free item held number free =
        let named = next_only item number held.is_next free.next in
        let h = held_left item queue.over held.wait held.is_next held.is_there (omega arith) held.sooner held.above in
        free.none_before (region_of held.wait.of (held.wait.bound - 1)) h.0 (subst (λ (n : ℕ). RegionBefore accesses (region_of held.wait.of (held.wait.bound - 1)) (region_of thread n)) named h.1)

    pub nothing_free : length queue.regions.items ≤ queue.taken → (number : ℕ) → ¬ IsFree accesses order (region_of thread number)
    nothing_free ended number free = none_left ended number free.next.left

  -- a free region of the lowest thread that has one is chosen
  pub chosen_is : (thread number : ℕ) → IsFree accesses order (region_of thread number) → ((lower : ℕ) → lower < thread → (n : ℕ) → ¬ IsFree accesses order (region_of lower n)) → IsChosen accesses order (region_of thread number)
  chosen_is thread number free none = record {
    free = free;
    lowest = λ other is. elim (cases_lt other.thread thread) [
      | inl lt ↦ absurd (none other.thread lt other.number is)
      | inr ge ↦ omega arith
    ];
  }

  pub none_chosen : ((lower : ℕ) → lower < length chooser.queues.items → (n : ℕ) → ¬ IsFree accesses order (region_of lower n)) → (region : Region) → ¬ IsFree accesses order region
  none_chosen none region free = none region.thread (keeps.there region free.next.left.is_region) region.number free

  -- a chosen region is that of the item at which its queue is
  pub chosen_node : (region : Region) → IsChosen accesses order region → (queue : RegionQueue) × (item : QueuedRegion) × (slice_get chooser.queues.items region.thread ≡ Some queue) × (slice_get queue.regions.items queue.taken ≡ Some item) × (item.number ≡ region.number)
  chosen_node region chosen =
      let within = keeps.there region chosen.free.next.left.is_region in
      let l = got chooser.queues.items region.thread within in
      let queue = l.0 in
      let is_queue = l.1 in
      elim (cases_lt queue.taken (length queue.regions.items)) [
        | inr ge ↦ absurd (none_left region.thread queue is_queue (omega arith) region.number chosen.free.next.left)
        | inl lt ↦
            let n = got queue.regions.items queue.taken lt in
            (queue, n.0, is_queue, n.1, next_only region.thread queue is_queue n.0 region.number n.1 chosen.free.next)
      ]

  pub chosen_behind : (region : Region) → IsChosen accesses order region → IsBehind chooser.queues.items region.thread
  chosen_behind region chosen =
      let n = chosen_node region chosen in
      record { queue = n.0; is_there = n.2; behind = slice_get_within n.0.regions.items n.0.taken n.1 n.3 }

  -- after it was taken
  pub keeps_taken : (region : Region) (after : Chooser) (old new : RegionQueue) → IsChosen accesses order region → after.order.items ≡ order ++ region ∷ [] → after.queues.items ≡ slice_set chooser.queues.items region.thread new
      → old ≡ get_or chooser.queues.items region.thread old → new.regions ≡ old.regions → new.waits ≡ old.waits → new.taken ≡ old.taken + 1 → ((item : QueuedRegion) → slice_get old.regions.items old.taken ≡ Some item → new.over ≡ item.waits_upto) → IsRaised chooser.upto region.thread (region.number + 1) after.upto → KeepsChoice accesses after
  keeps_taken region after old new chosen ordered set was regions waits more over raised = record {
    few = omega (arith, keeps.few, length-set chooser.queues.items region.thread new, ap (λ (l : List RegionQueue). length l) set);
    queues = λ thread queue is. elim (cases thread queue is) [
      | inl here ↦ subst (λ (l : RegionQueue). KeepsQueue accesses thread l.regions.items l.waits.items) (sym here.1)
          (subst (λ (t : ℕ). KeepsQueue accesses t new.regions.items new.waits.items) (sym here.0)
          (subst (λ (v : Vec Wait Global). KeepsQueue accesses region.thread new.regions.items v.items) (sym waits)
          (subst (λ (v : Vec QueuedRegion Global). KeepsQueue accesses region.thread v.items old.waits.items) (sym regions) (keeps.queues region.thread old is_old))))
      | inr there ↦ keeps.queues thread queue there.1
    ];
    there = λ other r. omega (arith, keeps.there other r, length-set chooser.queues.items region.thread new, ap (λ (l : List RegionQueue). length l) set);
    room = keeps.room;
    taken = λ thread queue is. elim (cases thread queue is) [
      | inl here ↦ subst (λ (l : RegionQueue). KeepsTaken (bound_in after.upto thread) l) (sym here.1)
          (subst (λ (t : ℕ). KeepsTaken (bound_in after.upto t) new) (sym here.0) new_taken)
      | inr there ↦ subst (λ (b : ℕ). KeepsTaken b queue) (sym (raised.others thread there.0)) (keeps.taken thread queue there.1)
    ];
    passed = λ thread queue is. elim (cases thread queue is) [
      | inl here ↦ subst (λ (l : RegionQueue). HasPassed after.upto l) (sym here.1) new_passed
      | inr there ↦ record {
        of_taken = (keeps.passed thread queue there.1).of_taken;
        are_over = λ k wait at lt. omega (arith, (keeps.passed thread queue there.1).are_over k wait at lt, grows wait.of);
      }
    ];
    ordered = λ other has. elim (Contains-append_cases order (region ∷ []) other (subst (λ (l : List Region). Contains l other) ordered has)) [
      | inl old' ↦ (let lt = keeps.ordered other old' in elim (cases_eq other.thread region.thread) [
        | inl same ↦ (let own = raised.own in let lt' : other.number < bound_in chooser.upto region.thread = subst (λ (t : ℕ). other.number < bound_in chooser.upto t) same lt in
            subst (λ (t : ℕ). other.number < bound_in after.upto t) (sym same) (omega (arith, upto_is, bound_le, lt')))
        | inr differ ↦ omega (arith, raised.others other.thread differ, lt)
      ])
      | inr last ↦ (let same = one_item region other last in subst (λ (q : Region). q.number < bound_in after.upto q.thread) (sym same) (omega (arith, upto_is)))
    ];
    bounded = λ other r lt. subst (λ (l : List Region). Contains l other) (sym ordered) (elim (cases_eq other.thread region.thread) [
      | inr differ ↦ Contains-append_left order (region ∷ []) other (keeps.bounded other r (omega (arith, raised.others other.thread differ, lt)))
      | inl same ↦ elim (cases_lt other.number (bound_in chooser.upto other.thread)) [
        | inl below ↦ Contains-append_left order (region ∷ []) other (keeps.bounded other r below)
        | inr above ↦
            let first = chosen.free.next.first other (left_from other r (omega arith)) same in
            let lt' : other.number < bound_in after.upto region.thread = subst (λ (t : ℕ). other.number < bound_in after.upto t) same lt in
            Contains-append_right order (region ∷ []) other (single region other (same_region other region.thread region.number same (omega (arith, first, lt', upto_is))))
      ]
    ]);
  }
    where
      item : (queue : RegionQueue) × (n : QueuedRegion) × (slice_get chooser.queues.items region.thread ≡ Some queue) × (slice_get queue.regions.items queue.taken ≡ Some n) × (n.number ≡ region.number)
      item = chosen_node region chosen

      within : region.thread < length chooser.queues.items
      within = slice_get_within chooser.queues.items region.thread item.0 item.2

      is_old : slice_get chooser.queues.items region.thread ≡ Some old
      is_old = slice_get_read chooser.queues.items (length chooser.queues.items) region.thread old refl within was

      bound_le : bound_in chooser.upto region.thread ≤ region.number
      bound_le = left_above region chosen.free.next.left

      upto_is : bound_in after.upto region.thread ≡ suc region.number
      upto_is = (let own = raised.own in grind (arith, own, bound_le))

      cases : (thread : ℕ) (queue : RegionQueue) → slice_get after.queues.items thread ≡ Some queue → ((thread ≡ region.thread) × (queue ≡ new)) ⊎ ((thread ≢ region.thread) × (slice_get chooser.queues.items thread ≡ Some queue))
      cases thread queue is = set_cases chooser.queues.items region.thread thread queue new within (ap (λ (l : List RegionQueue). slice_get l thread) (sym set) ∙ is)

      at_old : slice_get old.regions.items old.taken ≡ Some item.1
      at_old = let same : item.0 ≡ old = cc (item.2, is_old) in subst (λ (l : RegionQueue). slice_get l.regions.items l.taken ≡ Some item.1) same item.3

      new_taken : KeepsTaken (bound_in after.upto region.thread) new
      new_taken =
          let had = keeps.taken region.thread old is_old in
          let queue = keeps.queues region.thread old is_old in
          let items : new.regions.items ≡ old.regions.items = ap (λ (v : Vec QueuedRegion Global). v.items) regions in
          record {
            below = λ i n at lt.
                let at' : slice_get old.regions.items i ≡ Some n = ap (λ (l : List QueuedRegion). slice_get l i) (sym items) ∙ at in
                elim (cases_lt i old.taken) [
                  | inl lt' ↦ omega (arith, had.below i n at' lt', bound_le, upto_is)
                  | inr ge ↦ (let here : i ≡ old.taken = omega (arith, lt, more, ge) in let same : n ≡ item.1 = (let a : slice_get old.regions.items old.taken ≡ Some n = ap (slice_get old.regions.items) (sym here) ∙ at' in let b = at_old in cc) in omega (arith, ap (λ (x : QueuedRegion). x.number) same, item.4, upto_is))
                ];
            above = λ i n at ge.
                let at' : slice_get old.regions.items i ≡ Some n = ap (λ (l : List QueuedRegion). slice_get l i) (sym items) ∙ at in
                omega (arith, queue.rising old.taken i item.1 n (omega (arith, ge, more)) at_old at', item.4, upto_is);
            within = omega (arith, more, slice_get_within old.regions.items old.taken item.1 at_old, ap (λ (l : List QueuedRegion). length l) items);
          }

      grows : (other : ℕ) → bound_in chooser.upto other ≤ bound_in after.upto other
      grows other = elim (cases_eq other region.thread) [
        | inr differ ↦ omega (arith, raised.others other differ)
        | inl same ↦ subst (λ (t : ℕ). bound_in chooser.upto t ≤ bound_in after.upto t) (sym same) (omega (arith, upto_is, bound_le))
      ]

      over_is : new.over ≡ item.1.waits_upto
      over_is = over item.1 at_old

      -- what a free region waited for is taken
      are_met : (k : ℕ) (wait : Wait) → slice_get old.waits.items k ≡ Some wait → k < item.1.waits_upto → wait.bound ≤ bound_in chooser.upto wait.of
      are_met k wait at lt = elim (cases_lt k old.over) [
        | inl gone ↦ (keeps.passed region.thread old is_old).are_over k wait at gone
        | inr from ↦ elim (cases_lt (bound_in chooser.upto wait.of) wait.bound) [
          | inr le ↦ omega arith
          | inl above ↦ absurd (
              let h = held_left region.thread old is_old item.1 k wait at_old at (omega arith) lt above in
              let own : region_of region.thread item.1.number ≡ region = sym (same_region region region.thread item.1.number refl (sym item.4)) in
              chosen.free.none_before (region_of wait.of (wait.bound - 1)) h.0 (subst (λ (r : Region). RegionBefore accesses (region_of wait.of (wait.bound - 1)) r) own h.1))
        ]
      ]

      new_passed : HasPassed after.upto new
      new_passed =
          let items : new.regions.items ≡ old.regions.items = ap (λ (v : Vec QueuedRegion Global). v.items) regions in
          let same_waits : new.waits.items ≡ old.waits.items = ap (λ (v : Vec Wait Global). v.items) waits in
          record {
            of_taken = λ i n at lt.
                let at' : slice_get old.regions.items i ≡ Some n = ap (λ (l : List QueuedRegion). slice_get l i) (sym items) ∙ at in
                elim (cases_lt i old.taken) [
                  | inl lower ↦ omega (arith, over_is, (keeps.queues region.thread old is_old).in_order i old.taken n item.1 lower at' at_old)
                  | inr ge ↦ (let here : i ≡ old.taken = omega (arith, lt, more, ge) in let same : n ≡ item.1 = (let a : slice_get old.regions.items old.taken ≡ Some n = ap (slice_get old.regions.items) (sym here) ∙ at' in let b = at_old in cc) in omega (arith, ap (λ (x : QueuedRegion). x.waits_upto) same, over_is))
                ];
            are_over = λ k wait at lt.
                let at' : slice_get old.waits.items k ≡ Some wait = ap (λ (l : List Wait). slice_get l k) (sym same_waits) ∙ at in
                omega (arith, are_met k wait at' (omega (arith, lt, over_is)), grows wait.of);
          }

  -- after waits that are over were gone past
  pub keeps_passed : (thread : ℕ) (after : Chooser) (old new : RegionQueue) → thread < length chooser.queues.items → old ≡ get_or chooser.queues.items thread old → after.order ≡ chooser.order → after.upto ≡ chooser.upto → after.queues.items ≡ slice_set chooser.queues.items thread new
      → PassesWaits old chooser.upto new → KeepsChoice accesses after
  keeps_passed thread after old new within was same_order same_upto set passes = record {
    few = omega (arith, keeps.few, length-set chooser.queues.items thread new, ap (λ (l : List RegionQueue). length l) set);
    queues = λ t queue is. elim (cases t queue is) [
      | inl here ↦ subst (λ (l : RegionQueue). KeepsQueue accesses t l.regions.items l.waits.items) (sym here.1)
          (subst (λ (u : ℕ). KeepsQueue accesses u new.regions.items new.waits.items) (sym here.0)
          (subst (λ (v : Vec Wait Global). KeepsQueue accesses thread new.regions.items v.items) (sym passes.waits)
          (subst (λ (v : Vec QueuedRegion Global). KeepsQueue accesses thread v.items old.waits.items) (sym passes.regions) (keeps.queues thread old is_old))))
      | inr there ↦ keeps.queues t queue there.1
    ];
    there = λ other r. omega (arith, keeps.there other r, length-set chooser.queues.items thread new, ap (λ (l : List RegionQueue). length l) set);
    room = keeps.room;
    taken = λ t queue is. subst (λ (b : Bounds). KeepsTaken (bound_in b t) queue) (sym same_upto) (elim (cases t queue is) [
      | inl here ↦ subst (λ (l : RegionQueue). KeepsTaken (bound_in chooser.upto t) l) (sym here.1) (subst (λ (u : ℕ). KeepsTaken (bound_in chooser.upto u) new) (sym here.0) new_taken)
      | inr there ↦ keeps.taken t queue there.1
    ]);
    passed = λ t queue is. subst (λ (b : Bounds). HasPassed b queue) (sym same_upto) (elim (cases t queue is) [
      | inl here ↦ subst (λ (l : RegionQueue). HasPassed chooser.upto l) (sym here.1) new_passed
      | inr there ↦ keeps.passed t queue there.1
    ]);
    ordered = λ region has. subst (λ (b : Bounds). region.number < bound_in b region.thread) (sym same_upto) (keeps.ordered region (subst (λ (v : Vec Region Global). Contains v.items region) same_order has));
    bounded = λ region r lt. subst (λ (v : Vec Region Global). Contains v.items region) (sym same_order) (keeps.bounded region r (subst (λ (b : Bounds). region.number < bound_in b region.thread) same_upto lt));
  }
    where
      is_old : slice_get chooser.queues.items thread ≡ Some old
      is_old = slice_get_read chooser.queues.items (length chooser.queues.items) thread old refl within was

      cases : (t : ℕ) (queue : RegionQueue) → slice_get after.queues.items t ≡ Some queue → ((t ≡ thread) × (queue ≡ new)) ⊎ ((t ≢ thread) × (slice_get chooser.queues.items t ≡ Some queue))
      cases t queue is = set_cases chooser.queues.items thread t queue new within (ap (λ (l : List RegionQueue). slice_get l t) (sym set) ∙ is)

      items : new.regions.items ≡ old.regions.items
      items = ap (λ (v : Vec QueuedRegion Global). v.items) passes.regions

      same_waits : new.waits.items ≡ old.waits.items
      same_waits = ap (λ (v : Vec Wait Global). v.items) passes.waits

      new_taken : KeepsTaken (bound_in chooser.upto thread) new
      new_taken =
          let had = keeps.taken thread old is_old in
          record {
            below = λ i item at lt. had.below i item (ap (λ (l : List QueuedRegion). slice_get l i) (sym items) ∙ at) (omega (arith, lt, passes.taken_is));
            above = λ i item at ge. had.above i item (ap (λ (l : List QueuedRegion). slice_get l i) (sym items) ∙ at) (omega (arith, ge, passes.taken_is));
            within = omega (arith, had.within, passes.taken_is, ap (λ (l : List QueuedRegion). length l) items);
          }

      new_passed : HasPassed chooser.upto new
      new_passed =
          let had = keeps.passed thread old is_old in
          record {
            of_taken = λ i item at lt. omega (arith, had.of_taken i item (ap (λ (l : List QueuedRegion). slice_get l i) (sym items) ∙ at) (omega (arith, lt, passes.taken_is)), passes.further);
            are_over = λ k wait at lt.
                let at' : slice_get old.waits.items k ≡ Some wait = ap (λ (l : List Wait). slice_get l k) (sym same_waits) ∙ at in
                elim (cases_lt k old.over) [
                  | inl gone ↦ had.are_over k wait at' gone
                  | inr from ↦ passes.passed k wait (omega arith) lt at'
                ];
          }

  -- what a queue tells of its next region
  pub tells_free : (thread : ℕ) (queue : RegionQueue) → slice_get chooser.queues.items thread ≡ Some queue → (o : Option ℕ) → TellsFree queue chooser.upto o → FreeIs accesses order thread o
  tells_free thread queue is (Some number) told = subst (λ (n : ℕ). IsFree accesses order (region_of thread n)) told.2 (over_free thread queue is told.0 told.1 told.3)
  tells_free thread queue is None told = elim told [
    | inl none ↦ nothing_free thread queue is (past_end queue.regions.items queue.taken none)
    | inr held ↦ not_free thread queue is held.0 held.1
  ]

  -- where each queue is at its end, all were taken
  pub all_taken : ((thread : ℕ) (queue : RegionQueue) → slice_get chooser.queues.items thread ≡ Some queue → length queue.regions.items ≤ queue.taken) → TakesAll accesses order
  all_taken ended region r =
      let within = keeps.there region r in
      let l = got chooser.queues.items region.thread within in
      let queue = l.0 in
      let is_queue = l.1 in
      elim (cases_lt region.number (bound_in chooser.upto region.thread)) [
        | inl lt ↦ keeps.bounded region r lt
        | inr ge ↦ absurd (none_left region.thread queue is_queue (ended region.thread queue is_queue) region.number (left_from region r (omega arith)))
      ]

-- fewer are left after one more was taken
pub fewer_left : (queues : List RegionQueue) (thread : ℕ) (old new : RegionQueue) → IsBehind queues thread → old ≡ get_or queues thread old → length new.regions.items ≡ length old.regions.items → new.taken ≡ old.taken + 1 → left_of (slice_set queues thread new) < left_of queues
fewer_left queues thread old new behind was regions more =
    let within = slice_get_within queues thread behind.queue behind.is_there in
    let is_old = slice_get_read queues (length queues) thread old refl within was in
    let same : behind.queue ≡ old = (let a = behind.is_there in cc) in
    let sum = sum_by-set (λ (l : RegionQueue). length l.regions.items - l.taken) queues thread new old within in
    omega (arith, sum, ap (λ (l : RegionQueue). length l.regions.items - l.taken) was, regions, more, behind.behind, ap (λ (l : RegionQueue). l.taken) same, ap (λ (l : RegionQueue). length l.regions.items) same)

-- the queue at which a region is left
pub behind_at : (queues : List RegionQueue) (thread : ℕ) (queue : RegionQueue) → IsBehind queues thread → queue ≡ get_or queues thread queue → queue.taken < length queue.regions.items
behind_at queues thread queue behind was =
    let is = slice_get_read queues (length queues) thread queue refl (slice_get_within queues thread behind.queue behind.is_there) was in
    let same : behind.queue ≡ queue = (let a = behind.is_there in cc) in
    subst (λ (l : RegionQueue). l.taken < length l.regions.items) same behind.behind

-- the waits of all regions are there
pub are_within : (accesses : List Access) (chooser : Chooser) → KeepsChoice accesses chooser → AreWithin chooser.queues.items
are_within accesses chooser keeps thread i queue item is at = (keeps.queues thread queue is).within i item at

pub within_set : (queues : List RegionQueue) (thread : ℕ) (old new : RegionQueue) → thread < length queues → old ≡ get_or queues thread old → new.regions ≡ old.regions → new.waits ≡ old.waits → AreWithin queues → AreWithin (slice_set queues thread new)
within_set queues thread old new lt was regions waits within t i queue item is at = elim (set_cases queues thread t queue new lt is) [
  | inr there ↦ within t i queue item there.1 at
  | inl here ↦
      let is_old = slice_get_read queues (length queues) thread old refl lt was in
      let nodes_are : queue.regions.items ≡ old.regions.items = ap (λ (l : RegionQueue). l.regions.items) here.1 ∙ ap (λ (v : Vec QueuedRegion Global). v.items) regions in
      let waits_are : queue.waits.items ≡ old.waits.items = ap (λ (l : RegionQueue). l.waits.items) here.1 ∙ ap (λ (v : Vec Wait Global). v.items) waits in
      omega (arith, within thread i old item is_old (ap (λ (l : List QueuedRegion). slice_get l i) (sym nodes_are) ∙ at), ap (λ (l : List Wait). length l) waits_are)
]

-- a choice so far, and a choice from there on
pub record Chose (accesses : List Access) (order : List Region) : Type 0 where
  pub on : (rest : List Region) → IsChoice accesses order rest → IsChoice accesses [] (order ++ rest)

pub chose_none : (accesses : List Access) (chosen : List Region) → chosen ≡ [] → Chose accesses chosen
chose_none accesses chosen none = record { on = λ rest choice. subst (λ (o : List Region). IsChoice accesses o rest → IsChoice accesses [] (o ++ rest)) (sym none) (λ c. c) choice }

pub chose_more : (accesses : List Access) (order after : List Region) (region : Region) → after ≡ order ++ region ∷ [] → IsChosen accesses order region → Chose accesses order → Chose accesses after
chose_more accesses order after region is chosen chose = record {
  on = λ rest choice. subst (λ (o : List Region). IsChoice accesses [] (o ++ rest)) (sym is)
      (subst (λ (l : List Region). IsChoice accesses [] l) (sym (append_assoc order (region ∷ []) rest))
      (chose.on (region ∷ rest) (chosen, subst (λ (o : List Region). IsChoice accesses o rest) is choice)));
}

pub chose_all : (accesses : List Access) (order : List Region) → Chose accesses order → ((region : Region) → ¬ IsFree accesses order region) → IsChoice accesses [] order
chose_all accesses order chose none = subst (λ (l : List Region). IsChoice accesses [] l) (append-nil order) (chose.on [] none)

-- whether a region is left of a thread, by what is read at its queue
module _ (queues : List RegionQueue) (thread : ℕ) (queue : RegionQueue) (is_queue : slice_get queues thread ≡ Some queue) where
  pub behind_here : (o : Option QueuedRegion) → o ≡ slice_get queue.regions.items queue.taken → is_some o ≡ true → IsBehind queues thread
  behind_here None is some = absurd cc
  behind_here (Some item) is some = record { queue = queue; is_there = is_queue; behind = slice_get_within queue.regions.items queue.taken item (sym is) }

  pub not_behind : (o : Option QueuedRegion) → o ≡ slice_get queue.regions.items queue.taken → is_some o ≡ false → ¬ IsBehind queues thread
  not_behind (Some item) is none behind = absurd cc
  not_behind None is none behind =
      let same : behind.queue ≡ queue = (let a = behind.is_there in cc) in
      omega (arith, behind.behind, past_end queue.regions.items queue.taken (sym is), ap (λ (l : RegionQueue). l.taken) same, ap (λ (l : RegionQueue). length l.regions.items) same)

-- where no thread has a region left, all were taken
pub none_behind : (accesses : List Access) (chooser : Chooser) → KeepsChoice accesses chooser → ((thread : ℕ) → ¬ IsBehind chooser.queues.items thread) → TakesAll accesses chooser.order.items
none_behind accesses chooser keeps none = all_taken accesses chooser keeps (λ thread queue is. elim (cases_lt queue.taken (length queue.regions.items)) [
  | inl lt ↦ absurd (none thread (record { queue = queue; is_there = is; behind = lt }))
  | inr ge ↦ omega arith
])
