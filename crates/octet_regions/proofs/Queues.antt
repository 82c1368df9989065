-- Queues with one more access.
use Rattle.std.proofs.Common.{◌≡◌, ◌≢◌, ℕ, zero, suc, ◌-◌, ◌<◌, ◌≤◌, ◌⊎◌, inl, inr, List, [], ◌∷◌, ◌++◌, length, Some, slice_get, slice_set, get_or, refl, sym, ap, ◌∙◌, subst, arith, length-append}
use Rattle.std.proofs.lemmas.Bool.{cases_eq, cases_lt}
use Rattle.std.proofs.lemmas.Option.{slice_get_within, slice_get-get_or}
use Rattle.octet_model.proofs.lemmas.Lists.{slice_get-append, slice_get_last}
use Rattle.octet_regions.specs.declared.access.Access.{Access}
use Rattle.octet_regions.specs.declared.bounds.Bounds.{Bounds}
use Rattle.octet_regions.specs.declared.queue.QueuedRegion.{QueuedRegion}
use Rattle.octet_regions.specs.declared.queue.Wait.{Wait}
use Rattle.octet_regions.specs.declared.region.Region.{Region}
use Rattle.octet_regions.specs.Before.{InConflict, IsRegion, RegionBefore}
use Rattle.octet_regions.specs.code.Earlier.{AddsWaits, Conflicts, BoundConflicts, HoldsBack, IsAwaited, KeepsQueue, KnowsWaits, RegionsRise, region_of}
use Rattle.octet_regions.proofs.LastAccesses.{last_cases}

-- the items of a list with one place set
pub set_there : {X : Type 0} (xs : List X) (i : ℕ) (y : X) → i < length xs → slice_get (slice_set xs i y) i ≡ Some y
set_there [] i y lt = absurd (omega arith)
set_there (x ∷ xs) zero y lt = refl
set_there (x ∷ xs) (suc i) y lt = set_there xs i y (omega arith)

pub set_elsewhere : {X : Type 0} (xs : List X) (i j : ℕ) (y : X) → j ≢ i → slice_get (slice_set xs i y) j ≡ slice_get xs j
set_elsewhere [] i j y differ = refl
set_elsewhere (x ∷ xs) zero zero y differ = absurd (differ refl)
set_elsewhere (x ∷ xs) zero (suc j) y differ = refl
set_elsewhere (x ∷ xs) (suc i) zero y differ = refl
set_elsewhere (x ∷ xs) (suc i) (suc j) y differ = set_elsewhere xs i j y (λ same. differ (ap suc same))

pub set_cases : {X : Type 0} (xs : List X) (i j : ℕ) (x y : X) → i < length xs → slice_get (slice_set xs i y) j ≡ Some x → ((j ≡ i) × (x ≡ y)) ⊎ ((j ≢ i) × (slice_get xs j ≡ Some x))
set_cases xs i j x y lt is = elim (cases_eq j i) [
  | inl same ↦ inl (same, (let there = set_there xs i y lt in let here : slice_get (slice_set xs i y) i ≡ Some x = ap (λ (k : ℕ). slice_get (slice_set xs i y) k) (sym same) ∙ is in cc))
  | inr differ ↦ inr (differ, sym (set_elsewhere xs i j y differ) ∙ is)
]

pub same_region : (r : Region) (thread number : ℕ) → r.thread ≡ thread → r.number ≡ number → r ≡ region_of thread number
same_region r thread number t n = λ i. record { thread = t i; number = n i }

module _ (seen : List Access) (access : Access) where
  abbrev pub grown : List Access
  grown = seen ++ access ∷ []

  pub stays : (place : ℕ) (one : Access) → slice_get seen place ≡ Some one → slice_get grown place ≡ Some one
  stays place one is = slice_get-append seen (access ∷ []) place one is

  pub region_stays : (region : Region) → IsRegion seen region → IsRegion grown region
  region_stays region r = record { place = r.place; access = r.access; is_there = stays r.place r.access r.is_there; in_region = r.in_region }

  pub region_cases : (region : Region) → IsRegion grown region → IsRegion seen region ⊎ (access.region ≡ region)
  region_cases region r = elim (last_cases seen access r.place r.access r.is_there) [
    | inl old ↦ inl (record { place = r.place; access = r.access; is_there = old; in_region = r.in_region })
    | inr new ↦ inr (ap (λ (a : Access). a.region) (sym new.1) ∙ r.in_region)
  ]

  pub before_stays : (region other : Region) → RegionBefore seen region other → RegionBefore grown region other
  before_stays region other b = record {
    first = b.first;
    second = b.second;
    one = b.one;
    two = b.two;
    earlier = b.earlier;
    is_first = stays b.first b.one b.is_first;
    is_second = stays b.second b.two b.is_second;
    in_region = b.in_region;
    in_other = b.in_other;
    conflict = b.conflict;
  }

  -- what is before by the new access is before its region
  pub before_by : (region : Region) → Conflicts seen region access → RegionBefore grown region access.region
  before_by region c = record {
    first = c.place;
    second = length seen;
    one = c.one;
    two = access;
    earlier = slice_get_within seen c.place c.one c.is_there;
    is_first = stays c.place c.one c.is_there;
    is_second = slice_get_last seen access;
    in_region = c.in_region;
    in_other = refl;
    conflict = c.conflict;
  }

  pub before_cases : (region other : Region) → RegionBefore grown region other → RegionBefore seen region other ⊎ ((access.region ≡ other) × Conflicts seen region access)
  before_cases region other b =
      let within = slice_get_within grown b.second b.two b.is_second in
      let earlier : b.first < length seen = omega (arith, b.earlier, within, length-append seen (access ∷ [])) in
      let first : slice_get seen b.first ≡ Some b.one = elim (last_cases seen access b.first b.one b.is_first) [ inl old ↦ old | inr new ↦ absurd (omega (arith, new.0, earlier)) ] in
      elim (last_cases seen access b.second b.two b.is_second) [
        | inl old ↦ inl (record { first = b.first; second = b.second; one = b.one; two = b.two; earlier = b.earlier; is_first = first; is_second = old; in_region = b.in_region; in_other = b.in_other; conflict = b.conflict })
        | inr new ↦ inr (
          ap (λ (a : Access). a.region) (sym new.1) ∙ b.in_other,
          record { place = b.first; one = b.one; is_there = first; in_region = b.in_region; conflict = subst (λ (a : Access). InConflict b.one a) new.1 b.conflict },
        )
      ]

  -- nothing more is before another region
  pub before_other : (region other : Region) → access.region ≢ other → RegionBefore grown region other → RegionBefore seen region other
  before_other region other differ b = elim (before_cases region other b) [ inl old ↦ old | inr new ↦ absurd (differ new.0) ]

  pub held_stays : (region : Region) (wait : Wait) → HoldsBack seen region wait → HoldsBack grown region wait
  held_stays region wait held = record { by_other = held.by_other; some_bound = held.some_bound; is_before = before_stays (region_of wait.of (wait.bound - 1)) region held.is_before }

  -- a queue of another thread
  pub queue_stays : (thread : ℕ) (regions : List QueuedRegion) (waits : List Wait) → thread ≢ access.region.thread → KeepsQueue seen thread regions waits → KeepsQueue grown thread regions waits
  queue_stays thread regions waits differ keeps = record {
    rising = keeps.rising;
    each = λ i item is. region_stays (region_of thread item.number) (keeps.each i item is);
    all = λ number r. elim (region_cases (region_of thread number) r) [ inl old ↦ keeps.all number old | inr new ↦ absurd (differ (sym (ap (λ (q : Region). q.thread) new))) ];
    in_order = keeps.in_order;
    within = keeps.within;
    spanned = keeps.spanned;
    held = λ i k item wait is at lt earlier. held_stays (region_of thread item.number) wait (keeps.held i k item wait is at lt earlier);
    awaited = λ i item region is before. keeps.awaited i item region is (before_other region (region_of thread item.number) (λ same. differ (sym (ap (λ (q : Region). q.thread) same))) before);
  }

  module _ (thread number : ℕ) (is_in : access.region ≡ region_of thread number) (rise : RegionsRise grown) (regions : List QueuedRegion) (waits more : List Wait) (known known_then : Bounds) (conflicts : ℕ → ℕ) (by : BoundConflicts seen access conflicts)
      (adds : AddsWaits thread conflicts waits known more known_then) (knows : KnowsWaits waits known) (keeps : KeepsQueue seen thread regions waits) where
    -- no region of the thread has a higher number
    highest : (i : ℕ) (item : QueuedRegion) → slice_get regions i ≡ Some item → item.number ≤ number
    highest i item is =
        let r = keeps.each i item is in
        let one = rise r.place (length seen) r.access access (slice_get_within seen r.place r.access r.is_there) (stays r.place r.access r.is_there) (slice_get_last seen access)
        (ap (λ (q : Region). q.thread) r.in_region ∙ sym (ap (λ (q : Region). q.thread) is_in)) in
        omega (arith, one, ap (λ (q : Region). q.number) r.in_region, ap (λ (q : Region). q.number) is_in)

    -- a wait that was there
    was_there : (k : ℕ) (wait : Wait) → slice_get more k ≡ Some wait → k < length waits → slice_get waits k ≡ Some wait
    was_there k wait at lt =
        let here = slice_get-get_or waits k wait lt in
        let still = adds.same k (get_or waits k wait) here in
        let one : get_or waits k wait ≡ wait = cc in
        here ∙ ap (λ (w : Wait). Some w) one

    -- a new wait holds the region back
    added_holds : (k : ℕ) (wait : Wait) → length waits ≤ k → slice_get more k ≡ Some wait → HoldsBack grown (region_of thread number) wait
    added_holds k wait ge at =
        let a = adds.added k wait ge at in
        let other : wait.of ≢ access.region.thread = λ same. a.0 (same ∙ ap (λ (q : Region). q.thread) is_in) in
        let c = (by wait.of other).reached (wait.bound - 1) (omega (arith, a.1, a.2)) in
        record { by_other = a.0; some_bound = a.1; is_before = subst (λ (r : Region). RegionBefore grown (region_of wait.of (wait.bound - 1)) r) is_in (before_by (region_of wait.of (wait.bound - 1)) c) }

    -- what is in conflict with the access is waited for
    conflict_awaited : (region : Region) → Conflicts seen region access → IsAwaited more (length more) region.thread region.number
    conflict_awaited region c =
        let differ : region.thread ≢ access.region.thread = λ same. c.conflict.by_others (ap (λ (q : Region). q.thread) c.in_region ∙ same) in
        let c' = subst (λ (r : Region). Conflicts seen r access) (same_region region region.thread region.number refl refl) c in
        let lt = (by region.thread differ).below region.number c' in
        adds.knows knows region.thread region.number (adds.covers region.thread region.number (λ same. differ (same ∙ sym (ap (λ (q : Region). q.thread) is_in))) lt)

    -- what was waited for still is
    awaited_stays : (upto upto' : ℕ) (other n : ℕ) → upto ≤ upto' → IsAwaited waits upto other n → IsAwaited more upto' other n
    awaited_stays upto upto' other n le a = record { place = a.place; wait = a.wait; is_there = adds.same a.place a.wait a.is_there; sooner = omega (arith, a.sooner, le); of_thread = a.of_thread; above = a.above }

    -- the last item is of the region
    pub queue_joins : (last : ℕ) (old new : QueuedRegion) → slice_get regions last ≡ Some old → suc last ≡ length regions → old.number ≡ number → new.number ≡ number → new.waits_upto ≡ length more
        → KeepsQueue grown thread (slice_set regions last new) more
    queue_joins last old new is ends named new_named upto = record {
      rising = λ i j one other lt is_one is_other.
          let a = was i one is_one in
          let b = was j other is_other in
          omega (arith, keeps.rising i j a.0 b.0 lt a.1 b.1, a.2, b.2);
      each = λ i item is_node. let a = was i item is_node in
          subst (λ (n : ℕ). IsRegion grown (region_of thread n)) a.2 (region_stays (region_of thread a.0.number) (keeps.each i a.0 a.1));
      all = λ n r. elim (region_cases (region_of thread n) r) [
        | inl past ↦ (let k = keeps.all n past in still k.0 k.1 k.2 n k.3)
        | inr own ↦ (last, new, set_there regions last new within, new_named ∙ sym (ap (λ (q : Region). q.number) is_in) ∙ ap (λ (q : Region). q.number) own)
      ];
      in_order = λ i j one other lt is_one is_other.
          let a = was i one is_one in
          elim (set_cases regions last j other new within is_other) [
            | inl here ↦ (let b = within_more i one is_one in omega (arith, b, upto, ap (λ (x : QueuedRegion). x.waits_upto) here.1))
            | inr there ↦ elim (set_cases regions last i one new within is_one) [
              | inl here ↦ absurd (omega (arith, here.0, lt, ends, slice_get_within regions j other there.1))
              | inr first ↦ keeps.in_order i j one other lt first.1 there.1
            ]
          ];
      within = within_more;
      spanned = λ k lt. (last, new, set_there regions last new within, omega (arith, lt, upto));
      held = λ i k item wait is_node at lt earlier. elim (set_cases regions last i item new within is_node) [
        | inl here ↦ subst (λ (n : ℕ). HoldsBack grown (region_of thread n) wait) (sym new_named ∙ ap (λ (x : QueuedRegion). x.number) (sym here.1)) (elim (cases_lt k (length waits)) [
          | inr ge ↦ added_holds k wait (omega arith) at
          | inl old_one ↦
              let s = keeps.spanned k old_one in
              let le : s.0 ≤ last = omega (arith, ends, slice_get_within regions s.0 s.1 s.2) in
              let is_last : k < old.waits_upto = elim (cases_lt s.0 last) [
                | inl lower ↦ omega (arith, s.3, keeps.in_order s.0 last s.1 old lower s.2 is)
                | inr ge ↦ (let eq : s.0 ≡ last = omega (arith, le, ge) in let one : s.1 ≡ old = (let b : slice_get regions last ≡ Some s.1 = ap (slice_get regions) (sym eq) ∙ s.2 in cc) in omega (arith, s.3, ap (λ (x : QueuedRegion). x.waits_upto) one))
              ] in
              subst (λ (n : ℕ). HoldsBack grown (region_of thread n) wait) named (held_stays (region_of thread old.number) wait (keeps.held last k old wait is (was_there k wait at old_one) is_last
              (λ j one lower is_one. earlier j one (omega (arith, here.0, lower)) (set_elsewhere regions last j new (λ same. omega (arith, same, lower)) ∙ is_one))))
        ])
        | inr there ↦
            let old_one : k < length waits = omega (arith, lt, keeps.within i item there.1) in
            let lower : i < last = (let w = slice_get_within regions i item there.1 in omega (arith, w, ends, there.0)) in
            held_stays (region_of thread item.number) wait (keeps.held i k item wait there.1 (was_there k wait at old_one) lt
            (λ j one lt' is_one. earlier j one lt' (set_elsewhere regions last j new (λ same. omega (arith, same, lower, lt')) ∙ is_one)))
      ];
      awaited = λ i item region is_node before. elim (set_cases regions last i item new within is_node) [
        | inl here ↦
            let own : item.number ≡ number = ap (λ (x : QueuedRegion). x.number) here.1 ∙ new_named in
            let all_of : item.waits_upto ≡ length more = ap (λ (x : QueuedRegion). x.waits_upto) here.1 ∙ upto in
            subst (λ (n : ℕ). IsAwaited more n region.thread region.number) (sym all_of) (elim (before_cases region (region_of thread item.number) before) [
              | inl past ↦ awaited_stays old.waits_upto (length more) region.thread region.number (omega (arith, keeps.within last old is, adds.longer))
                  (keeps.awaited last old region is (subst (λ (n : ℕ). RegionBefore seen region (region_of thread n)) (own ∙ sym named) past))
              | inr new_one ↦ conflict_awaited region new_one.1
            ])
        | inr there ↦ awaited_stays item.waits_upto item.waits_upto region.thread region.number (omega arith) (keeps.awaited i item region there.1
            (before_other region (region_of thread item.number) (λ same. not_last i item there.0 there.1 (ap (λ (q : Region). q.number) (sym is_in ∙ same))) before))
      ];
    }
      where
        within : last < length regions
        within = slice_get_within regions last old is

        within_more : (i : ℕ) (item : QueuedRegion) → slice_get (slice_set regions last new) i ≡ Some item → item.waits_upto ≤ length more
        within_more i item is_node = elim (set_cases regions last i item new within is_node) [
          | inl here ↦ omega (arith, upto, ap (λ (x : QueuedRegion). x.waits_upto) here.1)
          | inr there ↦ omega (arith, keeps.within i item there.1, adds.longer)
        ]

        was : (i : ℕ) (item : QueuedRegion) → slice_get (slice_set regions last new) i ≡ Some item → (before : QueuedRegion) × (slice_get regions i ≡ Some before) × (before.number ≡ item.number)
        was i item is_node = elim (set_cases regions last i item new within is_node) [
          | inl here ↦ (old, ap (slice_get regions) here.0 ∙ is, named ∙ sym new_named ∙ ap (λ (x : QueuedRegion). x.number) (sym here.1))
          | inr there ↦ (item, there.1, refl)
        ]

        still : (i : ℕ) (item : QueuedRegion) → slice_get regions i ≡ Some item → (n : ℕ) → item.number ≡ n → (j : ℕ) × (x : QueuedRegion) × (slice_get (slice_set regions last new) j ≡ Some x) × (x.number ≡ n)
        still i item is_node n is_n = elim (cases_eq i last) [
          | inl here ↦ (last, new, set_there regions last new within, (let same : item ≡ old = (let at : slice_get regions last ≡ Some item = ap (slice_get regions) (sym here) ∙ is_node in cc) in new_named ∙ sym named ∙ ap (λ (x : QueuedRegion). x.number) (sym same) ∙ is_n))
          | inr there ↦ (i, item, set_elsewhere regions last i new there ∙ is_node, is_n)
        ]

        not_last : (i : ℕ) (item : QueuedRegion) → i ≢ last → slice_get regions i ≡ Some item → number ≢ item.number
        not_last i item differ is_node = elim (cases_lt i last) [
          | inl lt ↦ λ same. omega (arith, keeps.rising i last item old lt is_node is, named, same)
          | inr ge ↦ λ same. omega (arith, keeps.rising last i old item (omega arith) is is_node, named, same)
        ]

    -- a new item at the end
    pub queue_begins : (item : QueuedRegion) → item.number ≡ number → item.waits_upto ≡ length more → ((i : ℕ) (last : QueuedRegion) → suc i ≡ length regions → slice_get regions i ≡ Some last → last.number ≢ number)
        → KeepsQueue grown thread (regions ++ item ∷ []) more
    queue_begins item named upto ends = record {
      rising = λ i j one other lt is_one is_other.
          let past = sooner i j one other lt is_one is_other in
          elim (last_cases regions item j other is_other) [
            | inl old ↦ keeps.rising i j one other lt past old
            | inr new ↦ omega (arith, lower i one past, named, ap (λ (x : QueuedRegion). x.number) new.1)
          ];
      each = λ i one is_one. elim (last_cases regions item i one is_one) [
        | inl old ↦ region_stays (region_of thread one.number) (keeps.each i one old)
        | inr new ↦ record { place = length seen; access = access; is_there = slice_get_last seen access; in_region = is_in ∙ ap (region_of thread) (sym named ∙ ap (λ (x : QueuedRegion). x.number) (sym new.1)) }
      ];
      all = λ n r. elim (region_cases (region_of thread n) r) [
        | inl past ↦ (let k = keeps.all n past in (k.0, k.1, slice_get-append regions (item ∷ []) k.0 k.1 k.2, k.3))
        | inr own ↦ (length regions, item, slice_get_last regions item, named ∙ ap (λ (q : Region). q.number) (sym is_in ∙ own))
      ];
      in_order = λ i j one other lt is_one is_other.
          let past = sooner i j one other lt is_one is_other in
          elim (last_cases regions item j other is_other) [
            | inl old ↦ keeps.in_order i j one other lt past old
            | inr new ↦ omega (arith, keeps.within i one past, adds.longer, upto, ap (λ (x : QueuedRegion). x.waits_upto) new.1)
          ];
      within = λ i one is_one. elim (last_cases regions item i one is_one) [
        | inl old ↦ omega (arith, keeps.within i one old, adds.longer)
        | inr new ↦ omega (arith, upto, ap (λ (x : QueuedRegion). x.waits_upto) new.1)
      ];
      spanned = λ k lt. (length regions, item, slice_get_last regions item, omega (arith, lt, upto));
      held = λ i k one wait is_one at lt earlier. elim (last_cases regions item i one is_one) [
        | inl old ↦ held_stays (region_of thread one.number) wait (keeps.held i k one wait old (was_there k wait at (omega (arith, lt, keeps.within i one old))) lt
            (λ j first lt' is_first. earlier j first lt' (slice_get-append regions (item ∷ []) j first is_first)))
        | inr new ↦ subst (λ (n : ℕ). HoldsBack grown (region_of thread n) wait) (sym named ∙ ap (λ (x : QueuedRegion). x.number) (sym new.1)) (elim (cases_lt k (length waits)) [
          | inr ge ↦ added_holds k wait (omega arith) at
          | inl past ↦ absurd (
              let s = keeps.spanned k past in
              omega (arith, s.3, earlier s.0 s.1 (omega (arith, new.0, slice_get_within regions s.0 s.1 s.2)) (slice_get-append regions (item ∷ []) s.0 s.1 s.2)))
        ])
      ];
      awaited = λ i one region is_one before. elim (last_cases regions item i one is_one) [
        | inl old ↦ awaited_stays one.waits_upto one.waits_upto region.thread region.number (omega arith) (keeps.awaited i one region old
            (before_other region (region_of thread one.number) (λ same. (let lt = lower i one old in omega (arith, lt, ap (λ (q : Region). q.number) (sym is_in ∙ same)))) before))
        | inr new ↦
            let own : one.number ≡ number = ap (λ (x : QueuedRegion). x.number) new.1 ∙ named in
            let all_of : one.waits_upto ≡ length more = ap (λ (x : QueuedRegion). x.waits_upto) new.1 ∙ upto in
            subst (λ (n : ℕ). IsAwaited more n region.thread region.number) (sym all_of) (elim (before_cases region (region_of thread one.number) before) [
              | inl past ↦ absurd (fresh (subst (λ (n : ℕ). IsRegion seen (region_of thread n)) own (record { place = past.second; access = past.two; is_there = past.is_second; in_region = past.in_other })))
              | inr new_one ↦ conflict_awaited region new_one.1
            ])
      ];
    }
      where
        sooner : (i j : ℕ) (one other : QueuedRegion) → i < j → slice_get (regions ++ item ∷ []) i ≡ Some one → slice_get (regions ++ item ∷ []) j ≡ Some other → slice_get regions i ≡ Some one
        sooner i j one other lt is_one is_other = elim (last_cases regions item i one is_one) [
          | inl old ↦ old
          | inr new ↦ absurd (omega (arith, lt, new.0, slice_get_within (regions ++ item ∷ []) j other is_other, length-append regions (item ∷ [])))
        ]

        lower : (i : ℕ) (one : QueuedRegion) → slice_get regions i ≡ Some one → one.number < number
        lower i one is_one = elim (cases_lt (suc i) (length regions)) [
          | inr ge ↦ (let lt = slice_get_within regions i one is_one in omega (arith, highest i one is_one, ends i one (omega arith) is_one))
          | inl lt ↦
              let last = length regions - 1 in
              let item = slice_get-get_or regions last one (omega arith) in
              omega (arith, keeps.rising i last one (get_or regions last one) (omega arith) is_one item, highest last (get_or regions last one) item)
        ]

        fresh : ¬ IsRegion seen (region_of thread number)
        fresh r = let k = keeps.all number r in omega (arith, lower k.0 k.1 k.2, k.3)
