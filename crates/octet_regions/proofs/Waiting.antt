-- What a queue waits for, as waits are added to it and gone past.
use Rattle.std.proofs.Common.{◌≡◌, ◌≢◌, ℕ, zero, suc, ◌+◌, ◌<◌, ◌≤◌, ◌⊎◌, inl, inr, true, false, List, [], ◌∷◌, ◌++◌, length, Option, Some, None, nat_lt, slice_get, get_or, refl, sym, ap, ◌∙◌, subst, arith, length-append}
use Rattle.std.proofs.lemmas.Bool.{cases_eq, cases_lt, ltb-true, ltb-false}
use Rattle.std.proofs.lemmas.Option.{slice_get_within}
use Rattle.octet_model.proofs.lemmas.Lists.{slice_get-append, slice_get_last}
use Rattle.octet_regions.specs.declared.bounds.Bounds.{Bounds}
use Rattle.octet_regions.specs.declared.queue.RegionQueue.{RegionQueue}
use Rattle.octet_regions.specs.declared.queue.Wait.{Wait}
use Rattle.octet_regions.specs.code.Bounds.{bound_in, IsRaised}
use Rattle.octet_regions.specs.code.Earlier.{AddsWaits, IsUnmet, KnowsWaits, LowestUnmet, is_lower}
use Rattle.octet_regions.proofs.LastAccesses.{last_cases}

-- waits are added for the threads below a number
pub record AddsBelow (limit thread : ℕ) (conflicts : ℕ → ℕ) (before : List Wait) (known : Bounds) (after : List Wait) (known_then : Bounds) : Type 0 where
  pub longer : length before ≤ length after
  pub same : (k : ℕ) (wait : Wait) → slice_get before k ≡ Some wait → slice_get after k ≡ Some wait
  pub added : (k : ℕ) (wait : Wait) → length before ≤ k → slice_get after k ≡ Some wait → (wait.of ≢ thread) × (0 < wait.bound) × (wait.bound ≡ conflicts wait.of)
  pub covers : (other number : ℕ) → other < limit → other ≢ thread → number < conflicts other → number < bound_in known_then other
  pub knows : KnowsWaits before known → KnowsWaits after known_then

-- nothing is added where there are no conflicts
pub adds_nothing : (thread : ℕ) (before : List Wait) (known : Bounds) → AddsWaits thread (λ other. 0) before known before known
adds_nothing thread before known = record {
  longer = omega arith;
  same = λ k wait is. is;
  added = λ k wait ge is. absurd (omega (arith, ge, slice_get_within before k wait is));
  covers = λ other number differ lt. absurd (omega (arith, lt));
  knows = λ knows. knows;
}

-- one more thread, of which nothing is added: it is the own one, or its bound is known
pub adds_skip : (limit thread : ℕ) (conflicts : ℕ → ℕ) (before : List Wait) (known : Bounds) (after : List Wait) (known_then : Bounds) → (limit ≢ thread → conflicts limit ≤ bound_in known_then limit)
    → AddsBelow limit thread conflicts before known after known_then → AddsBelow (limit + 1) thread conflicts before known after known_then
adds_skip limit thread conflicts before known after known_then is_known adds = record {
  longer = adds.longer;
  same = adds.same;
  added = adds.added;
  covers = λ other number lt differ above. elim (cases_eq other limit) [
    | inr not ↦ adds.covers other number (omega (arith, lt, not)) differ above
    | inl own ↦ subst (λ (o : ℕ). number < bound_in known_then o) (sym own) (
        let above' : number < conflicts limit = subst (λ (o : ℕ). number < conflicts o) own above in
        omega (arith, above', is_known (λ same. differ (own ∙ same))))
  ];
  knows = adds.knows;
}

-- one more thread, of which a wait is added
pub adds_more : (limit thread : ℕ) (conflicts : ℕ → ℕ) (before : List Wait) (known : Bounds) (after more : List Wait) (known_then known_more : Bounds) (wait : Wait) → limit ≢ thread → bound_in known_then limit < wait.bound
    → wait.of ≡ limit → wait.bound ≡ conflicts limit → more ≡ after ++ wait ∷ [] → IsRaised known_then limit wait.bound known_more
    → AddsBelow limit thread conflicts before known after known_then → AddsBelow (limit + 1) thread conflicts before known more known_more
adds_more limit thread conflicts before known after more known_then known_more wait differ above of_is bound_is more_is raised adds = subst (λ (l : List Wait). AddsBelow (limit + 1) thread conflicts before known l known_more) (sym more_is) (record {
  longer = omega (arith, adds.longer, length-append after (wait ∷ []));
  same = λ k one is. slice_get-append after (wait ∷ []) k one (adds.same k one is);
  added = λ k one ge is. elim (last_cases after wait k one is) [
    | inl old ↦ adds.added k one ge old
    | inr new ↦ subst (λ (w : Wait). (w.of ≢ thread) × (0 < w.bound) × (w.bound ≡ conflicts w.of)) (sym new.1)
        (λ same. differ (sym of_is ∙ same), omega (arith, above), bound_is ∙ ap conflicts (sym of_is))
  ];
  covers = λ other number lt differ' below. elim (cases_eq other limit) [
    | inr not ↦ omega (arith, adds.covers other number (omega (arith, lt, not)) differ' below, raised.others other not)
    | inl own ↦ subst (λ (o : ℕ). number < bound_in known_more o) (sym own) (
        let below' : number < conflicts limit = subst (λ (o : ℕ). number < conflicts o) own below in
        let own' = raised.own in omega (arith, below', bound_is, own_is))
  ];
  knows = λ knows other number lt. elim (cases_eq other limit) [
    | inr not ↦ (let a = adds.knows knows other number (omega (arith, lt, raised.others other not)) in record { place = a.place; wait = a.wait; is_there = slice_get-append after (wait ∷ []) a.place a.wait a.is_there; sooner = omega (arith, a.sooner, length-append after (wait ∷ [])); of_thread = a.of_thread; above = a.above })
    | inl own ↦ record {
      place = length after;
      wait = wait;
      is_there = slice_get_last after wait;
      sooner = omega (arith, length-append after (wait ∷ []));
      of_thread = of_is ∙ sym own;
      above = (let lt' : number < bound_in known_more limit = subst (λ (o : ℕ). number < bound_in known_more o) own lt in omega (arith, lt', own_is));
    }
  ];
})
  where
    own_is : bound_in known_more limit ≡ wait.bound
    own_is = let own = raised.own in grind (arith, own, above)

nothing_past : (xs : List ℕ) (i : ℕ) → length xs ≤ i → get_or xs i 0 ≡ 0
nothing_past [] i le = refl
nothing_past (x ∷ xs) zero le = absurd (omega arith)
nothing_past (x ∷ xs) (suc i) le = nothing_past xs i (omega arith)

pub none_past : (bounds : Bounds) (thread : ℕ) → length bounds.bounds ≤ thread → bound_in bounds thread ≡ 0
none_past bounds thread le = nothing_past bounds.bounds thread le

-- all threads
pub adds_all : (limit thread : ℕ) (conflicts : ℕ → ℕ) (before : List Wait) (known : Bounds) (after : List Wait) (known_then : Bounds) → ((other : ℕ) → limit ≤ other → conflicts other ≡ 0) → AddsBelow limit thread conflicts before known after known_then
    → AddsWaits thread conflicts before known after known_then
adds_all limit thread conflicts before known after known_then all adds = record {
  longer = adds.longer;
  same = adds.same;
  added = adds.added;
  covers = λ other number differ above. elim (cases_lt other limit) [
    | inl lt ↦ adds.covers other number lt differ above
    | inr ge ↦ absurd (omega (arith, above, all other ge))
  ];
  knows = adds.knows;
}

-- the lowest thread of which a wait is not over, place by place
module _ (queue : RegionQueue) (taken : Bounds) where
  unmet_more : (upto other : ℕ) → IsUnmet queue taken upto other → IsUnmet queue taken (upto + 1) other
  unmet_more upto other u = record { place = u.place; wait = u.wait; is_there = u.is_there; from_here = u.from_here; sooner = omega (arith, u.sooner); of_thread = u.of_thread; above = u.above }

  unmet_cases : (upto other : ℕ) (wait : Wait) → slice_get queue.waits.items upto ≡ Some wait → IsUnmet queue taken (upto + 1) other → IsUnmet queue taken upto other ⊎ ((wait.of ≡ other) × (bound_in taken other < wait.bound))
  unmet_cases upto other wait is u = elim (cases_eq u.place upto) [
    | inr not ↦ inl (record { place = u.place; wait = u.wait; is_there = u.is_there; from_here = u.from_here; sooner = omega (arith, u.sooner, not); of_thread = u.of_thread; above = u.above })
    | inl here ↦ inr (
        let at : slice_get queue.waits.items upto ≡ Some u.wait = ap (slice_get queue.waits.items) (sym here) ∙ u.is_there in
        let one : u.wait ≡ wait = cc in
        (ap (λ (w : Wait). w.of) (sym one) ∙ u.of_thread, omega (arith, u.above, ap (λ (w : Wait). w.bound) one)))
  ]

  -- a wait that is over, or of a thread that is no lower, changes nothing
  pub unmet_skip : (upto : ℕ) (wait : Wait) (lowest : Option ℕ) → slice_get queue.waits.items upto ≡ Some wait → (bound_in taken wait.of < wait.bound → is_lower wait.of lowest ≡ false) → LowestUnmet queue taken upto lowest → LowestUnmet queue taken (upto + 1) lowest
  unmet_skip upto wait None is skipped none = λ other u. elim (unmet_cases upto other wait is u) [
    | inl old ↦ none other old
    | inr here ↦ (let above : bound_in taken wait.of < wait.bound = subst (λ (o : ℕ). bound_in taken o < wait.bound) (sym here.0) here.1 in let no_ = skipped above in cc)
  ]
  unmet_skip upto wait (Some low) is skipped lowest = (
    unmet_more upto low lowest.0,
    λ lower lt u. elim (unmet_cases upto lower wait is u) [
      | inl old ↦ lowest.1 lower lt old
      | inr here ↦ (
          let above : bound_in taken wait.of < wait.bound = subst (λ (o : ℕ). bound_in taken o < wait.bound) (sym here.0) here.1 in
          not_lower wait.of low (skipped above) (omega (arith, lt, here.0)))
    ],
  )
    where
      not_lower : (a b : ℕ) → nat_lt a b ≡ false → a < b → ⊥
      not_lower a b not lt = omega (arith, lt, ltb-false a b not)

  -- one that is not over, of a lower thread
  pub unmet_found : (upto : ℕ) (wait : Wait) (lowest : Option ℕ) → slice_get queue.waits.items upto ≡ Some wait → queue.over ≤ upto → bound_in taken wait.of < wait.bound → is_lower wait.of lowest ≡ true → LowestUnmet queue taken upto lowest → LowestUnmet queue taken (upto + 1) (Some wait.of)
  unmet_found upto wait lowest is from above lower_one least = (
    record { place = upto; wait = wait; is_there = is; from_here = from; sooner = omega arith; of_thread = refl; above = above },
    λ lower lt u. elim (unmet_cases upto lower wait is u) [
      | inl old ↦ none_below lowest lower_one least lower lt old
      | inr here ↦ omega (arith, lt, here.0)
    ],
  )
    where
      none_below : (o : Option ℕ) → is_lower wait.of o ≡ true → LowestUnmet queue taken upto o → (lower : ℕ) → lower < wait.of → ¬ IsUnmet queue taken upto lower
      none_below None yes_ none lower lt u = none lower u
      none_below (Some low) yes_ some_ lower lt u = some_.1 lower (omega (arith, lt, ltb-true wait.of low yes_)) u

  -- up to where the waits end
  unmet_same : (place upto other : ℕ) → (upto ≤ place) → ((place ≤ upto) ⊎ (place ≡ queue.over)) → IsUnmet queue taken place other → IsUnmet queue taken upto other
  unmet_same place upto other ge at u = elim at [
    | inl le ↦ (let e : place ≡ upto = omega (arith, ge, le) in subst (λ (p : ℕ). IsUnmet queue taken p other) e u)
    | inr start ↦ absurd (omega (arith, start, u.from_here, u.sooner))
  ]

  unmet_back : (place upto other : ℕ) → (upto ≤ place) → IsUnmet queue taken upto other → IsUnmet queue taken place other
  unmet_back place upto other ge u = record { place = u.place; wait = u.wait; is_there = u.is_there; from_here = u.from_here; sooner = omega (arith, u.sooner, ge); of_thread = u.of_thread; above = u.above }

  pub unmet_all : (place upto : ℕ) (lowest : Option ℕ) → upto ≤ place → (place ≤ upto) ⊎ (place ≡ queue.over) → LowestUnmet queue taken place lowest → LowestUnmet queue taken upto lowest
  unmet_all place upto None ge at none = λ other u. none other (unmet_back place upto other ge u)
  unmet_all place upto (Some low) ge at least = (unmet_same place upto low ge at least.0, λ lower lt u. least.1 lower lt (unmet_back place upto lower ge u))
