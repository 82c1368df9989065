-- The accesses of the regions in the serial choice's order are the accesses in another order that keeps conflicts.
use Rattle.std.proofs.Common.{◌≡◌, ◌≢◌, ℕ, zero, suc, ◌<◌, ◌⊎◌, inl, inr, Bool, true, false, ◌&&◌, ◌||◌, ◌==◌, not, IsTrue, List, [], ◌∷◌, ◌++◌, Some, slice_get, refl, sym, ap, ◌∙◌, subst, arith, append_assoc, append-nil}
use Rattle.std.specs.List.{filter, flat_map, Contains}
use Rattle.std.proofs.lemmas.Bool.{and_parts, and_from, cases_eq, eq-eqb, eqb-true}
use Rattle.octet_model.specs.declared.event.Event.{Event}
use Rattle.octet_model.specs.declared.event.Event.TheVariants.{Read, Write, Update, Marked}
use Rattle.octet_model.specs.Machine.{event_made}
use Rattle.octet_model.specs.HappensBefore.{object_of, is_write}
use Rattle.octet_model.specs.Plays.{operation_of}
use Rattle.octet_model.proofs.lemmas.Fronts.{apart_or_clash}
use Rattle.octet_regions.specs.declared.access.Access.{Access}
use Rattle.octet_regions.specs.declared.region.Region.{Region}
use Rattle.octet_regions.specs.Before.{InConflict}
use Rattle.octet_regions.specs.Choice.{IsLeft, IsChosen, IsChoice, TakesAll}
use Rattle.octet_regions.specs.code.Earlier.{RegionsRise}
use Rattle.octet_regions.specs.Runs.{is_in}
use Rattle.octet_regions.proofs.Choosing.{no_item}
use Rattle.octet_regions.proofs.Queues.{same_region}
use Rattle.octet_regions.proofs.Reordering.{Reorders, Swap, behind_all, filter_all, filter_both, filter_none, filter_same, pairs_filter, pairs_from, parted, same_order, then_order}

object_made : (event : Event) (heap : List ℕ) → object_of (event_made (operation_of event) heap) ≡ object_of event
object_made (Read object value) heap = refl
object_made (Write object value) heap = refl
object_made (Update object before then) heap = refl
object_made (Marked mark) heap = refl

write_made : (event : Event) (heap : List ℕ) → is_write (event_made (operation_of event) heap) ≡ is_write event
write_made (Read object value) heap = refl
write_made (Write object value) heap = refl
write_made (Update object before then) heap = refl
write_made (Marked mark) heap = refl

-- two accesses by different threads may change places, or are in conflict
swap_or_conflict : (x y : Access) → x.region.thread ≢ y.region.thread → Swap x y ⊎ InConflict x y
swap_or_conflict x y others = elim (apart_or_clash (operation_of x.event) (operation_of y.event)) [
  | inl apart ↦ inl (record { others = others; apart = apart })
  | inr clash ↦ inr (record {
    by_others = others;
    object = clash.object;
    of_one = sym (object_made x.event []) ∙ clash.of_first [];
    of_same = sym (object_made y.event []) ∙ clash.of_second [];
    one_writes = subst (λ (b : Bool). IsTrue (b || is_write y.event)) (write_made x.event []) (subst (λ (b : Bool). IsTrue (is_write (event_made (operation_of x.event) []) || b)) (write_made y.event []) (clash.one_writes [] []));
  })
]

in_is : (region : Region) (a : Access) → is_in region a ≡ true → a.region ≡ region
in_is region a is = let parts = and_parts (a.region.thread == region.thread) (a.region.number == region.number) is in same_region a.region region.thread region.number (eqb-true a.region.thread region.thread parts.0) (eqb-true a.region.number region.number parts.1)

is_in_own : (region : Region) (a : Access) → a.region ≡ region → is_in region a ≡ true
is_in_own region a is = and_from (a.region.thread == region.thread) (a.region.number == region.number) (eq-eqb a.region.thread region.thread (ap (λ (r : Region). r.thread) is)) (eq-eqb a.region.number region.number (ap (λ (r : Region). r.number) is))

-- whether an access is in one of the regions
abbrev in_any : List Region → Access → Bool
in_any [] a = false
in_any (region ∷ taken) a = is_in region a || in_any taken a

in_any_more : (taken : List Region) (region : Region) (a : Access) → in_any (taken ++ region ∷ []) a ≡ (in_any taken a || is_in region a)
in_any_more [] region a = or_none (is_in region a)
  where
    or_none : (b : Bool) → (b || false) ≡ b
    or_none true = refl
    or_none false = refl
in_any_more (first ∷ taken) region a = go (is_in first a) (in_any_more taken region a)
  where
    go : (b : Bool) → in_any (taken ++ region ∷ []) a ≡ (in_any taken a || is_in region a) → (b || in_any (taken ++ region ∷ []) a) ≡ ((b || in_any taken a) || is_in region a)
    go true same = refl
    go false same = same

in_any_if : (taken : List Region) (a : Access) → Contains taken a.region → in_any taken a ≡ true
in_any_if [] a has = absurd (no_item a.region has)
in_any_if (region ∷ taken) a (zero, lt, is) = ap (λ (b : Bool). b || in_any taken a) (is_in_own region a (sym is))
in_any_if (region ∷ taken) a (suc k, lt, is) = go (is_in region a) (in_any_if taken a (k, omega arith, is))
  where
    go : (b : Bool) → in_any taken a ≡ true → (b || in_any taken a) ≡ true
    go true more = refl
    go false more = more

in_any_is : (taken : List Region) (a : Access) → in_any taken a ≡ true → Contains taken a.region
in_any_is [] a is = absurd cc
in_any_is (region ∷ taken) a is = go (is_in region a) refl is (λ more. in_any_is taken a more)
  where
    go : (b : Bool) → is_in region a ≡ b → (b || in_any taken a) ≡ true → (in_any taken a ≡ true → Contains taken a.region) → Contains (region ∷ taken) a.region
    go true here is' more = (0, omega arith, sym (in_is region a here))
    go false here is' more = let m = more is' in (suc m.0, omega (arith, m.1), m.2)

abbrev left_in : List Region → Access → Bool
left_in taken a = not (in_any taken a)

module _ (accesses : List Access) (rise : RegionsRise accesses) where
  left_is : (taken : List Region) (k : ℕ) (a : Access) → slice_get accesses k ≡ Some a → left_in taken a ≡ true → IsLeft accesses taken a.region
  left_is taken k a at_k left = record {
    is_region = record { place = k; access = a; is_there = at_k; in_region = refl };
    not_taken = λ has. (let yes_ = in_any_if taken a has in go (in_any taken a) yes_ left);
  }
    where
      go : (b : Bool) → b ≡ true → not b ≡ true → ⊥
      go true is no_ = cc
      go false is no_ = cc

  -- an access that is left and not in the chosen region, and one of that region behind it, may change places
  may_swap : (taken : List Region) (region : Region) → IsChosen accesses taken region → (i j : ℕ) (x y : Access) → i < j → slice_get accesses i ≡ Some x → slice_get accesses j ≡ Some y
      → left_in taken x ≡ true → left_in taken y ≡ true → is_in region x ≡ false → is_in region y ≡ true → Swap x y
  may_swap taken region chosen i j x y lt at_i at_j left_x left_y out_x in_y =
      let left = left_is taken i x at_i left_x in
      let y_is = in_is region y in_y in
      elim (cases_eq x.region.thread y.region.thread) [
        | inl same ↦ absurd (
            let here : x.region.thread ≡ region.thread = same ∙ ap (λ (r : Region). r.thread) y_is in
            let first = chosen.free.next.first x.region left here in
            let rises = rise i j x y lt at_i at_j same in
            let own : x.region ≡ region = same_region x.region region.thread region.number here (omega (arith, first, rises, ap (λ (r : Region). r.number) y_is)) in
            let yes_ = is_in_own region x own in
            let none : true ≡ false = sym yes_ ∙ out_x in cc)
        | inr others ↦ elim (swap_or_conflict x y others) [
          | inl swap ↦ swap
          | inr conflict ↦ absurd (chosen.free.none_before x.region left (record { first = i; second = j; one = x; two = y; earlier = lt; is_first = at_i; is_second = at_j; in_region = refl; in_other = y_is; conflict = conflict }))
        ]
      ]

  abbrev pub in_turn : List Region → List Access
  in_turn order = flat_map (λ region. filter (is_in region) accesses) order

  -- from what was taken on
  reorders_from : (order taken : List Region) → IsChoice accesses taken order → TakesAll accesses (taken ++ order) → Reorders (filter (left_in taken) accesses) (in_turn order)
  reorders_from [] taken choice all =
      subst (λ (l : List Access). Reorders l []) (sym (filter_none (left_in taken) accesses (λ k a at_k.
      (let has = all a.region (record { place = k; access = a; is_there = at_k; in_region = refl }) in ap not (in_any_if taken a (subst (λ (l : List Region). Contains l a.region) (append-nil taken) has)))))) (same_order [])
  reorders_from (region ∷ order) taken choice all =
      let left = filter (left_in taken) accesses in
      let pairs = pairs_filter (λ x y. is_in region x ≡ false → is_in region y ≡ true → Swap x y) (left_in taken) accesses (pairs_from _ accesses (λ i j x y lt at_i at_j left_x left_y. may_swap taken region choice.0 i j x y lt at_i at_j left_x left_y)) in
      let part = parted (is_in region) left pairs in
      let mine : filter (is_in region) left ≡ filter (is_in region) accesses =
      filter_both (is_in region) (left_in taken) accesses ∙ filter_same (λ a. left_in taken a && is_in region a) (is_in region) accesses (λ k a at_k. own_are_left taken region choice.0 a (is_in region a) refl) in
      let others : filter (λ a. not (is_in region a)) left ≡ filter (left_in (taken ++ region ∷ [])) accesses =
      filter_both (λ a. not (is_in region a)) (left_in taken) accesses ∙ filter_same (λ a. left_in taken a && not (is_in region a)) (left_in (taken ++ region ∷ [])) accesses (λ k a at_k. without (in_any taken a) (is_in region a) (in_any (taken ++ region ∷ []) a) (in_any_more taken region a)) in
      let rest = reorders_from order (taken ++ region ∷ []) choice.1 (subst (λ (l : List Region). TakesAll accesses l) (sym (append_assoc taken (region ∷ []) order)) all) in
      then_order left (filter (is_in region) accesses ++ filter (left_in (taken ++ region ∷ [])) accesses) (in_turn (region ∷ order))
      (subst (λ (l : List Access). Reorders left (l ++ filter (left_in (taken ++ region ∷ [])) accesses)) mine (subst (λ (l : List Access). Reorders left (filter (is_in region) left ++ l)) others part))
      (behind_all (filter (is_in region) accesses) (filter (left_in (taken ++ region ∷ [])) accesses) (in_turn order) rest)
    where
      own_are_left : (taken' : List Region) (r : Region) → IsChosen accesses taken' r → (a : Access) (b : Bool) → is_in r a ≡ b → (left_in taken' a && is_in r a) ≡ is_in r a
      own_are_left taken' r chosen a true is = clear (in_any taken' a) (is_in r a) (λ yes_. chosen.free.next.left.not_taken (subst (Contains taken') (in_is r a is) (in_any_is taken' a yes_)))
        where
          clear : (c d : Bool) → (c ≡ true → ⊥) → (not c && d) ≡ d
          clear true d none = absurd (none refl)
          clear false d none = refl
      own_are_left taken' r chosen a false is = ap (λ (b : Bool). left_in taken' a && b) is ∙ and_false (left_in taken' a) ∙ sym is
        where
          and_false : (c : Bool) → (c && false) ≡ false
          and_false true = refl
          and_false false = refl

      without : (c d e : Bool) → e ≡ (c || d) → (not c && not d) ≡ not e
      without true d e is = sym (ap not is)
      without false d e is = sym (ap not is)

  pub reorders : (order : List Region) → IsChoice accesses [] order → TakesAll accesses order → Reorders accesses (in_turn order)
  reorders order choice all = subst (λ (l : List Access). Reorders l (in_turn order)) (filter_all (left_in []) accesses (λ k a at_k. refl)) (reorders_from order [] choice all)
