-- Bounds on what tables of accesses hold.
use Rattle.std.proofs.Common.{◌≡◌, ◌≢◌, ℕ, zero, suc, ◌⊎◌, inl, inr, max, Bool, true, false, ◌||◌, IsTrue, List, [], ◌∷◌, ◌++◌, length, Some, None, slice_get, refl, sym, ap, ◌∙◌, subst, arith}
use Rattle.std.proofs.lemmas.Bool.{cases_eq, cases_lt}
use Rattle.octet_model.specs.HappensBefore.{object_of, is_write}
use Rattle.octet_model.proofs.lemmas.Lists.{slice_get-append, slice_get_last}
use Rattle.octet_regions.specs.declared.access.Access.{Access}
use Rattle.octet_regions.specs.declared.bounds.Bounds.{Bounds}
use Rattle.octet_regions.specs.declared.region.Region.{Region}
use Rattle.octet_regions.specs.declared.last.LastRegions.{LastRegions}
use Rattle.octet_regions.specs.code.Bounds.{last_in, IsBound, IsNoted}
use Rattle.octet_regions.specs.code.Earlier.{Touches, Conflicts, KeepsLast, BoundConflicts, region_of}

-- the item at a place of a list with one more is one of the list, or the one more
pub last_cases : {X : Type 0} (xs : List X) (y : X) (i : ℕ) (x : X) → slice_get (xs ++ y ∷ []) i ≡ Some x → (slice_get xs i ≡ Some x) ⊎ ((i ≡ length xs) × (x ≡ y))
last_cases [] y zero x is = inr (refl, cc)
last_cases [] y (suc i) x is = absurd cc
last_cases (z ∷ xs) y zero x is = inl is
last_cases (z ∷ xs) y (suc i) x is = elim (last_cases xs y i x is) [ inl old ↦ inl old | inr new ↦ inr (ap suc new.0, new.1) ]

-- the higher of two bounds bounds what either bounds
pub both_bounded : (H K L : ℕ → Type 0) (b c : ℕ) → ((number : ℕ) → L number → H number ⊎ K number) → ((number : ℕ) → H number → L number) → ((number : ℕ) → K number → L number)
    → IsBound H b → IsBound K c → IsBound L (max b c)
both_bounded H K L b c splits left right of_left of_right = record {
  below = λ number holds. elim (splits number holds) [ inl h ↦ (let lt = of_left.below number h in grind arith) | inr k ↦ (let lt = of_right.below number k in grind arith) ];
  reached = λ number is. elim (cases_lt c b) [
    | inl lt ↦ left number (of_left.reached number (let e : max b c ≡ b = grind arith in sym e ∙ is))
    | inr ge ↦ right number (of_right.reached number (let e : max b c ≡ c = grind arith in sym e ∙ is))
  ];
}

-- what holds for the same is bounded by the same
pub same_bounded : (H K : ℕ → Type 0) (b c : ℕ) → ((number : ℕ) → H number → K number) → ((number : ℕ) → K number → H number) → b ≡ c → IsBound H b → IsBound K c
same_bounded H K b c to back same of = record {
  below = λ number holds. omega (arith, of.below number (back number holds), same);
  reached = λ number is. to number (of.reached number (same ∙ is));
}

-- one number
pub one_bounded : (number : ℕ) → IsBound (λ other. other ≡ number) (suc number)
one_bounded number = record { below = λ other is. omega arith; reached = λ other is. omega arith }

pub touches_more : (seen : List Access) (access : Access) (any : Bool) (object : ℕ) (region : Region) → Touches seen any object region → Touches (seen ++ access ∷ []) any object region
touches_more seen access any object region t = record { place = t.place; access = t.access; is_there = slice_get-append seen (access ∷ []) t.place t.access t.is_there; in_region = t.in_region; of_object = t.of_object; writes = t.writes }

-- a table of a kind of accesses, with one more access
module _ (seen : List Access) (access : Access) (any : Bool) (before after : List Bounds)
    (keeps : (object thread : ℕ) → IsBound (λ number. Touches seen any object (region_of thread number)) (last_in before object thread)) where
  abbrev pub Kept : Type 0
  Kept = (object thread : ℕ) → IsBound (λ number. Touches (seen ++ access ∷ []) any object (region_of thread number)) (last_in after object thread)

  touched_before : (object thread number : ℕ) → ((object_of access.event ≡ Some object) → (access.region ≡ region_of thread number) → IsTrue (is_write access.event || any) → ⊥)
      → Touches (seen ++ access ∷ []) any object (region_of thread number) → Touches seen any object (region_of thread number)
  touched_before object thread number not t =
      elim (last_cases seen access t.place t.access t.is_there) [
        | inl old ↦ record { place = t.place; access = t.access; is_there = old; in_region = t.in_region; of_object = t.of_object; writes = t.writes }
        | inr new ↦ absurd (not (ap (λ (a : Access). object_of a.event) (sym new.1) ∙ t.of_object) (ap (λ (a : Access). a.region) (sym new.1) ∙ t.in_region)
            (subst (λ (a : Access). IsTrue (is_write a.event || any)) new.1 t.writes))
      ]

  -- where it is none of the kind, nothing is noted
  pub not_noted : ((object : ℕ) → object_of access.event ≡ Some object → IsTrue (is_write access.event || any) → ⊥) → after ≡ before → Kept
  not_noted not same object thread =
      same_bounded (λ number. Touches seen any object (region_of thread number)) (λ number. Touches (seen ++ access ∷ []) any object (region_of thread number)) _ _
      (λ number t. touches_more seen access any object (region_of thread number) t) (λ number t. touched_before object thread number (λ of in_region writes. not object of writes) t)
      (ap (λ (table : List Bounds). last_in table object thread) (sym same)) (keeps object thread)

  -- and where it is, its region
  pub noted : (object : ℕ) → object_of access.event ≡ Some object → IsTrue (is_write access.event || any) → IsNoted before object access.region.thread (suc access.region.number) after → Kept
  noted object is writes note other thread =
      elim (cases_eq other object) [
        | inr differ ↦ unchanged (inl differ) (λ number of in_region w. differ (let same : Some other ≡ Some object = sym of ∙ is in cc))
        | inl same ↦ elim (cases_eq thread access.region.thread) [
          | inr differ ↦ unchanged (inr differ) (λ number of in_region w. differ (ap (λ (r : Region). r.thread) (sym in_region)))
          | inl own ↦ subst (λ (o : ℕ). IsBound (λ number. Touches (seen ++ access ∷ []) any o (region_of thread number)) (last_in after o thread)) (sym same)
              (subst (λ (t : ℕ). IsBound (λ number. Touches (seen ++ access ∷ []) any object (region_of t number)) (last_in after object t)) (sym own) here)
        ]
      ]
    where
      unchanged : (other ≢ object) ⊎ (thread ≢ access.region.thread) → ((number : ℕ) → object_of access.event ≡ Some other → access.region ≡ region_of thread number → IsTrue (is_write access.event || any) → ⊥)
          → IsBound (λ number. Touches (seen ++ access ∷ []) any other (region_of thread number)) (last_in after other thread)
      unchanged differ not =
          same_bounded (λ number. Touches seen any other (region_of thread number)) (λ number. Touches (seen ++ access ∷ []) any other (region_of thread number)) _ _
          (λ number t. touches_more seen access any other (region_of thread number) t) (λ number t. touched_before other thread number (not number) t)
          (sym (note.others other thread differ)) (keeps other thread)

      t' : ℕ
      t' = access.region.thread

      here : IsBound (λ number. Touches (seen ++ access ∷ []) any object (region_of t' number)) (last_in after object t')
      here = same_bounded _ (λ number. Touches (seen ++ access ∷ []) any object (region_of t' number)) _ _ (λ number t. t) (λ number t. t) (sym note.own)
          (both_bounded (λ number. Touches seen any object (region_of t' number)) (λ number. number ≡ access.region.number) (λ number. Touches (seen ++ access ∷ []) any object (region_of t' number)) _ _
          (λ number t. elim (last_cases seen access t.place t.access t.is_there) [
            | inl old ↦ inl (record { place = t.place; access = t.access; is_there = old; in_region = t.in_region; of_object = t.of_object; writes = t.writes })
            | inr new ↦ inr (ap (λ (r : Region). r.number) (sym t.in_region) ∙ ap (λ (a : Access). a.region.number) new.1)
          ])
          (λ number t. touches_more seen access any object (region_of t' number) t)
          (λ number same. record { place = length seen; access = access; is_there = slice_get_last seen access; in_region = ap (λ (n : ℕ). region_of t' n) (sym same); of_object = is; writes = writes })
          (keeps object t') (one_bounded access.region.number))

any_will_do : (b : Bool) → IsTrue (b || true)
any_will_do true = refl
any_will_do false = refl

or_false : (b : Bool) → IsTrue (b || false) → b ≡ true
or_false true is = refl
or_false false is = cc is

-- the conflicts with an access, by the table of its kind
module _ (seen : List Access) (access : Access) (bound : ℕ → ℕ) where
  conflict_from : (object : ℕ) (w : Bool) → object_of access.event ≡ Some object → is_write access.event ≡ w → (thread : ℕ) → thread ≢ access.region.thread → (number : ℕ)
      → Touches seen w object (region_of thread number) → Conflicts seen (region_of thread number) access
  conflict_from object w of writes thread differ number t = record {
    place = t.place;
    one = t.access;
    is_there = t.is_there;
    in_region = t.in_region;
    conflict = record {
      by_others = λ same. differ (sym (ap (λ (r : Region). r.thread) t.in_region) ∙ same);
      object = object;
      of_one = t.of_object;
      of_same = of;
      one_writes = subst (λ (b : Bool). IsTrue (is_write t.access.event || b)) (sym writes) t.writes;
    };
  }

  touch_from : (object : ℕ) (w : Bool) → object_of access.event ≡ Some object → is_write access.event ≡ w → (thread number : ℕ)
      → Conflicts seen (region_of thread number) access → Touches seen w object (region_of thread number)
  touch_from object w of writes thread number c =
      let o : c.conflict.object ≡ object = (let same : Some c.conflict.object ≡ Some object = sym c.conflict.of_same ∙ of in cc) in
      record {
        place = c.place;
        access = c.one;
        is_there = c.is_there;
        in_region = c.in_region;
        of_object = c.conflict.of_one ∙ ap (λ (n : ℕ). Some n) o;
        writes = subst (λ (b : Bool). IsTrue (is_write c.one.event || b)) writes c.conflict.one_writes;
      }

  pub conflicts_by : (object : ℕ) (w : Bool) (table : List Bounds) → object_of access.event ≡ Some object → is_write access.event ≡ w
      → ((o thread : ℕ) → IsBound (λ number. Touches seen w o (region_of thread number)) (last_in table o thread))
      → ((thread : ℕ) → thread ≢ access.region.thread → bound thread ≡ last_in table object thread) → BoundConflicts seen access bound
  conflicts_by object w table of writes keeps is thread differ =
      same_bounded (λ number. Touches seen w object (region_of thread number)) (λ number. Conflicts seen (region_of thread number) access) _ _
      (λ number t. conflict_from object w of writes thread differ number t) (λ number c. touch_from object w of writes thread number c) (sym (is thread differ)) (keeps object thread)

-- all tables with one more access
pub keeps_both : (seen : List Access) (access : Access) (before after : LastRegions) (object bound : ℕ) → object_of access.event ≡ Some object → is_write access.event ≡ true → bound ≡ suc access.region.number
    → IsNoted before.all.objects.items object access.region.thread bound after.all.objects.items
    → IsNoted before.writing.objects.items object access.region.thread bound after.writing.objects.items → KeepsLast seen before → KeepsLast (seen ++ access ∷ []) after
keeps_both seen access before after object bound of writes is all writing keeps = record {
  all = noted seen access true before.all.objects.items after.all.objects.items keeps.all object of (any_will_do (is_write access.event)) (subst (λ (n : ℕ). IsNoted before.all.objects.items object access.region.thread n after.all.objects.items) is all);
  writing = noted seen access false before.writing.objects.items after.writing.objects.items keeps.writing object of (ap (λ (b : Bool). b || false) writes) (subst (λ (n : ℕ). IsNoted before.writing.objects.items object access.region.thread n after.writing.objects.items) is writing);
}

pub keeps_read : (seen : List Access) (access : Access) (before after : LastRegions) (object bound : ℕ) → object_of access.event ≡ Some object → is_write access.event ≡ false → bound ≡ suc access.region.number
    → IsNoted before.all.objects.items object access.region.thread bound after.all.objects.items
    → after.writing.objects.items ≡ before.writing.objects.items → KeepsLast seen before → KeepsLast (seen ++ access ∷ []) after
keeps_read seen access before after object bound of reads is all same keeps = record {
  all = noted seen access true before.all.objects.items after.all.objects.items keeps.all object of (any_will_do (is_write access.event)) (subst (λ (n : ℕ). IsNoted before.all.objects.items object access.region.thread n after.all.objects.items) is all);
  writing = not_noted seen access false before.writing.objects.items after.writing.objects.items keeps.writing
      (λ other is writes. (let no : true ≡ false = sym (or_false (is_write access.event) writes) ∙ reads in cc)) same;
}

pub keeps_no_access : (seen : List Access) (access : Access) (last : LastRegions) → object_of access.event ≡ None → KeepsLast seen last → KeepsLast (seen ++ access ∷ []) last
keeps_no_access seen access last none keeps = record {
  all = not_noted seen access true last.all.objects.items last.all.objects.items keeps.all (λ other is writes. (let no : None ≡ Some other = sym none ∙ is in cc)) refl;
  writing = not_noted seen access false last.writing.objects.items last.writing.objects.items keeps.writing (λ other is writes. (let no : None ≡ Some other = sym none ∙ is in cc)) refl;
}
