-- Events with the places of their objects have a history from the objects' values where the events had one.
use Rattle.std.proofs.Common.{◌≡◌, ℕ, zero, suc, ◌<◌, inl, inr, Bool, true, false, ◌||◌, ◌&&◌, ◌==◌, nat_lt, nat_le, if◌then◌else◌, List, [], ◌∷◌, ◌++◌, length, map, Option, Some, None, option_map, IsTrue, slice_get, slice_index, slice_set, refl, sym, ap, ◌∙◌, subst, arith, length-set}
use Rattle.std.proofs.lemmas.Bool.{cases_eq, eqb-true}
use Rattle.std.proofs.lemmas.List.{get_or-set_same, get_or-set_other, length-map, map-append}
use Rattle.std.proofs.lemmas.Option.{slice_get-map}
use Rattle.octet_model.specs.declared.event.Mark.{Mark}
use Rattle.octet_model.specs.declared.event.Mark.TheVariants.{Join, Draw, Fence}
use Rattle.octet_model.specs.declared.event.Event.{Event}
use Rattle.octet_model.specs.declared.event.Event.TheVariants.{Read, Write, Update, Marked}
use Rattle.octet_model.specs.declared.event.Place.{Place}
use Rattle.octet_model.specs.Machine.{Journals, journal_of, PlainState, starting_state, Operation, Wants, Behavior, is_enabled, event_made, heap_after, draws_after, appended, performed, next_of, may_proceed, may_step, step, after, IsFront}
use Rattle.octet_model.specs.HappensBefore.{event_at, Edge, ProgramOrder, Joined, Drawn, Fenced, IsEvent, IsPath, HappensBefore, object_of, is_write, Conflict, IsOrdered}
use Rattle.octet_model.specs.Plays.{operation_of, next_in, by_journals, state_after_play, lowest_play, IsOneHistory, MakesAll}
use Rattle.octet_model.proofs.lemmas.Steps.{at, count, same_journal, other_journal, as_many, makes_from, what_it_makes}
use Rattle.octet_model.proofs.lemmas.Fronts.{no_journal}
use Rattle.octet_model.proofs.lemmas.Plays.{lowest_makes_all}
use Rattle.octet_window.specs.Noting.{has, place_of, renamed}
use Rattle.octet_window.proofs.Rest.{next_event, same_journals}

-- different objects have different places
places_one : (objects : List ℕ) (a b : ℕ) → has objects a ≡ true → has objects b ≡ true → place_of objects a ≡ place_of objects b → a ≡ b
places_one [] a b in_a in_b same = absurd cc
places_one (first ∷ objects) a b in_a in_b same = go (places_one objects a b) (first == a) refl (first == b) refl in_a in_b same
  where
    go : (has objects a ≡ true → has objects b ≡ true → place_of objects a ≡ place_of objects b → a ≡ b) → (p : Bool) → (first == a) ≡ p → (q : Bool) → (first == b) ≡ q → (if p then true else has objects a) ≡ true → (if q then true else has objects b) ≡ true
        → (if p then 0 else suc (place_of objects a)) ≡ (if q then 0 else suc (place_of objects b)) → a ≡ b
    go later true is_a true is_b in_a in_b same = sym (eqb-true first a is_a) ∙ eqb-true first b is_b
    go later true is_a false is_b in_a in_b same = absurd (omega (arith, same))
    go later false is_a true is_b in_a in_b same = absurd (omega (arith, same))
    go later false is_a false is_b in_a in_b same = later in_a in_b (omega (arith, same))

place_within : (objects : List ℕ) (a : ℕ) → has objects a ≡ true → place_of objects a < length objects
place_within [] a in_a = absurd cc
place_within (first ∷ objects) a in_a = go (place_within objects a) (first == a) in_a
  where
    go : (has objects a ≡ true → place_of objects a < length objects) → (p : Bool) → (if p then true else has objects a) ≡ true → (if p then 0 else suc (place_of objects a)) < suc (length objects)
    go later true in_a = omega arith
    go later false in_a = omega (arith, later in_a)

value_at : (values objects : List ℕ) (a : ℕ) → has objects a ≡ true → slice_index (map (slice_index values) objects) (place_of objects a) ≡ slice_index values a
value_at values [] a in_a = absurd cc
value_at values (first ∷ objects) a in_a = go (value_at values objects a) (first == a) refl in_a
  where
    go : (has objects a ≡ true → slice_index (map (slice_index values) objects) (place_of objects a) ≡ slice_index values a) → (p : Bool) → (first == a) ≡ p → (if p then true else has objects a) ≡ true
        → slice_index (map (slice_index values) (first ∷ objects)) (if p then 0 else suc (place_of objects a)) ≡ slice_index values a
    go later true is in_a = ap (λ (n : ℕ). slice_index values n) (eqb-true first a is)
    go later false is in_a = later in_a

-- an object has a value just where its place has it
record SameValues (objects heap places : List ℕ) : Type 0 where
  fits : (object : ℕ) → has objects object ≡ true → object < length heap
  room : length places ≡ length objects
  each : (object : ℕ) → has objects object ≡ true → slice_index places (place_of objects object) ≡ slice_index heap object

set_same : (objects heap places : List ℕ) (o value : ℕ) → has objects o ≡ true → SameValues objects heap places → SameValues objects (slice_set heap o value) (slice_set places (place_of objects o) value)
set_same objects heap places o value in_o s = record {
  fits = λ p in_p. omega (arith, length-set heap o value, s.fits p in_p);
  room = length-set places (place_of objects o) value ∙ s.room;
  each = λ p in_p. elim (cases_eq p o) [
    | inl same ↦ subst (λ (q : ℕ). slice_index (slice_set places (place_of objects o) value) (place_of objects q) ≡ slice_index (slice_set heap o value) q) (sym same)
        (get_or-set_same places (place_of objects o) value 0 (omega (arith, place_within objects o in_o, s.room)) ∙ sym (get_or-set_same heap o value 0 (s.fits o in_o)))
    | inr apart ↦ get_or-set_other places (place_of objects o) (place_of objects p) value 0 (λ h. apart (places_one objects p o in_p in_o h))
        ∙ (s.each p in_p ∙ sym (get_or-set_other heap o p value 0 apart))
  ];
}

module _ (objects : List ℕ) where
  -- the event accesses none but these objects
  abbrev IsOf : Event → Type 0
  IsOf event = (object : ℕ) → object_of event ≡ Some object → has objects object ≡ true

  abbrev pub AreOfThese : List Event → Type 0
  AreOfThese [] = Unit {0}
  AreOfThese (event ∷ journal) = IsOf event × AreOfThese journal

  of_at : (journal : List Event) (k : ℕ) (e : Event) → AreOfThese journal → slice_get journal k ≡ Some e → IsOf e
  of_at [] k e are at_k = absurd cc
  of_at (x ∷ journal) zero e are at_k = let same : x ≡ e = cc in subst IsOf same are.0
  of_at (x ∷ journal) (suc k) e are at_k = of_at journal k e are.1 at_k

  -- the operation that makes an event with its place
  made_there : (heap places : List ℕ) (e : Event) → IsOf e → SameValues objects heap places → event_made (operation_of (renamed objects e)) places ≡ renamed objects (event_made (operation_of e) heap)
  made_there heap places (Read o v) is s = ap (λ (value : ℕ). Read (place_of objects o) value) (s.each o (is o refl))
  made_there heap places (Write o v) is s = refl
  made_there heap places (Update o v w) is s = ap (λ (value : ℕ). Update (place_of objects o) value w) (s.each o (is o refl))
  made_there heap places (Marked m) is s = refl

  heap_there : (heap places : List ℕ) (e : Event) → IsOf e → SameValues objects heap places → SameValues objects (heap_after (operation_of e) heap) (heap_after (operation_of (renamed objects e)) places)
  heap_there heap places (Read o v) is s = s
  heap_there heap places (Write o v) is s = set_same objects heap places o v (is o refl) s
  heap_there heap places (Update o v w) is s = set_same objects heap places o w (is o refl) s
  heap_there heap places (Marked m) is s = s

  draws_there : (n : ℕ) (e : Event) → draws_after (operation_of (renamed objects e)) n ≡ draws_after (operation_of e) n
  draws_there n (Read o v) = refl
  draws_there n (Write o v) = refl
  draws_there n (Update o v w) = refl
  draws_there n (Marked m) = refl

  object_there : (e : Event) → object_of (renamed objects e) ≡ option_map (place_of objects) (object_of e)
  object_there (Read o v) = refl
  object_there (Write o v) = refl
  object_there (Update o v w) = refl
  object_there (Marked m) = refl

  write_there : (e : Event) → is_write (renamed objects e) ≡ is_write e
  write_there (Read o v) = refl
  write_there (Write o v) = refl
  write_there (Update o v w) = refl
  write_there (Marked m) = refl

  -- a state over places stands beside one over objects
  record Beside (x y : PlainState) : Type 0 where
    values : SameValues objects x.heap y.heap
    draws : y.draws ≡ x.draws
    many : length y.journals ≡ length x.journals
    each : (u : ℕ) → journal_of y.journals u ≡ map (renamed objects) (journal_of x.journals u)

  count_there : (x y : PlainState) → Beside x y → (u : ℕ) → count y.journals u ≡ count x.journals u
  count_there x y b u = ap (λ (j : List Event). length j) (b.each u) ∙ length-map (journal_of x.journals u) (renamed objects)

  enabled_there : (x y : PlainState) → Beside x y → (e : Event) → is_enabled y (operation_of (renamed objects e)) ≡ is_enabled x (operation_of e)
  enabled_there x y b (Read o v) = refl
  enabled_there x y b (Write o v) = refl
  enabled_there x y b (Update o v w) = refl
  enabled_there x y b (Marked (Join from upto)) = ap (λ (n : ℕ). nat_le upto n) (count_there x y b from)
  enabled_there x y b (Marked (Draw number)) = ap (λ (n : ℕ). number == suc n) b.draws
  enabled_there x y b (Marked (Fence number)) = ap (λ (n : ℕ). nat_le number n) b.draws

  performed_there : (x y : PlainState) (t : ℕ) (e : Event) → t < length x.journals → IsOf e → Beside x y → Beside (performed x t (operation_of e)) (performed y t (operation_of (renamed objects e)))
  performed_there x y t e within is b = record {
    values = heap_there x.heap y.heap e is b.values;
    draws = draws_there y.draws e ∙ ap (λ (n : ℕ). draws_after (operation_of e) n) b.draws;
    many = as_many y.journals t e2 ∙ (b.many ∙ sym (as_many x.journals t e1));
    each = λ u. elim (cases_eq u t) [
      | inr apart ↦ other_journal y.journals t u e2 apart ∙ (b.each u ∙ ap (λ (j : List Event). map (renamed objects) j) (sym (other_journal x.journals t u e1 apart)))
      | inl same ↦ subst (λ (v : ℕ). journal_of (appended y.journals t e2) v ≡ map (renamed objects) (journal_of (appended x.journals t e1) v)) (sym same) here
    ];
  }
    where
      e1 : Event
      e1 = event_made (operation_of e) x.heap

      e2 : Event
      e2 = event_made (operation_of (renamed objects e)) y.heap

      here : journal_of (appended y.journals t e2) t ≡ map (renamed objects) (journal_of (appended x.journals t e1) t)
      here =
          same_journal y.journals t e2 (omega (arith, within, b.many))
          ∙ (ap (λ (j : List Event). j ++ e2 ∷ []) (b.each t)
          ∙ (ap (λ (z : Event). map (renamed objects) (journal_of x.journals t) ++ z ∷ []) (made_there x.heap y.heap e is b.values)
          ∙ (sym (map-append (renamed objects) (journal_of x.journals t) (e1 ∷ []))
          ∙ ap (λ (j : List Event). map (renamed objects) j) (sym (same_journal x.journals t e1 within)))))

  module _ (js ks : Journals) (as_long : length ks ≡ length js) (places : (u : ℕ) → journal_of ks u ≡ map (renamed objects) (journal_of js u)) (of : (u : ℕ) → AreOfThese (journal_of js u)) where
    abbrev V : Behavior
    V = by_journals js

    abbrev W : Behavior
    W = by_journals ks

    at_place : (u k : ℕ) → at ks u k ≡ option_map (renamed objects) (at js u k)
    at_place u k = ap (λ (j : List Event). slice_get j k) (places u) ∙ slice_get-map (renamed objects) (journal_of js u) k

    next_there : (x y : PlainState) → Beside x y → (t : ℕ) → next_of W y t ≡ next_in (option_map (renamed objects) (at js t (count x.journals t)))
    next_there x y b t = ap (λ (n : ℕ). next_in (at ks t n)) (count_there x y b t) ∙ ap next_in (at_place t (count x.journals t))

    may_there : (x y : PlainState) → Beside x y → (t : ℕ) → may_step W y t ≡ may_step V x t
    may_there x y b t =
        ap (λ (n : ℕ). nat_lt t n && may_proceed y (next_of W y t)) b.many
        ∙ ap (λ (p : Bool). nat_lt t (length x.journals) && p) (ap (may_proceed y) (next_there x y b t) ∙ go (at js t (count x.journals t)))
      where
        go : (z : Option Event) → may_proceed y (next_in (option_map (renamed objects) z)) ≡ may_proceed x (next_in z)
        go None = refl
        go (Some e) = enabled_there x y b e

    step_there : (x y : PlainState) → Beside x y → (t : ℕ) → IsTrue (may_step V x t) → Beside (step V x t) (step W y t)
    step_there x y b t may =
        let m = what_it_makes V x t may in
        let n = next_event (at js t (count x.journals t)) m.0 m.1.wanted in
        let o2 = operation_of (renamed objects n.0) in
        let wants : next_of W y t ≡ Wants o2 = next_there x y b t ∙ ap (λ (z : Option Event). next_in (option_map (renamed objects) z)) n.1 in
        let enabled : IsTrue (is_enabled y o2) = enabled_there x y b n.0 ∙ subst (λ (o : Operation). IsTrue (is_enabled x o)) n.2 m.1.enabled in
        let w = makes_from W y t o2 (omega (arith, m.1.within, b.many)) wants enabled in
        let next : Beside (performed x t m.0) (performed y t o2) = subst (λ (o : Operation). Beside (performed x t o) (performed y t o2)) (sym n.2)
        (performed_there x y t n.0 m.1.within (of_at (journal_of js t) (count x.journals t) n.0 (of t) n.1) b) in
        subst (λ (z : PlainState). Beside z (step W y t)) (sym m.1.stepped) (subst (λ (z : PlainState). Beside (performed x t m.0) z) (sym w.stepped) next)

    -- a play of the events is one with the places, and ends beside it
    there : (order : List ℕ) (x y : PlainState) → Beside x y → IsFront V x order → IsFront W y order × Beside (after V x order) (after W y order)
    there [] x y b f = (tt, b)
    there (t ∷ order) x y b f = let r = there order (step V x t) (step W y t) (step_there x y b t f.0) f.1 in ((may_there x y b t ∙ f.0, r.0), r.1)

    mark_there : (p : Place) (m : Mark) → event_at js p ≡ Some (Marked m) → event_at ks p ≡ Some (Marked m)
    mark_there p m is = at_place p.thread p.event ∙ ap (λ (z : Option Event). option_map (renamed objects) z) is

    edge_there : (p q : Place) → Edge js p q → Edge ks p q
    edge_there p q (ProgramOrder same next) = ProgramOrder same next
    edge_there p q (Joined upto is_q below) = Joined upto (mark_there q (Join p.thread upto) is_q) below
    edge_there p q (Drawn first later is_p is_q below) = Drawn first later (mark_there p (Draw first) is_p) (mark_there q (Draw later) is_q) below
    edge_there p q (Fenced number upto is_p is_q below) = Fenced number upto (mark_there p (Draw number) is_p) (mark_there q (Fence upto) is_q) below

    event_there : (p : Place) → IsEvent js p → IsEvent ks p
    event_there p is = (renamed objects is.0, at_place p.thread p.event ∙ ap (λ (z : Option Event). option_map (renamed objects) z) is.1)

    path_there : (path : List Place) → IsPath js path → IsPath ks path
    path_there [] is = tt
    path_there (p ∷ []) is = event_there p is
    path_there (p ∷ q ∷ path) is = (event_there p is.0, edge_there p q is.1, path_there (q ∷ path) is.2)

    happens_there : (a b : Place) → HappensBefore js a b → HappensBefore ks a b
    happens_there a b h = record { between = h.between; is_path = path_there (a ∷ (h.between ++ b ∷ [])) h.is_path }

    event_back : (p : Place) (y : Event) → event_at ks p ≡ Some y → (e : Event) × (event_at js p ≡ Some e) × (renamed objects e ≡ y)
    event_back p y is = go (event_at js p) refl
      where
        go : (z : Option Event) → event_at js p ≡ z → (e : Event) × (event_at js p ≡ Some e) × (renamed objects e ≡ y)
        go None none = absurd (let f : None ≡ Some y = ap (λ (z : Option Event). option_map (renamed objects) z) (sym none) ∙ (sym (at_place p.thread p.event) ∙ is) in cc)
        go (Some e) at_p = (e, at_p, (let f : Some (renamed objects e) ≡ Some y = ap (λ (z : Option Event). option_map (renamed objects) z) (sym at_p) ∙ (sym (at_place p.thread p.event) ∙ is) in cc))

    object_back : (e y : Event) (place : ℕ) → renamed objects e ≡ y → object_of y ≡ Some place → (o : ℕ) × (object_of e ≡ Some o) × (place_of objects o ≡ place)
    object_back e y place is_y is = go (object_of e) refl
      where
        go : (z : Option ℕ) → object_of e ≡ z → (o : ℕ) × (object_of e ≡ Some o) × (place_of objects o ≡ place)
        go None none = absurd (let f : None ≡ Some place = ap (λ (z : Option ℕ). option_map (place_of objects) z) (sym none) ∙ (sym (object_there e) ∙ (ap (λ (z : Event). object_of z) is_y ∙ is)) in cc)
        go (Some o) is_o = (o, is_o, (let f : Some (place_of objects o) ≡ Some place = ap (λ (z : Option ℕ). option_map (place_of objects) z) (sym is_o) ∙ (sym (object_there e) ∙ (ap (λ (z : Event). object_of z) is_y ∙ is)) in cc))

    conflict_back : (a b : Place) → Conflict ks a b → Conflict js a b
    conflict_back a b c =
        let f = event_back a c.first c.is_first in
        let s = event_back b c.second c.is_second in
        let o = object_back f.0 c.first c.object f.2 c.of_one in
        let p = object_back s.0 c.second c.object s.2 c.of_same in
        let known = of_at (journal_of js a.thread) a.event f.0 (of a.thread) f.1 in
        let known' = of_at (journal_of js b.thread) b.event s.0 (of b.thread) s.1 in
        let one : o.0 ≡ p.0 = places_one objects o.0 p.0 (known o.0 o.1) (known' p.0 p.1) (o.2 ∙ sym p.2) in
        record {
          first = f.0;
          second = s.0;
          object = o.0;
          is_first = f.1;
          is_second = s.1;
          by_others = c.by_others;
          of_one = o.1;
          of_same = p.1 ∙ ap (λ (n : ℕ). Some n) (sym one);
          one_writes = writes f.0 s.0 c.first c.second f.2 s.2 c.one_writes;
        }
      where
        writes : (e g y z : Event) → renamed objects e ≡ y → renamed objects g ≡ z → IsTrue (is_write y || is_write z) → IsTrue (is_write e || is_write g)
        writes e g y z is_y is_z h =
            ap (λ (b : Bool). b || is_write g) (sym (write_there e) ∙ ap (λ (i : Event). is_write i) is_y)
            ∙ (ap (λ (b : Bool). is_write y || b) (sym (write_there g) ∙ ap (λ (i : Event). is_write i) is_z) ∙ h)

    ordered_there : IsOrdered js → IsOrdered ks
    ordered_there ordered a b c = elim (ordered a b (conflict_back a b c)) [
      | inl ab ↦ inl (happens_there a b ab)
      | inr ba ↦ inr (happens_there b a ba)
    ]

    module _ (values : List ℕ) (fit : (object : ℕ) → has objects object ≡ true → object < length values) where
      abbrev starts : List ℕ
      starts = map (slice_index values) objects

      begins : Beside (starting_state values js) (starting_state starts ks)
      begins = record {
        values = record { fits = fit; room = length-map objects (slice_index values); each = value_at values objects };
        draws = refl;
        many = length-map ks (λ (j : List Event). []) ∙ (as_long ∙ sym (length-map js (λ (j : List Event). [])));
        each = λ u. no_journal ks u ∙ ap (λ (j : List Event). map (renamed objects) j) (sym (no_journal js u));
      }

      makes_there : (play : List ℕ) → MakesAll values js play → MakesAll starts ks play
      makes_there play all =
          let x = state_after_play values js play in
          let y = state_after_play starts ks play in
          let r = there play (starting_state values js) (starting_state starts ks) begins all.is_play in
          record {
            is_play = r.0;
            makes = same_journals y.journals ks (r.1.many ∙ (ap (λ (l : Journals). length l) all.makes ∙ sym as_long))
                (λ u. r.1.each u ∙ (ap (λ (l : Journals). map (renamed objects) (journal_of l u)) all.makes ∙ sym (places u)));
          }

      -- one history of the events is one with the places
      pub history_there : (last : List ℕ) (draws : ℕ) → IsOneHistory values js last draws → (other : List ℕ) × (number : ℕ) × IsOneHistory starts ks other number
      history_there last draws h =
          let ordered = ordered_there h.ordered in
          let low = lowest_makes_all starts ks (lowest_play values js) ordered (makes_there (lowest_play values js) h.makes_all) in
          let end = state_after_play starts ks (lowest_play starts ks) in
          (end.heap, end.draws, record { makes_all = low.0; gives = refl; counts = refl; ordered = ordered })
