-- Moments that rows name.
use Rattle.std.proofs.Common.{◌≡◌, ℕ, suc, ◌<◌, ◌≤◌, List, [], ◌∷◌, ◌++◌, length, map, set, get_or, All, refl, sym, ap, ap₂, subst, ◌∙◌, inl, inr, arith, length-append, Option, Some, None, Result, Ok, Err, OnErr}
use Rattle.std.proofs.lemmas.List.{length-map, get_or_append_left, map-append, map-set, get_or-map}
use Rattle.std.proofs.lemmas.List.Elements.{All-append}
use Rattle.octet_interp.specs.declared.program.Stand.{Stand}
use Rattle.octet_outcomes.specs.Rows.{Grows}
use Rattle.octet_model.specs.declared.command.Command.{Command}
use Rattle.octet_interp.specs.Standing.{access_at}
use Rattle.octet_outcomes.specs.Ahead.{Finds, FindsNext, MayStandAlike}
use Rattle.octet_outcomes.specs.Moments.{Moment, MomentsState, no_stand, no_moment, stand_in, stand_after, heap_after, moment_of, IsRowOf, Names, AddsMoment}

pub grow_len : {A : Type 0} (xs ys : List A) (x : A) → Grows xs x ys → length xs ≤ length ys
grow_len xs ys x (inl e) = omega (arith, ap length e)
grow_len xs ys x (inr e) = omega (arith, ap length e, length-append xs (x ∷ []))

pub grow_at : {A : Type 0} (xs ys : List A) (x : A) (n : ℕ) (d : A) → n < length xs → Grows xs x ys → get_or ys n d ≡ get_or xs n d
grow_at xs ys x n d lt (inl e) = ap (λ l. get_or l n d) e
grow_at xs ys x n d lt (inr e) = ap (λ l. get_or l n d) e ∙ get_or_append_left xs (x ∷ []) d n lt

pub map_same : {A B : Type 0} (f g : A → B) (xs : List A) → ((k : ℕ) (d : A) → k < length xs → f (get_or xs k d) ≡ g (get_or xs k d)) → map f xs ≡ map g xs
map_same f g [] h = refl
map_same f g (x ∷ xs) h = ap₂ (λ y ys. y ∷ ys) (h 0 x (omega arith)) (map_same f g xs (λ k d lt. h (suc k) d (omega arith)))

module _ (stands after : List Stand) (heaps heaps_after : List (List ℕ)) (stand : Stand) (heap : List ℕ) (gs : Grows stands stand after) (gh : Grows heaps heap heaps_after) where
  -- a row names what it named
  pub named_same : (row : List ℕ) → IsRowOf (length stands) (length heaps) row → moment_of after heaps_after row ≡ moment_of stands heaps row
  named_same [] of = absurd of
  named_same (number ∷ numbers) of =
      ap₂ (λ (ss : List Stand) (h : List ℕ). record { stands = ss; heap = h })
      (map_same (λ n. get_or after n no_stand) (λ n. get_or stands n no_stand) numbers (λ k d lt. grow_at stands after stand (get_or numbers k d) no_stand (of.1 k d lt) gs))
      (grow_at heaps heaps_after heap number [] of.0 gh)

  pub all_same : (rows : List (List ℕ)) → All (IsRowOf (length stands) (length heaps)) rows → map (moment_of after heaps_after) rows ≡ map (moment_of stands heaps) rows
  all_same rows all = map_same (moment_of after heaps_after) (moment_of stands heaps) rows (λ k d lt. named_same (get_or rows k d) (all k d lt))

  module _ (rows rows_after : List (List ℕ)) (row : List ℕ) (all : All (IsRowOf (length stands) (length heaps)) rows) (gr : Grows rows row rows_after) where
    pub moments_grow : Grows (map (moment_of stands heaps) rows) (moment_of after heaps_after row) (map (moment_of after heaps_after) rows_after)
    moments_grow = go gr
      where
        go : Grows rows row rows_after → Grows (map (moment_of stands heaps) rows) (moment_of after heaps_after row) (map (moment_of after heaps_after) rows_after)
        go (inl e) = inl (ap (map (moment_of after heaps_after)) e ∙ all_same rows all)
        go (inr e) = inr (ap (map (moment_of after heaps_after)) e ∙ map-append (moment_of after heaps_after) rows (row ∷ []) ∙ ap (λ (ms : List Moment). ms ++ moment_of after heaps_after row ∷ []) (all_same rows all))

  -- the row with the numbers of a stand and a heap names the moment with them
  abbrev numbered : List ℕ → ℕ → ℕ → ℕ → List ℕ
  numbered row heap_number at stand_number = set (set row 0 heap_number) at stand_number

  pub numbered_names : (row : List ℕ) (thread at heap_number stand_number : ℕ) → at ≡ suc thread → IsRowOf (length stands) (length heaps) row
      → get_or heaps_after heap_number [] ≡ heap → get_or after stand_number no_stand ≡ stand
      → moment_of after heaps_after (numbered row heap_number at stand_number) ≡ record { stands = set (moment_of stands heaps row).stands thread stand; heap = heap }
  numbered_names [] thread at heap_number stand_number is of hi si = absurd of
  numbered_names (number ∷ numbers) thread at heap_number stand_number is of hi si =
      ap (λ (n : ℕ). moment_of after heaps_after (set (heap_number ∷ numbers) n stand_number)) is
      ∙ ap₂ (λ (ss : List Stand) (h : List ℕ). record { stands = ss; heap = h })
      (map-set (λ n. get_or after n no_stand) numbers thread stand_number
      ∙ ap₂ (λ (ss : List Stand) (s : Stand). set ss thread s)
      (map_same (λ n. get_or after n no_stand) (λ n. get_or stands n no_stand) numbers (λ k d lt. grow_at stands after stand (get_or numbers k d) no_stand (of.1 k d lt) gs)) si)
      hi

  pub names : (rows rows_after : List (List ℕ)) (row : List ℕ) (thread at heap_number stand_number place : ℕ) → at ≡ suc thread → IsRowOf (length stands) (length heaps) row → All (IsRowOf (length stands) (length heaps)) rows
      → get_or heaps_after heap_number [] ≡ heap → get_or after stand_number no_stand ≡ stand
      → place < length rows_after → get_or rows_after place [] ≡ numbered row heap_number at stand_number → Grows rows (numbered row heap_number at stand_number) rows_after
      → Names stands heaps rows (record { stands = set (moment_of stands heaps row).stands thread stand; heap = heap }) place after heaps_after rows_after
  names rows rows_after row thread at heap_number stand_number place is of all hi si there named gr =
      let same = numbered_names row thread at heap_number stand_number is of hi si in
      record {
        there = there;
        is = ap (moment_of after heaps_after) named ∙ same;
        grows = subst (λ (m : Moment). Grows (map (moment_of stands heaps) rows) m (map (moment_of after heaps_after) rows_after)) same (moments_grow rows rows_after (numbered row heap_number at stand_number) all gr);
      }

pub on_err : {T E : Type 0} (result : Result T E) (P : Type 0) → P → OnErr result P
on_err (Ok value) P p = tt
on_err (Err error) P p = p

-- moments of the same rows are the same
pub same_moments : (threads objects more_threads more_objects : ℕ) (moments more : List Moment) (before : MomentsState) → record { threads = threads; objects = objects; moments = moments } ≡ before
    → more_threads ≡ threads → more_objects ≡ objects → more ≡ moments → record { threads = more_threads; objects = more_objects; moments = more } ≡ before
same_moments threads objects more_threads more_objects moments more before view ts os is =
    ap₂ (λ (t o : ℕ). state t o more) ts os ∙ ap (state threads objects) is ∙ view
  where
    state : ℕ → ℕ → List Moment → MomentsState
    state threads objects moments = record { threads = threads; objects = objects; moments = moments }

-- what a row names
module _ (stands : List Stand) (heaps : List (List ℕ)) where
  pub stand_named : (row : List ℕ) (thread at : ℕ) → at ≡ suc thread → at < length row → get_or stands (get_or row at 0) no_stand ≡ stand_in (moment_of stands heaps row) thread
  stand_named [] thread at is lt = absurd (omega arith)
  stand_named (number ∷ numbers) thread at is lt =
      ap (λ (n : ℕ). get_or stands (get_or (number ∷ numbers) n 0) no_stand) is
      ∙ sym (get_or-map (λ n. get_or stands n no_stand) numbers thread 0 no_stand (omega arith))

  pub heap_named : (row : List ℕ) → 0 < length row → get_or heaps (get_or row 0 0) [] ≡ (moment_of stands heaps row).heap
  heap_named [] lt = absurd (omega arith)
  heap_named (number ∷ numbers) lt = refl

-- what is found of a thread's next access, by where it stands and the heap
abbrev AtStand : List Command → ℕ → MomentsState → Moment → ℕ → Option ℕ → MomentsState → Stand → List ℕ → Type 0
AtStand commands fuel before m thread found after stand heap = Finds commands fuel before m thread (heap_after (access_at commands stand) heap) (stand_after commands fuel stand heap (access_at commands stand)) found after

at_moment : (commands : List Command) (fuel : ℕ) (before : MomentsState) (m : Moment) (thread : ℕ) (found : Option ℕ) (after : MomentsState) (stand : Stand) (heap : List ℕ) → stand ≡ stand_in m thread → heap ≡ m.heap
    → AtStand commands fuel before m thread found after stand heap → FindsNext commands fuel before m thread found after
at_moment commands fuel before m thread found after stand heap si hi finds =
    subst (λ (s : Stand). AtStand commands fuel before m thread found after s m.heap) si (subst (λ (h : List ℕ). AtStand commands fuel before m thread found after stand h) hi finds)

pub finds_none : (before : MomentsState) (commands : List Command) (fuel : ℕ) (m : Moment) (thread : ℕ) (stand : Stand) (heap : List ℕ) (kept : Option Stand)
    → stand ≡ stand_in m thread → heap ≡ m.heap → MayStandAlike commands fuel (stand_after commands fuel stand heap (access_at commands stand)) kept → kept ≡ None
    → FindsNext commands fuel before m thread None before
finds_none before commands fuel m thread stand heap kept si hi alike none =
    at_moment commands fuel before m thread None before stand heap si hi (go (stand_after commands fuel stand heap (access_at commands stand)) (subst (λ (k : Option Stand). MayStandAlike commands fuel (stand_after commands fuel stand heap (access_at commands stand)) k) none alike))
  where
    go : (o : Option Stand) → MayStandAlike commands fuel o None → Finds commands fuel before m thread (heap_after (access_at commands stand) heap) o None before
    go None alike = refl
    go (Some after) alike = absurd alike

pub finds_some : (before now : MomentsState) (commands : List Command) (fuel : ℕ) (m : Moment) (thread place : ℕ) (stand after : Stand) (heap later : List ℕ) (kept : Option Stand)
    → stand ≡ stand_in m thread → heap ≡ m.heap → MayStandAlike commands fuel (stand_after commands fuel stand heap (access_at commands stand)) kept → kept ≡ Some after
    → later ≡ heap_after (access_at commands stand) heap
    → AddsMoment before (record { stands = set m.stands thread after; heap = later }) place now
    → FindsNext commands fuel before m thread (Some place) now
finds_some before now commands fuel m thread place stand after heap later kept si hi alike some heaped adds =
    at_moment commands fuel before m thread (Some place) now stand heap si hi (go (stand_after commands fuel stand heap (access_at commands stand)) (subst (λ (k : Option Stand). MayStandAlike commands fuel (stand_after commands fuel stand heap (access_at commands stand)) k) some alike))
  where
    go : (o : Option Stand) → MayStandAlike commands fuel o (Some after) → Finds commands fuel before m thread (heap_after (access_at commands stand) heap) o (Some place) now
    go None alike = absurd alike
    go (Some stood) alike = record {
      kept = after;
      alike = alike;
      adds = subst (λ (h : List ℕ). AddsMoment before (record { stands = set m.stands thread after; heap = h }) place now) heaped adds;
    }

-- moments that rows name grow
pub adds_named : (stands after : List Stand) (heaps heaps_after rows rows_after : List (List ℕ)) (before : MomentsState) (threads objects more_threads more_objects place : ℕ) (m : Moment)
    → record { threads = threads; objects = objects; moments = map (moment_of stands heaps) rows } ≡ before
    → more_threads ≡ threads → more_objects ≡ objects
    → Names stands heaps rows m place after heaps_after rows_after
    → AddsMoment before m place (record { threads = more_threads; objects = more_objects; moments = map (moment_of after heaps_after) rows_after })
adds_named stands after heaps heaps_after rows rows_after before threads objects more_threads more_objects place m view ts os names = record {
  there = omega (arith, names.there, length-map rows_after (moment_of after heaps_after));
  is = get_or-map (moment_of after heaps_after) rows_after place [] no_moment names.there ∙ names.is;
  grows = subst (λ (ms : List Moment). Grows ms m (map (moment_of after heaps_after) rows_after)) (ap (λ (s : MomentsState). s.moments) view) names.grows;
  same_threads = ts ∙ ap (λ (s : MomentsState). s.threads) view;
  same_objects = os ∙ ap (λ (s : MomentsState). s.objects) view;
}

-- what is read of a moment
pub reads_moment : (stands : List Stand) (heaps rows : List (List ℕ)) (before : MomentsState) (threads objects place thread at : ℕ) (row : List ℕ) (heap_number stand_number : ℕ) (stand : Stand) (heap : List ℕ)
    → record { threads = threads; objects = objects; moments = map (moment_of stands heaps) rows } ≡ before
    → place < length before.moments → at ≡ suc thread → at < length row
    → row ≡ get_or rows place [] → stand_number ≡ get_or row at 0 → heap_number ≡ get_or row 0 0
    → stand ≡ get_or stands stand_number no_stand → heap ≡ get_or heaps heap_number []
    → (stand ≡ stand_in (get_or before.moments place no_moment) thread) × (heap ≡ (get_or before.moments place no_moment).heap) × (moment_of stands heaps row ≡ get_or before.moments place no_moment)
reads_moment stands heaps rows before threads objects place thread at row heap_number stand_number stand heap view lt is at_lt rowed sn hn si hi =
    let m = get_or before.moments place no_moment in
    let moments : map (moment_of stands heaps) rows ≡ before.moments = ap (λ (s : MomentsState). s.moments) view in
    let there : place < length rows = omega (arith, lt, ap length moments, length-map rows (moment_of stands heaps)) in
    let same : moment_of stands heaps row ≡ get_or before.moments place no_moment =
    ap (moment_of stands heaps) rowed ∙ sym (get_or-map (moment_of stands heaps) rows place [] no_moment there) ∙ ap (λ (ms : List Moment). get_or ms place no_moment) moments in (
      si ∙ ap (λ (n : ℕ). get_or stands n no_stand) sn ∙ stand_named stands heaps row thread at is at_lt ∙ ap (λ (m : Moment). stand_in m thread) same,
      hi ∙ ap (λ (n : ℕ). get_or heaps n []) hn ∙ heap_named stands heaps row (omega arith) ∙ ap (λ (m : Moment). m.heap) same,
      same,
    )

-- one more number at the end of a row
pub row_pushed : (stands after : List Stand) (heaps : List (List ℕ)) (row : List ℕ) (stand : Stand) (number : ℕ) (ss : List Stand) (heap : List ℕ)
    → Grows stands stand after → IsRowOf (length stands) (length heaps) row → moment_of stands heaps row ≡ record { stands = ss; heap = heap }
    → number < length after → get_or after number no_stand ≡ stand
    → IsRowOf (length after) (length heaps) (row ++ number ∷ []) × (moment_of after heaps (row ++ number ∷ []) ≡ record { stands = ss ++ stand ∷ []; heap = heap })
row_pushed stands after heaps [] stand number ss heap grows of names lt is = absurd of
row_pushed stands after heaps (first ∷ numbers) stand number ss heap grows of names lt is = (
  (of.0, All-append (λ n. n < length after) numbers (number ∷ []) (λ k d l. omega (arith, of.1 k d l, grow_len stands after stand grows)) (λ k d l. let z : k ≡ 0 = omega arith in subst (λ (n : ℕ). get_or (number ∷ []) n d < length after) (sym z) lt)),
  ap₂ (λ (s : List Stand) (h : List ℕ). record { stands = s; heap = h })
      (map-append (λ n. get_or after n no_stand) numbers (number ∷ [])
      ∙ ap₂ (λ (s : List Stand) (x : Stand). s ++ x ∷ []) (map_same (λ n. get_or after n no_stand) (λ n. get_or stands n no_stand) numbers (λ k d l. grow_at stands after stand (get_or numbers k d) no_stand (of.1 k d l) grows) ∙ ap (λ (m : Moment). m.stands) names) is)
      (ap (λ (m : Moment). m.heap) names),
)
