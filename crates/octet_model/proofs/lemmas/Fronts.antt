-- Every lawful front of a machine whose journals are ordered leads to one end.
use Rattle.std.proofs.Common.{◌≡◌, ℕ, zero, suc, ◌<◌, ◌≤◌, ◌⊎◌, inl, inr, ◌||◌, List, [], ◌∷◌, ◌++◌, length, Some, IsTrue, slice_index, slice_set, refl, sym, ap, ◌∙◌, subst, arith}
use Rattle.std.proofs.lemmas.List.{get_or-set_other, set_comm, set-get_or}
use Rattle.std.proofs.lemmas.Bool.{cases_eq, cases_lt, leb-true, le-leb, eqb-true, eq-eqb}
use Rattle.std.proofs.lemmas.Option.{slice_get_within}
use Rattle.octet_model.specs.declared.event.Mark.TheVariants.{Join, Draw, Fence}
use Rattle.octet_model.specs.declared.event.Event.{Event}
use Rattle.octet_model.specs.declared.event.Event.TheVariants.{Read, Update, Marked}
use Rattle.octet_model.specs.declared.event.Place.{Place}
use Rattle.octet_model.specs.Machine.{Journals, journal_of, PlainState, Operation, MakeMark, MakeRead, MakeWrite, MakeUpdate, Wants, Behavior, is_enabled, event_made, heap_after, draws_after, appended, performed, next_of, may_step, step, after, IsFront, AllFinished, IsOrder, no_events, starting_state}
use Rattle.octet_model.specs.HappensBefore.{event_at, Edge, ProgramOrder, Joined, Drawn, Fenced, IsPath, object_of, is_write, Conflict, IsOrdered}
use Rattle.octet_model.proofs.lemmas.Steps.{at, count, other_journal, grows, at_same, draws_grow, drawn_next, joined_upto, fenced_upto, Makes, makes_from, what_it_makes, as_many_step, stays_step, other_step, grows_step, made_there, counts_step, where_made}

module _ (behavior : Behavior) where
  -- what was made stays
  pub stays : (order : List ℕ) (s : PlainState) (u k : ℕ) (x : Event) → at s.journals u k ≡ Some x → at (after behavior s order).journals u k ≡ Some x
  stays [] s u k x h = h
  stays (t ∷ order) s u k x h = stays order (step behavior s t) u k x (stays_step behavior s t u k x h)

  -- a draw that is still to be made has a higher number than the draws made
  higher : (order : List ℕ) (s : PlainState) (u k c : ℕ) → IsFront behavior s order → count s.journals u ≤ k → at (after behavior s order).journals u k ≡ Some (Marked (Draw c)) → s.draws < c
  higher [] s u k c front old is = absurd (omega (arith, slice_get_within (journal_of s.journals u) k (Marked (Draw c)) is))
  higher (t ∷ order) s u k c front old is =
      let m = what_it_makes behavior s t front.0 in
      let draws : (step behavior s t).draws ≡ draws_after m.0 s.draws = ap (λ (x : PlainState). x.draws) m.1.stepped in
      elim (cases_lt k (count (step behavior s t).journals u)) [
        | inr later ↦ omega (arith, higher order (step behavior s t) u k c front.1 later is, draws, draws_grow m.0 s.draws)
        | inl new ↦
            let here = where_made behavior s t u k m.0 m.1 old new in
            let made = stays order (step behavior s t) t (count s.journals t) (event_made m.0 s.heap) (made_there behavior s t m.0 m.1) in
            let is' : at (after behavior s (t ∷ order)).journals t (count s.journals t) ≡ Some (Marked (Draw c)) = at_same (after behavior s (t ∷ order)).journals t u (count s.journals t) k (sym here.0) (sym here.1) ∙ is in
            let same : event_made m.0 s.heap ≡ Marked (Draw c) = cc (made, is') in
            omega (arith, drawn_next s m.0 s.heap c m.1.enabled same)
      ]

  -- a thread that wants something makes it at last
  pub makes_it : (order : List ℕ) (s : PlainState) (t : ℕ) (o : Operation) → t < length s.journals → next_of behavior s t ≡ Wants o → IsFront behavior s order → AllFinished behavior (after behavior s order)
      → (heap : List ℕ) × (at (after behavior s order).journals t (count s.journals t) ≡ Some (event_made o heap))
  makes_it [] s t o lt wants front through = absurd (let finished = through t lt in cc)
  makes_it (u ∷ order) s t o lt wants front through =
      let m = what_it_makes behavior s u front.0 in
      elim (cases_eq t u) [
        | inl same ↦
            let wanted : next_of behavior s t ≡ Wants m.0 = ap (λ (n : ℕ). next_of behavior s n) same ∙ m.1.wanted in
            let one : m.0 ≡ o = cc in
            (s.heap, at_same (after behavior s (u ∷ order)).journals t u (count s.journals t) (count s.journals u) same (ap (λ (n : ℕ). count s.journals n) same) ∙ stays order (step behavior s u) u (count s.journals u) (event_made m.0 s.heap) (made_there behavior s u m.0 m.1) ∙ ap (λ (p : Operation). Some (event_made p s.heap)) one)
        | inr differ ↦
            let j : journal_of (step behavior s u).journals t ≡ journal_of s.journals t = other_step behavior s u t differ in
            let lt' : t < length (step behavior s u).journals = omega (arith, as_many_step behavior s u) in
            let r = makes_it order (step behavior s u) t o lt' (ap (λ i. behavior t i) j ∙ wants) front.1 through in
            (r.0, ap (λ i. at (after behavior s (u ∷ order)).journals t (length i)) (sym j) ∙ r.1)
      ]

-- each event that was made has the events with an edge to it made before
pub record IsDownClosed (journals made : Journals) : Type 0 where
  by : (a b : Place) → Edge journals a b → b.event < count made b.thread → a.event < count made a.thread

-- so it has those with a path to it
path_back : (journals made : Journals) (between : List Place) (a b : Place) → IsDownClosed journals made → IsPath journals (a ∷ (between ++ b ∷ [])) → b.event < count made b.thread → a.event < count made a.thread
path_back journals made [] a b closed path h = closed.by a b path.1 h
path_back journals made (c ∷ between) a b closed path h = closed.by a c path.1 (path_back journals made between c b closed path.2 h)

module _ (behavior : Behavior) where
  -- a step that may be made keeps it so, for the journals of an order from there on
  pub down_closed_step : (order : List ℕ) (s : PlainState) (t : ℕ) (o : Operation) (heap : List ℕ) → IsFront behavior s order → Makes behavior s t o
      → at (after behavior s order).journals t (count s.journals t) ≡ Some (event_made o heap)
      → IsDownClosed (after behavior s order).journals s.journals → IsDownClosed (after behavior s order).journals (step behavior s t).journals
  down_closed_step order s t o heap front m is closed = record { by = λ a b edge made. go a b edge made (cases_lt b.event (count s.journals b.thread)) }
    where
      J : Journals
      J = (after behavior s order).journals

      grown : (a : Place) → a.event < count s.journals a.thread → a.event < count (step behavior s t).journals a.thread
      grown a h = omega (arith, grows_step behavior s t a.thread)

      drawn : (a : Place) (c : ℕ) → event_at J a ≡ Some (Marked (Draw c)) → c ≤ suc s.draws → (c ≡ suc s.draws → ⊥) → a.event < count (step behavior s t).journals a.thread
      drawn a c at_a le ne = elim (cases_lt a.event (count s.journals a.thread)) [
        | inl lt ↦ grown a lt
        | inr later ↦ absurd (omega (arith, higher behavior order s a.thread a.event c front later at_a, ne))
      ]

      new : (a b : Place) → Edge J a b → b.thread ≡ t → b.event ≡ count s.journals t → event_at J b ≡ Some (event_made o heap) → a.event < count (step behavior s t).journals a.thread
      new a b (ProgramOrder same next) bt bk here = grown a (let n : a.event < count s.journals t = omega arith in rw (same, bt) n)
      new a b (Joined upto is_b below) bt bk here = grown a (omega (arith, joined_upto s o heap a.thread upto m.enabled (cc (is_b, here))))
      new a b (Drawn first then is_a is_b below) bt bk here =
          let d : then ≡ suc s.draws = drawn_next s o heap then m.enabled (cc (is_b, here)) in
          drawn a first is_a (omega arith) (omega arith)
      new a b (Fenced number upto is_a is_b below) bt bk here =
          let d : upto ≤ s.draws = fenced_upto s o heap upto m.enabled (cc (is_b, here)) in
          drawn a number is_a (omega arith) (omega arith)

      go : (a b : Place) → Edge J a b → b.event < count (step behavior s t).journals b.thread → (b.event < count s.journals b.thread) ⊎ (count s.journals b.thread ≤ b.event) → a.event < count (step behavior s t).journals a.thread
      go a b edge made (inl old) = grown a (closed.by a b edge old)
      go a b edge made (inr later) =
          let here = where_made behavior s t b.thread b.event o m later made in
          new a b edge here.0 here.1 (at_same J b.thread t b.event (count s.journals t) here.0 here.1 ∙ is)

-- two operations whose order does not matter
pub record Apart (v w : Operation) : Type 0 where
  pub heaps : (heap : List ℕ) → heap_after v (heap_after w heap) ≡ heap_after w (heap_after v heap)
  pub first : (heap : List ℕ) → event_made v (heap_after w heap) ≡ event_made v heap
  pub second : (heap : List ℕ) → event_made w (heap_after v heap) ≡ event_made w heap

-- two accesses of one object, of which one writes
pub record Clash (v w : Operation) : Type 0 where
  pub object : ℕ
  pub of_first : (heap : List ℕ) → object_of (event_made v heap) ≡ Some object
  pub of_second : (heap : List ℕ) → object_of (event_made w heap) ≡ Some object
  pub one_writes : (heap heap' : List ℕ) → IsTrue (is_write (event_made v heap) || is_write (event_made w heap'))

-- what an access makes follows from the value of its object, and it changes no other
record IsAccessOf (object : ℕ) (v : Operation) : Type 0 where
  stored : ℕ → ℕ
  stores : (heap : List ℕ) → heap_after v heap ≡ slice_set heap object (stored (slice_index heap object))
  follows : (heap other : List ℕ) → slice_index heap object ≡ slice_index other object → event_made v heap ≡ event_made v other
  of_object : (heap : List ℕ) → object_of (event_made v heap) ≡ Some object

reads : (o : ℕ) → IsAccessOf o (MakeRead o)
reads o = record { stored = λ value. value; stores = λ h. sym (set-get_or h o 0); follows = λ h g same. ap (Read o) same; of_object = λ h. refl }

writes : (o x : ℕ) → IsAccessOf o (MakeWrite o x)
writes o x = record { stored = λ value. x; stores = λ h. refl; follows = λ h g same. refl; of_object = λ h. refl }

updates : (o : ℕ) (f : ℕ → ℕ) → IsAccessOf o (MakeUpdate o f)
updates o f = record { stored = f; stores = λ h. refl; follows = λ h g same. ap (λ (value : ℕ). Update o value (f value)) same; of_object = λ h. refl }

module _ (o p : ℕ) (v w : Operation) (a : IsAccessOf o v) (b : IsAccessOf p w) where
  -- the second leaves the first's object as it was
  left_alone : (o ≡ p → ⊥) → (heap : List ℕ) → slice_index (heap_after w heap) o ≡ slice_index heap o
  left_alone differ heap = ap (λ (h : List ℕ). slice_index h o) (b.stores heap) ∙ get_or-set_other heap p o (b.stored (slice_index heap p)) 0 differ

  after_both : (o ≡ p → ⊥) → (heap : List ℕ) → heap_after v (heap_after w heap) ≡ slice_set (slice_set heap p (b.stored (slice_index heap p))) o (a.stored (slice_index heap o))
  after_both differ heap = a.stores (heap_after w heap) ∙ λ i. slice_set (b.stores heap i) o (a.stored (left_alone differ heap i))

apart_accesses : (o p : ℕ) (v w : Operation) → IsAccessOf o v → IsAccessOf p w → (o ≡ p → ⊥) → Apart v w
apart_accesses o p v w a b differ = record {
  heaps = λ h. after_both o p v w a b differ h ∙ set_comm h p o _ _ (λ e. differ (sym e)) ∙ sym (after_both p o w v b a (λ e. differ (sym e)) h);
  first = λ h. a.follows (heap_after w h) h (left_alone o p v w a b differ h);
  second = λ h. b.follows (heap_after v h) h (left_alone p o w v b a (λ e. differ (sym e)) h);
}

-- two accesses of which one writes
by_objects : {o p : ℕ} {v w : Operation} → IsAccessOf o v → IsAccessOf p w → ((h h' : List ℕ) → IsTrue (is_write (event_made v h) || is_write (event_made w h'))) → Apart v w ⊎ Clash v w
by_objects {o} {p} {v} {w} a b one_writes =
    elim (cases_eq o p) [
      | inl same ↦ inr (record { object = o; of_first = a.of_object; of_second = λ h. b.of_object h ∙ ap Some (sym same); one_writes = one_writes })
      | inr differ ↦ inl (apart_accesses o p v w a b differ)
    ]

pub apart_or_clash : (v w : Operation) → Apart v w ⊎ Clash v w
apart_or_clash (MakeMark m) w = inl (record { heaps = λ h. refl; first = λ h. refl; second = λ h. refl })
apart_or_clash v (MakeMark m) = inl (record { heaps = λ h. refl; first = λ h. refl; second = λ h. refl })
apart_or_clash (MakeRead o) (MakeRead p) = inl (record { heaps = λ h. refl; first = λ h. refl; second = λ h. refl })
apart_or_clash (MakeRead o) (MakeWrite p y) = by_objects (reads o) (writes p y) (λ h h'. refl)
apart_or_clash (MakeRead o) (MakeUpdate p g) = by_objects (reads o) (updates p g) (λ h h'. refl)
apart_or_clash (MakeWrite o x) (MakeRead p) = by_objects (writes o x) (reads p) (λ h h'. refl)
apart_or_clash (MakeWrite o x) (MakeWrite p y) = by_objects (writes o x) (writes p y) (λ h h'. refl)
apart_or_clash (MakeWrite o x) (MakeUpdate p g) = by_objects (writes o x) (updates p g) (λ h h'. refl)
apart_or_clash (MakeUpdate o f) (MakeRead p) = by_objects (updates o f) (reads p) (λ h h'. refl)
apart_or_clash (MakeUpdate o f) (MakeWrite p y) = by_objects (updates o f) (writes p y) (λ h h'. refl)
apart_or_clash (MakeUpdate o f) (MakeUpdate p g) = by_objects (updates o f) (updates p g) (λ h h'. refl)

-- an operation draws, or it does not
draw_or_none : (w : Operation) → ((c : ℕ) × (w ≡ MakeMark (Draw c))) ⊎ ((n : ℕ) → draws_after w n ≡ n)
draw_or_none (MakeMark (Draw number)) = inl (number, refl)
draw_or_none other = inr (λ n. refl)

draws_swap : (v w : Operation) (n : ℕ) → draws_after v (draws_after w n) ≡ draws_after w (draws_after v n)
draws_swap v w n =
    elim (draw_or_none v) [
      | inr none ↦ none (draws_after w n) ∙ ap (draws_after w) (sym (none n))
      | inl dv ↦ elim (draw_or_none w) [
        | inr none ↦ ap (draws_after v) (none n) ∙ sym (none (draws_after v n))
        | inl dw ↦ rw (dv.1, dw.1) refl
      ]
    ]

pub same_plain : (h h' : List ℕ) (js js' : Journals) (d d' : ℕ) → h ≡ h' → js ≡ js' → d ≡ d'
    → ◌≡◌ {A = PlainState} (record { heap = h; journals = js; draws = d }) (record { heap = h'; journals = js'; draws = d' })
same_plain h h' js js' d d' p q r = λ i. record { heap = p i; journals = q i; draws = r i }

appended_swap : (js : Journals) (t u : ℕ) (e f : Event) → (t ≡ u → ⊥) → appended (appended js u f) t e ≡ appended (appended js t e) u f
appended_swap js t u e f differ =
    ap (λ j. slice_set (appended js u f) t (j ++ e ∷ [])) (other_journal js u t f differ)
    ∙ set_comm js u t (journal_of js u ++ f ∷ []) (journal_of js t ++ e ∷ []) (λ h. differ (sym h))
    ∙ ap (λ j. slice_set (appended js t e) u (j ++ f ∷ [])) (sym (other_journal js t u e (λ h. differ (sym h))))

performed_swap : (s : PlainState) (t u : ℕ) (v w : Operation) → (t ≡ u → ⊥) → Apart v w → performed (performed s u w) t v ≡ performed (performed s t v) u w
performed_swap s t u v w differ apart =
    same_plain _ _ _ _ _ _ (apart.heaps s.heap)
    (ap (λ e. appended (appended s.journals u (event_made w s.heap)) t e) (apart.first s.heap)
    ∙ appended_swap s.journals t u (event_made v s.heap) (event_made w s.heap) differ
    ∙ ap (λ f. appended (appended s.journals t (event_made v s.heap)) u f) (sym (apart.second s.heap)))
    (draws_swap v w s.draws)

-- what is enabled stays so over another's step, but for a second draw
enabled_still : (s : PlainState) (u : ℕ) (v w : Operation) → IsTrue (is_enabled s v) → ((c : ℕ) → v ≡ MakeMark (Draw c) → draws_after w s.draws ≡ s.draws) → IsTrue (is_enabled (performed s u w) v)
enabled_still s u (MakeMark (Join from upto)) w enabled once =
    let le : upto ≤ count s.journals from = leb-true upto (count s.journals from) enabled in
    le-leb upto (count (performed s u w).journals from) (omega (arith, grows s.journals u from (event_made w s.heap)))
enabled_still s u (MakeMark (Draw number)) w enabled once =
    let e : number ≡ suc s.draws = eqb-true number (suc s.draws) enabled in
    eq-eqb number (suc (draws_after w s.draws)) (omega (arith, once number refl))
enabled_still s u (MakeMark (Fence number)) w enabled once =
    let le : number ≤ s.draws = leb-true number s.draws enabled in
    le-leb number (draws_after w s.draws) (omega (arith, draws_grow w s.draws))
enabled_still s u access w enabled once = refl

-- an order from a state on, with one thread's step taken first
pub record Pulled (behavior : Behavior) (s : PlainState) (t : ℕ) (order : List ℕ) : Type 0 where
  pub rest : List ℕ
  pub front : IsFront behavior (step behavior s t) rest
  pub ends : after behavior (step behavior s t) rest ≡ after behavior s order
  pub shorter : suc (length rest) ≡ length order

module _ (behavior : Behavior) where
  -- a thread makes the same after another's step
  makes_still : (s : PlainState) (t u : ℕ) (v w : Operation) → (t ≡ u → ⊥) → Makes behavior s t v → Makes behavior s u w
      → ((c : ℕ) → v ≡ MakeMark (Draw c) → draws_after w s.draws ≡ s.draws) → Makes behavior (step behavior s u) t v
  makes_still s t u v w differ m n once =
      makes_from behavior (step behavior s u) t v (omega (arith, as_many_step behavior s u, m.within))
      (ap (λ j. behavior t j) (other_step behavior s u t differ) ∙ m.wanted)
      (subst (λ (x : PlainState). IsTrue (is_enabled x v)) (sym n.stepped) (enabled_still s u v w m.enabled once))

  step_swap : (s : PlainState) (t u : ℕ) (v w : Operation) → (t ≡ u → ⊥) → Apart v w → Makes behavior s t v → Makes behavior s u w
      → Makes behavior (step behavior s u) t v → Makes behavior (step behavior s t) u w → step behavior (step behavior s u) t ≡ step behavior (step behavior s t) u
  step_swap s t u v w differ apart m n m' n' =
      m'.stepped ∙ ap (λ (x : PlainState). performed x t v) n.stepped
      ∙ performed_swap s t u v w differ apart
      ∙ sym (n'.stepped ∙ ap (λ (x : PlainState). performed x u w) m.stepped)

  -- of two threads that may step, the one first in an order and another, not both draw
  not_both : (order : List ℕ) (s : PlainState) (t u c : ℕ) (v w : Operation) (heap : List ℕ) → (t ≡ u → ⊥) → Makes behavior s t v → Makes behavior s u w → IsFront behavior (step behavior s u) order
      → at (after behavior (step behavior s u) order).journals t (count s.journals t) ≡ Some (event_made v heap)
      → v ≡ MakeMark (Draw c) → draws_after w s.draws ≡ s.draws
  not_both order s t u c v w heap differ m n front is draw =
      let c_is = drawn_next s v heap c m.enabled (ap (λ o. event_made o heap) draw) in
      let old : count (step behavior s u).journals t ≤ count s.journals t = omega (arith, ap (λ j. length j) (other_step behavior s u t differ)) in
      let above = higher behavior order (step behavior s u) t (count s.journals t) c front old (is ∙ ap (λ o. Some (event_made o heap)) draw) in
      let draws : (step behavior s u).draws ≡ draws_after w s.draws = ap (λ (x : PlainState). x.draws) n.stepped in
      omega (arith, draws_grow w s.draws, c_is, above, draws)

  -- a thread that may step may be taken first
  pub pull : (order : List ℕ) (s : PlainState) (t : ℕ) → IsDownClosed (after behavior s order).journals s.journals → IsOrdered (after behavior s order).journals
      → IsFront behavior s order → AllFinished behavior (after behavior s order) → IsTrue (may_step behavior s t) → Pulled behavior s t order
  pull [] s t closed ordered front through may = absurd (let m = what_it_makes behavior s t may in let finished = through t m.1.within in let wanted = m.1.wanted in cc)
  pull (u ∷ order) s t closed ordered front through may =
      elim (cases_eq t u) [
        | inl same ↦ record {
          rest = order;
          front = rw same front.1;
          ends = ap (λ (n : ℕ). after behavior (step behavior s n) order) same;
          shorter = refl;
        }
        | inr differ ↦
            let differ' : u ≡ t → ⊥ = λ h. differ (sym h) in
            let m = what_it_makes behavior s t may in
            let n = what_it_makes behavior s u front.0 in
            let v = m.0 in
            let w = n.0 in
            let J = (after behavior s (u ∷ order)).journals in
            let made = makes_it behavior (u ∷ order) s t v m.1.within m.1.wanted front through in
            let first : at J u (count s.journals u) ≡ Some (event_made w s.heap) = stays behavior order (step behavior s u) u (count s.journals u) (event_made w s.heap) (made_there behavior s u w n.1) in
            let closed_u = down_closed_step behavior (u ∷ order) s u w s.heap front n.1 first closed in
            let closed_t = down_closed_step behavior (u ∷ order) s t v made.0 front m.1 made.1 closed in
            elim (apart_or_clash v w) [
              | inr clash ↦
                  let a : Place = record { thread = t; event = count s.journals t } in
                  let b : Place = record { thread = u; event = count s.journals u } in
                  let conflict : Conflict J a b = record {
                    first = event_made v made.0;
                    second = event_made w s.heap;
                    object = clash.object;
                    is_first = made.1;
                    is_second = first;
                    by_others = differ;
                    of_one = clash.of_first made.0;
                    of_same = clash.of_second s.heap;
                    one_writes = clash.one_writes made.0 s.heap;
                  } in
                  let t_stays = ap (λ j. length j) (other_step behavior s u t differ) in
                  let u_stays = ap (λ j. length j) (other_step behavior s t u differ') in
                  absurd (elim (ordered a b conflict) [
                    | inl ab ↦
                        let in_u : count s.journals u < count (step behavior s u).journals u = omega (arith, counts_step behavior s u w n.1) in
                        omega (arith, path_back J (step behavior s u).journals ab.between a b closed_u ab.is_path in_u, t_stays)
                    | inr ba ↦
                        let in_t : count s.journals t < count (step behavior s t).journals t = omega (arith, counts_step behavior s t v m.1) in
                        omega (arith, path_back J (step behavior s t).journals ba.between b a closed_t ba.is_path in_t, u_stays)
                  ])
              | inl apart ↦
                  let once : (c : ℕ) → v ≡ MakeMark (Draw c) → draws_after w s.draws ≡ s.draws = λ c draw. not_both order s t u c v w made.0 differ m.1 n.1 front.1 made.1 draw in
                  let once' : (c : ℕ) → w ≡ MakeMark (Draw c) → draws_after v s.draws ≡ s.draws = λ c draw.
                  elim (draw_or_none v) [
                    | inr none ↦ none s.draws
                    | inl dv ↦ absurd (omega (arith, once dv.0 dv.1, ap (λ x. draws_after x s.draws) draw))
                  ] in
                  let m' = makes_still s t u v w differ m.1 n.1 once in
                  let n' = makes_still s u t w v differ' n.1 m.1 once' in
                  let r = pull order (step behavior s u) t closed_u ordered front.1 through m'.may in
                  let swap = step_swap s t u v w differ apart m.1 n.1 m' n' in
                  record {
                    rest = u ∷ r.rest;
                    front = (n'.may, subst (λ (x : PlainState). IsFront behavior x r.rest) swap r.front);
                    ends = ap (λ (x : PlainState). after behavior x r.rest) (sym swap) ∙ r.ends;
                    shorter = ap suc r.shorter;
                  }
            ]
      ]

  pub ends_there : (s : PlainState) (rest : List ℕ) → AllFinished behavior s → IsFront behavior s rest → rest ≡ []
  ends_there s [] through front = refl
  ends_there s (t ∷ rest) through front = absurd (let m = what_it_makes behavior s t front.0 in let finished = through t m.1.within in let wanted = m.1.wanted in cc)

  -- one step less of the way
  pub record Remains (order : List ℕ) (s : PlainState) (t : ℕ) : Type 0 where
    pub pulled : Pulled behavior s t order
    pub closed : IsDownClosed (after behavior (step behavior s t) pulled.rest).journals (step behavior s t).journals
    pub ordered : IsOrdered (after behavior (step behavior s t) pulled.rest).journals
    pub through : AllFinished behavior (after behavior (step behavior s t) pulled.rest)

  -- what holds of an order from a state on holds again after a step that may be made
  pub remains : (order : List ℕ) (s : PlainState) (t : ℕ) → IsDownClosed (after behavior s order).journals s.journals → IsOrdered (after behavior s order).journals
      → IsFront behavior s order → AllFinished behavior (after behavior s order) → IsTrue (may_step behavior s t) → Remains order s t
  remains order s t closed ordered front through may =
      let m = what_it_makes behavior s t may in
      let made = makes_it behavior order s t m.0 m.1.within m.1.wanted front through in
      let closed_t = down_closed_step behavior order s t m.0 made.0 front m.1 made.1 closed in
      let p = pull order s t closed ordered front through may in
      let back = sym p.ends in
      record {
        pulled = p;
        closed = subst (λ (x : PlainState). IsDownClosed x.journals (step behavior s t).journals) back closed_t;
        ordered = subst (λ (x : PlainState). IsOrdered x.journals) back ordered;
        through = subst (λ (x : PlainState). AllFinished behavior x) back through;
      }

  -- after any lawful front there is a way on to the end of the order
  way_on : (front order : List ℕ) (s : PlainState) → IsDownClosed (after behavior s order).journals s.journals → IsOrdered (after behavior s order).journals
      → IsFront behavior s order → AllFinished behavior (after behavior s order) → IsFront behavior s front
      → (rest : List ℕ) × IsFront behavior (after behavior s front) rest × (after behavior (after behavior s front) rest ≡ after behavior s order)
  way_on [] order s closed ordered is_front through given = (order, is_front, refl)
  way_on (t ∷ front) order s closed ordered is_front through given =
      let m = remains order s t closed ordered is_front through given.0 in
      let r = way_on front m.pulled.rest (step behavior s t) m.closed m.ordered m.pulled.front m.through given.1 in
      (r.0, r.1, r.2 ∙ m.pulled.ends)

  pub front_on : (front rest : List ℕ) (s : PlainState) → IsFront behavior s front → IsFront behavior (after behavior s front) rest → IsFront behavior s (front ++ rest)
  front_on [] rest s p q = q
  front_on (t ∷ front) rest s p q = (p.0, front_on front rest (step behavior s t) p.1 q)

  pub after_on : (front rest : List ℕ) (s : PlainState) → after behavior s (front ++ rest) ≡ after behavior (after behavior s front) rest
  after_on [] rest s = refl
  after_on (t ∷ front) rest s = after_on front rest (step behavior s t)

pub no_journal : {A : Type 0} (threads : List A) (t : ℕ) → journal_of (no_events threads) t ≡ []
no_journal [] t = refl
no_journal (x ∷ threads) zero = refl
no_journal (x ∷ threads) (suc t) = no_journal threads t

pub down_closed_at_start : {A : Type 0} (journals : Journals) (threads : List A) → IsDownClosed journals (no_events threads)
down_closed_at_start journals threads = record { by = λ a b edge made. absurd (omega (arith, made, ap (λ (j : List Event). length j) (no_journal threads b.thread))) }

-- where the journals of one lawful order are ordered, each lawful front leads on to a lawful order with the same end
pub front_leads_on : {A : Type 0} (behavior : Behavior) (heap : List ℕ) (threads : List A) (order front : List ℕ)
    → IsOrder behavior (starting_state heap threads) order → IsOrdered (after behavior (starting_state heap threads) order).journals → IsFront behavior (starting_state heap threads) front
    → (rest : List ℕ) × IsOrder behavior (starting_state heap threads) (front ++ rest) × (after behavior (starting_state heap threads) (front ++ rest) ≡ after behavior (starting_state heap threads) order)
front_leads_on behavior heap threads order front is_order ordered is_front =
    let s = starting_state heap threads in
    let r = way_on behavior front order s (down_closed_at_start (after behavior s order).journals threads) ordered is_order.0 is_order.1 is_front in
    let same = after_on behavior front r.0 s ∙ r.2 in
    (r.0, (front_on behavior front r.0 s is_front r.1, subst (λ (x : PlainState). AllFinished behavior x) (sym same) is_order.1), same)

-- so all lawful orders have one end
pub one_end : {A : Type 0} (behavior : Behavior) (heap : List ℕ) (threads : List A) (order other : List ℕ)
    → IsOrder behavior (starting_state heap threads) order → IsOrdered (after behavior (starting_state heap threads) order).journals → IsOrder behavior (starting_state heap threads) other
    → after behavior (starting_state heap threads) other ≡ after behavior (starting_state heap threads) order
one_end behavior heap threads order other is_order ordered is_other =
    let s = starting_state heap threads in
    let r = way_on behavior other order s (down_closed_at_start (after behavior s order).journals threads) ordered is_order.0 is_order.1 is_other.0 in
    let none = ends_there behavior (after behavior s other) r.0 is_other.1 r.1 in
    ap (λ (rest : List ℕ). after behavior (after behavior s other) rest) (sym none) ∙ r.2
