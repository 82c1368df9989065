-- What is left of a run after a front is a run of its own.
use Rattle.std.proofs.Common.{◌≡◌, ℕ, zero, suc, ◌+◌, ◌-◌, ◌<◌, ◌≤◌, ◌⊎◌, inl, inr, List, [], ◌∷◌, ◌++◌, length, map, drop, get_or, Option, Some, None, IsTrue, slice_get, slice_index, slice_set, Bool, ◌||◌, refl, sym, ap, ◌∙◌, subst, arith}
use Rattle.std.proofs.lemmas.List.{length-map, length-drop, drop-append-le, drop_all, map-append}
use Rattle.std.proofs.lemmas.Bool.{cases_eq, cases_lt, leb-true, le-leb, eqb-true, eq-eqb}
use Rattle.std.proofs.lemmas.Option.{slice_get_within}
use Rattle.octet_model.specs.declared.event.Mark.TheVariants.{Join, Draw, Fence}
use Rattle.octet_model.specs.declared.event.Event.{Event}
use Rattle.octet_model.specs.declared.event.Event.TheVariants.{Read, Write, Update, Marked}
use Rattle.octet_model.specs.declared.event.Place.{Place}
use Rattle.octet_model.specs.Machine.{Journals, journal_of, PlainState, no_events, starting_state, Operation, Wants, Behavior, is_enabled, event_made, heap_after, draws_after, appended, performed, next_of, step, after, IsFront}
use Rattle.octet_model.specs.HappensBefore.{event_at, Edge, ProgramOrder, Joined, Drawn, Fenced, IsEvent, IsPath, HappensBefore, object_of, is_write, Conflict, IsOrdered}
use Rattle.octet_model.specs.Plays.{operation_of, next_in, by_journals, state_after_play, lowest_play}
use Rattle.octet_model.proofs.lemmas.Lists.{slice_get-append}
use Rattle.octet_model.proofs.lemmas.Steps.{at, count, same_journal, other_journal, as_many, grows, grows_step, draws_grow, drawn_next, joined_upto, fenced_upto, at_same, Makes, makes_from, what_it_makes, made_there, where_made}
use Rattle.octet_model.proofs.lemmas.Fronts.{stays, no_journal, after_on, front_leads_on}
use Rattle.octet_model.proofs.lemmas.Plays.{all_finished, lowest_makes_all}
use Rattle.octet_model.proofs.lemmas.LogsOfJournals.{same_start}
use Rattle.octet_window.specs.declared.front.Front.{Front}
use Rattle.octet_window.specs.Fronts.{made_in, event_after, journal_after, journals_after, rest_of, front_at, AreBeginnings, RestIsHistory}

-- the event that is next
pub next_event : (z : Option Event) (o : Operation) → next_in z ≡ Wants o → (e : Event) × (z ≡ Some e) × (o ≡ operation_of e)
next_event None o wanted = absurd cc
next_event (Some e) o wanted = (e, refl, cc)

-- a play of the beginnings is a play of the whole
module _ (earlier whole : Journals) (are : AreBeginnings earlier whole) where
  begins_at : (u k : ℕ) (x : Event) → at earlier u k ≡ Some x → at whole u k ≡ Some x
  begins_at u k x h = let b = are.each u in ap (λ (j : List Event). slice_get j k) b.1 ∙ slice_get-append (journal_of earlier u) b.0 k x h

  next_longer : (u k : ℕ) (o : Operation) → next_in (at earlier u k) ≡ Wants o → next_in (at whole u k) ≡ Wants o
  next_longer u k o wanted = go (at earlier u k) refl wanted
    where
      go : (x : Option Event) → at earlier u k ≡ x → next_in x ≡ Wants o → next_in (at whole u k) ≡ Wants o
      go None is wanted = absurd cc
      go (Some x) is wanted = ap next_in (begins_at u k x is) ∙ wanted

  play_on : (order : List ℕ) (s : PlainState) → IsFront (by_journals earlier) s order
      → IsFront (by_journals whole) s order × (after (by_journals whole) s order ≡ after (by_journals earlier) s order)
  play_on [] s front = (tt, refl)
  play_on (u ∷ order) s front =
      let V = by_journals whole in
      let m = what_it_makes (by_journals earlier) s u front.0 in
      let n = makes_from V s u m.0 m.1.within (next_longer u (length (journal_of s.journals u)) m.0 m.1.wanted) m.1.enabled in
      let state : step (by_journals earlier) s u ≡ step V s u = m.1.stepped ∙ sym n.stepped in
      let r = play_on order (step (by_journals earlier) s u) front.1 in
      ((n.may, subst (λ (x : PlainState). IsFront V x order) state r.0), ap (λ (x : PlainState). after V x order) (sym state) ∙ r.1)

-- each event that was made has the events with an edge to it made before
abbrev IsClosed : Journals → Journals → Type 0
IsClosed journals made = (a b : Place) → Edge journals a b → b.event < count made b.thread → a.event < count made a.thread

closed_at_start : {A : Type 0} (journals : Journals) (threads : List A) → IsClosed journals (no_events threads)
closed_at_start journals threads a b edge made = absurd (omega (arith, made, ap (λ (j : List Event). length j) (no_journal threads b.thread)))

module _ (behavior : Behavior) where
  -- what comes after a front is one from there
  pub front_off : (front rest : List ℕ) (s : PlainState) → IsFront behavior s (front ++ rest) → IsFront behavior (after behavior s front) rest
  front_off [] rest s f = f
  front_off (t ∷ front) rest s f = front_off front rest (step behavior s t) f.1

  -- a draw that is still to be made has a higher number than the draws made
  higher : (order : List ℕ) (s : PlainState) (u k c : ℕ) → IsFront behavior s order → count s.journals u ≤ k → at (after behavior s order).journals u k ≡ Some (Marked (Draw c)) → s.draws < c
  higher [] s u k c front old is = absurd (omega (arith, slice_get_within (journal_of s.journals u) k (Marked (Draw c)) is))
  higher (t ∷ order) s u k c front old is =
      let m = what_it_makes behavior s t front.0 in
      let draws : (step behavior s t).draws ≡ draws_after m.0 s.draws = ap (λ (x : PlainState). x.draws) m.1.stepped in
      elim (cases_lt k (count (step behavior s t).journals u)) [
        | inr later ↦ omega (arith, higher order (step behavior s t) u k c front.1 later is, draws, draws_grow m.0 s.draws)
        | inl new ↦
            let here = where_made behavior s t u k m.0 m.1 old new in
            let made = stays behavior order (step behavior s t) t (count s.journals t) (event_made m.0 s.heap) (made_there behavior s t m.0 m.1) in
            let is' : at (after behavior s (t ∷ order)).journals t (count s.journals t) ≡ Some (Marked (Draw c)) = at_same (after behavior s (t ∷ order)).journals t u (count s.journals t) k (sym here.0) (sym here.1) ∙ is in
            let same : event_made m.0 s.heap ≡ Marked (Draw c) = cc (made, is') in
            omega (arith, drawn_next s m.0 s.heap c m.1.enabled same)
      ]

  -- a step keeps what was made closed under edges, for the journals of an order from there on
  closed_step : (order : List ℕ) (s : PlainState) (t : ℕ) (o : Operation) → IsFront behavior s order → Makes behavior s t o
      → at (after behavior s order).journals t (count s.journals t) ≡ Some (event_made o s.heap)
      → IsClosed (after behavior s order).journals s.journals → IsClosed (after behavior s order).journals (step behavior s t).journals
  closed_step order s t o front m is closed a b edge made = go (cases_lt b.event (count s.journals b.thread))
    where
      J : Journals
      J = (after behavior s order).journals

      grown : (c : Place) → c.event < count s.journals c.thread → c.event < count (step behavior s t).journals c.thread
      grown c h = omega (arith, grows_step behavior s t c.thread)

      drawn : (p : Place) (c : ℕ) → event_at J p ≡ Some (Marked (Draw c)) → c ≤ suc s.draws → (c ≡ suc s.draws → ⊥) → p.event < count (step behavior s t).journals p.thread
      drawn p c at_p le ne = elim (cases_lt p.event (count s.journals p.thread)) [
        | inl lt ↦ grown p lt
        | inr later ↦ absurd (omega (arith, higher order s p.thread p.event c front later at_p, ne))
      ]

      new : (p q : Place) → Edge J p q → q.thread ≡ t → q.event ≡ count s.journals t → event_at J q ≡ Some (event_made o s.heap) → p.event < count (step behavior s t).journals p.thread
      new p q (ProgramOrder same next) qt qk here = grown p (let n : p.event < count s.journals t = omega arith in rw (same, qt) n)
      new p q (Joined upto is_q below) qt qk here = grown p (omega (arith, joined_upto s o s.heap p.thread upto m.enabled (cc (is_q, here))))
      new p q (Drawn first then is_p is_q below) qt qk here =
          let d : then ≡ suc s.draws = drawn_next s o s.heap then m.enabled (cc (is_q, here)) in
          drawn p first is_p (omega arith) (omega arith)
      new p q (Fenced number upto is_p is_q below) qt qk here =
          let d : upto ≤ s.draws = fenced_upto s o s.heap upto m.enabled (cc (is_q, here)) in
          drawn p number is_p (omega arith) (omega arith)

      go : (b.event < count s.journals b.thread) ⊎ (count s.journals b.thread ≤ b.event) → a.event < count (step behavior s t).journals a.thread
      go (inl old) = grown a (closed a b edge old)
      go (inr later) =
          let here = where_made behavior s t b.thread b.event o m later made in
          new a b edge here.0 here.1 (at_same J b.thread t b.event (count s.journals t) here.0 here.1 ∙ is)

  -- a front is closed under edges
  closed_along : (front order : List ℕ) (s : PlainState) → IsFront behavior s (front ++ order) → IsClosed (after behavior s (front ++ order)).journals s.journals
      → IsClosed (after behavior s (front ++ order)).journals (after behavior s front).journals
  closed_along [] order s f closed = closed
  closed_along (t ∷ front) order s f closed =
      let m = what_it_makes behavior s t f.0 in
      let made = stays behavior (front ++ order) (step behavior s t) t (count s.journals t) (event_made m.0 s.heap) (made_there behavior s t m.0 m.1) in
      closed_along front order (step behavior s t) f.1 (closed_step (t ∷ (front ++ order)) s t m.0 f m.1 made closed)

-- lists of journals that agree
pub same_journals : (a b : Journals) → length a ≡ length b → ((u : ℕ) → journal_of a u ≡ journal_of b u) → a ≡ b
same_journals [] [] many each = refl
same_journals [] (y ∷ b) many each = absurd (omega (arith, many))
same_journals (x ∷ a) [] many each = absurd (omega (arith, many))
same_journals (x ∷ a) (y ∷ b) many each =
    ap (λ (j : List Event). j ∷ a) (each 0) ∙ ap (λ (js : Journals). y ∷ js) (same_journals a b (omega (arith, many)) (λ u. each (suc u)))

-- how many events the front at journals has
made_is : (js : Journals) (draws u : ℕ) → made_in (front_at js draws) u ≡ count js u
made_is [] draws u = refl
made_is (j ∷ js) draws zero = refl
made_is (j ∷ js) draws (suc u) = made_is js draws u

module _ (front : Front) where
  none_after : (made : ℕ) → journal_after front made [] ≡ []
  none_after zero = refl
  none_after (suc made) = refl

  after_journal : (mades : List ℕ) (js : Journals) (u : ℕ) → journal_of (journals_after front mades js) u ≡ journal_after front (get_or mades u 0) (journal_of js u)
  after_journal mades [] u = sym (none_after (get_or mades u 0))
  after_journal [] (j ∷ js) zero = refl
  after_journal [] (j ∷ js) (suc u) = after_journal [] js u
  after_journal (made ∷ mades) (j ∷ js) zero = refl
  after_journal (made ∷ mades) (j ∷ js) (suc u) = after_journal mades js u

  length-after : (mades : List ℕ) (js : Journals) → length (journals_after front mades js) ≡ length js
  length-after mades [] = refl
  length-after [] (j ∷ js) = omega (arith, length-after [] js)
  length-after (made ∷ mades) (j ∷ js) = omega (arith, length-after mades js)

  -- an event after the front
  get_after : (n : ℕ) (j : List Event) (k m : ℕ) (e : Event) → n + k ≡ m → slice_get j m ≡ Some e → slice_get (journal_after front n j) k ≡ Some (event_after front e)
  get_after n [] k m e is h = absurd cc
  get_after zero (x ∷ j) zero zero e is h = let same : x ≡ e = cc in ap (λ (y : Event). Some (event_after front y)) same
  get_after zero (x ∷ j) zero (suc m) e is h = absurd (omega (arith, is))
  get_after zero (x ∷ j) (suc k) zero e is h = absurd (omega (arith, is))
  get_after zero (x ∷ j) (suc k) (suc m) e is h = get_after zero j k m e (omega (arith, is)) h
  get_after (suc n) (x ∷ j) k zero e is h = absurd (omega (arith, is))
  get_after (suc n) (x ∷ j) k (suc m) e is h = get_after n j k m e (omega (arith, is)) h

  -- and one of those is one of the whole
  get_back : (n : ℕ) (j : List Event) (k : ℕ) (y : Event) → slice_get (journal_after front n j) k ≡ Some y → (e : Event) × (slice_get j (n + k) ≡ Some e) × (event_after front e ≡ y)
  get_back zero [] k y h = absurd cc
  get_back (suc n) [] k y h = absurd cc
  get_back zero (x ∷ j) zero y h = (x, refl, cc)
  get_back zero (x ∷ j) (suc k) y h =
      let r = get_back zero j k y h in
      let n : zero + suc k ≡ suc (zero + k) = omega arith in
      (r.0, ap (λ (i : ℕ). slice_get (x ∷ j) i) n ∙ r.1, r.2)
  get_back (suc n) (x ∷ j) k y h =
      let r = get_back n j k y h in
      let m : suc n + k ≡ suc (n + k) = omega arith in
      (r.0, ap (λ (i : ℕ). slice_get (x ∷ j) i) m ∙ r.1, r.2)

  same_object : (e : Event) → object_of (event_after front e) ≡ object_of e
  same_object (Read object value) = refl
  same_object (Write object value) = refl
  same_object (Update object before after) = refl
  same_object (Marked mark) = refl

  same_write : (e : Event) → is_write (event_after front e) ≡ is_write e
  same_write (Read object value) = refl
  same_write (Write object value) = refl
  same_write (Update object before after) = refl
  same_write (Marked mark) = refl

  -- a state of the rest stands beside one of the whole
  record Along (x y : PlainState) : Type 0 where
    heap : y.heap ≡ x.heap
    draws : x.draws ≡ front.draws + y.draws
    many : length y.journals ≡ length x.journals
    past : (u : ℕ) → made_in front u ≤ count x.journals u
    each : (u : ℕ) → journal_of y.journals u ≡ journal_after front (made_in front u) (journal_of x.journals u)

  counted : (x y : PlainState) → Along x y → (u : ℕ) → made_in front u + count y.journals u ≡ count x.journals u
  counted x y a u =
      let n = made_in front u in
      let j = journal_of x.journals u in
      let l : count y.journals u ≡ length j - n = ap (λ (i : List Event). length i) (a.each u) ∙ (length-map (drop n j) (event_after front) ∙ length-drop n j) in
      omega (arith, l, a.past u)

  enabled_on : (x y : PlainState) → Along x y → (e : Event) → IsTrue (is_enabled x (operation_of e)) → IsTrue (is_enabled y (operation_of (event_after front e)))
  enabled_on x y a (Read object value) h = refl
  enabled_on x y a (Write object value) h = refl
  enabled_on x y a (Update object before after) h = refl
  enabled_on x y a (Marked (Join from upto)) h = le-leb (upto - made_in front from) (count y.journals from) (omega (arith, leb-true upto (count x.journals from) h, counted x y a from))
  enabled_on x y a (Marked (Draw number)) h = eq-eqb (number - front.draws) (suc y.draws) (omega (arith, eqb-true number (suc x.draws) h, a.draws))
  enabled_on x y a (Marked (Fence number)) h = le-leb (number - front.draws) y.draws (omega (arith, leb-true number x.draws h, a.draws))

  made_on : (h k : List ℕ) → k ≡ h → (e : Event) → event_made (operation_of (event_after front e)) k ≡ event_after front (event_made (operation_of e) h)
  made_on h k same (Read object value) = ap (λ (l : List ℕ). Read object (slice_index l object)) same
  made_on h k same (Write object value) = refl
  made_on h k same (Update object before after) = ap (λ (l : List ℕ). Update object (slice_index l object) after) same
  made_on h k same (Marked mark) = refl

  heap_on : (h k : List ℕ) → k ≡ h → (e : Event) → heap_after (operation_of (event_after front e)) k ≡ heap_after (operation_of e) h
  heap_on h k same (Read object value) = same
  heap_on h k same (Write object value) = ap (λ (l : List ℕ). slice_set l object value) same
  heap_on h k same (Update object before after) = ap (λ (l : List ℕ). slice_set l object after) same
  heap_on h k same (Marked mark) = same

  draws_on : (n m : ℕ) → n ≡ front.draws + m → (e : Event) → draws_after (operation_of e) n ≡ front.draws + draws_after (operation_of (event_after front e)) m
  draws_on n m is (Read object value) = is
  draws_on n m is (Write object value) = is
  draws_on n m is (Update object before after) = is
  draws_on n m is (Marked (Join from upto)) = is
  draws_on n m is (Marked (Draw number)) = omega (arith, is)
  draws_on n m is (Marked (Fence number)) = is

  journal_on : (n : ℕ) (j : List Event) (e : Event) → n ≤ length j → journal_after front n (j ++ e ∷ []) ≡ journal_after front n j ++ event_after front e ∷ []
  journal_on n j e le = ap (map (event_after front)) (drop-append-le n j (e ∷ []) le) ∙ map-append (event_after front) (drop n j) (e ∷ [])

  step_on : (x y : PlainState) (t : ℕ) (e : Event) → t < length x.journals → Along x y → Along (performed x t (operation_of e)) (performed y t (operation_of (event_after front e)))
  step_on x y t e within a = record {
    heap = heap_on x.heap y.heap a.heap e;
    draws = draws_on x.draws y.draws a.draws e;
    many = as_many y.journals t e2 ∙ (a.many ∙ sym (as_many x.journals t e1));
    past = λ u. omega (arith, a.past u, grows x.journals t u e1);
    each = λ u. elim (cases_eq u t) [
      | inr differ ↦ other_journal y.journals t u e2 differ ∙ (a.each u ∙ ap (λ (j : List Event). journal_after front (made_in front u) j) (sym (other_journal x.journals t u e1 differ)))
      | inl same ↦ subst (λ (v : ℕ). journal_of (appended y.journals t e2) v ≡ journal_after front (made_in front v) (journal_of (appended x.journals t e1) v)) (sym same) here
    ];
  }
    where
      e1 : Event
      e1 = event_made (operation_of e) x.heap

      e2 : Event
      e2 = event_made (operation_of (event_after front e)) y.heap

      within_y : t < length y.journals
      within_y = omega (arith, a.many)

      here : journal_of (appended y.journals t e2) t ≡ journal_after front (made_in front t) (journal_of (appended x.journals t e1) t)
      here =
          same_journal y.journals t e2 within_y
          ∙ (ap (λ (j : List Event). j ++ e2 ∷ []) (a.each t)
          ∙ (ap (λ (z : Event). journal_after front (made_in front t) (journal_of x.journals t) ++ z ∷ []) (made_on x.heap y.heap a.heap e)
          ∙ (sym (journal_on (made_in front t) (journal_of x.journals t) e1 (a.past t))
          ∙ ap (λ (j : List Event). journal_after front (made_in front t) j) (sym (same_journal x.journals t e1 within)))))

  module _ (whole : Journals) where
    abbrev rest : Journals
    rest = rest_of front whole

    at_rest : (u k m : ℕ) (e : Event) → made_in front u + k ≡ m → at whole u m ≡ Some e → at rest u k ≡ Some (event_after front e)
    at_rest u k m e is h = ap (λ (j : List Event). slice_get j k) (after_journal front.made whole u) ∙ get_after (made_in front u) (journal_of whole u) k m e is h

    -- a play of the whole goes on as one of the rest
    along : (order : List ℕ) (x y : PlainState) → Along x y → IsFront (by_journals whole) x order
        → IsFront (by_journals rest) y order × Along (after (by_journals whole) x order) (after (by_journals rest) y order)
    along [] x y a f = (tt, a)
    along (t ∷ order) x y a f =
        let V = by_journals whole in
        let W = by_journals rest in
        let m = what_it_makes V x t f.0 in
        let e = next_event (at whole t (count x.journals t)) m.0 m.1.wanted in
        let o2 = operation_of (event_after front e.0) in
        let wants : next_of W y t ≡ Wants o2 = ap next_in (at_rest t (count y.journals t) (count x.journals t) e.0 (counted x y a t) e.1) in
        let enabled : IsTrue (is_enabled y o2) = enabled_on x y a e.0 (subst (λ (o : Operation). IsTrue (is_enabled x o)) e.2 m.1.enabled) in
        let n = makes_from W y t o2 (let w = m.1.within in omega (arith, a.many)) wants enabled in
        let next : Along (performed x t m.0) (performed y t o2) = subst (λ (o : Operation). Along (performed x t o) (performed y t o2)) (sym e.2) (step_on x y t e.0 m.1.within a) in
        let stepped : Along (step V x t) (step W y t) = subst (λ (z : PlainState). Along z (step W y t)) (sym m.1.stepped) (subst (λ (z : PlainState). Along (performed x t m.0) z) (sym n.stepped) next) in
        let r = along order (step V x t) (step W y t) stepped f.1 in
        ((n.may, r.0), r.1)

    -- the marks of the rest order what those of the whole do
    module _ (earlier : Journals) (made : (u : ℕ) → made_in front u ≡ count earlier u) (closed : IsClosed whole earlier)
        (above : (q : Place) (c : ℕ) → made_in front q.thread ≤ q.event → event_at whole q ≡ Some (Marked (Draw c)) → front.draws < c) where
      abbrev up : Place → Place
      up a = record { thread = a.thread; event = made_in front a.thread + a.event }

      abbrev down : Place → Place
      down a = record { thread = a.thread; event = a.event - made_in front a.thread }

      down_up : (a : Place) → down (up a) ≡ a
      down_up a = let n : (made_in front a.thread + a.event) - made_in front a.thread ≡ a.event = omega arith in ap (λ (k : ℕ). record a { event = k }) n

      event_down : (p : Place) (e : Event) → made_in front p.thread ≤ p.event → event_at whole p ≡ Some e → event_at rest (down p) ≡ Some (event_after front e)
      event_down p e le h = at_rest p.thread (p.event - made_in front p.thread) p.event e (omega (arith, le)) h

      later : (p q : Place) → Edge whole p q → made_in front p.thread ≤ p.event → made_in front q.thread ≤ q.event
      later p q edge le = elim (cases_lt q.event (count earlier q.thread)) [
        | inr past ↦ omega (arith, made q.thread)
        | inl before ↦ absurd (omega (arith, closed p q edge before, made p.thread))
      ]

      edge_down : (p q : Place) → Edge whole p q → made_in front p.thread ≤ p.event → made_in front q.thread ≤ q.event → Edge rest (down p) (down q)
      edge_down p q (ProgramOrder same next) lep leq = ProgramOrder same (omega (arith, next, lep, ap (λ (u : ℕ). made_in front u) same))
      edge_down p q (Joined upto is_q below) lep leq = Joined (upto - made_in front p.thread) (event_down q (Marked (Join p.thread upto)) leq is_q) (omega (arith, below, lep))
      edge_down p q (Drawn first then is_p is_q below) lep leq =
          Drawn (first - front.draws) (then - front.draws) (event_down p (Marked (Draw first)) lep is_p) (event_down q (Marked (Draw then)) leq is_q) (omega (arith, below, above q then leq is_q))
      edge_down p q (Fenced number upto is_p is_q below) lep leq =
          Fenced (number - front.draws) (upto - front.draws) (event_down p (Marked (Draw number)) lep is_p) (event_down q (Marked (Fence upto)) leq is_q) (omega (arith, below))

      is_event : (p : Place) → IsEvent whole p → made_in front p.thread ≤ p.event → IsEvent rest (down p)
      is_event p is le = (event_after front is.0, event_down p is.0 le is.1)

      path_down : (between : List Place) (p q : Place) → IsPath whole (p ∷ (between ++ q ∷ [])) → made_in front p.thread ≤ p.event → IsPath rest (down p ∷ (map down between ++ down q ∷ []))
      path_down [] p q path le = let leq = later p q path.1 le in (is_event p path.0 le, edge_down p q path.1 le leq, is_event q path.2 leq)
      path_down (c ∷ between) p q path le = let lec = later p c path.1 le in (is_event p path.0 le, edge_down p c path.1 le lec, path_down between c q path.2 lec)

      happens : (a b : Place) → HappensBefore whole (up a) (up b) → HappensBefore rest a b
      happens a b h =
          let d : HappensBefore rest (down (up a)) (down (up b)) = record { between = map down h.between; is_path = path_down h.between (up a) (up b) h.is_path (omega arith) } in
          subst (λ (q : Place). HappensBefore rest a q) (down_up b) (subst (λ (p : Place). HappensBefore rest p (down (up b))) (down_up a) d)

      event_up : (a : Place) (y : Event) → event_at rest a ≡ Some y → (e : Event) × (event_at whole (up a) ≡ Some e) × (event_after front e ≡ y)
      event_up a y h = get_back (made_in front a.thread) (journal_of whole a.thread) a.event y (ap (λ (j : List Event). slice_get j a.event) (sym (after_journal front.made whole a.thread)) ∙ h)

      conflict_up : (a b : Place) → Conflict rest a b → Conflict whole (up a) (up b)
      conflict_up a b c =
          let f = event_up a c.first c.is_first in
          let s = event_up b c.second c.is_second in
          record {
            first = f.0;
            second = s.0;
            object = c.object;
            is_first = f.1;
            is_second = s.1;
            by_others = c.by_others;
            of_one = sym (same_object f.0) ∙ (ap (λ (e : Event). object_of e) f.2 ∙ c.of_one);
            of_same = sym (same_object s.0) ∙ (ap (λ (e : Event). object_of e) s.2 ∙ c.of_same);
            one_writes = writes f.0 s.0 c.first c.second f.2 s.2 c.one_writes;
          }
        where
          writes : (e g y z : Event) → event_after front e ≡ y → event_after front g ≡ z → IsTrue (is_write y || is_write z) → IsTrue (is_write e || is_write g)
          writes e g y z is_y is_z h =
              ap (λ (b : Bool). b || is_write g) (sym (same_write e) ∙ ap (λ (i : Event). is_write i) is_y)
              ∙ (ap (λ (b : Bool). is_write y || b) (sym (same_write g) ∙ ap (λ (i : Event). is_write i) is_z) ∙ h)

      ordered_rest : IsOrdered whole → IsOrdered rest
      ordered_rest ordered a b c = elim (ordered (up a) (up b) (conflict_up a b c)) [
        | inl ab ↦ inl (happens a b ab)
        | inr ba ↦ inr (happens b a ba)
      ]

pub rest_is_history : RestIsHistory
rest_is_history starts whole earlier last draws play h are makes =
    let V = by_journals whole in
    let at_front = state_after_play starts earlier play in
    let front = front_at earlier at_front.draws in
    let left = rest_of front whole in
    let W = by_journals left in
    let s0 = starting_state starts whole in
    let start : starting_state starts earlier ≡ s0 = ap (λ (n : Journals). record s0 { journals = n }) (same_start earlier whole are.many) in
    let on = play_on earlier whole are play (starting_state starts earlier) makes.is_play in
    let is_front : IsFront V s0 play = subst (λ (x : PlainState). IsFront V x play) start on.0 in
    let there : after V s0 play ≡ at_front = ap (λ (x : PlainState). after V x play) (sym start) ∙ on.1 in
    let low = lowest_play starts whole in
    let finished = all_finished starts whole low h.makes_all in
    let makes_whole : (state_after_play starts whole low).journals ≡ whole = h.makes_all.makes in
    let r = front_leads_on V starts whole low play (h.makes_all.is_play, finished) (subst IsOrdered (sym makes_whole) h.ordered) is_front in
    let order = r.0 in
    let end : after V (after V s0 play) order ≡ state_after_play starts whole low = sym (after_on V play order s0) ∙ r.2 in
    let comes : after V at_front order ≡ state_after_play starts whole low = ap (λ (x : PlainState). after V x order) (sym there) ∙ end in
    let from_front : IsFront V at_front order = subst (λ (x : PlainState). IsFront V x order) there (front_off V play order s0 r.1.0) in
    let J : (after V s0 (play ++ order)).journals ≡ whole = ap (λ (x : PlainState). x.journals) r.2 ∙ makes_whole in
    let closed0 = closed_along V play order s0 r.1.0 (closed_at_start (after V s0 (play ++ order)).journals whole) in
    let closed1 : IsClosed whole (after V s0 play).journals = subst (λ (js : Journals). IsClosed js (after V s0 play).journals) J closed0 in
    let closed : IsClosed whole earlier = subst (λ (js : Journals). IsClosed whole js) (ap (λ (x : PlainState). x.journals) there ∙ makes.makes) closed1 in
    let made : (u : ℕ) → made_in front u ≡ count earlier u = made_is earlier at_front.draws in
    let comes_whole : (after V at_front order).journals ≡ whole = ap (λ (x : PlainState). x.journals) comes ∙ makes_whole in
    let made_at : (u : ℕ) → made_in front u ≡ count at_front.journals u = λ u. made u ∙ ap (λ (js : Journals). count js u) (sym makes.makes) in
    let above : (q : Place) (c : ℕ) → made_in front q.thread ≤ q.event → event_at whole q ≡ Some (Marked (Draw c)) → front.draws < c =
    λ q c le is. higher V order at_front q.thread q.event c from_front (omega (arith, le, made_at q.thread)) (ap (λ (js : Journals). at js q.thread q.event) comes_whole ∙ is) in
    let ordered = ordered_rest front whole earlier made closed above h.ordered in
    let y0 = starting_state at_front.heap left in
    let begins : Along front at_front y0 = record {
      heap = refl;
      draws = omega arith;
      many = length-map left (λ (j : List Event). []) ∙ (length-after front front.made whole ∙ (sym are.many ∙ ap (λ (js : Journals). length js) (sym makes.makes)));
      past = λ u. omega (arith, made_at u);
      each = λ u. no_journal left u ∙ sym (ap (map (event_after front)) (drop_all (made_in front u) (journal_of at_front.journals u) (omega (arith, made_at u))));
    } in
    let a = along front whole order at_front y0 begins from_front in
    let last_along = a.1 in
    let all : (after W y0 order).journals ≡ left = same_journals (after W y0 order).journals left
    (last_along.many ∙ (ap (λ (js : Journals). length js) comes_whole ∙ sym (length-after front front.made whole)))
    (λ u. last_along.each u ∙ (ap (λ (js : Journals). journal_after front (made_in front u) (journal_of js u)) comes_whole ∙ sym (after_journal front front.made whole u))) in
    let low_makes = lowest_makes_all at_front.heap left order ordered (record { is_play = a.0; makes = all }) in
    record {
      makes_all = low_makes.0;
      gives = ap (λ (x : PlainState). x.heap) low_makes.1 ∙ (last_along.heap ∙ (ap (λ (x : PlainState). x.heap) comes ∙ h.gives));
      counts = ap (λ (x : PlainState). x.draws) low_makes.1 ∙ (let d = last_along.draws in let e : (after V at_front order).draws ≡ draws = ap (λ (x : PlainState). x.draws) comes ∙ h.counts in omega (arith, d, e));
      ordered = ordered;
    }
