-- Plays of what is noted: how they go on, and where no history is.
use Rattle.std.proofs.Common.{◌≡◌, ℕ, zero, suc, ◌+◌, ◌-◌, ◌<◌, ◌≤◌, inl, inr, true, List, [], ◌∷◌, ◌++◌, length, map, take, get_or, Option, Some, IsTrue, nat_le, ◌==◌, option_map, slice_get, slice_set, refl, sym, ap, ◌∙◌, subst, arith}
use Rattle.std.proofs.lemmas.Bool.{cases_eq, cases_lt}
use Rattle.std.proofs.lemmas.List.{get_or-set_same, get_or-set_other, length-map, length-take-le, take_all}
use Rattle.std.proofs.lemmas.Option.{get_or_from_slice_get, slice_get-get_or, slice_get-map, slice_get_within}
use Rattle.octet_model.specs.declared.event.Mark.TheVariants.{Join, Draw, Fence}
use Rattle.octet_model.specs.declared.event.Event.{Event}
use Rattle.octet_model.specs.declared.event.Event.TheVariants.{Read, Write, Update, Marked}
use Rattle.octet_model.specs.Machine.{Journals, journal_of, PlainState, starting_state, Operation, Behavior, is_enabled, event_made, heap_after, draws_after, appended, performed, after, IsFront}
use Rattle.octet_model.specs.HappensBefore.{IsOrdered}
use Rattle.octet_model.specs.Plays.{operation_of, next_in, by_journals, state_after_play, lowest_play, IsOneHistory}
use Rattle.octet_model.proofs.lemmas.Steps.{at, count, same_journal, other_journal, as_many, Makes, makes_from, what_it_makes, by_front, made_there}
use Rattle.octet_model.proofs.lemmas.Fronts.{stays, no_journal, front_on, after_on, front_leads_on}
use Rattle.octet_model.proofs.lemmas.Plays.{all_finished}
use Rattle.octet_window.specs.declared.notes.Note.{Note}
use Rattle.octet_window.specs.Noting.{events_of}
use Rattle.octet_window.specs.Histories.{noted, may_be_made, ComesTo, HasHistory, HasNoHistory}
use Rattle.octet_window.specs.Courses.{no_note, notes_of, event_next, AllMade, MayGoOn, NoneGoesOn}
use Rattle.octet_window.proofs.Rest.{front_off, next_event, same_journals}
use Rattle.octet_window.proofs.Steps.{take_step}

-- a list with one item more taken
take_at : {X : Type 0} (xs : List X) (k : ℕ) (x : X) → slice_get xs k ≡ Some x → take (k + 1) xs ≡ take k xs ++ x ∷ []
take_at xs k x is = take_step xs k x (slice_get_within xs k x is) ∙ ap (λ y. take k xs ++ y ∷ []) (get_or_from_slice_get xs k x x is)

pub zeros : {X : Type 0} (threads : List X) (t : ℕ) → ◌≡◌ {A = ℕ} (get_or (map (λ x. 0) threads) t 0) 0
zeros [] t = refl
zeros (x ∷ threads) zero = refl
zeros (x ∷ threads) (suc t) = zeros threads t

module _ (starts : List ℕ) (js : Journals) where
  pub comes_same : {made made' : List ℕ} {draws draws' : ℕ} {heap heap' : List ℕ} → made' ≡ made → draws' ≡ draws → heap' ≡ heap → ComesTo starts js made draws heap → ComesTo starts js made' draws' heap'
  comes_same {made} {made'} {draws} {draws'} {heap} {heap'} is_made is_draws is_heap c =
      subst (λ (m : List ℕ). ComesTo starts js m draws' heap') (sym is_made)
      (subst (λ (n : ℕ). ComesTo starts js made n heap') (sym is_draws) (subst (λ (h : List ℕ). ComesTo starts js made draws h) (sym is_heap) c))

  pub comes_at_start : {X : Type 0} (threads : List X) → ComesTo starts js (map (λ x. 0) threads) 0 starts
  comes_at_start threads = record {
    play = [];
    is_play = tt;
    within = λ t. omega (arith, zeros threads t);
    makes = λ t. no_journal js t ∙ ap (λ (n : ℕ). take n (journal_of js t)) (sym (zeros threads t));
    counts = refl;
    gives = refl;
  }

  module _ (made : List ℕ) (draws : ℕ) (heap : List ℕ) (c : ComesTo starts js made draws heap) where
    abbrev V : Behavior
    V = by_journals js

    abbrev s0 : PlainState
    s0 = starting_state starts js

    abbrev s : PlainState
    s = state_after_play starts js c.play

    counted : (u : ℕ) → count s.journals u ≡ get_or made u 0
    counted u = ap (λ (j : List Event). length j) (c.makes u) ∙ length-take-le (get_or made u 0) (journal_of js u) (c.within u)

    many : length s.journals ≡ length js
    many = by_front V (λ (x : PlainState). length x.journals ≡ length js) (λ x t o m h. as_many x.journals t (event_made o x.heap) ∙ h) c.play s0 c.is_play (length-map js (λ j. []))

    -- an event may be made where the counts allow it
    enabled_is : (e : Event) → is_enabled s (operation_of e) ≡ may_be_made made draws e
    enabled_is (Read object value) = refl
    enabled_is (Write object value) = refl
    enabled_is (Update object before later) = refl
    enabled_is (Marked (Join from upto)) = ap (λ (n : ℕ). nat_le upto n) (counted from)
    enabled_is (Marked (Draw number)) = ap (λ (n : ℕ). number == suc n) c.counts
    enabled_is (Marked (Fence number)) = ap (λ (n : ℕ). nat_le number n) c.counts

    module _ (t k : ℕ) (e : Event) (inside : t < length js) (is_k : get_or made t 0 ≡ k) (is_e : at js t k ≡ Some e) (may : may_be_made made draws e ≡ true) where
      makes_it : Makes V s t (operation_of e)
      makes_it = makes_from V s t (operation_of e) (omega (arith, inside, many)) (ap (λ (n : ℕ). next_in (at js t n)) (counted t ∙ is_k) ∙ ap next_in is_e) (enabled_is e ∙ may)

      abbrev longer : List ℕ
      longer = c.play ++ t ∷ []

      is_longer : IsFront V s0 longer
      is_longer = front_on V c.play (t ∷ []) s0 c.is_play (makes_it.may, tt)

      ends : after V s0 longer ≡ performed s t (operation_of e)
      ends = after_on V c.play (t ∷ []) s0 ∙ makes_it.stepped

      -- where it has its value there, the play goes on
      pub comes_on : t < length made → event_made (operation_of e) heap ≡ e → ComesTo starts js (slice_set made t (k + 1)) (draws_after (operation_of e) draws) (heap_after (operation_of e) heap)
      comes_on there value = record {
        play = longer;
        is_play = is_longer;
        within = λ u. elim (cases_eq u t) [
          | inr apart ↦ omega (arith, get_or-set_other made t u (k + 1) 0 apart, c.within u)
          | inl same ↦ subst (λ (v : ℕ). get_or (slice_set made t (k + 1)) v 0 ≤ count js v) (sym same) (omega (arith, get_or-set_same made t (k + 1) 0 there, slice_get_within (journal_of js t) k e is_e))
        ];
        makes = λ u. ap (λ (x : PlainState). journal_of x.journals u) ends ∙ elim (cases_eq u t) [
          | inr apart ↦ other_journal s.journals t u x apart ∙ (c.makes u ∙ ap (λ (n : ℕ). take n (journal_of js u)) (sym (get_or-set_other made t u (k + 1) 0 apart)))
          | inl same ↦ subst (λ (v : ℕ). journal_of (appended s.journals t x) v ≡ take (get_or (slice_set made t (k + 1)) v 0) (journal_of js v)) (sym same) here
        ];
        counts = ap (λ (z : PlainState). z.draws) ends ∙ ap (λ (n : ℕ). draws_after (operation_of e) n) c.counts;
        gives = ap (λ (z : PlainState). z.heap) ends ∙ ap (λ (h : List ℕ). heap_after (operation_of e) h) c.gives;
      }
        where
          x : Event
          x = event_made (operation_of e) s.heap

          is_x : x ≡ e
          is_x = ap (λ (h : List ℕ). event_made (operation_of e) h) c.gives ∙ value

          here : journal_of (appended s.journals t x) t ≡ take (get_or (slice_set made t (k + 1)) t 0) (journal_of js t)
          here =
              same_journal s.journals t x makes_it.within
              ∙ (ap (λ (j : List Event). j ++ x ∷ []) (c.makes t ∙ ap (λ (n : ℕ). take n (journal_of js t)) is_k)
              ∙ (ap (λ (z : Event). take k (journal_of js t) ++ z ∷ []) is_x
              ∙ (sym (take_at (journal_of js t) k e is_e)
              ∙ ap (λ (n : ℕ). take n (journal_of js t)) (sym (get_or-set_same made t (k + 1) 0 there)))))

    module _ (last : List ℕ) (number : ℕ) (h : IsOneHistory starts js last number) where
      abbrev low : List ℕ
      low = lowest_play starts js

      leads_on : (front : List ℕ) → IsFront V s0 front → (rest : List ℕ) × IsFront V s0 (front ++ rest) × ((after V s0 (front ++ rest)).journals ≡ js)
      leads_on front is_front =
          let r = front_leads_on V starts js low front (h.makes_all.is_play, all_finished starts js low h.makes_all) (subst IsOrdered (sym h.makes_all.makes) h.ordered) is_front in
          (r.0, r.1.0, ap (λ (x : PlainState). x.journals) r.2 ∙ h.makes_all.makes)

      -- in one history it has its value there
      pub has_value : (t k : ℕ) (e : Event) → t < length js → get_or made t 0 ≡ k → at js t k ≡ Some e → may_be_made made draws e ≡ true → event_made (operation_of e) heap ≡ e
      has_value t k e inside is_k is_e may =
          let m = makes_it t k e inside is_k is_e may in
          let x = event_made (operation_of e) s.heap in
          let r = leads_on (c.play ++ t ∷ []) (is_longer t k e inside is_k is_e may) in
          let s1 = after V s0 (c.play ++ t ∷ []) in
          let here : at s1.journals t (count s.journals t) ≡ Some x = ap (λ (z : PlainState). at z.journals t (count s.journals t)) (after_on V c.play (t ∷ []) s0) ∙ made_there V s t (operation_of e) m in
          let there : at (after V s1 r.0).journals t (count s.journals t) ≡ Some x = stays V r.0 s1 t (count s.journals t) x here in
          let in_js : at js t k ≡ Some x = ap (λ (n : ℕ). at js t n) (sym (counted t ∙ is_k)) ∙ (sym (ap (λ (l : Journals). at l t (count s.journals t)) (sym (ap (λ (z : PlainState). z.journals) (after_on V (c.play ++ t ∷ []) r.0 s0)) ∙ r.2)) ∙ there) in
          let is_x : x ≡ e = cc (in_js, is_e) in
          ap (λ (l : List ℕ). event_made (operation_of e) l) (sym c.gives) ∙ is_x

      -- and where no thread may go on, all is made
      pub all_is_made : ((t : ℕ) (e : Event) → t < length js → at js t (get_or made t 0) ≡ Some e → may_be_made made draws e ≡ true → ⊥) → (u : ℕ) → count js u ≤ get_or made u 0
      all_is_made none u = let r = leads_on c.play c.is_play in go r.0 r.1 r.2
        where
          go : (rest : List ℕ) → IsFront V s0 (c.play ++ rest) → (after V s0 (c.play ++ rest)).journals ≡ js → count js u ≤ get_or made u 0
          go [] front is = omega (arith, counted u, ap (λ (l : Journals). count l u) (sym (ap (λ (z : PlainState). z.journals) (after_on V c.play [] s0)) ∙ is))
          go (t ∷ rest) front is =
              let m = what_it_makes V s t (front_off V c.play (t ∷ rest) s0 front).0 in
              let n = next_event (at js t (count s.journals t)) m.0 m.1.wanted in
              absurd (none t n.0 (omega (arith, m.1.within, many)) (ap (λ (k : ℕ). at js t k) (sym (counted t)) ∙ n.1)
              (sym (enabled_is n.0) ∙ subst (λ (o : Operation). IsTrue (is_enabled s o)) n.2 m.1.enabled))

    -- what has made all is a history
    pub history_is : ((u : ℕ) → count js u ≤ get_or made u 0) → HasHistory starts js
    history_is all = (
      c.play,
      record {
        is_play = c.is_play;
        makes = same_journals s.journals js many (λ u. c.makes u ∙ take_all (get_or made u 0) (journal_of js u) (all u));
      },
    )

-- the journals of what is noted
pub noted_journal : (threads : List (List Note)) (t : ℕ) → journal_of (noted threads) t ≡ events_of (notes_of threads t)
noted_journal [] t = refl
noted_journal (notes ∷ threads) zero = refl
noted_journal (notes ∷ threads) (suc t) = noted_journal threads t

pub noted_count : (threads : List (List Note)) (t : ℕ) → count (noted threads) t ≡ length (notes_of threads t)
noted_count threads t = ap (λ (j : List Event). length j) (noted_journal threads t) ∙ length-map (notes_of threads t) (λ (note : Note). note.event)

pub noted_next : (threads : List (List Note)) (made : List ℕ) (t : ℕ) → get_or made t 0 < length (notes_of threads t) → at (noted threads) t (get_or made t 0) ≡ Some (event_next threads made t)
noted_next threads made t lt =
    let k = get_or made t 0 in
    ap (λ (j : List Event). slice_get j k) (noted_journal threads t)
    ∙ (slice_get-map (λ (note : Note). note.event) (notes_of threads t) k
    ∙ ap (λ (o : Option Note). option_map (λ (note : Note). note.event) o) (slice_get-get_or (notes_of threads t) k no_note lt))

pub enough : (threads : List (List Note)) (made : List ℕ) → AllMade threads made → (t : ℕ) → length (notes_of threads t) ≤ get_or made t 0
enough threads made all t = elim (cases_lt t (length threads)) [
  | inl lt ↦ all t lt
  | inr past ↦ omega (arith, none threads t past)
]
  where
    none : (threads : List (List Note)) (u : ℕ) → length threads ≤ u → length (notes_of threads u) ≡ 0
    none [] u past = refl
    none (notes ∷ threads) zero past = absurd (omega (arith, past))
    none (notes ∷ threads) (suc u) past = none threads u (omega (arith, past))

module _ (starts : List ℕ) (threads : List (List Note)) (made : List ℕ) (draws : ℕ) (heap : List ℕ) (c : ComesTo starts (noted threads) made draws heap) where
  pub history_at_end : AllMade threads made → HasHistory starts (noted threads)
  history_at_end all = history_is starts (noted threads) made draws heap c (λ t. omega (arith, noted_count threads t, enough threads made all t))

  -- where no thread goes on, and not all is made, what is noted has no one history
  pub none_where_it_stops : NoneGoesOn threads made draws → (AllMade threads made → ⊥) → HasNoHistory starts (noted threads)
  none_where_it_stops none not_all last number h = not_all (λ t lt. omega (arith, noted_count threads t, all_is_made starts (noted threads) made draws heap c last number h stops t))
    where
      stops : (t : ℕ) (e : Event) → t < length (noted threads) → at (noted threads) t (get_or made t 0) ≡ Some e → may_be_made made draws e ≡ true → ⊥
      stops t e inside is may =
          let lt : get_or made t 0 < length (notes_of threads t) = omega (arith, slice_get_within (journal_of (noted threads) t) (get_or made t 0) e is, noted_count threads t) in
          let same : e ≡ event_next threads made t = cc (is, noted_next threads made t lt) in
          none t (omega (arith, inside, length-map threads events_of)) (lt, ap (λ (x : Event). may_be_made made draws x) (sym same) ∙ may)

  module _ (t k : ℕ) (e : Event) (inside : t < length threads) (goes_on : MayGoOn threads made draws t) (is_k : get_or made t 0 ≡ k) (is_e : e ≡ event_next threads made t) where
    at_k : at (noted threads) t k ≡ Some e
    at_k = ap (λ (n : ℕ). at (noted threads) t n) (sym is_k) ∙ (noted_next threads made t goes_on.0 ∙ ap (λ (x : Event). Some x) (sym is_e))

    may : may_be_made made draws e ≡ true
    may = ap (λ (x : Event). may_be_made made draws x) is_e ∙ goes_on.1

    within : t < length (noted threads)
    within = omega (arith, inside, length-map threads events_of)

    -- in one history it has its value there
    pub value_in : (last : List ℕ) (number : ℕ) → IsOneHistory starts (noted threads) last number → event_made (operation_of e) heap ≡ e
    value_in last number h = has_value starts (noted threads) made draws heap c last number h t k e within is_k at_k may

    pub noted_on : t < length made → event_made (operation_of e) heap ≡ e → ComesTo starts (noted threads) (slice_set made t (k + 1)) (draws_after (operation_of e) draws) (heap_after (operation_of e) heap)
    noted_on there value = comes_on starts (noted threads) made draws heap c t k e within is_k at_k may there value

-- how many events are left to make
abbrev pub left : List (List Note) → List ℕ → ℕ
left [] made = 0
left (notes ∷ threads) [] = length notes + left threads []
left (notes ∷ threads) (k ∷ made) = (length notes - k) + left threads made

pub left_less : (threads : List (List Note)) (made : List ℕ) (t : ℕ) → t < length made → get_or made t 0 < length (notes_of threads t) → left threads (slice_set made t (get_or made t 0 + 1)) < left threads made
left_less [] made t there lt = absurd (omega (arith, lt))
left_less (notes ∷ threads) [] t there lt = absurd (omega (arith, there))
left_less (notes ∷ threads) (k ∷ made) zero there lt = less (length notes) k (left threads made) lt
  where
    less : (n k rest : ℕ) → k < n → (n - (k + 1)) + rest < (n - k) + rest
    less n k rest lt = omega (arith, lt)
left_less (notes ∷ threads) (k ∷ made) (suc t) there lt = omega (arith, left_less threads made t (omega (arith, there)) lt)
