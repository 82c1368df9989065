-- What the checker holds stays true as an event is taken in.
use Rattle.std.proofs.Common.{◌≡◌, ◌≢◌, ℕ, zero, suc, ◌≤◌, ◌⊎◌, inl, inr, max, Bool, true, false, List, [], ◌∷◌, ◌++◌, length, Some, slice_get, slice_set, refl, sym, ap, ◌∙◌, subst, arith, length-append, length-set}
use Rattle.std.proofs.lemmas.Bool.{cases_eq, eq-eqb, ne_eqb}
use Rattle.octet_model.specs.declared.event.Mark.{Mark}
use Rattle.octet_model.specs.declared.event.Mark.TheVariants.{Join, Draw, Fence}
use Rattle.octet_model.specs.declared.event.Event.{Event}
use Rattle.octet_model.specs.declared.event.Event.TheVariants.{Read, Write, Update, Marked}
use Rattle.octet_model.specs.declared.event.Place.{Place}
use Rattle.octet_model.specs.Machine.{Journals}
use Rattle.octet_model.specs.HappensBefore.{event_at, object_of, is_write}
use Rattle.octet_model.proofs.lemmas.Pasts.{place}
use Rattle.octet_clock.specs.declared.clock.Clock.{Clock}
use Rattle.octet_clock.specs.declared.marks.Marks.{Marks}
use Rattle.octet_clock.specs.declared.sources.Prefix.{Prefix}
use Rattle.octet_clock.specs.declared.verdict.Verdict.{Verdict}
use Rattle.octet_clock.specs.declared.verdict.Verdict.TheVariants.{Ordered, Unordered}
use Rattle.octet_clock.specs.Clock.{count_in, IsRaised}
use Rattle.octet_clock.specs.LastAccesses.{is_read_of, is_write_of, IsLastOf, KeepsLast}
use Rattle.octet_clock.specs.Past.{AddsNothing, KeepsMarks}
use Rattle.octet_clock.specs.Play.{made_by, step_place, IsStep}
use Rattle.octet_clock.specs.Sources.{IsNextStep, IsDrawn, KeepsDraws, KeepsAllMarks, draws_with}
use Rattle.octet_clock.specs.Verdict.{IsEarlierConflict, FollowsConflicts, IsUnorderedConflict, IsFirstUnordered, JudgedUpTo}
use Rattle.octet_clock.proofs.pasts.Edges.{unmarked_adds}
use Rattle.octet_clock.proofs.pasts.KeptMarks.{keeps_on, pushed}
use Rattle.octet_clock.proofs.plays.Walk.{made_one, made_other, draw_counts, draw_is_next, others_count_none}

-- an item of a list with one item set
in_set : {X : Type 0} (xs : List X) (i : ℕ) (y : X) (j : ℕ) (z : X) → slice_get (slice_set xs i y) j ≡ Some z → ((j ≡ i) × (y ≡ z)) ⊎ ((j ≡ i → ⊥) × (slice_get xs j ≡ Some z))
in_set [] i y j z is = absurd cc
in_set (x ∷ xs) zero y zero z is = inl (refl, cc)
in_set (x ∷ xs) zero y (suc j) z is = inr (λ e. omega arith, is)
in_set (x ∷ xs) (suc i) y zero z is = inr (λ e. omega arith, is)
in_set (x ∷ xs) (suc i) y (suc j) z is = elim (in_set xs i y j z is) [ inl new ↦ inl (ap suc new.0, new.1) | inr old ↦ inr (λ e. old.0 (omega arith), old.1) ]

module _ (js : Journals) (test : Event → Bool) (t k n : ℕ) (last : IsLastOf js test t k n) where
  -- the last one stays, where the next event does not pass
  pub last_stays : (e : Event) → event_at js (place t k) ≡ Some e → test e ≡ false → IsLastOf js test t (suc k) n
  last_stays e at_k fails = record {
    within = omega (arith, last.within);
    none_later = λ event there le lt is. elim (cases_eq event k) [
      | inl same ↦
          let is' : event_at js (place t k) ≡ Some there = subst (λ (m : ℕ). event_at js (place t m) ≡ Some there) same is in
          let one : e ≡ there = some_same e there (sym at_k ∙ is') in
          ap test (sym one) ∙ fails
      | inr differ ↦ last.none_later event there le (omega arith) is
    ];
    passes = last.passes;
  }
    where
      some_same : (a b : Event) → Some a ≡ Some b → a ≡ b
      some_same a b e = cc

  -- and the next event is the last one, where it passes
  pub last_is_next : (e : Event) (m : ℕ) → event_at js (place t k) ≡ Some e → test e ≡ true → m ≡ max n (suc k) → IsLastOf js test t (suc k) m
  last_is_next e m at_k passes is = record {
    within = omega (arith, last.within);
    none_later = λ event there le lt at_event. absurd (omega arith);
    passes = λ event same.
        let here : event ≡ k = omega (arith, last.within) in
        (e, ap (λ (i : ℕ). event_at js (place t i)) here ∙ at_k, passes);
  }

-- which tests a read passes, and a write
pub of_read : (e : Event) (object : ℕ) → object_of e ≡ Some object → is_write e ≡ false
    → (is_read_of object e ≡ true) × ((o : ℕ) → (o ≡ object → ⊥) → is_read_of o e ≡ false) × ((o : ℕ) → is_write_of o e ≡ false)
of_read (Read other value) object of does = let same : other ≡ object = cc in (eq-eqb other object same, λ o differ. ne_eqb other o (λ is. differ (sym is ∙ same)), λ o. refl)
of_read (Write other value) object of does = absurd cc
of_read (Update other before after) object of does = absurd cc
of_read (Marked mark) object of does = absurd cc

pub of_write : (e : Event) (object : ℕ) → object_of e ≡ Some object → is_write e ≡ true
    → (is_write_of object e ≡ true) × ((o : ℕ) → (o ≡ object → ⊥) → is_write_of o e ≡ false) × ((o : ℕ) → is_read_of o e ≡ false)
of_write (Read other value) object of does = absurd cc
of_write (Write other value) object of does = let same : other ≡ object = cc in (eq-eqb other object same, λ o differ. ne_eqb other o (λ is. differ (sym is ∙ same)), λ o. refl)
of_write (Update other before after) object of does = let same : other ≡ object = cc in (eq-eqb other object same, λ o differ. ne_eqb other o (λ is. differ (sym is ∙ same)), λ o. refl)
of_write (Marked mark) object of does = absurd cc

module _ (js : Journals) (play : List ℕ) (i t : ℕ) (e : Event) (next : IsNextStep js play i t e) where
  abbrev k : ℕ
  k = made_by play i t

  one_more : made_by play (suc i) t ≡ suc k
  one_more = made_one play i t next.step.within next.step.is_of

  others_same : (u : ℕ) → (u ≡ t → ⊥) → made_by play (suc i) u ≡ made_by play i u
  others_same u differ = made_other play i u next.step.within (λ is. differ (sym is ∙ next.step.is_of))

  pub no_less : (u : ℕ) → made_by play i u ≤ made_by play (suc i) u
  no_less u = elim (cases_eq u t) [
    | inl same ↦ let a = ap (made_by play i) same in let b = ap (made_by play (suc i)) same in omega (arith, one_more)
    | inr differ ↦ omega (arith, others_same u differ)
  ]

  -- the count of what was made
  pub made_stays : (before after : Clock) (n : ℕ) → ((u : ℕ) → count_in before u ≡ made_by play i u) → n ≡ suc (count_in before t) → IsRaised before t n after → (u : ℕ) → count_in after u ≡ made_by play (suc i) u
  made_stays before after n counts is raised u =
      elim (cases_eq u t) [
        | inl same ↦ ap (count_in after) same ∙ (let own : count_in after t ≡ made_by play (suc i) t = omega (arith, raised.own, counts t, one_more) in own) ∙ ap (made_by play (suc i)) (sym same)
        | inr differ ↦ raised.others u differ ∙ counts u ∙ sym (others_same u differ)
      ]

  -- the marks
  pub marks_stay : (marks : List Marks) → AddsNothing js t k → KeepsAllMarks js play i marks → KeepsAllMarks js play (suc i) marks
  marks_stay marks nothing keeps = record {
    as_many = keeps.as_many;
    each = λ u one is. elim (cases_eq u t) [
      | inl same ↦
          let old = subst (λ (v : ℕ). KeepsMarks js v (made_by play i v) one) same (keeps.each u one is) in
          let on = keeps_on js t k one old nothing in
          subst (λ (v : ℕ). KeepsMarks js v (made_by play (suc i) v) one) (sym same) (subst (λ (n : ℕ). KeepsMarks js t n one) (sym one_more) on)
      | inr differ ↦ subst (λ (n : ℕ). KeepsMarks js u n one) (sym (others_same u differ)) (keeps.each u one is)
    ];
  }

  pub marks_with : (marks marks' : List Marks) (one' : Marks) → KeepsMarks js t (suc k) one' → marks' ≡ slice_set marks t one' → KeepsAllMarks js play i marks → KeepsAllMarks js play (suc i) marks'
  marks_with marks marks' one' more sets keeps =
      subst (λ (m : List Marks). KeepsAllMarks js play (suc i) m) (sym sets) (record {
        as_many = length-set marks t one' ∙ keeps.as_many;
        each = λ u other at_u. elim (in_set marks t one' u other at_u) [
          | inl new ↦ subst (λ (m : Marks). KeepsMarks js u (made_by play (suc i) u) m) new.1 (subst (λ (v : ℕ). KeepsMarks js v (made_by play (suc i) v) one') (sym new.0) at_thread)
          | inr old ↦ subst (λ (m : ℕ). KeepsMarks js u m other) (sym (others_same u old.0)) (keeps.each u other old.1)
        ];
      })
    where
      at_thread : KeepsMarks js t (made_by play (suc i) t) one'
      at_thread = subst (λ (m : ℕ). KeepsMarks js t m one') (sym one_more) more

  -- the draws
  drawn_stays : (number : ℕ) (first : Prefix) → IsDrawn js play i number first → IsDrawn js play (suc i) number first
  drawn_stays number first d = record { event = d.event; counted = d.counted; drawn = d.drawn; made = omega (arith, d.made, no_less first.thread) }

  draws_stay : (draws : List Prefix) → ((c : ℕ) → e ≡ Marked (Draw c) → ⊥) → KeepsDraws js play i draws → KeepsDraws js play (suc i) draws
  draws_stay draws none keeps = record {
    counts = keeps.counts ∙ sym (others_count_none js play next.whole i t e next.step none);
    each = λ n first is. drawn_stays (suc n) first (keeps.each n first is);
  }

  draw_added : (c : ℕ) (draws : List Prefix) → e ≡ Marked (Draw c) → KeepsDraws js play i draws → KeepsDraws js play (suc i) (draws ++ record { thread = t; count = suc k } ∷ [])
  draw_added c draws is keeps =
      let step = subst (λ (x : Event). IsStep js play i t x) is next.step in
      let after : Prefix = record { thread = t; count = suc k } in
      let number : c ≡ suc (length draws) = draw_is_next js play next.whole i t c step ∙ ap suc (sym keeps.counts) in
      record {
        counts = omega (arith, length-append draws (after ∷ []), keeps.counts, draw_counts js play next.whole i t c step);
        each = λ n first at_n. elim (pushed draws after first n at_n) [
          | inl old ↦ drawn_stays (suc n) first (keeps.each n first old)
          | inr new ↦ subst (λ (f : Prefix). IsDrawn js play (suc i) (suc n) f) new.1 (record {
            event = k;
            counted = refl;
            drawn = step.makes ∙ ap (λ (m : ℕ). Some (Marked (Draw m))) (number ∙ ap suc (sym new.0));
            made = omega (arith, one_more);
          })
        ];
      }

  -- and the draws, at a mark
  pub draws_on_mark : (mark : Mark) (draws draws' : List Prefix) (n : ℕ) → e ≡ Marked mark → n ≡ suc k → draws' ≡ draws_with draws mark (record { thread = t; count = n }) → KeepsDraws js play i draws → KeepsDraws js play (suc i) draws'
  draws_on_mark (Join from upto) draws draws' n is same made keeps = subst (λ (d : List Prefix). KeepsDraws js play (suc i) d) (sym made) (draws_stay draws (λ c is'. cc) keeps)
  draws_on_mark (Draw number) draws draws' n is same made keeps =
      subst (λ (d : List Prefix). KeepsDraws js play (suc i) d) (sym (made ∙ ap (λ (m : ℕ). draws ++ record { thread = t; count = m } ∷ []) same)) (draw_added number draws is keeps)
  draws_on_mark (Fence number) draws draws' n is same made keeps = subst (λ (d : List Prefix). KeepsDraws js play (suc i) d) (sym made) (draws_stay draws (λ c is'. cc) keeps)

  pub draws_on_access : (draws : List Prefix) (object : ℕ) → object_of e ≡ Some object → KeepsDraws js play i draws → KeepsDraws js play (suc i) draws
  draws_on_access draws object of keeps = draws_stay draws (λ c is. (let none = ap object_of is in cc)) keeps

  pub marks_on_access : (marks : List Marks) (object : ℕ) → object_of e ≡ Some object → KeepsAllMarks js play i marks → KeepsAllMarks js play (suc i) marks
  marks_on_access marks object of keeps = marks_stay marks (λ a h. unmarked_adds js t k a (λ mark at_k. (let is = some_same e (Marked mark) (sym next.step.makes ∙ at_k) in let none = ap object_of is in cc)) h) keeps
    where
      some_same : (a b : Event) → Some a ≡ Some b → a ≡ b
      some_same a b e = cc

  -- the last accesses of one kind, where the event is none of them, and where it is one
  pub last_all_stay : (test : ℕ → Event → Bool) (last : ℕ → ℕ → ℕ) → ((o : ℕ) → test o e ≡ false) → KeepsLast js play i test last → KeepsLast js play (suc i) test last
  last_all_stay test last fails keeps o u =
      elim (cases_eq u t) [
        | inl same ↦
            let old = subst (λ (v : ℕ). IsLastOf js (test o) v (made_by play i v) (last o v)) same (keeps o u) in
            let on = last_stays js (test o) t k (last o t) old e next.step.makes (fails o) in
            subst (λ (v : ℕ). IsLastOf js (test o) v (made_by play (suc i) v) (last o v)) (sym same) (subst (λ (n : ℕ). IsLastOf js (test o) t n (last o t)) (sym one_more) on)
        | inr differ ↦ subst (λ (n : ℕ). IsLastOf js (test o) u n (last o u)) (sym (others_same u differ)) (keeps o u)
      ]

  pub last_noted : (test : ℕ → Event → Bool) (object n : ℕ) (last last' : ℕ → ℕ → ℕ) → n ≡ suc k → test object e ≡ true → ((o : ℕ) → (o ≡ object → ⊥) → test o e ≡ false)
      → last' object t ≡ max (last object t) n → ((o u : ℕ) → (o ≢ object) ⊎ (u ≢ t) → last' o u ≡ last o u)
      → KeepsLast js play i test last → KeepsLast js play (suc i) test last'
  last_noted test object n last last' is passes fails noted others keeps o u =
      elim (cases_eq u t) [
        | inr differ ↦
            let same = others o u (inr differ) in
            subst (λ (m : ℕ). IsLastOf js (test o) u (made_by play (suc i) u) m) (sym same) (subst (λ (m : ℕ). IsLastOf js (test o) u m (last o u)) (sym (others_same u differ)) (keeps o u))
        | inl same ↦
            let at_t : IsLastOf js (test o) t (suc k) (last' o t) = at_thread o (cases_eq o object) in
            subst (λ (v : ℕ). IsLastOf js (test o) v (made_by play (suc i) v) (last' o v)) (sym same) (subst (λ (m : ℕ). IsLastOf js (test o) t m (last' o t)) (sym one_more) at_t)
      ]
    where
      at_thread : (o : ℕ) → (o ≡ object) ⊎ (o ≡ object → ⊥) → IsLastOf js (test o) t (suc k) (last' o t)
      at_thread o (inl one) =
          let own : last' object t ≡ max (last object t) (suc k) = noted ∙ ap (max (last object t)) is in
          let next_last = last_is_next js (test object) t k (last object t) (keeps object t) e (last' object t) next.step.makes passes own in
          subst (λ (x : ℕ). IsLastOf js (test x) t (suc k) (last' x t)) (sym one) next_last
      at_thread o (inr other) =
          subst (λ (m : ℕ). IsLastOf js (test o) t (suc k) m) (sym (others o t (inl other))) (last_stays js (test o) t k (last o t) (keeps o t) e next.step.makes (fails o other))

  -- one more step that is joined up
  pub judged_more : (verdict : Verdict) → JudgedUpTo js play i verdict → FollowsConflicts js play i → JudgedUpTo js play (suc i) verdict
  judged_more Ordered judged joined = λ step lt. elim (cases_eq step i) [
    | inl same ↦ subst (λ (n : ℕ). FollowsConflicts js play n) (sym same) joined
    | inr differ ↦ judged step (omega arith)
  ]
  judged_more (Unordered first second) judged joined = judged

  here : step_place play i ≡ place t k
  here = λ j. record { thread = next.step.is_of j; event = made_by play i (next.step.is_of j) }

  -- one that is not
  pub judged_unordered : (first : Place) (n : ℕ) → JudgedUpTo js play i Ordered → n ≡ k → IsUnorderedConflict js play i first → IsFirstUnordered js play first (place t n)
  judged_unordered first n judged is is_first =
      record { index = i; within = next.step.within; is_second = here ∙ (λ j. place t (sym is j)); is_first = is_first; none_sooner = judged }

  -- the verdict, at a mark
  pub judged_on_mark : (mark : Mark) (verdict : Verdict) → e ≡ Marked mark → JudgedUpTo js play i verdict → JudgedUpTo js play (suc i) verdict
  judged_on_mark mark verdict is judged = judged_more verdict judged (λ a c. absurd (no_object a c))
    where
      no_object : (a : Place) → IsEarlierConflict js play i a → ⊥
      no_object a c =
          let at_step = ap (event_at js) here ∙ next.step.makes in
          let there = c.conflict.is_second in
          let second : c.conflict.second ≡ Marked mark = cc in
          let none = ap object_of second in
          let some = c.conflict.of_same in
          cc
