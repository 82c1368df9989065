-- One more mark passed keeps what is gathered in the past.
use Rattle.std.proofs.Common.{◌≡◌, ◌≢◌, ℕ, suc, pred, ◌<◌, ◌≤◌, ◌⊎◌, inl, inr, max, List, [], length, get_or, set, Some, slice_get, refl, sym, ap, ◌∙◌, subst, arith}
use Rattle.std.proofs.lemmas.Bool.{cases_eq, cases_lt}
use Rattle.std.proofs.lemmas.List.{get_or-set_same, get_or-set_other, length-set, set_past, get_or_past, get_or-replicate, length-replicate}
use Rattle.std.proofs.lemmas.Option.{slice_get-get_or}
use Rattle.octet_model.specs.declared.event.Event.{Event}
use Rattle.octet_model.specs.declared.event.Event.TheVariants.{Read, Marked}
use Rattle.octet_model.specs.declared.event.Mark.{Mark}
use Rattle.octet_model.specs.declared.event.Mark.TheVariants.{Join, Draw, Fence}
use Rattle.octet_model.specs.declared.event.Place.{Place}
use Rattle.octet_model.specs.declared.log.ThreadLog.{ThreadLog}
use Rattle.octet_model.specs.Machine.{Journals, journal_of}
use Rattle.octet_model.specs.HappensBefore.{event_at, Joined, Drawn, Fenced, IsEvent}
use Rattle.octet_model.specs.Past.{InPast}
use Rattle.octet_model.proofs.lemmas.Pasts.{place, by_edge, along_journal, past_has_own, past_is_closed}
use Rattle.octet_slice.specs.declared.cursor.Cursor.{Cursor}
use Rattle.octet_slice.specs.declared.cursor.Placed.{Placed}
use Rattle.octet_slice.specs.declared.gathering.Reach.{Reach}
use Rattle.octet_slice.specs.code.Cursors.{past_mark, IsCursorOf, IsFirstMark}
use Rattle.octet_slice.specs.Gathering.{IsTakenIn, AreOfLog, IsPartOfPast}
use Rattle.octet_slice.specs.code.Reached.{no_reach, nothing, reach_of, count_of, Gathered, raised, raised_by, with_taken_in, with_searched}
use Rattle.octet_slice.proofs.Marks.{past_is_cursor, starts_as_cursor}

-- ---- what a change of one thread's reach leaves

module _ (threads : List Reach) (t : ℕ) (reach : Reach) where
  same_reach : t < length threads → reach_of (set threads t reach) t ≡ reach
  same_reach lt = get_or-set_same threads t reach no_reach lt

  other_reach : (u : ℕ) → u ≢ t → reach_of (set threads t reach) u ≡ reach_of threads u
  other_reach u differ = get_or-set_other threads t u reach no_reach differ

  -- a part of the reach that is not changed is as it was
  pub kept_part : {A : Type 0} (part : Reach → A) → part reach ≡ part (reach_of threads t) → (u : ℕ) → part (reach_of (set threads t reach) u) ≡ part (reach_of threads u)
  kept_part part same u = elim (cases_eq u t) [
    | inr differ ↦ ap part (other_reach u differ)
    | inl is ↦ elim (cases_lt t (length threads)) [
      | inl lt ↦ ap (λ (v : ℕ). part (reach_of (set threads t reach) v)) is ∙ ap part (same_reach lt) ∙ same ∙ ap (λ (v : ℕ). part (reach_of threads v)) (sym is)
      | inr past ↦ ap (λ (l : List Reach). part (reach_of l u)) (set_past threads t reach past)
    ]
  ]

-- ---- counts and draws grow

record Grows (before after : Gathered) : Type 0 where
  counts : (u : ℕ) → count_of before.threads u ≤ count_of after.threads u
  draws : before.draws ≤ after.draws

still_taken : (g g' : Gathered) → Grows g g' → (mark : Mark) → IsTakenIn g mark → IsTakenIn g' mark
still_taken g g' grows (Join from upto) is = omega (arith, is, grows.counts from)
still_taken g g' grows (Draw number) is = omega (arith, is, grows.draws)
still_taken g g' grows (Fence number) is = omega (arith, is, grows.draws)

module _ (g : Gathered) (u n : ℕ) where
  abbrev pub raised_reach : Reach
  raised_reach = record (reach_of g.threads u) { count = max (count_of g.threads u) n }

  -- the count of the thread alone may be another
  count_raised : (v : ℕ) → (count_of (raised g u n).threads v ≡ count_of g.threads v) ⊎ ((v ≡ u) × (u < length g.threads) × (count_of (raised g u n).threads v ≡ max (count_of g.threads u) n))
  count_raised v = elim (cases_eq v u) [
    | inr differ ↦ inl (ap (λ (r : Reach). r.count) (other_reach g.threads u _ v differ))
    | inl is ↦ elim (cases_lt u (length g.threads)) [
      | inl lt ↦ inr (is, lt, ap (λ (w : ℕ). count_of (raised g u n).threads w) is ∙ ap (λ (r : Reach). r.count) (same_reach g.threads u _ lt))
      | inr past ↦ inl (ap (λ (l : List Reach). count_of l v) (set_past g.threads u _ past))
    ]
  ]

  raised_grows : Grows g (raised g u n)
  raised_grows = record {
    counts = λ v. elim (count_raised v) [
      | inl same ↦ omega (arith, same)
      | inr (is, lt, more) ↦ omega (arith, more, ap (count_of g.threads) is)
    ];
    draws = omega arith;
  }

  pub raised_taken_in : (v : ℕ) → (reach_of (raised g u n).threads v).taken_in ≡ (reach_of g.threads v).taken_in
  raised_taken_in = kept_part g.threads u _ (λ (r : Reach). r.taken_in) refl

  pub raised_searched : (v : ℕ) → (reach_of (raised g u n).threads v).searched ≡ (reach_of g.threads v).searched
  raised_searched = kept_part g.threads u _ (λ (r : Reach). r.searched) refl

  -- after that there are at least so many
  pub raised_to : u < length g.threads → n ≤ count_of (raised g u n).threads u
  raised_to lt = let same : count_of (raised g u n).threads u ≡ max (count_of g.threads u) n = ap (λ (r : Reach). r.count) (same_reach g.threads u raised_reach lt) in omega (arith, same)

pub taken_counts : (g : Gathered) (mark : Mark) (u : ℕ) → count_of g.threads u ≤ count_of (raised_by g mark).threads u
taken_counts g (Join from upto) u = (raised_grows g from upto).counts u
taken_counts g (Draw number) u = omega arith
taken_counts g (Fence number) u = omega arith

module _ (journals : Journals) (thread now : ℕ) where
  -- more first events of a thread that lie in the past
  pub raise_part : (g : Gathered) (u n : ℕ) → IsPartOfPast journals thread now g → ((i : ℕ) → i < n → InPast journals thread now (place u i)) → IsPartOfPast journals thread now (raised g u n)
  raise_part g u n part more = record {
    as_many = length-set g.threads u _ ∙ part.as_many;
    whole = omega (arith, part.whole, (raised_grows g u n).counts thread);
    in_past = λ p lt. elim (count_raised g u n p.thread) [
      | inl same ↦ part.in_past p (omega (arith, same))
      | inr (is, there, grown) ↦ elim (cases_lt p.event (count_of g.threads p.thread)) [
        | inl below ↦ part.in_past p below
        | inr above ↦
            let own : place u p.event ≡ p = λ i. record { thread = sym is i; event = p.event } in
            subst (λ (q : Place). InPast journals thread now q) own (more p.event (omega (arith, grown, above, lt, ap (count_of g.threads) is)))
      ]
    ];
    draws_in = part.draws_in;
    taken_in = λ v. subst (λ (c : Cursor). IsCursorOf (journal_of journals v) c) (sym (raised_taken_in g u n v)) (part.taken_in v);
    taken_in_within = λ v. omega (arith, part.taken_in_within v, (raised_grows g u n).counts v, ap (λ (c : Cursor). c.events) (raised_taken_in g u n v));
    searched = λ v. subst (λ (c : Cursor). IsCursorOf (journal_of journals v) c) (sym (raised_searched g u n v)) (part.searched v);
    taken = λ p mark lt is. still_taken g (raised g u n) (raised_grows g u n) mark (part.taken p mark (omega (arith, lt, ap (λ (c : Cursor). c.events) (raised_taken_in g u n p.thread))) is);
    passed = λ p number lt is. omega (arith, part.passed p number (omega (arith, lt, ap (λ (c : Cursor). c.events) (raised_searched g u n p.thread))) is, (raised_grows g u n).counts p.thread);
  }

  -- more draws that lie in the past
  draws_part : (g : Gathered) (n : ℕ) → IsPartOfPast journals thread now g → ((p : Place) (number : ℕ) → event_at journals p ≡ Some (Marked (Draw number)) → number ≤ n → InPast journals thread now p)
      → IsPartOfPast journals thread now (record g { draws = max g.draws n })
  draws_part g n part more = record {
    as_many = part.as_many;
    whole = part.whole;
    in_past = part.in_past;
    draws_in = λ p number is le. elim (cases_lt g.draws number) [
      | inr below ↦ part.draws_in p number is below
      | inl above ↦ more p number is (omega arith)
    ];
    taken_in = part.taken_in;
    taken_in_within = part.taken_in_within;
    searched = part.searched;
    taken = λ p mark lt is. still_taken g (record g { draws = max g.draws n }) (record { counts = λ v. omega arith; draws = omega arith }) mark (part.taken p mark lt is);
    passed = part.passed;
  }

  module _ (log : List ThreadLog) (are : AreOfLog journals log) (g : Gathered) (part : IsPartOfPast journals thread now g) where
    event_there : (u i n : ℕ) → n ≤ length (journal_of journals u) → i < n → IsEvent journals (place u i)
    event_there u i n le lt = (get_or (journal_of journals u) i (Read 0 0), slice_get-get_or (journal_of journals u) i (Read 0 0) (omega arith))

    -- what a mark of the past has before it lies in the past
    pub take_part : (b : Place) (mark : Mark) → event_at journals b ≡ Some (Marked mark) → InPast journals thread now b → IsPartOfPast journals thread now (raised_by g mark)
    take_part b (Join from upto) is past =
        raise_part g from upto part (λ i lt. past_is_closed journals thread now (place from i) b
        (by_edge journals (place from i) b (event_there from i upto (are.joins b from upto is) lt) (Marked (Join from upto), is) (Joined upto is lt)) past)
    take_part b (Draw number) is past =
        draws_part g (pred number) part (λ p first at_p le. elim (cases_lt first number) [
          | inl below ↦ past_is_closed journals thread now p b (by_edge journals p b (Marked (Draw first), at_p) (Marked (Draw number), is) (Drawn first number at_p is below)) past
          | inr above ↦ part.draws_in p first at_p (omega arith)
        ])
    take_part b (Fence number) is past =
        draws_part g number part (λ p first at_p le. past_is_closed journals thread now p b (by_edge journals p b (Marked (Draw first), at_p) (Marked (Fence number), is) (Fenced first number at_p is le)) past)

    -- and is gathered then
    pub take_is : (b : Place) (mark : Mark) → event_at journals b ≡ Some (Marked mark) → IsTakenIn (raised_by g mark) mark
    take_is b (Join from upto) is = elim (cases_lt from (length g.threads)) [
      | inl lt ↦ raised_to g from upto lt
      | inr past ↦
          let none : journal_of journals from ≡ [] = get_or_past journals from [] (omega (arith, part.as_many)) in
          omega (arith, are.joins b from upto is, ap (λ (j : List Event). length j) none)
    ]
    take_is b (Draw number) is = omega arith
    take_is b (Fence number) is = omega arith

    -- a draw of the past, with the events of its thread before it
    pub gather_part : (b : Place) (number : ℕ) → event_at journals b ≡ Some (Marked (Draw number)) → number ≤ g.draws → IsPartOfPast journals thread now (raised g b.thread (suc b.event))
    gather_part b number is le =
        let own = part.draws_in b number is le in
        raise_part g b.thread (suc b.event) part (λ i lt. elim (cases_eq i b.event) [
          | inl same ↦ subst (λ (k : ℕ). InPast journals thread now (place b.thread k)) (sym same) own
          | inr differ ↦ past_is_closed journals thread now (place b.thread i) b (along_journal journals b.thread i b.event (omega arith) (Marked (Draw number), is)) own
        ])

  -- ---- a cursor is moved past the next mark

  module _ (g : Gathered) (part : IsPartOfPast journals thread now g) (t : ℕ) (within : t < length g.threads) (next : Placed) where
    abbrev own : Place
    own = place t next.event

    module _ (first : IsFirstMark (journal_of journals t) (reach_of g.threads t).taken_in.events next) (gathers : next.event < count_of g.threads t) (taken : IsTakenIn g next.mark) where
      abbrev with_mark_taken_in : Gathered
      with_mark_taken_in = with_taken_in g t (past_mark (reach_of g.threads t).taken_in next)

      taken_in_counts : (v : ℕ) → count_of with_mark_taken_in.threads v ≡ count_of g.threads v
      taken_in_counts = kept_part g.threads t _ (λ (r : Reach). r.count) refl

      taken_in_searched : (v : ℕ) → (reach_of with_mark_taken_in.threads v).searched ≡ (reach_of g.threads v).searched
      taken_in_searched = kept_part g.threads t _ (λ (r : Reach). r.searched) refl

      taken_in_own : (reach_of with_mark_taken_in.threads t).taken_in ≡ past_mark (reach_of g.threads t).taken_in next
      taken_in_own = ap (λ (r : Reach). r.taken_in) (same_reach g.threads t _ within)

      taken_in_other : (v : ℕ) → v ≢ t → (reach_of with_mark_taken_in.threads v).taken_in ≡ (reach_of g.threads v).taken_in
      taken_in_other v differ = ap (λ (r : Reach). r.taken_in) (other_reach g.threads t _ v differ)

      taken_now : (p : Place) (mark : Mark) → p.event < (reach_of with_mark_taken_in.threads p.thread).taken_in.events → event_at journals p ≡ Some (Marked mark) → IsTakenIn g mark
      taken_now p mark lt is = elim (cases_eq p.thread t) [
        | inr differ ↦ part.taken p mark (omega (arith, lt, ap (λ (c : Cursor). c.events) (taken_in_other p.thread differ))) is
        | inl same ↦
            let at_t : slice_get (journal_of journals t) p.event ≡ Some (Marked mark) = ap (λ (v : ℕ). slice_get (journal_of journals v) p.event) (sym same) ∙ is in
            let below : p.event < suc next.event = omega (arith, lt, ap (λ (v : ℕ). (reach_of with_mark_taken_in.threads v).taken_in.events) same, ap (λ (c : Cursor). c.events) taken_in_own) in
            elim (cases_lt p.event (reach_of g.threads t).taken_in.events) [
              | inl before ↦ part.taken p mark (omega (arith, before, ap (λ (v : ℕ). (reach_of g.threads v).taken_in.events) same)) is
              | inr after ↦ elim (cases_eq p.event next.event) [
                | inr differ ↦ absurd (first.none_between p.event mark after (omega arith) at_t)
                | inl here ↦
                    let at_next : slice_get (journal_of journals t) p.event ≡ Some (Marked next.mark) = ap (slice_get (journal_of journals t)) here ∙ first.is_mark in
                    let one : next.mark ≡ mark = cc in
                    subst (IsTakenIn g) one taken
              ]
            ]
      ]

      pub taken_in_part : IsPartOfPast journals thread now with_mark_taken_in
      taken_in_part = record {
        as_many = length-set g.threads t _ ∙ part.as_many;
        whole = omega (arith, part.whole, taken_in_counts thread);
        in_past = λ p lt. part.in_past p (omega (arith, lt, taken_in_counts p.thread));
        draws_in = part.draws_in;
        taken_in = λ v. elim (cases_eq v t) [
          | inl same ↦ subst (λ (w : ℕ). IsCursorOf (journal_of journals w) (reach_of with_mark_taken_in.threads w).taken_in) (sym same)
              (subst (λ (c : Cursor). IsCursorOf (journal_of journals t) c) (sym taken_in_own) (past_is_cursor (journal_of journals t) (reach_of g.threads t).taken_in next (part.taken_in t) first))
          | inr differ ↦ subst (λ (c : Cursor). IsCursorOf (journal_of journals v) c) (sym (taken_in_other v differ)) (part.taken_in v)
        ];
        taken_in_within = λ v. elim (cases_eq v t) [
          | inl same ↦ subst (λ (w : ℕ). (reach_of with_mark_taken_in.threads w).taken_in.events ≤ count_of with_mark_taken_in.threads w) (sym same) (omega (arith, gathers, taken_in_counts t, ap (λ (c : Cursor). c.events) taken_in_own))
          | inr differ ↦ omega (arith, part.taken_in_within v, taken_in_counts v, ap (λ (c : Cursor). c.events) (taken_in_other v differ))
        ];
        searched = λ v. subst (λ (c : Cursor). IsCursorOf (journal_of journals v) c) (sym (taken_in_searched v)) (part.searched v);
        taken = λ p mark lt is. still_taken g with_mark_taken_in (record { counts = λ v. omega (arith, taken_in_counts v); draws = omega arith }) mark (taken_now p mark lt is);
        passed = λ p number lt is. omega (arith, taken_in_counts p.thread, part.passed p number (omega (arith, lt, ap (λ (c : Cursor). c.events) (taken_in_searched p.thread))) is);
      }

    module _ (first : IsFirstMark (journal_of journals t) (reach_of g.threads t).searched.events next)
        (has : (number : ℕ) → next.mark ≡ Draw number → next.event < count_of g.threads t) where
      abbrev with_mark_searched : Gathered
      with_mark_searched = with_searched g t (past_mark (reach_of g.threads t).searched next)

      searched_counts : (v : ℕ) → count_of with_mark_searched.threads v ≡ count_of g.threads v
      searched_counts = kept_part g.threads t _ (λ (r : Reach). r.count) refl

      searched_taken_in : (v : ℕ) → (reach_of with_mark_searched.threads v).taken_in ≡ (reach_of g.threads v).taken_in
      searched_taken_in = kept_part g.threads t _ (λ (r : Reach). r.taken_in) refl

      searched_own : (reach_of with_mark_searched.threads t).searched ≡ past_mark (reach_of g.threads t).searched next
      searched_own = ap (λ (r : Reach). r.searched) (same_reach g.threads t _ within)

      searched_other : (v : ℕ) → v ≢ t → (reach_of with_mark_searched.threads v).searched ≡ (reach_of g.threads v).searched
      searched_other v differ = ap (λ (r : Reach). r.searched) (other_reach g.threads t _ v differ)

      passed_now : (p : Place) (number : ℕ) → p.event < (reach_of with_mark_searched.threads p.thread).searched.events → event_at journals p ≡ Some (Marked (Draw number)) → p.event < count_of g.threads p.thread
      passed_now p number lt is = elim (cases_eq p.thread t) [
        | inr differ ↦ part.passed p number (omega (arith, lt, ap (λ (c : Cursor). c.events) (searched_other p.thread differ))) is
        | inl same ↦
            let at_t : slice_get (journal_of journals t) p.event ≡ Some (Marked (Draw number)) = ap (λ (v : ℕ). slice_get (journal_of journals v) p.event) (sym same) ∙ is in
            let below : p.event < suc next.event = omega (arith, lt, ap (λ (v : ℕ). (reach_of with_mark_searched.threads v).searched.events) same, ap (λ (c : Cursor). c.events) searched_own) in
            elim (cases_lt p.event (reach_of g.threads t).searched.events) [
              | inl before ↦ part.passed p number (omega (arith, before, ap (λ (v : ℕ). (reach_of g.threads v).searched.events) same)) is
              | inr after ↦ elim (cases_eq p.event next.event) [
                | inr differ ↦ absurd (first.none_between p.event (Draw number) after (omega arith) at_t)
                | inl here ↦
                    let at_next : slice_get (journal_of journals t) p.event ≡ Some (Marked next.mark) = ap (slice_get (journal_of journals t)) here ∙ first.is_mark in
                    let one : next.mark ≡ Draw number = cc in
                    omega (arith, has number one, ap (count_of g.threads) same)
              ]
            ]
      ]

      pub searched_part : IsPartOfPast journals thread now with_mark_searched
      searched_part = record {
        as_many = length-set g.threads t _ ∙ part.as_many;
        whole = omega (arith, part.whole, searched_counts thread);
        in_past = λ p lt. part.in_past p (omega (arith, lt, searched_counts p.thread));
        draws_in = part.draws_in;
        taken_in = λ v. subst (λ (c : Cursor). IsCursorOf (journal_of journals v) c) (sym (searched_taken_in v)) (part.taken_in v);
        taken_in_within = λ v. omega (arith, part.taken_in_within v, searched_counts v, ap (λ (c : Cursor). c.events) (searched_taken_in v));
        searched = λ v. elim (cases_eq v t) [
          | inl same ↦ subst (λ (w : ℕ). IsCursorOf (journal_of journals w) (reach_of with_mark_searched.threads w).searched) (sym same)
              (subst (λ (c : Cursor). IsCursorOf (journal_of journals t) c) (sym searched_own) (past_is_cursor (journal_of journals t) (reach_of g.threads t).searched next (part.searched t) first))
          | inr differ ↦ subst (λ (c : Cursor). IsCursorOf (journal_of journals v) c) (sym (searched_other v differ)) (part.searched v)
        ];
        taken = λ p mark lt is. still_taken g with_mark_searched (record { counts = λ v. omega (arith, searched_counts v); draws = omega arith }) mark (part.taken p mark (omega (arith, lt, ap (λ (c : Cursor). c.events) (searched_taken_in p.thread))) is);
        passed = λ p number lt is. omega (arith, searched_counts p.thread, passed_now p number lt is);
      }

-- ---- the start

nothing_of : (threads t : ℕ) → reach_of (nothing threads).threads t ≡ no_reach
nothing_of threads t = elim (cases_lt t threads) [
  | inl lt ↦ get_or-replicate threads t no_reach no_reach lt
  | inr past ↦ get_or_past (nothing threads).threads t no_reach (omega (arith, length-replicate {A = Reach} threads no_reach))
]

-- a thread's first events, that are there, and nothing else
pub starts_in_past : (journals : Journals) (log : List ThreadLog) (t now : ℕ) → AreOfLog journals log → t < length journals → now ≤ length (journal_of journals t)
    → IsPartOfPast journals t now (raised (nothing (length journals)) t now)
starts_in_past journals log t now are here le = record {
  as_many = length-set (nothing (length journals)).threads t _ ∙ length-replicate {A = Reach} (length journals) no_reach;
  whole = raised_to g t now (omega (arith, here, length-replicate {A = Reach} (length journals) no_reach));
  in_past = λ p lt. elim (count_raised g t now p.thread) [
    | inl same ↦ absurd (omega (arith, lt, same, none p.thread))
    | inr (is, there, grown) ↦
        let own : place t p.event ≡ p = λ i. record { thread = sym is i; event = p.event } in
        let below : p.event < now = omega (arith, lt, grown, none t) in
        subst (λ (q : Place). InPast journals t now q) own
        (past_has_own journals t now p.event below (get_or (journal_of journals t) p.event (Read 0 0), slice_get-get_or (journal_of journals t) p.event (Read 0 0) (omega arith)))
  ];
  draws_in = λ p number is few. absurd (omega (arith, few, are.numbered p number is));
  taken_in = λ v. subst (λ (c : Cursor). IsCursorOf (journal_of journals v) c) (sym (taken_in_is v)) (starts_as_cursor (journal_of journals v));
  taken_in_within = λ v. omega (arith, ap (λ (c : Cursor). c.events) (taken_in_is v));
  searched = λ v. subst (λ (c : Cursor). IsCursorOf (journal_of journals v) c) (sym (searched_is v)) (starts_as_cursor (journal_of journals v));
  taken = λ p mark lt is. absurd (omega (arith, lt, ap (λ (c : Cursor). c.events) (taken_in_is p.thread)));
  passed = λ p number lt is. absurd (omega (arith, lt, ap (λ (c : Cursor). c.events) (searched_is p.thread)));
}
  where
    g : Gathered
    g = nothing (length journals)

    none : (v : ℕ) → count_of g.threads v ≡ 0
    none v = ap (λ (r : Reach). r.count) (nothing_of (length journals) v)

    taken_in_is : (v : ℕ) → (reach_of (raised g t now).threads v).taken_in ≡ no_reach.taken_in
    taken_in_is v = raised_taken_in g t now v ∙ ap (λ (r : Reach). r.taken_in) (nothing_of (length journals) v)

    searched_is : (v : ℕ) → (reach_of (raised g t now).threads v).searched ≡ no_reach.searched
    searched_is v = raised_searched g t now v ∙ ap (λ (r : Reach). r.searched) (nothing_of (length journals) v)
