-- The clock of a thread's first events, from the marks that are kept of it.
use Rattle.std.proofs.Common.{◌≡◌, ℕ, zero, suc, ◌+◌, ◌*◌, ◌-◌, ◌<◌, ◌≤◌, ◌⊎◌, inl, inr, min, List, [], ◌∷◌, ◌++◌, length, Some, ltb, get_or, true, false, slice_get, slice_index, refl, sym, ap, ◌∙◌, subst, arith, length-append, mul_comm}
use Rattle.std.proofs.lemmas.Bool.{cases_eq, cases_lt, le-ltb, lt-ltb, ltb-true}
use Rattle.std.proofs.lemmas.List.{get_or_append_left, get_or-append_right, get_or_past}
use Rattle.std.proofs.lemmas.Nat.{mul-add-lt}
use Rattle.std.proofs.lemmas.Option.{slice_get-get_or, slice_get_within, get_or_from_slice_get}
use Rattle.std.specs.List.Sorted.{IsNonDecreasingBy, IsPartitionPoint}
use Rattle.octet_model.specs.declared.event.Event.{Event}
use Rattle.octet_model.specs.declared.limits.TheConstants.{MAX_THREADS}
use Rattle.octet_model.specs.Machine.{Journals, journal_of}
use Rattle.octet_model.proofs.lemmas.Lists.{slice_get-append, slice_get_last}
use Rattle.octet_model.proofs.lemmas.Pasts.{place}
use Rattle.octet_clock.specs.declared.clock.Clock.{Clock}
use Rattle.octet_clock.specs.declared.marks.Marks.{Marks}
use Rattle.octet_clock.specs.Clock.{count_in, IsRaised}
use Rattle.octet_clock.specs.Past.{count_after, AddsNothing, ArePastOf, IsKept, IsPastOf, KeepsMarks}
use Rattle.octet_clock.proofs.pasts.Known.{past_of_none, past_raised}

-- ---- the counts of one clock among those of all

pub of_thread : (marks : Marks) (i u : ℕ) → u < marks.threads → count_after marks i u ≡ get_or marks.counts.items (i * marks.threads + u) 0
of_thread marks i u lt = rw (lt-ltb u marks.threads lt) refl

pub of_no_thread : (marks : Marks) (i u : ℕ) → marks.threads ≤ u → count_after marks i u ≡ 0
of_no_thread marks i u ge = rw (le-ltb u marks.threads ge) refl

-- counts that are the same are the past of the same events
pub same_past : (js : Journals) (t now : ℕ) (known known' : ℕ → ℕ) → ((u : ℕ) → known' u ≡ known u) → ArePastOf js t now known → ArePastOf js t now known'
same_past js t now known known' same past a = ((λ h. omega (arith, same a.thread, (past a).0 h)), λ lt. (past a).1 (omega (arith, same a.thread, lt)))

-- nothing is known of a thread that is not there
pub of_none : (js : Journals) (t now u : ℕ) (c : Clock) → IsPastOf js t now c → length js ≤ u → count_in c u ≡ 0
of_none js t now u c past ge = elim (cases_eq (count_in c u) 0) [
  | inl is ↦ is
  | inr some_ ↦
      let there = ((past (place u 0)).1 (omega (arith, some_))).is_event in
      absurd (omega (arith, slice_get_within (journal_of js u) 0 there.0 there.1, ap (λ (j : List Event). length j) (get_or_past js u [] ge)))
]

-- an item of a list that was pushed to
pub pushed : {X : Type 0} (xs : List X) (y z : X) (j : ℕ) → slice_get (xs ++ y ∷ []) j ≡ Some z → (slice_get xs j ≡ Some z) ⊎ ((j ≡ length xs) × (y ≡ z))
pushed [] y z zero is = inr (refl, cc)
pushed [] y z (suc j) is = absurd cc
pushed (x ∷ xs) y z zero is = inl is
pushed (x ∷ xs) y z (suc j) is = elim (pushed xs y z j is) [ inl old ↦ inl old | inr new ↦ inr (ap suc new.0, new.1) ]

-- ---- one mark more

module _ (js : Journals) (t k : ℕ) (marks : Marks) (keeps : KeepsMarks js t k marks) where
  abbrev events : List ℕ
  events = marks.events.items

  -- an event that adds nothing need not be kept
  pub keeps_on : AddsNothing js t k → KeepsMarks js t (suc k) marks
  keeps_on nothing = record {
    threads = keeps.threads;
    few = keeps.few;
    rows = keeps.rows;
    rising = keeps.rising;
    made = λ i event is. omega (arith, keeps.made i event is);
    all = λ event lt. elim (cases_eq event k) [
      | inl same ↦ inr (subst (λ (n : ℕ). AddsNothing js t n) (sym same) nothing)
      | inr differ ↦ keeps.all event (omega arith)
    ];
    pasts = keeps.pasts;
  }

  -- a mark is kept with its clock
  module _ (after : Marks) (clock : Clock) (row : List ℕ) (same : after.threads ≡ marks.threads) (more : after.events.items ≡ events ++ k ∷ []) (longer : after.counts.items ≡ marks.counts.items ++ row)
      (many : length row ≡ min marks.threads MAX_THREADS) (each : (u : ℕ) → u < min marks.threads MAX_THREADS → slice_index row u ≡ count_in clock u) (past : IsPastOf js t (suc k) clock) where
    old_row : (i u : ℕ) → i < length events → count_after after i u ≡ count_after marks i u
    old_row i u lt = elim (cases_lt u marks.threads) [
      | inr past_threads ↦ of_no_thread after i u (omega (arith, same, past_threads)) ∙ sym (of_no_thread marks i u past_threads)
      | inl within ↦
          of_thread after i u (omega (arith, same, within))
          ∙ ap (λ (w : ℕ). get_or after.counts.items (i * w + u) 0) same
          ∙ ap (λ (counts : List ℕ). get_or counts (i * marks.threads + u) 0) longer
          ∙ get_or_append_left marks.counts.items row 0 (i * marks.threads + u) (subst (λ (n : ℕ). i * marks.threads + u < n) (mul_comm marks.threads (length events) ∙ sym keeps.rows) (mul-add-lt i marks.threads u (length events) lt within))
          ∙ sym (of_thread marks i u within)
    ]

    new_row : (u : ℕ) → count_after after (length events) u ≡ count_in clock u
    new_row u = elim (cases_lt u marks.threads) [
      | inr past_threads ↦ of_no_thread after (length events) u (omega (arith, same, past_threads)) ∙ sym (of_none js t (suc k) u clock past (omega (arith, keeps.threads, past_threads)))
      | inl within ↦
          of_thread after (length events) u (omega (arith, same, within))
          ∙ ap (λ (w : ℕ). get_or after.counts.items (length events * w + u) 0) same
          ∙ ap (λ (counts : List ℕ). get_or counts (length events * marks.threads + u) 0) longer
          ∙ get_or-append_right marks.counts.items row (length events * marks.threads) (length events * marks.threads + u) 0 keeps.rows (omega arith)
          ∙ ap (λ (n : ℕ). get_or row n 0) (let h : length events * marks.threads + u - length events * marks.threads ≡ u = omega arith in h)
          ∙ each u (omega (arith, within, keeps.few))
    ]

    rising : (i j sooner later : ℕ) → i < j → slice_get (events ++ k ∷ []) i ≡ Some sooner → slice_get (events ++ k ∷ []) j ≡ Some later → sooner < later
    rising i j sooner later lt at_i at_j = elim (pushed events k sooner i at_i) [
      | inl old_i ↦ elim (pushed events k later j at_j) [
        | inl old_j ↦ keeps.rising i j sooner later lt old_i old_j
        | inr new_j ↦ omega (arith, new_j.1, keeps.made i sooner old_i)
      ]
      | inr new_i ↦ absurd (omega (arith, new_i.0, slice_get_within (events ++ k ∷ []) j later at_j, length-append events (k ∷ [])))
    ]

    all : (event : ℕ) → event < suc k → IsKept (events ++ k ∷ []) event ⊎ AddsNothing js t event
    all event lt = elim (cases_eq event k) [
      | inl here ↦ inl (length events, slice_get_last events k ∙ ap Some (sym here))
      | inr differ ↦ elim (keeps.all event (omega arith)) [
        | inl there ↦ inl (there.0, slice_get-append events (k ∷ []) there.0 event there.1)
        | inr nothing ↦ inr nothing
      ]
    ]

    pasts : (i event : ℕ) → slice_get (events ++ k ∷ []) i ≡ Some event → ArePastOf js t (suc event) (count_after after i)
    pasts i event is = elim (pushed events k event i is) [
      | inl old ↦ same_past js t (suc event) (count_after marks i) (count_after after i) (λ u. old_row i u (slice_get_within events i event old)) (keeps.pasts i event old)
      | inr new ↦
          subst (λ (n : ℕ). ArePastOf js t (suc n) (count_after after i)) new.1
          (same_past js t (suc k) (count_in clock) (count_after after i) (λ u. ap (λ (n : ℕ). count_after after n u) new.0 ∙ new_row u) past)
    ]

    pub keeps_mark : KeepsMarks js t (suc k) after
    keeps_mark = record {
      threads = same ∙ keeps.threads;
      few = omega (arith, same, keeps.few);
      rows = ap (λ (l : List ℕ). length l) longer ∙ length-append marks.counts.items row ∙ rows_more ∙ ap (λ (w : ℕ). suc (length events) * w) (sym same) ∙ ap (λ (n : ℕ). n * after.threads) one_more;
      rising = λ i j sooner later lt at_i at_j. rising i j sooner later lt (sym (ap (λ (l : List ℕ). slice_get l i) more) ∙ at_i) (sym (ap (λ (l : List ℕ). slice_get l j) more) ∙ at_j);
      made = λ i event is. elim (pushed events k event i (sym (ap (λ (l : List ℕ). slice_get l i) more) ∙ is)) [
        | inl old ↦ omega (arith, keeps.made i event old)
        | inr new ↦ omega (arith, new.1)
      ];
      all = λ event lt. subst (λ (l : List ℕ). IsKept l event ⊎ AddsNothing js t event) (sym more) (all event lt);
      pasts = λ i event is. pasts i event (sym (ap (λ (l : List ℕ). slice_get l i) more) ∙ is);
    }
      where
        rows_more : length marks.counts.items + length row ≡ suc (length events) * marks.threads
        rows_more = omega (arith, keeps.rows, many, keeps.few)

        one_more : suc (length events) ≡ length after.events.items
        one_more = sym (ap (λ (l : List ℕ). length l) more ∙ (let h : length (events ++ k ∷ []) ≡ suc (length events) = omega (arith, length-append events (k ∷ [])) in h))

-- ---- the marks among a thread's first events

-- the marks are kept in order
pub kept_in_order : (js : Journals) (t now : ℕ) (marks : Marks) → KeepsMarks js t now marks → IsNonDecreasingBy (λ event. event) marks.events.items
kept_in_order js t now marks keeps i j d le lt =
    let events = marks.events.items in
    elim (cases_eq i j) [
      | inl same ↦ omega (arith, ap (λ (n : ℕ). get_or events n d) same)
      | inr differ ↦
          let sooner = slice_get-get_or events i d (omega arith) in
          let later = slice_get-get_or events j d lt in
          omega (arith, keeps.rising i j (get_or events i d) (get_or events j d) (omega arith) sooner later)
    ]

-- where the last one is among a thread's first `upto` events, all are
pub all_before : (events : List ℕ) (upto last n : ℕ) → n ≡ length events → slice_get events (length events - 1) ≡ Some last → last < upto
    → IsNonDecreasingBy (λ (event : ℕ). event) events → IsPartitionPoint (λ (event : ℕ). ltb event upto ≡ true) (λ (event : ℕ). ltb event upto ≡ false) events n
all_before events upto last n is there below sorted = (
  λ k d low lt.
      let end : length events - 1 < length events = slice_get_within events (length events - 1) last there in
      let value = get_or_from_slice_get events (length events - 1) last d there in
      lt-ltb (get_or events k d) upto (omega (arith, sorted k (length events - 1) d (omega arith) end, value)),
  λ k d ge lt. absurd (omega arith),
)

module _ (js : Journals) (t now upto : ℕ) (marks : Marks) (keeps : KeepsMarks js t now marks) (within : upto ≤ now) (made : now ≤ length (journal_of js t))
    (i : ℕ) (low : i ≤ length marks.events.items)
    (point : IsPartitionPoint (λ event. ltb event upto ≡ true) (λ event. ltb event upto ≡ false) marks.events.items i) where
  -- an event among the thread's first `upto` is kept below the place, or adds nothing
  below_place : (event : ℕ) → event < upto → ((j : ℕ) × (slice_get marks.events.items j ≡ Some event) × (j < i)) ⊎ AddsNothing js t event
  below_place event lt = elim (keeps.all event (omega arith)) [
    | inr nothing ↦ inr nothing
    | inl there ↦
        let j = there.0 in
        elim (cases_lt j i) [
          | inl below ↦ inl (j, there.1, below)
          | inr above ↦
              let inside = slice_get_within marks.events.items j event there.1 in
              let value = get_or_from_slice_get marks.events.items j event event there.1 in
              let passes = lt-ltb event upto lt in
              absurd (let fails = point.1 j event above inside in let same = ap (λ (n : ℕ). ltb n upto) value in cc)
        ]
  ]

  -- none of them
  pub past_before_marks : (c d : Clock) → i ≡ 0 → ((u : ℕ) → count_in c u ≡ 0) → IsRaised c t upto d → IsPastOf js t upto d
  past_before_marks c d is none raised =
      past_raised js t 0 upto c d (past_of_none js t c none) (omega arith) (omega arith)
      (λ k above lt. elim (below_place k lt) [ inl there ↦ absurd (omega (arith, there.2)) | inr nothing ↦ nothing ])
      raised

  -- the last of them
  pub past_after_mark : (j event : ℕ) (c d : Clock) → suc j ≡ i → slice_get marks.events.items j ≡ Some event → ((u : ℕ) → count_in c u ≡ count_after marks j u) → IsRaised c t upto d → IsPastOf js t upto d
  past_after_mark j event c d is at_j same raised =
      let value = get_or_from_slice_get marks.events.items j event event at_j in
      let passes = point.0 j event (omega arith) (omega arith) in
      let lt : event < upto = ltb-true event upto (sym (ap (λ (n : ℕ). ltb n upto) value) ∙ passes) in
      past_raised js t (suc event) upto c d (same_past js t (suc event) (count_after marks j) (count_in c) same (keeps.pasts j event at_j)) (omega arith) (omega arith)
      (λ k above below. elim (below_place k below) [
        | inr nothing ↦ nothing
        | inl there ↦ absurd (elim (cases_eq there.0 j) [
          | inl here ↦ (let e : Some k ≡ Some event = sym there.1 ∙ ap (slice_get marks.events.items) here ∙ at_j in let f = some_same k event e in omega arith)
          | inr differ ↦ omega (arith, there.2, keeps.rising there.0 j k event (omega (arith, there.2)) there.1 at_j)
        ])
      ])
      raised
    where
      some_same : (a b : ℕ) → Some a ≡ Some b → a ≡ b
      some_same a b e = cc
