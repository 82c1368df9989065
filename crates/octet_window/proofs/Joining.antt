-- A join that an access needs keeps what holds of the run.
use Rattle.std.proofs.Common.{◌≡◌, ◌≢◌, ℕ, zero, suc, ◌+◌, ◌<◌, ◌≤◌, ◌^◌, ◌⊎◌, inl, inr, Bool, true, false, List, [], ◌∷◌, length, Some, refl, sym, ap, ◌∙◌, subst, arith, length-append}
use Rattle.std.proofs.lemmas.Bool.{cases_eq, le-leb}
use Rattle.std.proofs.lemmas.Option.{slice_get_within}
use Rattle.octet_model.specs.declared.event.Mark.{Mark}
use Rattle.octet_model.specs.declared.event.Mark.TheVariants.{Join}
use Rattle.octet_model.specs.declared.event.Event.{Event}
use Rattle.octet_model.specs.declared.event.Event.TheVariants.{Marked}
use Rattle.octet_model.specs.declared.event.Place.{Place}
use Rattle.octet_model.specs.declared.limits.TheConstants.{MAX_THREADS}
use Rattle.octet_model.specs.Machine.{Journals, journal_of, appended}
use Rattle.octet_model.specs.HappensBefore.{event_at, object_of}
use Rattle.octet_model.specs.Frugal.{marks_at_end, Accesses}
use Rattle.octet_model.specs.Validity.{IsMark}
use Rattle.octet_model.proofs.lemmas.Steps.{count, stays_appended, same_journal, other_journal, as_many, new_event}
use Rattle.octet_model.proofs.lemmas.Growth.{history_grows}
use Rattle.octet_window.specs.Tables.{cell}
use Rattle.octet_window.specs.Ordering.{place, Writes, Counts, AreJoins, IsSparing, Parts, IsOrdered, IsJoining, needed, pushed}
use Rattle.octet_window.proofs.Longer.{ends_marked, old_or_this, old_or_new_access, still_accesses, was_private, before_same, mark_keeps_order}

-- an access lies within its journal
pub within : (js : Journals) (p : Place) (object : ℕ) → Accesses js p object → p.event < count js p.thread
within js p object access = slice_get_within (journal_of js p.thread) p.event access.0 access.1

module _ (js : Journals) (t : ℕ) (m : Mark) (inside : t < length js) where
  abbrev more : Journals
  more = appended js t (Marked m)

  -- a mark is no access
  pub old_access : (p : Place) (object : ℕ) → Accesses more p object → Accesses js p object
  old_access p object access = elim (old_or_new_access js t (Marked m) inside p object access) [
    | inl old ↦ old
    | inr is ↦ absurd (let of : object_of (Marked m) ≡ Some object = is.1 in cc)
  ]

  old_write : (p : Place) (object : ℕ) → Writes more p object → Writes js p object
  old_write p object w = elim (old_or_this js t (Marked m) inside p w.0 w.1) [
    | inl old ↦ (w.0, old, w.2, w.3)
    | inr is ↦ absurd (let of : object_of (Marked m) ≡ Some object = ap (λ (x : Event). object_of x) is.1 ∙ w.2 in cc)
  ]

  accesses_on : (counts : List ℕ) → Counts (Accesses js) counts → Counts (Accesses more) counts
  accesses_on counts c = record {
    past = λ p object access. c.past p object (old_access p object access);
    last = λ object thread event below is. still_accesses js t (Marked m) inside (place thread event) object (c.last object thread event below is);
  }

  writes_on : (counts : List ℕ) → Counts (Writes js) counts → Counts (Writes more) counts
  writes_on counts c = record {
    past = λ p object w. c.past p object (old_write p object w);
    last = λ object thread event below is. let w = c.last object thread event below is in (w.0, stays_appended js t thread event (Marked m) w.0 w.1, w.2, w.3);
  }

  sparing_on : IsSparing js → IsSparing more
  sparing_on s = record {
    unmarked = λ p object access private. let old = old_access p object access in
        before_same js t (Marked m) inside p (let w = within js p object old in omega arith) ∙ s.unmarked p object old (was_private js t (Marked m) inside object p.thread private);
    few = λ p object access. let old = old_access p object access in
        let same = before_same js t (Marked m) inside p (let w = within js p object old in omega arith) in
        omega (arith, ap (λ (l : List Mark). length l) same, s.few p object old);
  }

  marks_on : IsMark (length js) t m → ((thread event : ℕ) (mark : Mark) → event_at js (place thread event) ≡ Some (Marked mark) → IsMark (length js) thread mark)
      → (thread event : ℕ) (mark : Mark) → event_at more (place thread event) ≡ Some (Marked mark) → IsMark (length more) thread mark
  marks_on valid marks thread event mark at_m =
      subst (λ (n : ℕ). IsMark n thread mark) (sym (as_many js t (Marked m)))
      (elim (old_or_this js t (Marked m) inside (place thread event) (Marked mark) at_m) [
        | inl old ↦ marks thread event mark old
        | inr is ↦
            let its : thread ≡ t = ap (λ (p : Place). p.thread) is.0 in
            let both : Marked m ≡ Marked mark = is.1 in
            let same : m ≡ mark = cc in
            subst (λ (x : Mark). IsMark (length js) thread x) same (subst (λ (u : ℕ). IsMark (length js) u m) (sym its) valid)
      ])

-- the counts of what threads have joined, with that of a new join
joins_on : (js : Journals) (t from n : ℕ) (known next : List ℕ) → t < length js → from < MAX_THREADS → AreJoins js known → cell next t from ≡ n
    → ((r c : ℕ) → c < MAX_THREADS → (r ≢ t) ⊎ (c ≢ from) → cell next r c ≡ cell known r c) → AreJoins (appended js t (Marked (Join from n))) next
joins_on js t from n known next inside below joins here others thread other upto small is =
    elim (cases_eq thread t) [
      | inr apart ↦ old (others thread other small (inl apart))
      | inl same ↦ elim (cases_eq other from) [
        | inr apart ↦ old (others thread other small (inr apart))
        | inl of ↦
            let value : n ≡ suc upto = sym here ∙ (ap (λ (u : ℕ). cell next u from) (sym same) ∙ (ap (λ (c : ℕ). cell next thread c) (sym of) ∙ is)) in
            let at_t : event_at (appended js t (Marked (Join from n))) (place t (count js t)) ≡ Some (Marked (Join from n)) = new_event js t (Marked (Join from n)) inside in (
              count js t,
              subst (λ (u : ℕ). event_at (appended js t (Marked (Join from n))) (place u (count js t)) ≡ Some (Marked (Join other (suc upto)))) (sym same)
                  (at_t ∙ (ap (λ (u : ℕ). Some (Marked (Join u n))) (sym of) ∙ ap (λ (v : ℕ). Some (Marked (Join other v))) value)),
            )
      ]
    ]
  where
    old : cell next thread other ≡ cell known thread other → (event : ℕ) × (event_at (appended js t (Marked (Join from n))) (place thread event) ≡ Some (Marked (Join other (suc upto))))
    old same = let j = joins thread other upto small (sym same ∙ is) in (j.0, stays_appended js t thread j.0 (Marked (Join from n)) (Marked (Join other (suc upto))) j.1)

needed_is : (run : Parts) (writes : Bool) (object from n : ℕ) → IsOrdered run → from < MAX_THREADS → needed run writes object from ≡ suc n → Accesses run.journals (place from n) object
needed_is run true object from n o below is = o.accesses.last object from n below is
needed_is run false object from n o below is = let w = o.writes.last object from n below is in (w.0, w.1, w.2)

-- and so does one that has made the join
pub join_made : (run : Parts) (thread object from upto : ℕ) (writes : Bool) (known : List ℕ) → IsJoining run thread object writes from → from < length run.journals → from ≢ thread
    → 0 < upto → upto < 2 ^ 64 → needed run writes object from ≡ upto
    → length known ≡ length run.known → cell known thread from ≡ upto → ((r c : ℕ) → c < MAX_THREADS → (r ≢ thread) ⊎ (c ≢ from) → cell known r c ≡ cell run.known r c)
    → IsJoining (record (pushed thread (Marked (Join from upto)) run) { known = known }) thread object writes (from + 1)
join_made run thread object from zero writes known j there apart some fits is rows here others = absurd (omega (arith, some))
join_made run thread object from (suc n) writes known j there apart some fits is rows here others = record {
  ordered = record {
    threads = omega (arith, o.threads, many);
    objects = o.objects;
    known_rows = rows ∙ o.known_rows;
    accessed_rows = o.accessed_rows;
    written_rows = o.written_rows;
    history = history_grows run.starts js run.heap 0 thread (Marked m) o.history inside (le-leb (suc n) (count js from) (within js (place from n) object backed)) refl (mark_keeps_order js thread m inside o.history.ordered);
    sparing = sparing_on js thread m inside o.sparing;
    accesses = accesses_on js thread m inside run.accessed o.accesses;
    writes = writes_on js thread m inside run.written o.writes;
    joins = joins_on js thread from (suc n) run.known known inside small o.joins here others;
    marks = marks_on js thread m inside (there, apart, fits) o.marks;
  };
  there = omega (arith, inside, many);
  none_after = λ other differ. ap marks_at_end (other_journal js thread other (Marked m) differ) ∙ j.none_after other differ;
  few = omega (arith, j.few, longer);
  fewer = λ lt. let f : suc (length (marks_at_end (journal_of js thread))) ≤ from = j.fewer (omega (arith, lt, apart)) in omega (arith, f, longer);
  shared = λ private. absurd (apart (private (place from n) (still_accesses js thread (Marked m) inside (place from n) object backed)));
  joined = λ other lt differ. elim (cases_eq other from) [
    | inl same ↦ subst (λ (u : ℕ). needed run writes object u ≤ cell known thread u) (sym same) (omega (arith, is, here))
    | inr not ↦ let h = j.joined other (omega (arith, lt, not)) differ in omega (arith, h, others thread other (let b : needed run writes object other ≤ cell run.known thread other = h in omega (arith, lt, small)) (inr not))
  ];
}
  where
    js : Journals
    js = run.journals

    m : Mark
    m = Join from (suc n)

    o : IsOrdered run
    o = j.ordered

    inside : thread < length js
    inside = j.there

    small : from < MAX_THREADS
    small = omega (arith, there, o.threads)

    many : length (appended js thread (Marked m)) ≡ length js
    many = as_many js thread (Marked m)

    backed : Accesses js (place from n) object
    backed = needed_is run writes object from n o small is

    longer : length (marks_at_end (journal_of (appended js thread (Marked m)) thread)) ≡ length (marks_at_end (journal_of js thread)) + 1
    longer = ap (λ (l : List Event). length (marks_at_end l)) (same_journal js thread (Marked m) inside) ∙ (ap (λ (l : List Mark). length l) (ends_marked [] (journal_of js thread) m) ∙ length-append (marks_at_end (journal_of js thread)) (m ∷ []))
