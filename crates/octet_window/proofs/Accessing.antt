-- An access after the joins that it needs keeps what holds of the run.
use Rattle.std.proofs.Common.{◌≡◌, ℕ, zero, suc, ◌*◌, ◌<◌, ◌≤◌, ◌⊎◌, inl, inr, Bool, true, false, ◌||◌, IsTrue, List, [], ◌∷◌, ◌++◌, length, Some, slice_get, refl, sym, ap, ◌∙◌, subst, arith, length-append, length-set}
use Rattle.std.proofs.lemmas.Bool.{cases_eq}
use Rattle.std.proofs.lemmas.Option.{slice_get_within}
use Rattle.octet_model.specs.declared.event.Mark.{Mark}
use Rattle.octet_model.specs.declared.event.Mark.TheVariants.{Join}
use Rattle.octet_model.specs.declared.event.Event.{Event}
use Rattle.octet_model.specs.declared.event.Event.TheVariants.{Read, Write, Update, Marked}
use Rattle.octet_model.specs.declared.event.Place.{Place}
use Rattle.octet_model.specs.declared.limits.TheConstants.{MAX_THREADS}
use Rattle.octet_model.specs.Machine.{Journals, journal_of, PlainState, appended, is_enabled, event_made, heap_after, draws_after}
use Rattle.octet_model.specs.HappensBefore.{event_at, Joined, HappensBefore, object_of, is_write, Conflict}
use Rattle.octet_model.specs.Frugal.{marks_at_end, marks_before, Accesses, IsPrivate}
use Rattle.octet_model.specs.Plays.{operation_of, IsOneHistory}
use Rattle.octet_model.specs.Validity.{IsMark}
use Rattle.octet_model.proofs.lemmas.Steps.{count, stays_appended, same_journal, other_journal, as_many, new_event}
use Rattle.octet_model.proofs.lemmas.Growth.{new, ordered_longer, history_grows}
use Rattle.octet_model.proofs.lemmas.Pasts.{path_on, by_edge, along_journal}
use Rattle.octet_window.specs.Tables.{cell}
use Rattle.octet_window.specs.Ordering as ordering
use Rattle.octet_window.specs.Ordering.{place, Writes, Counts, IsSparing, Parts, IsAtRest, IsJoining, Sets, SetsIf, CountsLast, Keeps, MakesAccess, accesses_in, needed, pushed}
use Rattle.octet_window.proofs.Longer.{ends_access, the_new, old_or_this, old_or_new_access, still_accesses, was_private, before_same, before_new}
use Rattle.octet_window.proofs.Joining.{within}

enabled_access : (s : PlainState) (e : Event) (object : ℕ) → object_of e ≡ Some object → IsTrue (is_enabled s (operation_of e))
enabled_access s (Marked m) object of = absurd cc
enabled_access s (Read o value) object of = refl
enabled_access s (Write o value) object of = refl
enabled_access s (Update o before after) object of = refl

no_draw : (e : Event) (object n : ℕ) → object_of e ≡ Some object → draws_after (operation_of e) n ≡ n
no_draw (Marked m) object n of = absurd cc
no_draw (Read o value) object n of = refl
no_draw (Write o value) object n of = refl
no_draw (Update o before after) object n of = refl

-- a thread with an event is there
thread_there : (js : Journals) (u k : ℕ) (x : Event) → slice_get (journal_of js u) k ≡ Some x → u < length js
thread_there [] u k x h = absurd cc
thread_there (j ∷ js) zero k x h = omega arith
thread_there (j ∷ js) (suc u) k x h = omega (arith, thread_there js u k x h)

-- counts go on with one more access
counts_more : (Is More : Place → ℕ → Type 0) (counts next : List ℕ) (object t k : ℕ)
    → ((p : Place) (o : ℕ) → More p o → Is p o ⊎ ((p ≡ place t k) × (o ≡ object)))
    → ((p : Place) (o : ℕ) → Is p o → More p o)
    → More (place t k) object
    → ((p : Place) (o : ℕ) → More p o → p.thread < MAX_THREADS)
    → ((p : Place) (o : ℕ) → Is p o → p.thread ≡ t → p.event < k)
    → Sets object t (suc k) counts next → Counts Is counts → Counts More next
counts_more Is More counts next object t k cases stays here small below sets c = record { past = past; last = last }
  where
    at_new : (o u : ℕ) → o ≡ object → u ≡ t → cell next o u ≡ suc k
    at_new o u of its = ap (λ (r : ℕ). cell next r u) of ∙ (ap (λ (v : ℕ). cell next object v) its ∙ sets.here)

    either : (o u : ℕ) → u < MAX_THREADS → ((o ≡ object) × (u ≡ t)) ⊎ (cell next o u ≡ cell counts o u)
    either o u lt = elim (cases_eq o object) [
      | inr apart ↦ inr (sets.others o u lt (inl apart))
      | inl of ↦ elim (cases_eq u t) [
        | inr apart ↦ inr (sets.others o u lt (inr apart))
        | inl its ↦ inl (of, its)
      ]
    ]

    past : (p : Place) (o : ℕ) → More p o → p.event < cell next o p.thread
    past p o more = elim (cases p o more) [
      | inr is ↦ let its : p.thread ≡ t = ap (λ (q : Place). q.thread) is.0 in let at_k : p.event ≡ k = ap (λ (q : Place). q.event) is.0 in omega (arith, at_new o p.thread is.1 its, at_k)
      | inl old ↦ elim (either o p.thread (small p o more)) [
        | inl same ↦ omega (arith, at_new o p.thread same.0 same.1, below p o old same.1)
        | inr same ↦ omega (arith, same, c.past p o old)
      ]
    ]

    last : (o u event : ℕ) → u < MAX_THREADS → cell next o u ≡ suc event → More (place u event) o
    last o u event lt is = elim (either o u lt) [
      | inr same ↦ stays (place u event) o (c.last o u event lt (sym same ∙ is))
      | inl same ↦
          let at_k : k ≡ event = omega (arith, at_new o u same.0 same.1, is) in
          subst (λ (x : ℕ). More (place u event) x) (sym same.0) (subst (λ (v : ℕ). More (place v event) object) (sym same.1) (subst (λ (x : ℕ). More (place t x) object) at_k here))
    ]

module _ (run : Parts) (t object : ℕ) (e : Event) (j : IsJoining run t object (is_write e) (length run.journals)) (of : object_of e ≡ Some object) where
  abbrev js : Journals
  js = run.journals

  abbrev more : Journals
  more = appended js t e

  inside : t < length js
  inside = j.there

  o : ordering.IsOrdered run
  o = j.ordered

  -- what conflicts with the access has a join before it
  needed_past : (a : Place) (x : Event) → event_at js a ≡ Some x → object_of x ≡ Some object → IsTrue (is_write x || is_write e) → a.event < needed run (is_write e) object a.thread
  needed_past a x at_a its one = go (is_write e) refl
    where
      go : (b : Bool) → is_write e ≡ b → a.event < needed run b object a.thread
      go true is = o.accesses.past a object (x, at_a, its)
      go false is = o.writes.past a object (x, at_a, its, writes (is_write x) (ap (λ (b : Bool). is_write x || b) (sym is) ∙ one))
        where
          writes : (b : Bool) → IsTrue (b || false) → IsTrue b
          writes true h = refl
          writes false h = h

  to_new : (a : Place) → Conflict more a (new js t e) → HappensBefore more a (new js t e)
  to_new a c = elim (old_or_this js t e inside a c.first c.is_first) [
    | inr is ↦ absurd (c.by_others (ap (λ (p : Place). p.thread) is.0))
    | inl old ↦
        let second : e ≡ c.second = the_new js t e inside (new js t e) c.second refl c.is_second in
        let both : Some object ≡ Some c.object = sym of ∙ (ap (λ (x : Event). object_of x) second ∙ c.of_same) in
        let same : c.object ≡ object = cc in
        let its : object_of c.first ≡ Some object = c.of_one ∙ ap (λ (n : ℕ). Some n) same in
        let one : IsTrue (is_write c.first || is_write e) = ap (λ (x : Event). is_write c.first || is_write x) second ∙ c.one_writes in
        let past = needed_past a c.first old its one in
        let there : a.thread < length js = thread_there js a.thread a.event c.first old in
        joined a c.first old there (let k = j.joined a.thread there c.by_others in omega (arith, past, k)) (cell run.known t a.thread) refl
  ]
    where
      joined : (a : Place) (x : Event) → event_at js a ≡ Some x → a.thread < length js → a.event < cell run.known t a.thread → (n : ℕ) → cell run.known t a.thread ≡ n → HappensBefore more a (new js t e)
      joined a x at_a there below zero is = absurd (omega (arith, below, is))
      joined a x at_a there below (suc n) is =
          let join = o.joins t a.thread n (omega (arith, there, o.threads)) is in
          let b = place t join.0 in
          let at_b : event_at more b ≡ Some (Marked (Join a.thread (suc n))) = stays_appended js t t join.0 e (Marked (Join a.thread (suc n))) join.1 in
          let before : join.0 < count js t = slice_get_within (journal_of js t) join.0 (Marked (Join a.thread (suc n))) join.1 in
          let first = by_edge more a b (x, stays_appended js t a.thread a.event e x at_a) (Marked (Join a.thread (suc n)), at_b) (Joined (suc n) at_b (omega (arith, below, is))) in
          let later = along_journal more t join.0 (count js t) before (e, new_event js t e inside) in
          path_on more a b (new js t e) first later

  cases_access : (p : Place) (x : ℕ) → Accesses more p x → Accesses js p x ⊎ ((p ≡ place t (count js t)) × (x ≡ object))
  cases_access p x access = elim (old_or_new_access js t e inside p x access) [
    | inl old ↦ inl old
    | inr is ↦ inr (is.0, let both : Some x ≡ Some object = sym is.1 ∙ of in cc)
  ]

  cases_write : (p : Place) (x : ℕ) → Writes more p x → Writes js p x ⊎ ((p ≡ place t (count js t)) × (x ≡ object) × IsTrue (is_write e))
  cases_write p x w = elim (old_or_this js t e inside p w.0 w.1) [
    | inl old ↦ inl (w.0, old, w.2, w.3)
    | inr is ↦ inr (is.0, (let both : Some x ≡ Some object = sym w.2 ∙ (ap (λ (y : Event). object_of y) (sym is.1) ∙ of) in cc), ap (λ (y : Event). is_write y) is.1 ∙ w.3)
  ]

  still_writes : (p : Place) (x : ℕ) → Writes js p x → Writes more p x
  still_writes p x w = (w.0, stays_appended js t p.thread p.event e w.0 w.1, w.2, w.3)

  small : (p : Place) (x : Event) → event_at more p ≡ Some x → p.thread < MAX_THREADS
  small p x at_p = omega (arith, thread_there more p.thread p.event x at_p, as_many js t e, o.threads)

  accesses_on : (next : List ℕ) → Sets object t (suc (count js t)) run.accessed next → Counts (Accesses more) next
  accesses_on next sets = counts_more (Accesses js) (Accesses more) run.accessed next object t (count js t) cases_access (still_accesses js t e inside) (e, new_event js t e inside, of)
      (λ p x access. small p access.0 access.1) (λ p x access its. subst (λ (u : ℕ). p.event < count js u) its (within js p x access)) sets o.accesses

  writes_on : (next : List ℕ) → SetsIf (is_write e) object t (suc (count js t)) run.written next → Counts (Writes more) next
  writes_on next sets = go (is_write e) refl sets
    where
      go : (b : Bool) → is_write e ≡ b → SetsIf b object t (suc (count js t)) run.written next → Counts (Writes more) next
      go true is set = counts_more (Writes js) (Writes more) run.written next object t (count js t)
          (λ p x w. elim (cases_write p x w) [ inl old ↦ inl old | inr here ↦ inr (here.0, here.1) ])
          still_writes (e, new_event js t e inside, of, is)
          (λ p x w. small p w.0 w.1) (λ p x w its. subst (λ (u : ℕ). p.event < count js u) its (within js p x (w.0, w.1, w.2))) set o.writes
      go false is same = record {
        past = λ p x w. elim (cases_write p x w) [
          | inl old ↦ subst (λ (l : List ℕ). p.event < cell l x p.thread) (sym same) (o.writes.past p x old)
          | inr here ↦ absurd (let h : IsTrue false = sym is ∙ here.2 in cc)
        ];
        last = λ x u event lt c. still_writes (place u event) x (o.writes.last x u event lt (ap (λ (l : List ℕ). cell l x u) (sym same) ∙ c));
      }

  few_here : length (marks_at_end (journal_of js t)) ≤ 15
  few_here = omega (arith, j.fewer inside, o.threads)

  sparing_on : IsSparing more
  sparing_on = record {
    unmarked = λ p x access private. elim (cases_access p x access) [
      | inl old ↦ before_same js t e inside p (let w = within js p x old in omega arith) ∙ o.sparing.unmarked p x old (was_private js t e inside x p.thread private)
      | inr here ↦
          let its : p.thread ≡ t = ap (λ (q : Place). q.thread) here.0 in
          let mine = subst (λ (y : ℕ). IsPrivate js y t) here.1 (subst (λ (u : ℕ). IsPrivate js x u) its (was_private js t e inside x p.thread private)) in
          subst (λ (q : Place). marks_before more q ≡ []) (sym here.0) (before_new js t e inside ∙ j.shared mine)
    ];
    few = λ p x access. elim (cases_access p x access) [
      | inl old ↦ let same = before_same js t e inside p (let w = within js p x old in omega arith) in omega (arith, ap (λ (l : List Mark). length l) same, o.sparing.few p x old)
      | inr here ↦ subst (λ (q : Place). length (marks_before more q) ≤ 15) (sym here.0) (omega (arith, ap (λ (l : List Mark). length l) (before_new js t e inside), few_here))
    ];
  }

  no_mark : (p : Place) (mark : Mark) → event_at more p ≡ Some (Marked mark) → event_at js p ≡ Some (Marked mark)
  no_mark p mark at_p = elim (old_or_this js t e inside p (Marked mark) at_p) [
    | inl old ↦ old
    | inr is ↦ absurd (let none : object_of (Marked mark) ≡ Some object = ap (λ (x : Event). object_of x) (sym is.1) ∙ of in cc)
  ]

  pub access_made : (next : Parts) → event_made (operation_of e) run.heap ≡ e → length (heap_after (operation_of e) run.heap) ≡ length run.heap
      → CountsLast t object (is_write e) (pushed t e run) next → IsAtRest (record next { heap = heap_after (operation_of e) next.heap })
  access_made next value wide counts = record {
    ordered = subst ordering.IsOrdered same record {
      threads = omega (arith, as_many js t e, o.threads);
      objects = wide ∙ o.objects;
      known_rows = o.known_rows;
      accessed_rows = counts.accessed.room ∙ o.accessed_rows;
      written_rows = rows (is_write e) counts.written;
      history = subst (λ (n : ℕ). IsOneHistory run.starts more (heap_after (operation_of e) run.heap) n) (no_draw e object 0 of)
          (history_grows run.starts js run.heap 0 t e o.history inside (enabled_access (record { heap = run.heap; journals = js; draws = 0 }) e object of) value (ordered_longer js t e inside o.history.ordered to_new));
      sparing = sparing_on;
      accesses = accesses_on next.accessed (set next.accessed run.accessed counts.accessed);
      writes = writes_on next.written (set_if (is_write e) counts.written);
      joins = λ thread from upto lt is. let join = o.joins thread from upto lt is in (join.0, stays_appended js t thread join.0 e (Marked (Join from (suc upto))) join.1);
      marks = λ thread event mark at_m. subst (λ (n : ℕ). IsMark n thread mark) (sym (as_many js t e)) (o.marks thread event mark (no_mark (place thread event) mark at_m));
    };
    none_after = λ u. ap (λ (l : Journals). marks_at_end (journal_of l u)) counts.journals ∙ none u;
  }
    where
      grown : length (journal_of more t) ≡ suc (count js t)
      grown = omega (arith, ap (λ (l : List Event). length l) (same_journal js t e inside), length-append (journal_of js t) (e ∷ []))

      set : (l k : List ℕ) → Sets object t (length (journal_of more t)) k l → Sets object t (suc (count js t)) k l
      set l k s = subst (λ (n : ℕ). Sets object t n k l) grown s

      set_if : (b : Bool) → SetsIf b object t (length (journal_of more t)) run.written next.written
          → SetsIf b object t (suc (count js t)) run.written next.written
      set_if true s = set next.written run.written s
      set_if false s = s

      rows : (b : Bool) → SetsIf b object t (length (journal_of more t)) run.written next.written → length next.written ≡ MAX_THREADS * length run.starts
      rows true s = s.room ∙ o.written_rows
      rows false s = ap (λ (l : List ℕ). length l) s ∙ o.written_rows

      abbrev_parts : Parts
      abbrev_parts = record { starts = run.starts; heap = heap_after (operation_of e) run.heap; journals = more; known = run.known; accessed = next.accessed; written = next.written }

      same : abbrev_parts ≡ record next { heap = heap_after (operation_of e) next.heap }
      same = λ i. record {
        starts = sym counts.starts i;
        heap = heap_after (operation_of e) (sym counts.heap i);
        journals = sym counts.journals i;
        known = sym counts.known i;
        accessed = next.accessed;
        written = next.written;
      }

      none : (u : ℕ) → marks_at_end (journal_of more u) ≡ []
      none u = elim (cases_eq u t) [
        | inr differ ↦ ap marks_at_end (other_journal js t u e differ) ∙ j.none_after u differ
        | inl its ↦ subst (λ (v : ℕ). marks_at_end (journal_of more v) ≡ []) (sym its) (ap marks_at_end (same_journal js t e inside) ∙ ends_access [] (journal_of js t) e object of)
      ]

-- the accesses of journals
pub accesses_join : (first second : List Event) → accesses_in (first ++ second) ≡ accesses_in first ++ accesses_in second
accesses_join [] second = refl
accesses_join (Marked m ∷ first) second = accesses_join first second
accesses_join (Read o value ∷ first) second = ap (λ (l : List Event). Read o value ∷ l) (accesses_join first second)
accesses_join (Write o value ∷ first) second = ap (λ (l : List Event). Write o value ∷ l) (accesses_join first second)
accesses_join (Update o before after ∷ first) second = ap (λ (l : List Event). Update o before after ∷ l) (accesses_join first second)

pub one_access : (e : Event) (object : ℕ) → object_of e ≡ Some object → accesses_in (e ∷ []) ≡ e ∷ []
one_access (Marked m) object of = absurd cc
one_access (Read o value) object of = refl
one_access (Write o value) object of = refl
one_access (Update o before after) object of = refl

-- what a push adds
pub push_keeps : (run next : Parts) (t : ℕ) (m : Mark) → t < length run.journals → next.starts ≡ run.starts → next.heap ≡ run.heap → next.journals ≡ appended run.journals t (Marked m) → Keeps run next
push_keeps run next t m inside starts heap journals = record {
  starts = starts;
  heap = heap;
  many = ap (λ (l : Journals). length l) journals ∙ as_many run.journals t (Marked m);
  each = λ u. ap (λ (l : Journals). accesses_in (journal_of l u)) journals ∙ elim (cases_eq u t) [
    | inr differ ↦ ap accesses_in (other_journal run.journals t u (Marked m) differ)
    | inl its ↦ subst (λ (v : ℕ). accesses_in (journal_of (appended run.journals t (Marked m)) v) ≡ accesses_in (journal_of run.journals v)) (sym its)
        (ap accesses_in (same_journal run.journals t (Marked m) inside) ∙ (accesses_join (journal_of run.journals t) (Marked m ∷ []) ∙ none (accesses_in (journal_of run.journals t))))
  ];
}
  where
    none : (l : List Event) → l ++ [] ≡ l
    none [] = refl
    none (x ∷ l) = ap (λ (k : List Event). x ∷ k) (none l)

pub push_makes : (run next : Parts) (t object : ℕ) (e : Event) → t < length run.journals → object_of e ≡ Some object → next.starts ≡ run.starts → next.heap ≡ heap_after (operation_of e) run.heap
    → next.journals ≡ appended run.journals t e → MakesAccess t e run next
push_makes run next t object e inside of starts heap journals = record {
  starts = starts;
  heap = heap;
  many = ap (λ (l : Journals). length l) journals ∙ as_many run.journals t e;
  own = ap (λ (l : Journals). accesses_in (journal_of l t)) journals ∙ (ap accesses_in (same_journal run.journals t e inside) ∙ (accesses_join (journal_of run.journals t) (e ∷ []) ∙ ap (λ (l : List Event). accesses_in (journal_of run.journals t) ++ l) (one_access e object of)));
  others = λ u differ. ap (λ (l : Journals). accesses_in (journal_of l u)) journals ∙ ap accesses_in (other_journal run.journals t u e differ);
}

pub wide_after : (e : Event) (heap : List ℕ) → length (heap_after (operation_of e) heap) ≡ length heap
wide_after (Read o value) heap = refl
wide_after (Write o value) heap = length-set heap o value
wide_after (Update o before after) heap = length-set heap o after
wide_after (Marked m) heap = refl
