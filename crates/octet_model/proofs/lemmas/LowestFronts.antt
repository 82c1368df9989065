-- The lowest front has steps enough, and there is only one.
use Rattle.std.proofs.Common.{◌≡◌, ℕ, zero, suc, ◌+◌, ◌<◌, ◌≤◌, Bool, true, false, inl, inr, List, [], ◌∷◌, ◌++◌, length, nat_lt, Option, Some, None, IsTrue, IsFalse, slice_get, refl, sym, ap, ◌∙◌, subst, arith, length-append, append-nil}
use Rattle.std.proofs.lemmas.Bool.{cases_eq, cases_lt, ltb-true}
use Rattle.std.proofs.lemmas.Option.{slice_get_within, slice_get_past}
use Rattle.std.proofs.lemmas.List.{length-map}
use Rattle.std.proofs.lemmas.List.Sums.{sum_by-cons}
use Rattle.octet_model.specs.declared.command.Command.{Command}
use Rattle.octet_model.specs.declared.event.Event.{Event}
use Rattle.octet_model.specs.declared.event.Event.TheVariants.{Marked}
use Rattle.octet_model.specs.declared.event.Mark.{Mark}
use Rattle.octet_model.specs.declared.log.Gapped.{Gapped}
use Rattle.octet_model.specs.declared.log.ThreadLog.{ThreadLog}
use Rattle.octet_model.specs.declared.script.Script.{Script}
use Rattle.octet_model.specs.Thread.{Configuration, AccessOrEnd, ToRead, ToWrite, ToBump, ToEnd, added, demanded, configuration_after, starting_configuration}
use Rattle.octet_model.specs.Journals.{access_count, mark_count, gap_after, due_mark, next_access, mark_first, next_by_log}
use Rattle.octet_model.specs.Machine.{Journals, journal_of, PlainState, starting_state, Operation, MakeMark, MakeRead, MakeWrite, MakeUpdate, Wants, Behavior, event_made, may_step, step, after, IsFront, IsOrder}
use Rattle.octet_model.specs.Orders.{commands_of, starting_heap, journals_after, IsLawfulOrder, thread_log_of, by_log, opening_state, state_after, event_total, lowest_order, lowest, go_on, lowest_front, IsLowestFront}
use Rattle.octet_model.specs.HappensBefore.{IsOrdered}
use Rattle.octet_model.specs.Plays.{next_in, by_journals, lowest_play}
use Rattle.octet_model.proofs.lemmas.Steps.{Makes, what_it_makes, same_journal, other_step, as_many_step}
use Rattle.octet_model.proofs.lemmas.Fronts.{no_journal, front_leads_on}
use Rattle.octet_model.proofs.lemmas.LowestThread.{lowest_may, none_lower, none_at_all, none_may}
use Rattle.octet_model.proofs.lemmas.Plays.{total, total_cons, total_step}
use Rattle.octet_model.proofs.lemmas.Splits.{accesses_split, marks_split, length_parts}

-- where every state that is reached keeps something that bounds its events, the lowest front of as many steps comes to its end
module _ (behavior : Behavior) (Kept : PlainState → Type 0) (most : ℕ)
    (kept : (s : PlainState) (t : ℕ) → IsTrue (may_step behavior s t) → Kept s → Kept (step behavior s t))
    (bound : (s : PlainState) → Kept s → total s.journals ≤ most) where
  pub comes_to_end : (steps : ℕ) (s : PlainState) → Kept s → most ≤ total s.journals + steps → lowest behavior (after behavior s (lowest_front behavior steps s)) ≡ None
  comes_to_end zero s holds enough = go (lowest behavior s) refl
    where
      go : (o : Option ℕ) → lowest behavior s ≡ o → lowest behavior s ≡ None
      go None is = is
      go (Some t) is =
          let may = lowest_may behavior s t is in
          absurd (omega (arith, bound (step behavior s t) (kept s t may holds), total_step behavior s t may))
  comes_to_end (suc steps) s holds enough =
      by_lowest (lowest behavior s) refl (λ t may. comes_to_end steps (step behavior s t) (kept s t may holds) (omega (arith, total_step behavior s t may)))
    where
      by_lowest : (o : Option ℕ) → lowest behavior s ≡ o
          → ((t : ℕ) → IsTrue (may_step behavior s t) → lowest behavior (after behavior (step behavior s t) (lowest_front behavior steps (step behavior s t))) ≡ None)
          → lowest behavior (after behavior s (go_on (lowest behavior s) (λ t. lowest_front behavior steps (step behavior s t)))) ≡ None
      by_lowest None is next = rw is is
      by_lowest (Some t) is next = rw is (next t (lowest_may behavior s t is))

-- what is next by a log: its due mark, or the access that is demanded, where the log has one left
abbrev pub IsNext : Option Mark → AccessOrEnd → Bool → Operation → Type 0
IsNext due demand left (MakeMark mark) = due ≡ Some mark
IsNext due demand left (MakeRead object) = (demand ≡ ToRead object) × (left ≡ true)
IsNext due demand left (MakeWrite object value) = (demand ≡ ToWrite object value) × (left ≡ true)
IsNext due demand left (MakeUpdate object change) = ((amount : ℕ) × (demand ≡ ToBump object amount) × (change ≡ added amount)) × (left ≡ true)

same_operation : (v w : Operation) → Wants v ≡ Wants w → v ≡ w
same_operation v w is = cc

pub is_next : (due : Option Mark) (d : AccessOrEnd) (a m : Bool) (o : Operation) → mark_first due (next_access d a m) ≡ Wants o → IsNext due d a o
is_next (Some mark) d a m o is = subst (IsNext (Some mark) d a) (same_operation (MakeMark mark) o is) refl
is_next None (ToRead object) true m o is = subst (IsNext None (ToRead object) true) (same_operation (MakeRead object) o is) (refl, refl)
is_next None (ToWrite object value) true m o is = subst (IsNext None (ToWrite object value) true) (same_operation (MakeWrite object value) o is) (refl, refl)
is_next None (ToBump object amount) true m o is = subst (IsNext None (ToBump object amount) true) (same_operation (MakeUpdate object (added amount)) o is) ((amount, refl, refl), refl)
is_next None (ToRead object) false m o is = absurd cc
is_next None (ToWrite object value) false m o is = absurd cc
is_next None (ToBump object amount) false m o is = absurd cc
is_next None (ToEnd end) true m o is = absurd cc
is_next None (ToEnd end) false true o is = absurd cc
is_next None (ToEnd end) false false o is = absurd cc

pub next_by : (commands : List Command) (c : Configuration) (log : ThreadLog) (journal : List Event) (o : Operation) → next_by_log commands c log journal ≡ Wants o
    → IsNext (due_mark (slice_get log.marks (mark_count journal)) (gap_after 0 journal)) (demanded commands (configuration_after commands c journal)) (nat_lt (access_count journal) log.accesses) o
next_by commands c log journal o is =
    is_next (due_mark (slice_get log.marks (mark_count journal)) (gap_after 0 journal)) (demanded commands (configuration_after commands c journal)) (nat_lt (access_count journal) log.accesses) (nat_lt (mark_count journal) (length log.marks)) o is

pub due_within : (marks : List Gapped) (k gap : ℕ) (mark : Mark) → due_mark (slice_get marks k) gap ≡ Some mark → k < length marks
due_within marks k gap mark is = go (slice_get marks k) refl is
  where
    go : (o : Option Gapped) → slice_get marks k ≡ o → due_mark o gap ≡ Some mark → k < length marks
    go None at is = absurd cc
    go (Some g) at is = slice_get_within marks k g at

-- a journal within its log
pub record IsWithin (log : ThreadLog) (journal : List Event) : Type 0 where
  pub accesses : access_count journal ≤ log.accesses
  pub marks : mark_count journal ≤ length log.marks

pub within_more : (commands : List Command) (c : Configuration) (log : ThreadLog) (journal : List Event) (heap : List ℕ) (o : Operation)
    → next_by_log commands c log journal ≡ Wants o → IsWithin log journal → IsWithin log (journal ++ event_made o heap ∷ [])
within_more commands c log journal heap o is within =
    go o (next_by commands c log journal o is)
  where
    more : (e : Event) → access_count (e ∷ []) ≡ 1 → mark_count (e ∷ []) ≡ 0 → nat_lt (access_count journal) log.accesses ≡ true → IsWithin log (journal ++ e ∷ [])
    more e one none left = record {
      accesses = omega (arith, accesses_split journal (e ∷ []), one, ltb-true (access_count journal) log.accesses left);
      marks = omega (arith, marks_split journal (e ∷ []), none, within.marks);
    }

    go : (o : Operation) → IsNext (due_mark (slice_get log.marks (mark_count journal)) (gap_after 0 journal)) (demanded commands (configuration_after commands c journal)) (nat_lt (access_count journal) log.accesses) o → IsWithin log (journal ++ event_made o heap ∷ [])
    go (MakeMark mark) due = record {
      accesses = omega (arith, accesses_split journal (Marked mark ∷ []), within.accesses);
      marks = omega (arith, marks_split journal (Marked mark ∷ []), due_within log.marks (mark_count journal) (gap_after 0 journal) mark due);
    }
    go access next = more (event_made access heap) refl refl next.1

total_within : (js : Journals) (log : List ThreadLog) → length js ≡ length log → ((t : ℕ) → IsWithin (thread_log_of log t) (journal_of js t)) → total js ≤ event_total log
total_within [] log same within = omega arith
total_within (j ∷ js) [] same within = absurd (omega arith)
total_within (j ∷ js) (l ∷ log) same within =
    omega (arith, total_cons j js, sum_by-cons (λ (thread : ThreadLog). thread.accesses + length thread.marks) l log, length_parts j, (within 0).accesses, (within 0).marks, total_within js log (omega arith) (λ t. within (suc t)))

-- as many journals as logs, each within its log
record AllWithin (log : List ThreadLog) (s : PlainState) : Type 0 where
  as_many : length s.journals ≡ length log
  each : (t : ℕ) → IsWithin (thread_log_of log t) (journal_of s.journals t)

-- after a step the thread's journal has one event more
module _ (behavior : Behavior) (s : PlainState) (t : ℕ) (may : IsTrue (may_step behavior s t)) where
  -- what holds of each journal, and of the thread's with its event, holds after the step
  pub each_journal : (P : ℕ → List Event → Type 0) → ((u : ℕ) → P u (journal_of s.journals u))
      → ((o : Operation) → Makes behavior s t o → P t (journal_of s.journals t ++ event_made o s.heap ∷ []))
      → (u : ℕ) → P u (journal_of (step behavior s t).journals u)
  each_journal P before new u =
      elim (cases_eq u t) [
        | inl same ↦
            let m = what_it_makes behavior s t may in
            let is = ap (λ (js : Journals). journal_of js t) m.1.appends ∙ same_journal s.journals t (event_made m.0 s.heap) m.1.within in
            let here : P t (journal_of (step behavior s t).journals t) = subst (λ (j : List Event). P t j) (sym is) (new m.0 m.1) in
            subst (λ (n : ℕ). P n (journal_of (step behavior s t).journals n)) (sym same) here
        | inr differ ↦ subst (λ (j : List Event). P u j) (sym (other_step behavior s t u differ)) (before u)
      ]

module _ (script : Script) (log : List ThreadLog) where
  step_within : (s : PlainState) (t : ℕ) → IsTrue (may_step (by_log script log) s t) → AllWithin log s → AllWithin log (step (by_log script log) s t)
  step_within s t may within =
      record {
        as_many = as_many_step (by_log script log) s t ∙ within.as_many;
        each = each_journal (by_log script log) s t may (λ u j. IsWithin (thread_log_of log u) j) within.each
            (λ o m. within_more (commands_of script t) (starting_configuration script.fuel) (thread_log_of log t) (journal_of s.journals t) s.heap o m.wanted (within.each t));
      }

-- after the lowest order no thread may step
pub lowest_order_is_full : (script : Script) (log : List ThreadLog) → length script.threads ≡ length log
    → lowest (by_log script log) (state_after script log (lowest_order script log)) ≡ None
lowest_order_is_full script log same =
    comes_to_end (by_log script log) (AllWithin log) (event_total log) (step_within script log) (λ s within. total_within s.journals log within.as_many within.each)
    (event_total log) (opening_state script)
    (record {
      as_many = length-map script.threads (λ (c : List Command). []) ∙ same;
      each = λ u. subst (λ (j : List Event). IsWithin (thread_log_of log u) j) (sym (no_journal script.threads u)) (record { accesses = omega arith; marks = omega arith });
    })
    (omega arith)

module _ (behavior : Behavior) where
  -- the computed front is the lowest one, where no thread may step after it
  pub is_lowest : (steps : ℕ) (s : PlainState) → lowest behavior (after behavior s (lowest_front behavior steps s)) ≡ None → IsLowestFront behavior s (lowest_front behavior steps s)
  is_lowest zero s none = none_at_all behavior s none
  is_lowest (suc steps) s none = go (lowest behavior s) refl none (λ t. is_lowest steps (step behavior s t))
    where
      rest : ℕ → List ℕ
      rest = λ t. lowest_front behavior steps (step behavior s t)

      go : (o : Option ℕ) → lowest behavior s ≡ o → lowest behavior (after behavior s (go_on (lowest behavior s) rest)) ≡ None
          → ((t : ℕ) → lowest behavior (after behavior (step behavior s t) (rest t)) ≡ None → IsLowestFront behavior (step behavior s t) (rest t))
          → IsLowestFront behavior s (go_on (lowest behavior s) rest)
      go None is none next = subst (λ (o : Option ℕ). IsLowestFront behavior s (go_on o rest)) (sym is) (none_at_all behavior s is)
      go (Some t) is none next =
          let none' = subst (λ (o : Option ℕ). lowest behavior (after behavior s (go_on o rest)) ≡ None) is none in
          let below : (lower : ℕ) → lower < t → IsFalse (may_step behavior s lower) = none_lower behavior s t is in
          let whole : IsLowestFront behavior s (go_on (Some t) rest) = (lowest_may behavior s t is, below, next t none') in
          subst (λ (o : Option ℕ). IsLowestFront behavior s (go_on o rest)) (sym is) whole

pub lowest_order_is_lowest : (script : Script) (log : List ThreadLog) → length script.threads ≡ length log
    → IsLowestFront (by_log script log) (opening_state script) (lowest_order script log)
lowest_order_is_lowest script log same = is_lowest (by_log script log) (event_total log) (opening_state script) (lowest_order_is_full script log same)

-- a play makes no more than the journals have
record IsPartOf (journals : Journals) (s : PlainState) : Type 0 where
  as_many : length s.journals ≡ length journals
  each : (t : ℕ) → length (journal_of s.journals t) ≤ length (journal_of journals t)

next_within : (j : List Event) (k : ℕ) (o : Operation) → next_in (slice_get j k) ≡ Wants o → k < length j
next_within j k o wanted = elim (cases_lt k (length j)) [ inl lt ↦ lt | inr past ↦ absurd (let none = ap next_in (slice_get_past j k past) in cc) ]

total_part : (made journals : Journals) → length made ≡ length journals → ((t : ℕ) → length (journal_of made t) ≤ length (journal_of journals t)) → total made ≤ total journals
total_part [] journals same less = omega arith
total_part (m ∷ made) [] same less = absurd (omega arith)
total_part (m ∷ made) (j ∷ journals) same less =
    let head : length m ≤ length j = less 0 in
    omega (arith, total_cons m made, total_cons j journals, head, total_part made journals (omega arith) (λ t. less (suc t)))

step_part : (journals : Journals) (s : PlainState) (t : ℕ) → IsTrue (may_step (by_journals journals) s t) → IsPartOf journals s → IsPartOf journals (step (by_journals journals) s t)
step_part journals s t may part =
    record {
      as_many = as_many_step (by_journals journals) s t ∙ part.as_many;
      each = each_journal (by_journals journals) s t may (λ u j. length j ≤ length (journal_of journals u)) part.each
          (λ o m. omega (arith, length-append (journal_of s.journals t) (event_made o s.heap ∷ []), next_within (journal_of journals t) (length (journal_of s.journals t)) o m.wanted));
    }

-- after the lowest play no thread may step
pub lowest_play_is_lowest : (heap : List ℕ) (journals : Journals) → IsLowestFront (by_journals journals) (starting_state heap journals) (lowest_play heap journals)
lowest_play_is_lowest heap journals =
    is_lowest (by_journals journals) (total journals) (starting_state heap journals)
    (comes_to_end (by_journals journals) (IsPartOf journals) (total journals) (step_part journals) (λ s part. total_part s.journals journals part.as_many part.each)
    (total journals) (starting_state heap journals)
    (record { as_many = length-map journals (λ (j : List Event). []); each = λ t. omega (arith, ap (λ (j : List Event). length j) (no_journal journals t)) })
    (omega arith))

-- there is only one lowest front
pub one_lowest : (behavior : Behavior) (front other : List ℕ) (s : PlainState) → IsLowestFront behavior s front → IsLowestFront behavior s other → front ≡ other
one_lowest behavior [] [] s p q = refl
one_lowest behavior [] (u ∷ other) s p q = absurd (let none = p u in let may = q.0 in cc)
one_lowest behavior (t ∷ front) [] s p q = absurd (let none = q t in let may = p.0 in cc)
one_lowest behavior (t ∷ front) (u ∷ other) s p q =
    elim (cases_lt t u) [
      | inl below ↦ absurd (let none = q.1 t below in let may = p.0 in cc)
      | inr above ↦ elim (cases_lt u t) [
        | inl below ↦ absurd (let none = p.1 u below in let may = q.0 in cc)
        | inr above' ↦
            let same : t ≡ u = omega arith in
            let q' = subst (λ (n : ℕ). IsLowestFront behavior (step behavior s n) other) (sym same) q.2 in
            ap (λ (l : List ℕ). t ∷ l) (one_lowest behavior front other (step behavior s t) p.2 q') ∙ ap (λ (n : ℕ). n ∷ other) same
      ]
    ]

pub lowest_is_front : (behavior : Behavior) (front : List ℕ) (s : PlainState) → IsLowestFront behavior s front → IsFront behavior s front
lowest_is_front behavior [] s low = tt
lowest_is_front behavior (t ∷ front) s low = (low.0, lowest_is_front behavior front (step behavior s t) low.2)

front_split : (behavior : Behavior) (front rest : List ℕ) (s : PlainState) → IsFront behavior s (front ++ rest) → IsFront behavior (after behavior s front) rest
front_split behavior [] rest s is = is
front_split behavior (t ∷ front) rest s is = front_split behavior front rest (step behavior s t) is.1

-- where the journals of one lawful order are ordered, the lowest order is a lawful order
pub lowest_order_is_lawful : (script : Script) (log : List ThreadLog) (order : List ℕ)
    → IsLawfulOrder script log order → IsOrdered (journals_after script log order) → IsLawfulOrder script log (lowest_order script log)
lowest_order_is_lawful script log order lawful ordered =
    let V = by_log script log in
    let low = lowest_order script log in
    let s = opening_state script in
    let front = lowest_is_front V low s (lowest_order_is_lowest script log lawful.0) in
    let on = front_leads_on V (starting_heap script) script.threads order low lawful.1 ordered front in
    let none : on.0 ≡ [] = none_may V (after V s low) on.0 (lowest_order_is_full script log lawful.0) (front_split V low on.0 s on.1.0) in
    let same : low ++ on.0 ≡ low = ap (λ (rest : List ℕ). low ++ rest) none ∙ append-nil low in
    (lawful.0, subst (λ (o : List ℕ). IsOrder V s o) same on.1)
