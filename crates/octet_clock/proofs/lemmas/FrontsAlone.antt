-- A log alone: what is next for its threads, and how far its fronts lead.
use Rattle.std.proofs.Common.{◌≡◌, ℕ, suc, ◌+◌, ◌≤◌, Bool, true, false, nat_lt, List, [], ◌∷◌, ◌++◌, length, Option, Some, None, IsTrue, slice_get, refl, sym, ◌∙◌, subst, arith}
use Rattle.std.proofs.lemmas.Bool.{ltb-true}
use Rattle.std.proofs.lemmas.List.{length-map}
use Rattle.std.proofs.lemmas.List.Sums.{sum_by-cons}
use Rattle.octet_model.specs.declared.event.Event.{Event}
use Rattle.octet_model.specs.declared.event.Event.TheVariants.{Marked}
use Rattle.octet_model.specs.declared.event.Mark.{Mark}
use Rattle.octet_model.specs.declared.log.ThreadLog.{ThreadLog}
use Rattle.octet_model.specs.Machine.{Journals, journal_of, PlainState, Operation, MakeMark, MakeRead, MakeWrite, MakeUpdate, Wants, Behavior, event_made, may_step, step, after, IsFront}
use Rattle.octet_model.specs.Journals.{access_count, mark_count, gap_after, due_mark, mark_first}
use Rattle.octet_model.specs.Orders.{thread_log_of, event_total}
use Rattle.octet_model.proofs.lemmas.Steps.{as_many_step}
use Rattle.octet_model.proofs.lemmas.Fronts.{no_journal}
use Rattle.octet_model.proofs.lemmas.LogsOfJournals.{as_many_after}
use Rattle.octet_model.proofs.lemmas.LowestFronts.{IsWithin, due_within, each_journal}
use Rattle.octet_model.proofs.lemmas.Plays.{total, total_cons, total_after, total_none}
use Rattle.octet_model.proofs.lemmas.Splits.{accesses_split, marks_split, length_parts}
use Rattle.octet_clock.specs.Untied.{any_access, by_log_alone, opening_alone}

-- what is next by a log alone: its due mark, or else an access, where one is left
abbrev pub IsNextAlone : Option Mark → Bool → Operation → Type 0
IsNextAlone due left (MakeMark mark) = due ≡ Some mark
IsNextAlone due left (MakeRead object) = (due ≡ None) × (left ≡ true)
IsNextAlone due left (MakeWrite object value) = ⊥
IsNextAlone due left (MakeUpdate object change) = ⊥

pub next_alone : (due : Option Mark) (left mark_left : Bool) (o : Operation) → mark_first due (any_access left mark_left) ≡ Wants o → IsNextAlone due left o
next_alone (Some mark) left mark_left o is = let same : MakeMark mark ≡ o = cc in subst (λ (x : Operation). IsNextAlone (Some mark) left x) same refl
next_alone None true mark_left o is = let same : MakeRead 0 ≡ o = cc in subst (λ (x : Operation). IsNextAlone None true x) same (refl, refl)
next_alone None false true o is = absurd cc
next_alone None false false o is = absurd cc

module _ (log : List ThreadLog) where
  abbrev V : Behavior
  V = by_log_alone log

  abbrev start : PlainState
  start = opening_alone log

  within_more : (t : ℕ) (j : List Event) (heap : List ℕ) (o : Operation) → V t j ≡ Wants o → IsWithin (thread_log_of log t) j → IsWithin (thread_log_of log t) (j ++ event_made o heap ∷ [])
  within_more t j heap o is within =
      go o (next_alone (due_mark (slice_get own.marks (mark_count j)) (gap_after 0 j)) (nat_lt (access_count j) own.accesses) (nat_lt (mark_count j) (length own.marks)) o is)
    where
      own : ThreadLog
      own = thread_log_of log t

      go : (o : Operation) → IsNextAlone (due_mark (slice_get (thread_log_of log t).marks (mark_count j)) (gap_after 0 j)) (nat_lt (access_count j) (thread_log_of log t).accesses) o → IsWithin (thread_log_of log t) (j ++ event_made o heap ∷ [])
      go (MakeMark mark) next = record {
        accesses = omega (arith, accesses_split j (Marked mark ∷ []), within.accesses);
        marks = omega (arith, marks_split j (Marked mark ∷ []), due_within (thread_log_of log t).marks (mark_count j) (gap_after 0 j) mark next);
      }
      go (MakeRead object) next = record {
        accesses = omega (arith, accesses_split j (event_made (MakeRead object) heap ∷ []), ltb-true (access_count j) (thread_log_of log t).accesses next.1);
        marks = omega (arith, marks_split j (event_made (MakeRead object) heap ∷ []), within.marks);
      }
      go (MakeWrite object value) next = absurd next
      go (MakeUpdate object change) next = absurd next

  record AllWithin (s : PlainState) : Type 0 where
    many : length s.journals ≡ length log
    each : (t : ℕ) → IsWithin (thread_log_of log t) (journal_of s.journals t)

  step_within : (s : PlainState) (t : ℕ) → IsTrue (may_step V s t) → AllWithin s → AllWithin (step V s t)
  step_within s t may within = record {
    many = as_many_step V s t ∙ within.many;
    each = each_journal V s t may (λ u j. IsWithin (thread_log_of log u) j) within.each (λ o m. within_more t (journal_of s.journals t) s.heap o m.wanted (within.each t));
  }

  stay_within : (front : List ℕ) (s : PlainState) → IsFront V s front → AllWithin s → AllWithin (after V s front)
  stay_within [] s is within = within
  stay_within (t ∷ front) s is within = stay_within front (step V s t) is.1 (step_within s t is.0 within)

  starts_within : AllWithin start
  starts_within = record {
    many = length-map log (λ (l : ThreadLog). []);
    each = λ t. subst (λ (j : List Event). IsWithin (thread_log_of log t) j) (sym (no_journal log t)) (record { accesses = omega arith; marks = omega arith });
  }

  pub all_within : (front : List ℕ) → IsFront V start front → (t : ℕ) → IsWithin (thread_log_of log t) (journal_of (after V start front).journals t)
  all_within front is t = (stay_within front start is starts_within).each t

total_within : (js : Journals) (log : List ThreadLog) → length js ≡ length log → ((t : ℕ) → IsWithin (thread_log_of log t) (journal_of js t)) → total js ≤ event_total log
total_within [] log many within = omega arith
total_within (j ∷ js) [] many within = absurd (omega arith)
total_within (j ∷ js) (l ∷ log) many within =
    omega (arith, total_cons j js, sum_by-cons (λ (thread : ThreadLog). thread.accesses + length thread.marks) l log, length_parts j, (within 0).accesses, (within 0).marks, total_within js log (omega arith) (λ t. within (suc t)))

-- a front has no more steps than the log has events
pub front_is_short : (log : List ThreadLog) (front : List ℕ) → IsFront (by_log_alone log) (opening_alone log) front → length front ≤ event_total log
front_is_short log front is =
    let V = by_log_alone log in
    let last = after V (opening_alone log) front in
    let many : length last.journals ≡ length log = as_many_after V front (opening_alone log) ∙ length-map log (λ (l : ThreadLog). []) in
    omega (arith, total_after V front (opening_alone log) is, total_none log, total_within last.journals log many (all_within log front is))
