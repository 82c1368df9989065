-- The journals of a lawful order have the log that the order follows, and fit its plan.
use Rattle.std.proofs.Common.{◌≡◌, ℕ, suc, ◌<◌, ◌≤◌, inl, inr, Bool, true, false, nat_lt, ◌==◌, cond, List, [], ◌∷◌, ◌++◌, length, Option, Some, None, IsTrue, slice_get, slice_index, refl, sym, ap, ◌∙◌, subst, arith, append-nil, append_assoc, length-append}
use Rattle.std.proofs.lemmas.Bool.{cases_lt, ltb-true, lt-ltb, eqb-true}
use Rattle.std.proofs.lemmas.List.{length-map}
use Rattle.octet_model.specs.declared.command.Command.{Command}
use Rattle.octet_model.specs.declared.event.Event.{Event}
use Rattle.octet_model.specs.declared.event.Event.TheVariants.{Marked}
use Rattle.octet_model.specs.declared.event.Mark.{Mark}
use Rattle.octet_model.specs.declared.log.Gapped.{Gapped}
use Rattle.octet_model.specs.declared.log.ThreadLog.{ThreadLog}
use Rattle.octet_model.specs.declared.outcome.End.{End}
use Rattle.octet_model.specs.Thread.{Configuration, AccessOrEnd, ToRead, ToWrite, ToBump, ToEnd, demanded, configuration_after, starting_configuration, FitsFrom, FitsToEnd}
use Rattle.octet_model.specs.Journals.{access_count, mark_count, gap_after, gapped_marks, log_of_journal, log_of, due_mark, next_access, mark_first, next_by_log}
use Rattle.octet_model.specs.Machine.{Journals, journal_of, PlainState, Operation, MakeMark, MakeUpdate, Wants, Finished, event_made, may_step, step, after, IsFront}
use Rattle.octet_model.specs.Plans.{Plan, commands_of, thread_log_of, by_log, opening_state, journals_after, IsLawfulOrder, FitsPlan}
use Rattle.octet_model.specs.Orders.{plan_of}
use Rattle.octet_model.specs.Laws.{LawfulOrderHasItsLog, LawfulOrderFits}
use Rattle.octet_model.proofs.lemmas.Fronts.{no_journal}
use Rattle.octet_model.proofs.lemmas.Splits.{accesses_split, gapped_marks_split, length-gapped_marks, fits_join}
use Rattle.octet_model.proofs.lemmas.Lists.{slice_get_split}
use Rattle.octet_model.proofs.lemmas.LogsOfJournals.{as_many_after}
use Rattle.octet_model.proofs.lemmas.LowestFronts.{IsNext, next_by, each_journal}

-- a thread that is finished demands its end, and no access and no mark of its log is left
pub record IsFinished (d : AccessOrEnd) (a m : Bool) : Type 0 where
  pub end : End
  pub demands : d ≡ ToEnd end
  pub no_access : a ≡ false
  pub no_mark : m ≡ false

pub by_finish : (o : Option Mark) (d : AccessOrEnd) (a m : Bool) → mark_first o (next_access d a m) ≡ Finished → IsFinished d a m
by_finish (Some k) d a m is = absurd cc
by_finish None (ToRead object) true m is = absurd cc
by_finish None (ToRead object) false m is = absurd cc
by_finish None (ToWrite object value) true m is = absurd cc
by_finish None (ToWrite object value) false m is = absurd cc
by_finish None (ToBump object amount) true m is = absurd cc
by_finish None (ToBump object amount) false m is = absurd cc
by_finish None (ToEnd end) true m is = absurd cc
by_finish None (ToEnd end) false true is = absurd cc
by_finish None (ToEnd end) false false is = record { end = end; demands = refl; no_access = refl; no_mark = refl }

-- the mark that is due is the first of what is left, with its gap
pub due_is_first : (rest : List Gapped) (gap : ℕ) (mark : Mark) → due_mark (slice_get rest 0) gap ≡ Some mark
    → (more : List Gapped) × (rest ≡ record { gap = gap; mark = mark } ∷ more)
due_is_first [] gap mark is = absurd cc
due_is_first (first ∷ more) gap mark is = go (first.gap == gap) refl is
  where
    go : (b : Bool) → (first.gap == gap) ≡ b → cond b (Some first.mark) None ≡ Some mark → (more' : List Gapped) × (first ∷ more ≡ record { gap = gap; mark = mark } ∷ more')
    go false not is = absurd cc
    go true same is =
        let gaps : first.gap ≡ gap = eqb-true first.gap gap same in
        let marks : first.mark ≡ mark = cc in
        let is : first ≡ record { gap = gap; mark = mark } = ap (λ (n : ℕ). record { gap = n; mark = first.mark }) gaps ∙ ap (λ (m : Mark). record { gap = gap; mark = m }) marks in
        (more, ap (λ (g : Gapped). g ∷ more) is)

-- the journal has the first accesses and marks of the log, and fits the commands
record IsBegun (commands : List Command) (c : Configuration) (log : ThreadLog) (journal : List Event) : Type 0 where
  accesses : access_count journal ≤ log.accesses
  rest : List Gapped
  marks : log.marks ≡ gapped_marks 0 journal ++ rest
  fits : FitsFrom commands c journal

module _ (commands : List Command) (c : Configuration) (log : ThreadLog) (journal : List Event) (heap : List ℕ) where
  abbrev due : Option Mark
  due = due_mark (slice_get log.marks (mark_count journal)) (gap_after 0 journal)

  abbrev demand : AccessOrEnd
  demand = demanded commands (configuration_after commands c journal)

  abbrev access_left : Bool
  access_left = nat_lt (access_count journal) log.accesses

  abbrev mark_left : Bool
  mark_left = nat_lt (mark_count journal) (length log.marks)

  -- one more access, that the configuration demands
  more_access : (e : Event) → access_count (e ∷ []) ≡ 1 → gapped_marks (gap_after 0 journal) (e ∷ []) ≡ [] → FitsFrom commands (configuration_after commands c journal) (e ∷ [])
      → access_left ≡ true → IsBegun commands c log journal → IsBegun commands c log (journal ++ e ∷ [])
  more_access e one none fits left begun =
      record {
        accesses = omega (arith, accesses_split journal (e ∷ []), one, ltb-true (access_count journal) log.accesses left);
        rest = begun.rest;
        marks = begun.marks ∙ ap (λ (marks : List Gapped). marks ++ begun.rest) (sym (gapped_marks_split 0 journal (e ∷ []) ∙ ap (λ (marks : List Gapped). gapped_marks 0 journal ++ marks) none ∙ append-nil (gapped_marks 0 journal)));
        fits = fits_join commands c journal (e ∷ []) begun.fits fits;
      }

  more_mark : (mark : Mark) → due ≡ Some mark → IsBegun commands c log journal → IsBegun commands c log (journal ++ Marked mark ∷ [])
  more_mark mark is begun =
      let made = gapped_marks 0 journal in
      let one : Gapped = record { gap = gap_after 0 journal; mark = mark } in
      let next : slice_get log.marks (mark_count journal) ≡ slice_get begun.rest 0 =
      ap (λ (marks : List Gapped). slice_get marks (mark_count journal)) begun.marks ∙ ap (slice_get (made ++ begun.rest)) (sym (length-gapped_marks 0 journal)) ∙ slice_get_split made begun.rest in
      let first = due_is_first begun.rest (gap_after 0 journal) mark (ap (λ (o : Option Gapped). due_mark o (gap_after 0 journal)) (sym next) ∙ is) in
      record {
        accesses = omega (arith, accesses_split journal (Marked mark ∷ []), begun.accesses);
        rest = first.0;
        marks =
            begun.marks ∙ ap (λ (rest : List Gapped). made ++ rest) first.1 ∙ sym (append_assoc made (one ∷ []) first.0)
            ∙ ap (λ (marks : List Gapped). marks ++ first.0) (sym (gapped_marks_split 0 journal (Marked mark ∷ [])));
        fits = fits_join commands c journal (Marked mark ∷ []) begun.fits tt;
      }

  begun_more : (o : Operation) → next_by_log commands c log journal ≡ Wants o → IsBegun commands c log journal → IsBegun commands c log (journal ++ event_made o heap ∷ [])
  begun_more o is begun = go o (next_by commands c log journal o is)
    where
      go : (o : Operation) → IsNext due demand access_left o → IsBegun commands c log (journal ++ event_made o heap ∷ [])
      go (MakeMark mark) next = more_mark mark next begun
      go (MakeUpdate object change) next =
          more_access (event_made (MakeUpdate object change) heap) refl refl ((next.0.0, next.0.1, ap (λ (f : ℕ → ℕ). f (slice_index heap object)) next.0.2), tt) next.1 begun
      go access next = more_access (event_made access heap) refl refl (next.0, tt) next.1 begun

  -- at the end the log is the journal's
  whole : next_by_log commands c log journal ≡ Finished → IsBegun commands c log journal → log_of_journal journal ≡ log
  whole is begun =
      let finished = by_finish due demand access_left mark_left is in
      let accesses : access_count journal ≡ log.accesses =
      elim (cases_lt (access_count journal) log.accesses) [
        | inl lt ↦ absurd (let left = lt-ltb (access_count journal) log.accesses lt in let none = finished.no_access in cc)
        | inr past ↦ omega (arith, begun.accesses)
      ] in
      let made = gapped_marks 0 journal in
      let none_left : begun.rest ≡ [] =
      elim (cases_lt (mark_count journal) (length log.marks)) [
        | inl lt ↦ absurd (let left = lt-ltb (mark_count journal) (length log.marks) lt in let none = finished.no_mark in cc)
        | inr past ↦ empty begun.rest (omega (arith, ap (λ (marks : List Gapped). length marks) begun.marks, length-append made begun.rest, length-gapped_marks 0 journal))
      ] in
      let marks : made ≡ log.marks = sym (begun.marks ∙ ap (λ (rest : List Gapped). made ++ rest) none_left ∙ append-nil made) in
      ap (λ (n : ℕ). record { accesses = n; marks = made }) accesses ∙ ap (λ (all : List Gapped). record { accesses = log.accesses; marks = all }) marks
    where
      empty : (rest : List Gapped) → length rest ≡ 0 → rest ≡ []
      empty [] none = refl
      empty (g ∷ rest) none = absurd (omega arith)

  fits_to_end : next_by_log commands c log journal ≡ Finished → IsBegun commands c log journal → FitsToEnd commands c journal
  fits_to_end is begun = let finished = by_finish due demand access_left mark_left is in (begun.fits, (finished.end, finished.demands))

logs_alike : (journals : Journals) (log : List ThreadLog) → length journals ≡ length log → ((t : ℕ) → t < length journals → log_of_journal (journal_of journals t) ≡ thread_log_of log t) → log_of journals ≡ log
logs_alike [] [] many alike = refl
logs_alike [] (l ∷ log) many alike = absurd (omega arith)
logs_alike (j ∷ journals) [] many alike = absurd (omega arith)
logs_alike (j ∷ journals) (l ∷ log) many alike =
    let first : log_of_journal j ≡ l = alike 0 (omega arith) in
    let rest : log_of journals ≡ log = logs_alike journals log (omega arith) (λ t lt. alike (suc t) (omega arith)) in
    cc

module _ (plan : Plan) (log : List ThreadLog) where
  abbrev AllBegun : PlainState → Type 0
  AllBegun s = (t : ℕ) → IsBegun (commands_of plan t) (starting_configuration plan.fuel) (thread_log_of log t) (journal_of s.journals t)

  step_begun : (s : PlainState) (t : ℕ) → IsTrue (may_step (by_log plan log) s t) → AllBegun s → AllBegun (step (by_log plan log) s t)
  step_begun s t may begun =
      each_journal (by_log plan log) s t may (λ u j. IsBegun (commands_of plan u) (starting_configuration plan.fuel) (thread_log_of log u) j) begun
      (λ o m. begun_more (commands_of plan t) (starting_configuration plan.fuel) (thread_log_of log t) (journal_of s.journals t) s.heap o m.wanted (begun t))

  front_begun : (front : List ℕ) (s : PlainState) → IsFront (by_log plan log) s front → AllBegun s → AllBegun (after (by_log plan log) s front)
  front_begun [] s is begun = begun
  front_begun (t ∷ front) s is begun = front_begun front (step (by_log plan log) s t) is.1 (step_begun s t is.0 begun)

  opening_begun : AllBegun (opening_state plan)
  opening_begun t =
      subst (λ (j : List Event). IsBegun (commands_of plan t) (starting_configuration plan.fuel) (thread_log_of log t) j) (sym (no_journal plan.threads t))
      (record { accesses = omega arith; rest = (thread_log_of log t).marks; marks = refl; fits = tt })

  module _ (order : List ℕ) (lawful : IsLawfulOrder plan log order) where
    all_begun : AllBegun (after (by_log plan log) (opening_state plan) order)
    all_begun = front_begun order (opening_state plan) lawful.1.0 opening_begun

    many : length (journals_after plan log order) ≡ length log
    many = as_many_after (by_log plan log) order (opening_state plan) ∙ length-map plan.threads (λ (c : List Command). []) ∙ lawful.0

    pub has_its_log : log_of (journals_after plan log order) ≡ log
    has_its_log =
        logs_alike (journals_after plan log order) log many
        (λ t lt. whole (commands_of plan t) (starting_configuration plan.fuel) (thread_log_of log t) (journal_of (journals_after plan log order) t) [] (lawful.1.1 t lt) (all_begun t))

    pub fits_plan : FitsPlan plan (journals_after plan log order)
    fits_plan t lt = fits_to_end (commands_of plan t) (starting_configuration plan.fuel) (thread_log_of log t) (journal_of (journals_after plan log order) t) [] (lawful.1.1 t lt) (all_begun t)

pub lawful_order_has_its_log : LawfulOrderHasItsLog
lawful_order_has_its_log script log order lawful = has_its_log (plan_of script) log order lawful

pub lawful_order_fits : LawfulOrderFits
lawful_order_fits script log order lawful = fits_plan (plan_of script) log order lawful
