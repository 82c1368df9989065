-- What is next by a log of journals depends on the next event alone.
use Rattle.std.proofs.Common.{◌≡◌, ℕ, suc, Bool, true, false, nat_lt, cond, List, ◌∷◌, ◌++◌, length, Option, Some, None, slice_get, refl, sym, ap, ◌∙◌, arith}
use Rattle.std.proofs.lemmas.Bool.{eq-eqb, lt-ltb, le-ltb}
use Rattle.std.proofs.lemmas.Option.{slice_get_past}
use Rattle.octet_model.specs.declared.command.Command.{Command}
use Rattle.octet_model.specs.declared.event.Event.{Event}
use Rattle.octet_model.specs.declared.event.Event.TheVariants.{Read, Write, Update, Marked}
use Rattle.octet_model.specs.declared.event.Mark.{Mark}
use Rattle.octet_model.specs.declared.log.Gapped.{Gapped}
use Rattle.octet_model.specs.Thread.{Configuration, AccessOrEnd, ToRead, ToWrite, ToBump, ToEnd, demanded, configuration_after, FitsFrom}
use Rattle.octet_model.specs.Journals.{access_count, mark_count, gap_after, gapped_marks, log_of_journal, due_mark, next_access, mark_first, next_by_log}
use Rattle.octet_model.specs.Machine.{PlainState, may_proceed}
use Rattle.octet_model.proofs.lemmas.LogsOfJournals.{next_gapped, not_due_mark}
use Rattle.octet_model.proofs.lemmas.Splits.{accesses_split, length-gapped_marks, fits_split}

-- the mark that an event is
abbrev mark_in : Event → Option Mark
mark_in (Marked mark) = Some mark
mark_in _ = None

first_due : (gap : ℕ) (e : Event) (post : List Event) → due_mark (slice_get (gapped_marks gap (e ∷ post)) 0) gap ≡ mark_in e
first_due gap (Marked mark) post = ap (λ (b : Bool). cond b (Some mark) None) (eq-eqb gap gap refl)
first_due gap (Read object value) post = not_due_mark gap (suc gap) post (omega arith)
first_due gap (Write object value) post = not_due_mark gap (suc gap) post (omega arith)
first_due gap (Update object before after) post = not_due_mark gap (suc gap) post (omega arith)

-- after a whole journal nothing is next
nothing_next : (s : PlainState) (d : AccessOrEnd) (m : Bool) → may_proceed s (next_access d false m) ≡ false
nothing_next s (ToRead object) m = refl
nothing_next s (ToWrite object value) m = refl
nothing_next s (ToBump object amount) m = refl
nothing_next s (ToEnd end) true = refl
nothing_next s (ToEnd end) false = refl

abbrev IsAccess : AccessOrEnd → Type 0
IsAccess (ToEnd end) = ⊥
IsAccess _ = Unit {0}

either_access : (d : AccessOrEnd) (m m' : Bool) → IsAccess d → next_access d true m ≡ next_access d true m'
either_access (ToRead object) m m' is = refl
either_access (ToWrite object value) m m' is = refl
either_access (ToBump object amount) m m' is = refl
either_access (ToEnd end) m m' is = absurd is

module _ (commands : List Command) (c : Configuration) where
  -- what is next, from the mark that is due and whether an access is left
  by_parts : (pre journal : List Event) (due : Option Mark) (left : Bool) → due_mark (slice_get (gapped_marks 0 journal) (mark_count pre)) (gap_after 0 pre) ≡ due
      → nat_lt (access_count pre) (access_count journal) ≡ left
      → next_by_log commands c (log_of_journal journal) pre ≡ mark_first due (next_access (demanded commands (configuration_after commands c pre)) left (nat_lt (mark_count pre) (length (gapped_marks 0 journal))))
  by_parts pre journal due left p q =
      ap (λ (o : Option Mark). mark_first o (next_access (demanded commands (configuration_after commands c pre)) (nat_lt (access_count pre) (access_count journal)) (nat_lt (mark_count pre) (length (gapped_marks 0 journal))))) p
      ∙ ap (λ (b : Bool). mark_first due (next_access (demanded commands (configuration_after commands c pre)) b (nat_lt (mark_count pre) (length (gapped_marks 0 journal))))) q

  due_next : (pre post : List Event) (e : Event) → due_mark (slice_get (gapped_marks 0 (pre ++ e ∷ post)) (mark_count pre)) (gap_after 0 pre) ≡ mark_in e
  due_next pre post e = ap (λ (o : Option Gapped). due_mark o (gap_after 0 pre)) (next_gapped 0 pre (e ∷ post)) ∙ first_due (gap_after 0 pre) e post

  -- whatever comes after the next event
  module _ (pre post other : List Event) where
    by_access : (e : Event) → mark_in e ≡ None → access_count (e ∷ post) ≡ suc (access_count post) → access_count (e ∷ other) ≡ suc (access_count other)
        → IsAccess (demanded commands (configuration_after commands c pre))
        → next_by_log commands c (log_of_journal (pre ++ e ∷ other)) pre ≡ next_by_log commands c (log_of_journal (pre ++ e ∷ post)) pre
    by_access e none one one' demands =
        by_parts pre (pre ++ e ∷ other) None true (due_next pre other e ∙ none) (lt-ltb (access_count pre) (access_count (pre ++ e ∷ other)) (omega (arith, accesses_split pre (e ∷ other), one')))
        ∙ either_access (demanded commands (configuration_after commands c pre)) _ _ demands
        ∙ sym (by_parts pre (pre ++ e ∷ post) None true (due_next pre post e ∙ none) (lt-ltb (access_count pre) (access_count (pre ++ e ∷ post)) (omega (arith, accesses_split pre (e ∷ post), one))))

    pub same_next : (e : Event) → FitsFrom commands c (pre ++ e ∷ post) → next_by_log commands c (log_of_journal (pre ++ e ∷ other)) pre ≡ next_by_log commands c (log_of_journal (pre ++ e ∷ post)) pre
    same_next (Read object value) fits =
        let demands : demanded commands (configuration_after commands c pre) ≡ ToRead object = (fits_split commands c pre (Read object value ∷ post) fits).0 in
        by_access (Read object value) refl refl refl (rw demands tt)
    same_next (Write object value) fits =
        let demands : demanded commands (configuration_after commands c pre) ≡ ToWrite object value = (fits_split commands c pre (Write object value ∷ post) fits).0 in
        by_access (Write object value) refl refl refl (rw demands tt)
    same_next (Update object before after) fits =
        let fit = (fits_split commands c pre (Update object before after ∷ post) fits).0 in
        let demands : demanded commands (configuration_after commands c pre) ≡ ToBump object fit.0 = fit.1 in
        by_access (Update object before after) refl refl refl (rw demands tt)
    same_next (Marked mark) fits =
        by_parts pre (pre ++ Marked mark ∷ other) (Some mark) _ (due_next pre other (Marked mark)) refl
        ∙ sym (by_parts pre (pre ++ Marked mark ∷ post) (Some mark) _ (due_next pre post (Marked mark)) refl)

  -- and after the last event nothing is
  pub none_next : (s : PlainState) (journal : List Event) → may_proceed s (next_by_log commands c (log_of_journal journal) journal) ≡ false
  none_next s journal =
      let none = slice_get_past (gapped_marks 0 journal) (mark_count journal) (omega (arith, length-gapped_marks 0 journal)) in
      ap (may_proceed s) (by_parts journal journal None false (ap (λ (o : Option Gapped). due_mark o (gap_after 0 journal)) none) (le-ltb (access_count journal) (access_count journal) (omega arith)))
      ∙ nothing_next s (demanded commands (configuration_after commands c journal)) (nat_lt (mark_count journal) (length (gapped_marks 0 journal)))
