-- What a journal in two parts has, by its parts.
use Rattle.std.proofs.Common.{◌≡◌, ℕ, suc, ◌+◌, cond, List, [], ◌∷◌, ◌++◌, length, refl, ap, arith}
use Rattle.octet_model.specs.declared.command.Command.{Command}
use Rattle.octet_model.specs.declared.event.Event.{Event}
use Rattle.octet_model.specs.declared.event.Event.TheVariants.{Read, Write, Update, Marked}
use Rattle.octet_model.specs.declared.log.Gapped.{Gapped}
use Rattle.octet_model.specs.Thread.{Configuration, past_demanded, configuration_after, FitsFrom}
use Rattle.octet_model.specs.Journals.{access_count, mark_count, gap_after, gapped_marks}
use Rattle.octet_model.specs.HappensBefore.{is_access}
use Rattle.octet_model.specs.Orders.{values_read}

-- an event is one access, or none
pub one_event : (event : Event) → access_count (event ∷ []) ≡ cond (is_access event) 1 0
one_event (Read object value) = refl
one_event (Write object value) = refl
one_event (Update object before after) = refl
one_event (Marked mark) = refl

pub accesses_split : (pre post : List Event) → access_count (pre ++ post) ≡ access_count pre + access_count post
accesses_split [] post = omega arith
accesses_split (Marked mark ∷ pre) post = accesses_split pre post
accesses_split (access ∷ pre) post = omega (arith, accesses_split pre post)

pub marks_split : (pre post : List Event) → mark_count (pre ++ post) ≡ mark_count pre + mark_count post
marks_split [] post = omega arith
marks_split (Marked mark ∷ pre) post = omega (arith, marks_split pre post)
marks_split (access ∷ pre) post = marks_split pre post

pub length_parts : (journal : List Event) → length journal ≡ access_count journal + mark_count journal
length_parts [] = omega arith
length_parts (Marked mark ∷ journal) = omega (arith, length_parts journal)
length_parts (access ∷ journal) = omega (arith, length_parts journal)

pub values_split : (pre post : List Event) → values_read (pre ++ post) ≡ values_read pre ++ values_read post
values_split [] post = refl
values_split (Read object value ∷ pre) post = ap (λ (values : List ℕ). value ∷ values) (values_split pre post)
values_split (other ∷ pre) post = values_split pre post

pub gap_split : (before : ℕ) (pre post : List Event) → gap_after before (pre ++ post) ≡ gap_after (gap_after before pre) post
gap_split before [] post = refl
gap_split before (Marked mark ∷ pre) post = gap_split 0 pre post
gap_split before (access ∷ pre) post = gap_split (suc before) pre post

pub gapped_marks_split : (before : ℕ) (pre post : List Event) → gapped_marks before (pre ++ post) ≡ gapped_marks before pre ++ gapped_marks (gap_after before pre) post
gapped_marks_split before [] post = refl
gapped_marks_split before (Marked mark ∷ pre) post = ap (λ (marks : List Gapped). record { gap = before; mark = mark } ∷ marks) (gapped_marks_split 0 pre post)
gapped_marks_split before (access ∷ pre) post = gapped_marks_split (suc before) pre post

pub length-gapped_marks : (before : ℕ) (journal : List Event) → length (gapped_marks before journal) ≡ mark_count journal
length-gapped_marks before [] = refl
length-gapped_marks before (Marked mark ∷ journal) = ap suc (length-gapped_marks 0 journal)
length-gapped_marks before (access ∷ journal) = length-gapped_marks (suc before) journal

module _ (commands : List Command) where
  pub configuration_split : (c : Configuration) (pre post : List Event) → configuration_after commands c (pre ++ post) ≡ configuration_after commands (configuration_after commands c pre) post
  configuration_split c [] post = refl
  configuration_split c (Read object value ∷ pre) post = configuration_split (past_demanded commands c value) pre post
  configuration_split c (Write object value ∷ pre) post = configuration_split (past_demanded commands c value) pre post
  configuration_split c (Update object before after ∷ pre) post = configuration_split (past_demanded commands c after) pre post
  configuration_split c (Marked mark ∷ pre) post = configuration_split c pre post

  pub fits_split : (c : Configuration) (pre post : List Event) → FitsFrom commands c (pre ++ post) → FitsFrom commands (configuration_after commands c pre) post
  fits_split c [] post fits = fits
  fits_split c (Read object value ∷ pre) post fits = fits_split (past_demanded commands c value) pre post fits.1
  fits_split c (Write object value ∷ pre) post fits = fits_split (past_demanded commands c value) pre post fits.1
  fits_split c (Update object before after ∷ pre) post fits = fits_split (past_demanded commands c after) pre post fits.1
  fits_split c (Marked mark ∷ pre) post fits = fits_split c pre post fits

  pub fits_join : (c : Configuration) (pre post : List Event) → FitsFrom commands c pre → FitsFrom commands (configuration_after commands c pre) post → FitsFrom commands c (pre ++ post)
  fits_join c [] post fits more = more
  fits_join c (Read object value ∷ pre) post fits more = (fits.0, fits_join (past_demanded commands c value) pre post fits.1 more)
  fits_join c (Write object value ∷ pre) post fits more = (fits.0, fits_join (past_demanded commands c value) pre post fits.1 more)
  fits_join c (Update object before after ∷ pre) post fits more = (fits.0, fits_join (past_demanded commands c after) pre post fits.1 more)
  fits_join c (Marked mark ∷ pre) post fits more = fits_join c pre post fits more
