-- The log of frugal journals is short.
use Rattle.std.proofs.Common.{◌≡◌, ℕ, suc, ◌+◌, ◌*◌, ◌≤◌, List, [], ◌∷◌, ◌++◌, length, take, Some, slice_get, refl, sym, ap, ◌∙◌, subst, arith, length-append}
use Rattle.std.specs.List.{flat_map, sum_by}
use Rattle.std.specs.Int.{to_be_bytes, w32}
use Rattle.std.proofs.lemmas.List.Sums.{sum_by-cons}
use Rattle.octet_model.specs.declared.event.Event.{Event}
use Rattle.octet_model.specs.declared.event.Event.TheVariants.{Marked}
use Rattle.octet_model.specs.declared.event.Mark.{Mark}
use Rattle.octet_model.specs.declared.event.Mark.TheVariants.{Join, Draw, Fence}
use Rattle.octet_model.specs.declared.log.Gapped.{Gapped}
use Rattle.octet_model.specs.declared.log.ThreadLog.{ThreadLog}
use Rattle.octet_model.specs.Journals.{access_count, mark_count, log_of_journal, log_of}
use Rattle.octet_model.specs.Machine.{Journals, journal_of}
use Rattle.octet_model.specs.HappensBefore.{object_of}
use Rattle.octet_model.specs.Frugal.{marks_since, IsFrugal}
use Rattle.octet_model.specs.Orders.{journals_after}
use Rattle.octet_model.specs.Texts.{mark_bytes, bytes_of_mark, thread_bytes, log_bytes}
use Rattle.octet_model.specs.Laws.{FaithfulLogIsShort}
use Rattle.octet_model.proofs.lemmas.Validity.{valid_log}
use Rattle.octet_model.specs.Validity.{IsValidLog}
use Rattle.octet_model.specs.declared.limits.TheConstants.{MAX_MARKS_BEFORE_ACCESS}
use Rattle.octet_model.proofs.lemmas.Splits.{length-gapped_marks}
use Rattle.octet_model.proofs.lemmas.LawfulOrders.{lawful_order_has_its_log}

-- where few marks stand before each access, after marks with no access yet
abbrev AreFew : List Mark → List Event → Type 0
AreFew marks journal = (place object : ℕ) (event : Event) → slice_get journal place ≡ Some event → object_of event ≡ Some object → length (marks_since marks (take place journal)) ≤ MAX_MARKS_BEFORE_ACCESS

marks_are_few : (marks : List Mark) (journal : List Event) → AreFew marks journal → marks_since marks journal ≡ [] → length marks + mark_count journal ≤ MAX_MARKS_BEFORE_ACCESS * access_count journal
marks_are_few marks [] few none = omega (arith, ap (λ (l : List Mark). length l) none)
marks_are_few marks (Marked mark ∷ journal) few none =
    omega (arith, length-append marks (mark ∷ []), marks_are_few (marks ++ mark ∷ []) journal (λ place o event at is. few (suc place) o event at is) none)
marks_are_few marks (access ∷ journal) few none =
    let here : length marks ≤ MAX_MARKS_BEFORE_ACCESS = few 0 _ access refl refl in
    omega (arith, here, marks_are_few [] journal (λ place o event at is. few (suc place) o event at is) none)

-- of frugal journals, for each thread
few_marks : (journals : Journals) (thread : ℕ) → IsFrugal journals → mark_count (journal_of journals thread) ≤ MAX_MARKS_BEFORE_ACCESS * access_count (journal_of journals thread)
few_marks journals thread frugal =
    omega (arith, marks_are_few [] (journal_of journals thread) (λ place object event at is. frugal.few (record { thread = thread; event = place }) object (event, at, is)) (frugal.none_after thread))

-- a mark has 14 bytes, a thread 8 and its marks'
mark_length : (m : Gapped) → length (mark_bytes m) ≡ 14
mark_length m = of_mark m.mark
  where
    of_mark : (mark : Mark) → length (bytes_of_mark m.gap mark) ≡ 14
    of_mark (Join from upto) = refl
    of_mark (Draw number) = refl
    of_mark (Fence number) = refl

pub marks_length : (marks : List Gapped) → length (flat_map mark_bytes marks) ≡ 14 * length marks
marks_length [] = refl
marks_length (m ∷ marks) = omega (arith, length-append (mark_bytes m) (flat_map mark_bytes marks), mark_length m, marks_length marks)

thread_length : (log : ThreadLog) → length (thread_bytes log) ≡ 8 + 14 * length log.marks
thread_length log =
    let four : (n : ℕ) → length (to_be_bytes w32 n) ≡ 4 = λ n. refl in
    omega (
      arith,
      length-append (to_be_bytes w32 log.accesses) (to_be_bytes w32 (length log.marks) ++ flat_map mark_bytes log.marks),
      length-append (to_be_bytes w32 (length log.marks)) (flat_map mark_bytes log.marks),
      four log.accesses,
      four (length log.marks),
      marks_length log.marks,
    )

threads_length : (journals : Journals) → ((thread : ℕ) → mark_count (journal_of journals thread) ≤ MAX_MARKS_BEFORE_ACCESS * access_count (journal_of journals thread))
    → length (flat_map thread_bytes (log_of journals)) ≤ 8 * length journals + 210 * sum_by (λ thread. thread.accesses) (log_of journals)
threads_length [] few = omega arith
threads_length (j ∷ journals) few =
    let first : mark_count j ≤ MAX_MARKS_BEFORE_ACCESS * access_count j = few 0 in
    omega (
      arith,
      length-append (thread_bytes (log_of_journal j)) (flat_map thread_bytes (log_of journals)),
      thread_length (log_of_journal j),
      length-gapped_marks 0 j,
      first,
      sum_by-cons (λ (thread : ThreadLog). thread.accesses) (log_of_journal j) (log_of journals),
      threads_length journals (λ t. few (suc t)),
    )

length_of_logs : (journals : Journals) → length (log_of journals) ≡ length journals
length_of_logs [] = refl
length_of_logs (j ∷ journals) = ap suc (length_of_logs journals)

whole_length : (log : List ThreadLog) → length (log_bytes log) ≡ 6 + length (flat_map thread_bytes log)
whole_length log = omega arith

pub faithful_log_is_short : FaithfulLogIsShort
faithful_log_is_short script log outcome faithful valid =
    let journals = journals_after script log faithful.order in
    let same : log_of journals ≡ log = lawful_order_has_its_log script log faithful.order faithful.is_lawful in
    let frugal = faithful.frugal faithful.order faithful.is_lawful in
    let limits : IsValidLog log = valid_log log valid in
    let all = threads_length journals (λ t. few_marks journals t frugal) in
    let many : length journals ≡ length log = sym (length_of_logs journals) ∙ ap (λ (l : List ThreadLog). length l) same in
    let bound : length (flat_map thread_bytes log) ≤ 8 * length journals + 210 * sum_by (λ thread. thread.accesses) log =
    subst (λ (l : List ThreadLog). length (flat_map thread_bytes l) ≤ 8 * length journals + 210 * sum_by (λ thread. thread.accesses) l) same all in
    omega (arith, whole_length log, bound, many, limits.most_threads, limits.accesses_of_all)
