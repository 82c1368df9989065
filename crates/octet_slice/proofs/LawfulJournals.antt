-- What holds of the journals of a lawful lowest order, and of a part of them.
use Rattle.std.proofs.Common.{◌≡◌, ℕ, suc, ◌+◌, ◌<◌, ◌≤◌, inl, inr, List, [], ◌∷◌, length, take, drop, get_or, IsTrue, Some, slice_get, sum_by, refl, sym, ap, ◌∙◌, subst, arith}
use Rattle.std.specs.List.{All, sum}
use Rattle.std.proofs.lemmas.Bool.{cases_lt}
use Rattle.std.proofs.lemmas.List.{length-map, get_or-map, get_or_past, length-take-le, take-append-drop}
use Rattle.std.proofs.lemmas.List.Elements.{All-take}
use Rattle.std.proofs.lemmas.List.Sums.{sum_by-cons}
use Rattle.std.proofs.lemmas.Option.{slice_get_within}
use Rattle.octet_model.specs.declared.event.Event.{Event}
use Rattle.octet_model.specs.declared.event.Event.TheVariants.{Marked}
use Rattle.octet_model.specs.declared.event.Mark.TheVariants.{Join, Draw, Fence}
use Rattle.octet_model.specs.declared.event.Place.{Place}
use Rattle.octet_model.specs.declared.log.Gapped.{Gapped}
use Rattle.octet_model.specs.declared.log.ThreadLog.{ThreadLog}
use Rattle.octet_model.specs.declared.script.Script.{Script}
use Rattle.octet_model.specs.Log.{is_log}
use Rattle.octet_model.specs.Validity.{IsValidLog, IsValidThreadLog, IsMark}
use Rattle.octet_model.specs.Journals.{access_count, mark_count, gapped_marks, log_of, log_of_journal}
use Rattle.octet_model.specs.Machine.{Journals, journal_of, PlainState, Operation, event_made, is_enabled, appended, performed, no_events}
use Rattle.octet_model.specs.HappensBefore.{event_at}
use Rattle.octet_model.specs.Orders.{by_log, opening_state, thread_log_of, journals_after, lowest_order}
use Rattle.octet_model.proofs.lemmas.Steps.{count, new_event, drawn_next, by_front}
use Rattle.octet_model.proofs.lemmas.Fronts.{no_journal}
use Rattle.octet_model.proofs.lemmas.Growth.{new, old_or_new}
use Rattle.octet_model.proofs.lemmas.LawfulOrders.{lawful_order_has_its_log}
use Rattle.octet_model.proofs.lemmas.MarksSeen.{MarksSeen, marks_seen_longer}
use Rattle.octet_model.proofs.lemmas.Plays.{total, total_cons}
use Rattle.octet_model.proofs.lemmas.Splits.{accesses_split, length_parts, length-gapped_marks, marks_split}
use Rattle.octet_model.proofs.lemmas.Validity.{log_decides, valid_log}
use Rattle.octet_replay.specs.Judged.{IsLawful}
use Rattle.octet_replay.proofs.lemmas.Places.{lowest_order_fits_in_places}
use Rattle.octet_slice.specs.FirstEvents.{first_events}
use Rattle.octet_slice.specs.Gathering.{AreOfLog}
use Rattle.octet_slice.proofs.lemmas.FirstEvents.{first_of, as_many_first, first_marks}

-- ---- draws

-- marks name what was made before them, and draws count up from 1
record DrawsRise (journals : Journals) (draws : ℕ) : Type 0 where
  seen : MarksSeen journals draws
  numbered : (a : Place) (number : ℕ) → event_at journals a ≡ Some (Marked (Draw number)) → 1 ≤ number
  rising : (a b : Place) (first then : ℕ) → a.thread ≡ b.thread → a.event < b.event → event_at journals a ≡ Some (Marked (Draw first)) → event_at journals b ≡ Some (Marked (Draw then)) → first < then

module _ (s : PlainState) (t : ℕ) (o : Operation) (lt : t < length s.journals) (enabled : IsTrue (is_enabled s o)) (rise : DrawsRise s.journals s.draws) where
  abbrev e : Event
  e = event_made o s.heap

  abbrev more : Journals
  more = appended s.journals t e

  next_number : (a : Place) (number : ℕ) → a ≡ new s.journals t e → event_at more a ≡ Some (Marked (Draw number)) → number ≡ suc s.draws
  next_number a number is at_a =
      let there = new_event s.journals t e lt in
      let at_new : event_at more (new s.journals t e) ≡ Some (Marked (Draw number)) = ap (event_at more) (sym is) ∙ at_a in
      let made : e ≡ Marked (Draw number) = cc in
      drawn_next s o s.heap number enabled made

  rises_on : DrawsRise more (performed s t o).draws
  rises_on = record {
    seen = marks_seen_longer s t o lt enabled rise.seen;
    numbered = λ a number is. elim (old_or_new s.journals t e a (Marked (Draw number)) lt is) [
      | inl old ↦ rise.numbered a number old
      | inr a_new ↦ omega (arith, next_number a number a_new is)
    ];
    rising = λ a b first then same below is_a is_b. elim (old_or_new s.journals t e b (Marked (Draw then)) lt is_b) [
      | inl b_old ↦ elim (old_or_new s.journals t e a (Marked (Draw first)) lt is_a) [
        | inl a_old ↦ rise.rising a b first then same below a_old b_old
        | inr a_new ↦
            let here : a.thread ≡ t = ap (λ (p : Place). p.thread) a_new in
            let last : a.event ≡ count s.journals t = ap (λ (p : Place). p.event) a_new in
            absurd (omega (arith, below, last, slice_get_within (journal_of s.journals b.thread) b.event (Marked (Draw then)) b_old, ap (count s.journals) (sym same ∙ here)))
      ]
      | inr b_new ↦ elim (old_or_new s.journals t e a (Marked (Draw first)) lt is_a) [
        | inl a_old ↦ omega (arith, rise.seen.drawn a first a_old, next_number b then b_new is_b)
        | inr a_new ↦ absurd (omega (arith, below, ap (λ (p : Place). p.event) a_new, ap (λ (p : Place). p.event) b_new))
      ]
    ];
  }

none_rise : {A : Type 0} (threads : List A) → DrawsRise (no_events threads) 0
none_rise threads = record {
  seen = record {
    joined = λ b from upto is. absurd (none b (Marked (Join from upto)) is);
    drawn = λ a number is. absurd (none a (Marked (Draw number)) is);
    fenced = λ b upto is. absurd (none b (Marked (Fence upto)) is);
    differ = λ a b number is_a is_b. absurd (none a (Marked (Draw number)) is_a);
  };
  numbered = λ a number is. absurd (none a (Marked (Draw number)) is);
  rising = λ a b first then same below is_a is_b. absurd (none a (Marked (Draw first)) is_a);
}
  where
    none : (p : Place) (x : Event) → event_at (no_events threads) p ≡ Some x → ⊥
    none p x is = let empty = ap (λ (j : List Event). slice_get j p.event) (no_journal threads p.thread) in absurd cc

-- the journals of a lawful lowest order
pub are_of_log : (script : Script) (log : List ThreadLog) → IsLawful script log → IsTrue (is_log log) → AreOfLog (journals_after script log (lowest_order script log)) log
are_of_log script log lawful valid =
    let J = journals_after script log (lowest_order script log) in
    let V = by_log script log in
    let rise = by_front V (λ (s : PlainState). DrawsRise s.journals s.draws) (λ s t o m rise. rises_on s t o m.within m.enabled rise) (lowest_order script log) (opening_state script) lawful.1.0 (none_rise script.threads) in
    let places = lowest_order_fits_in_places script log lawful.0 valid in
    record {
      is_log = sym (lawful_order_has_its_log script log (lowest_order script log) lawful);
      short = λ t. elim (cases_lt t (length J)) [
        | inl lt ↦ places.events t [] lt
        | inr past ↦ omega (arith, ap (λ (j : List Event). length j) (get_or_past J t [] past))
      ];
      joins = λ b from upto is. rise.seen.joined b from upto is;
      numbered = λ a number is. rise.numbered a number is;
      rising = λ t sooner later first then below is_a is_b. rise.rising (record { thread = t; event = sooner }) (record { thread = t; event = later }) first then refl below is_a is_b;
    }

-- ---- all events, and those of a part

pub all_events_are : (journals : Journals) → sum_by (λ log. log.accesses + length log.marks) (log_of journals) ≡ total journals
all_events_are [] = refl
all_events_are (j ∷ js) =
    omega (arith, sum_by-cons (λ (log : ThreadLog). log.accesses + length log.marks) (log_of_journal j) (log_of js), total_cons j js, length_parts j, length-gapped_marks 0 j, all_events_are js)

-- as many as their counts say
pub total_first : (counts : List ℕ) (js : Journals) → length counts ≡ length js → ((t : ℕ) → get_or counts t 0 ≤ length (journal_of js t)) → total (first_events counts js) ≡ sum counts
total_first [] [] many within = refl
total_first [] (j ∷ js) many within = absurd (omega arith)
total_first (n ∷ counts) [] many within = absurd (omega arith)
total_first (n ∷ counts) (j ∷ js) many within =
    let first : n ≤ length j = within 0 in
    omega (arith, total_cons (take n j) (first_events counts js), length-take-le n j first, sum_by-cons (λ (x : ℕ). x) n counts, total_first counts js (omega arith) (λ t. within (suc t)))

-- ---- the log of a part is valid

gaps_within : (before : ℕ) (journal : List Event) → sum_by (λ m. m.gap) (gapped_marks before journal) ≤ before + access_count journal
gaps_within before [] = omega arith
gaps_within before (Marked mark ∷ journal) = omega (arith, sum_by-cons (λ (m : Gapped). m.gap) (record { gap = before; mark = mark }) (gapped_marks 0 journal), gaps_within 0 journal)
gaps_within before (access ∷ journal) = omega (arith, gaps_within (suc before) journal)

accesses_less : (counts : List ℕ) (js : Journals) → sum_by (λ log. log.accesses) (log_of (first_events counts js)) ≤ sum_by (λ log. log.accesses) (log_of js)
accesses_less counts [] = omega arith
accesses_less [] (j ∷ js) =
    omega (arith, sum_by-cons (λ (log : ThreadLog). log.accesses) (log_of_journal []) (log_of (first_events [] js)), sum_by-cons (λ (log : ThreadLog). log.accesses) (log_of_journal j) (log_of js), accesses_less [] js)
accesses_less (n ∷ counts) (j ∷ js) =
    omega (
      arith,
      sum_by-cons (λ (log : ThreadLog). log.accesses) (log_of_journal (take n j)) (log_of (first_events counts js)),
      sum_by-cons (λ (log : ThreadLog). log.accesses) (log_of_journal j) (log_of js),
      accesses_less counts js,
      accesses_split (take n j) (drop n j),
      ap access_count (take-append-drop n j),
    )

module _ (threads t n : ℕ) (journal : List Event) (valid : IsValidThreadLog threads t (log_of_journal journal)) where
  part_is_valid : IsValidThreadLog threads t (log_of_journal (take n journal))
  part_is_valid = record {
    few_marks =
        omega (arith, valid.few_marks, length-gapped_marks 0 (take n journal), length-gapped_marks 0 journal, marks_split (take n journal) (drop n journal), ap mark_count (take-append-drop n journal));
    gaps = omega (arith, gaps_within 0 (take n journal));
    marks =
        subst (λ (m : List Gapped). All (λ x. IsMark threads t x.mark) m) (first_marks n journal)
        (All-take (λ (x : Gapped). IsMark threads t x.mark) (length (gapped_marks 0 (take n journal))) (gapped_marks 0 journal) valid.marks);
  }

pub part_is_log : (counts : List ℕ) (js : Journals) → IsTrue (is_log (log_of js)) → IsTrue (is_log (log_of (first_events counts js)))
part_is_log counts js valid = (log_decides (log_of (first_events counts js))).1 (record {
  some_threads = omega (arith, is.some_threads, many);
  most_threads = omega (arith, is.most_threads, many);
  accesses_of_all = omega (arith, is.accesses_of_all, accesses_less counts js);
  each = λ t lt.
      let d : ThreadLog = record { accesses = 0; marks = [] } in
      let there : t < length js = omega (arith, lt, many, length-map {B = ThreadLog} js log_of_journal) in
      let before = is.each t (omega (arith, lt, many)) in
      let was : thread_log_of (log_of js) t ≡ log_of_journal (journal_of js t) = get_or-map log_of_journal js t [] d there in
      let now : thread_log_of (log_of (first_events counts js)) t ≡ log_of_journal (take (get_or counts t 0) (journal_of js t)) =
      get_or-map log_of_journal (first_events counts js) t [] d (omega (arith, there, as_many_first counts js)) ∙ ap log_of_journal (first_of counts js t) in
      let part = part_is_valid (length (log_of js)) t (get_or counts t 0) (journal_of js t) (subst (λ (l : ThreadLog). IsValidThreadLog (length (log_of js)) t l) was before) in
      subst (λ (n : ℕ). IsValidThreadLog n t (thread_log_of (log_of (first_events counts js)) t)) (sym many)
      (subst (λ (l : ThreadLog). IsValidThreadLog (length (log_of js)) t l) (sym now) part);
})
  where
    is : IsValidLog (log_of js)
    is = valid_log (log_of js) valid

    many : length (log_of (first_events counts js)) ≡ length (log_of js)
    many = length-map {B = ThreadLog} (first_events counts js) log_of_journal ∙ as_many_first counts js ∙ sym (length-map {B = ThreadLog} js log_of_journal)
