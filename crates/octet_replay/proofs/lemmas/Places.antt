-- The journals of a valid log have places for all their events.
use Rattle.std.proofs.Common.{◌≡◌, ℕ, ◌<◌, List, [], ◌∷◌, length, IsTrue, sym, ap, ◌∙◌, subst, arith}
use Rattle.std.proofs.lemmas.List.{length-map, get_or_default}
use Rattle.std.proofs.lemmas.List.Sums.{get_or-le-sum_by}
use Rattle.octet_model.specs.declared.command.Command.{Command}
use Rattle.octet_model.specs.declared.event.Event.{Event}
use Rattle.octet_model.specs.declared.log.ThreadLog.{ThreadLog}
use Rattle.octet_model.specs.declared.script.Script.{Script}
use Rattle.octet_model.specs.Thread.{starting_configuration}
use Rattle.octet_model.specs.Machine.{journal_of, PlainState, step, after, IsFront}
use Rattle.octet_model.specs.Orders.{commands_of, thread_log_of, by_log, opening_state, journals_after, lowest_order, IsLawfulFront}
use Rattle.octet_model.specs.Log.{is_log}
use Rattle.octet_model.proofs.lemmas.Fronts.{no_journal}
use Rattle.octet_model.proofs.lemmas.LogsOfJournals.{as_many_after}
use Rattle.octet_model.proofs.lemmas.LowestFronts.{IsWithin, each_journal, within_more, lowest_is_front, lowest_order_is_lowest}
use Rattle.octet_model.proofs.lemmas.Splits.{length_parts}
use Rattle.octet_model.proofs.lemmas.Validity.{valid_log}
use Rattle.octet_replay.specs.Places.{FitInPlaces}

module _ (script : Script) (log : List ThreadLog) where
  all_within : (order : List ℕ) (s : PlainState) → IsFront (by_log script log) s order → ((t : ℕ) → IsWithin (thread_log_of log t) (journal_of s.journals t))
      → (t : ℕ) → IsWithin (thread_log_of log t) (journal_of (after (by_log script log) s order).journals t)
  all_within [] s front within = within
  all_within (u ∷ order) s front within =
      all_within order (step (by_log script log) s u) front.1
      (each_journal (by_log script log) s u front.0 (λ t journal. IsWithin (thread_log_of log t) journal) within
      (λ o makes. within_more (commands_of script u) (starting_configuration script.fuel) (thread_log_of log u) (journal_of s.journals u) s.heap o makes.wanted (within u)))

  -- the journals that a lawful front comes to
  pub front_fits_in_places : (front : List ℕ) → IsLawfulFront script log front → IsTrue (is_log log) → FitInPlaces (journals_after script log front)
  front_fits_in_places front lawful valid =
      let s = opening_state script in
      let is = valid_log log valid in
      let starts : (t : ℕ) → IsWithin (thread_log_of log t) (journal_of s.journals t) = λ t. subst (λ (j : List Event). IsWithin (thread_log_of log t) j) (sym (no_journal script.threads t)) (record { accesses = omega arith; marks = omega arith }) in
      let as_many : length (journals_after script log front) ≡ length log = as_many_after (by_log script log) front s ∙ length-map script.threads (λ (c : List Command). []) ∙ lawful.0 in
      record {
        threads = omega (arith, is.most_threads);
        events = λ t d lt.
            let within = all_within front s lawful.1 starts t in
            let below : t < length log = omega arith in
            let few = (is.each t below).few_marks in
            let accesses = get_or-le-sum_by (λ (l : ThreadLog). l.accesses) log t (record { accesses = 0; marks = [] }) below in
            let journal = ap (λ (j : List Event). length j) (get_or_default (journals_after script log front) t d [] lt) in
            omega (arith, within.accesses, within.marks, is.accesses_of_all, length_parts (journal_of (journals_after script log front) t));
      }

  -- and so those of the lowest order
  pub lowest_order_fits_in_places : length script.threads ≡ length log → IsTrue (is_log log) → FitInPlaces (journals_after script log (lowest_order script log))
  lowest_order_fits_in_places agree valid =
      front_fits_in_places (lowest_order script log) (agree, lowest_is_front (by_log script log) (lowest_order script log) (opening_state script) (lowest_order_is_lowest script log agree)) valid
