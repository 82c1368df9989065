-- Where the events that a mark needs were made, the plain machine may make the mark.
use Rattle.std.proofs.Common.{nat_lt, ◌≡◌, ◌≢◌, ℕ, zero, suc, pred, ◌+◌, ◌<◌, ◌≤◌, inl, inr, List, [], ◌∷◌, ◌++◌, length, Option, Some, None, IsTrue, slice_get, refl, sym, ap, ◌∙◌, subst, arith, append-nil, length-append, zero-add}
use Rattle.std.proofs.lemmas.Bool.{cases_eq, cases_lt, le-leb, eq-eqb, lt-ltb}
use Rattle.std.proofs.lemmas.List.{length-map, get_or_past}
use Rattle.std.proofs.lemmas.Option.{slice_get_within, get_or_from_slice_get}
use Rattle.octet_model.specs.declared.event.Event.{Event}
use Rattle.octet_model.specs.declared.event.Event.TheVariants.{Read, Write, Update, Marked}
use Rattle.octet_model.specs.declared.event.Mark.{Mark}
use Rattle.octet_model.specs.declared.event.Mark.TheVariants.{Join, Draw, Fence}
use Rattle.octet_model.specs.declared.event.Place.{Place}
use Rattle.octet_model.specs.declared.log.Gapped.{Gapped}
use Rattle.octet_model.specs.declared.log.ThreadLog.{ThreadLog}
use Rattle.octet_model.specs.Log.{is_log}
use Rattle.octet_model.specs.Validity.{IsMark}
use Rattle.octet_model.specs.Journals.{access_count, mark_count, gap_after, gapped_marks, due_mark}
use Rattle.octet_model.specs.Machine.{Journals, journal_of, PlainState, MakeMark, is_enabled, after}
use Rattle.octet_model.specs.HappensBefore.{event_at}
use Rattle.octet_model.specs.Orders.{thread_log_of}
use Rattle.octet_model.proofs.lemmas.Steps.{count}
use Rattle.octet_model.proofs.lemmas.Fronts.{no_journal}
use Rattle.octet_model.proofs.lemmas.Splits.{length-gapped_marks}
use Rattle.octet_model.proofs.lemmas.Validity.{valid_log}
use Rattle.octet_model.proofs.lemmas.LawfulOrders.{by_finish}
use Rattle.octet_model.proofs.lemmas.LogsOfJournals.{as_many_after}
use Rattle.octet_replay.proofs.lemmas.EventsMade.{due_there as due_has_mark}
use Rattle.octet_clock.specs.Untied.{by_log_alone, opening_alone, IsUntied}
use Rattle.octet_parallel.specs.Needs.{mark_at, HasMarkAt, Needs}
use Rattle.octet_parallel.specs.Tracks.{IsOnTrack}
use Rattle.octet_parallel.proofs.verdicts.Tracks.{mark_of, mark_later, marks_are, due_there, none_on_track, any_demand, follows_alone, front_on_track}
use Rattle.octet_clock.proofs.lemmas.DrawsMade.{IsDrawnBefore, DrawsMade, draws_made}

is_mark : (o : Option Event) (mark : Mark) → mark_of o ≡ Some mark → o ≡ Some (Marked mark)
is_mark None mark is = absurd cc
is_mark (Some (Read object value)) mark is = absurd cc
is_mark (Some (Write object value)) mark is = absurd cc
is_mark (Some (Update object old new)) mark is = absurd cc
is_mark (Some (Marked made)) mark is = let e : made ≡ mark = cc in ap (λ (m : Mark). Some (Marked m)) e

-- journals that follow a log have its marks, at the same places
module _ (log : List ThreadLog) (js : Journals) (track : (t : ℕ) → IsOnTrack (thread_log_of log t) (journal_of js t)) where
  pub to_log : (a : Place) (mark : Mark) → event_at js a ≡ Some (Marked mark) → HasMarkAt log a.thread a.event mark
  to_log a mark is =
      marks_are (thread_log_of log a.thread) (journal_of js a.thread) (track a.thread) a.event (slice_get_within (journal_of js a.thread) a.event (Marked mark) is) ∙ ap mark_of is

  pub from_log : (a : Place) (mark : Mark) → HasMarkAt log a.thread a.event mark → a.event < count js a.thread → event_at js a ≡ Some (Marked mark)
  from_log a mark is within =
      is_mark (slice_get (journal_of js a.thread) a.event) mark (sym (marks_are (thread_log_of log a.thread) (journal_of js a.thread) (track a.thread) a.event within) ∙ is)

-- a mark of a log that has no more than the journal stands in the journal
all_within : (before : ℕ) (journal : List Event) (k : ℕ) (mark : Mark) → mark_at (gapped_marks before journal) (before + k) ≡ Some mark → k < length journal
all_within before journal k mark is = go before journal k is
  where
    go : (before : ℕ) (journal : List Event) (k : ℕ) → mark_at (gapped_marks before journal) (before + k) ≡ Some mark → k < length journal
    go before [] k is = absurd cc
    go before (Marked made ∷ journal) zero is = omega arith
    go before (Marked made ∷ journal) (suc k) is =
        let later : mark_at (gapped_marks 0 journal) (0 + k) ≡ Some mark = ap (mark_at (gapped_marks 0 journal)) (zero-add k) ∙ sym (ap (mark_at (record { gap = before; mark = made } ∷ gapped_marks 0 journal)) (let e : before + suc k ≡ suc (before + k) = omega arith in e) ∙ mark_later (record { gap = before; mark = made }) (gapped_marks 0 journal) k) ∙ is in
        omega (arith, go 0 journal k later)
    go before (Read object value ∷ journal) zero is = omega arith
    go before (Read object value ∷ journal) (suc k) is = omega (arith, go (suc before) journal k (ap (mark_at (gapped_marks (suc before) journal)) (let e : suc before + k ≡ before + suc k = omega arith in e) ∙ is))
    go before (Write object value ∷ journal) zero is = omega arith
    go before (Write object value ∷ journal) (suc k) is = omega (arith, go (suc before) journal k (ap (mark_at (gapped_marks (suc before) journal)) (let e : suc before + k ≡ before + suc k = omega arith in e) ∙ is))
    go before (Update object old new ∷ journal) zero is = omega arith
    go before (Update object old new ∷ journal) (suc k) is = omega (arith, go (suc before) journal k (ap (mark_at (gapped_marks (suc before) journal)) (let e : suc before + k ≡ before + suc k = omega arith in e) ∙ is))

empty : {A : Type 0} (rest : List A) → length rest ≡ 0 → rest ≡ []
empty [] none = refl
empty (g ∷ rest) none = absurd (omega arith)

-- in an untied log each draw stands once, after the draws and before the fences that it has to do with
pub record Unties (log : List ThreadLog) : Type 0 where
  pub once : (a b : Place) (number : ℕ) → HasMarkAt log a.thread a.event (Draw number) → HasMarkAt log b.thread b.event (Draw number) → a ≡ b
  pub draws : (b : Place) (number lower : ℕ) → HasMarkAt log b.thread b.event (Draw number) → 1 ≤ lower → lower < number
      → (a : Place) × HasMarkAt log a.thread a.event (Draw lower) × (a.thread ≡ b.thread → a.event < b.event)
  pub fences : (b : Place) (number : ℕ) → HasMarkAt log b.thread b.event (Fence number) → 1 ≤ number
      → (a : Place) × HasMarkAt log a.thread a.event (Draw number) × (a.thread ≡ b.thread → a.event < b.event)

module _ (log : List ThreadLog) (untied : IsUntied log) where
  abbrev last : PlainState
  last = after (by_log_alone log) (opening_alone log) untied.0

  last_tracks : (t : ℕ) → IsOnTrack (thread_log_of log t) (journal_of last.journals t)
  last_tracks =
      front_on_track (by_log_alone log) (λ t journal. any_demand (nat_lt (access_count journal) (thread_log_of log t).accesses)) log (follows_alone log) untied.0 (opening_alone log) untied.1.0
      (λ t. subst (λ (j : List Event). IsOnTrack (thread_log_of log t) j) (sym (no_journal log t)) (none_on_track (thread_log_of log t)))

  many : length last.journals ≡ length log
  many = as_many_after (by_log_alone log) untied.0 (opening_alone log) ∙ length-map log (λ (l : ThreadLog). [])

  -- every mark of the log was made
  all_made : (a : Place) (mark : Mark) → HasMarkAt log a.thread a.event mark → event_at last.journals a ≡ Some (Marked mark)
  all_made a mark is =
      elim (cases_lt a.thread (length log)) [
        | inr past ↦ absurd (let none = ap (λ (l : ThreadLog). mark_at l.marks a.event) (get_or_past log a.thread (record { accesses = 0; marks = [] }) past) in cc)
        | inl below ↦
            let own = thread_log_of log a.thread in
            let journal = journal_of last.journals a.thread in
            let finished = by_finish _ _ _ _ (follows_alone log a.thread journal ∙ untied.1.1 a.thread (omega (arith, many))) in
            let t = last_tracks a.thread in
            let none_left : t.rest ≡ [] =
            elim (cases_lt (mark_count journal) (length own.marks)) [
              | inl lt ↦ absurd (let left = lt-ltb (mark_count journal) (length own.marks) lt in let none = finished.no_mark in cc)
              | inr past ↦ empty t.rest (omega (arith, ap (λ (marks : List Gapped). length marks) t.marks, length-append (gapped_marks 0 journal) t.rest, length-gapped_marks 0 journal))
            ] in
            let marks : own.marks ≡ gapped_marks 0 journal = t.marks ∙ ap (λ (rest : List Gapped). gapped_marks 0 journal ++ rest) none_left ∙ append-nil (gapped_marks 0 journal) in
            let within : a.event < length journal = all_within 0 journal a.event mark (ap (mark_at (gapped_marks 0 journal)) (zero-add a.event) ∙ ap (λ (ms : List Gapped). mark_at ms a.event) (sym marks) ∙ is) in
            from_log log last.journals last_tracks a mark is within
      ]

  last_draws : DrawsMade last.journals last.draws
  last_draws = draws_made (by_log_alone log) [] log untied.0 untied.1.0

  in_log : (b : Place) (lower : ℕ) → IsDrawnBefore last.journals lower b → (a : Place) × HasMarkAt log a.thread a.event (Draw lower) × (a.thread ≡ b.thread → a.event < b.event)
  in_log b lower before = (before.place, to_log log last.journals last_tracks before.place (Draw lower) before.drawn, before.earlier)

  pub unties : Unties log
  unties = record {
    once = λ a b number is_a is_b. last_draws.seen.differ a b number (all_made a (Draw number) is_a) (all_made b (Draw number) is_b);
    draws = λ b number lower is low below. in_log b lower (last_draws.after_draws b number lower (all_made b (Draw number) is) low below);
    fences = λ b number is low. in_log b number (last_draws.after_draw b number (all_made b (Fence number) is) low);
  }

-- a due mark is a valid one
pub due_is_valid : (log : List ThreadLog) → IsTrue (is_log log) → (t : ℕ) → t < length log → (k gap : ℕ) (mark : Mark) → due_mark (slice_get (thread_log_of log t).marks k) gap ≡ Some mark → IsMark (length log) t mark
due_is_valid log valid t within k gap mark is =
    let there = due_has_mark (slice_get (thread_log_of log t).marks k) gap mark is in
    let all = ((valid_log log valid).each t within).marks in
    let value = get_or_from_slice_get (thread_log_of log t).marks k there.0 there.0 there.1 in
    subst (λ (m : Mark). IsMark (length log) t m) (ap (λ (g : Gapped). g.mark) value ∙ there.2) (all k there.0 (slice_get_within (thread_log_of log t).marks k there.0 there.1))

-- the events that the mark needs of others were made
abbrev pub AreMade : List ThreadLog → Journals → ℕ → Mark → Type 0
AreMade log js t mark = (whom events : ℕ) → Needs log mark whom events → whom ≢ t → events ≤ count js whom

module _ (log : List ThreadLog) (valid : IsTrue (is_log log)) (untied : IsUntied log) (s : PlainState) (track : (t : ℕ) → IsOnTrack (thread_log_of log t) (journal_of s.journals t)) (made : DrawsMade s.journals s.draws)
    (t : ℕ) (within : t < length log) where
  abbrev now : Place
  now = record { thread = t; event = count s.journals t }

  -- a draw that stands next was not made yet
  not_yet : (number : ℕ) → HasMarkAt log t (count s.journals t) (Draw number) → 1 ≤ number → s.draws < number
  not_yet number is low =
      elim (cases_lt s.draws number) [
        | inl below ↦ below
        | inr old ↦
            let a = made.each number low old in
            let same : a.0 ≡ now = (unties log untied).once a.0 now number (to_log log s.journals track a.0 (Draw number) a.1) is in
            let inside : a.0.event < count s.journals a.0.thread = slice_get_within (journal_of s.journals a.0.thread) a.0.event (Marked (Draw number)) a.1 in
            absurd (omega (arith, inside, ap (λ (p : Place). p.event) same, ap (λ (p : Place). count s.journals p.thread) same))
      ]

  -- a draw that was looked for was made
  was_made : (number : ℕ) (mark : Mark) → AreMade log s.journals t mark → (a : Place) → HasMarkAt log a.thread a.event (Draw number) → (a.thread ≡ t → a.event < count s.journals t)
      → Needs log mark a.thread (suc a.event) → number ≤ s.draws
  was_made number mark all a is own needs =
      let inside : a.event < count s.journals a.thread =
      elim (cases_eq a.thread t) [
        | inl same ↦ omega (arith, own same, ap (λ (u : ℕ). count s.journals u) same)
        | inr differ ↦ omega (arith, all a.thread (suc a.event) needs differ)
      ] in
      made.seen.drawn a number (from_log log s.journals track a (Draw number) is inside)

  pub may_mark : (mark : Mark) → due_mark (slice_get (thread_log_of log t).marks (mark_count (journal_of s.journals t))) (gap_after 0 (journal_of s.journals t)) ≡ Some mark
      → AreMade log s.journals t mark → IsTrue (is_enabled s (MakeMark mark))
  may_mark (Join from upto) is all =
      let ok = due_is_valid log valid t within (mark_count (journal_of s.journals t)) (gap_after 0 (journal_of s.journals t)) (Join from upto) is in
      le-leb upto (count s.journals from) (all from upto (refl, refl) ok.1)
  may_mark (Draw number) is all =
      let ok = due_is_valid log valid t within (mark_count (journal_of s.journals t)) (gap_after 0 (journal_of s.journals t)) (Draw number) is in
      let there = due_there (thread_log_of log t) (journal_of s.journals t) (Draw number) (track t) is in
      let higher = not_yet number there ok.0 in
      let lower : pred number ≤ s.draws =
      elim (cases_lt 1 number) [
        | inl more ↦
            let a = (unties log untied).draws now number (pred number) there (omega arith) (omega arith) in
            was_made (pred number) (Draw number) all a.0 a.1 a.2 (more, a.0.event, refl, a.1)
        | inr first ↦ omega arith
      ] in
      eq-eqb number (suc s.draws) (omega arith)
  may_mark (Fence number) is all =
      let ok = due_is_valid log valid t within (mark_count (journal_of s.journals t)) (gap_after 0 (journal_of s.journals t)) (Fence number) is in
      let there = due_there (thread_log_of log t) (journal_of s.journals t) (Fence number) (track t) is in
      let a = (unties log untied).fences now number there ok.0 in
      le-leb number s.draws (was_made number (Fence number) all a.0 a.1 a.2 (ok.0, a.0.event, refl, a.1))
