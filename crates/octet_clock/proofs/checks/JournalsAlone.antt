-- The check of journals alone, along their lowest play.
use Rattle.std.proofs.Common.{◌≡◌, ℕ, zero, suc, ◌^◌, ◌<◌, ◌≤◌, inl, inr, true, false, if◌then◌else◌, List, [], ◌∷◌, length, take, Option, Some, None, IsTrue, get_or, slice_get, refl, sym, ap, ◌∙◌, subst, arith}
use Rattle.std.proofs.lemmas.Bool.{cases_lt, eqb-true}
use Rattle.std.proofs.lemmas.List.{length-map, get_or-map, get_or_past}
use Rattle.std.proofs.lemmas.Option.{slice_get_within, slice_get-get_or, get_or_from_slice_get}
use Rattle.std.specs.List.{sum}
use Rattle.octet_model.specs.declared.event.Event.{Event}
use Rattle.octet_model.specs.declared.event.Event.TheVariants.{Read, Write, Update, Marked}
use Rattle.octet_model.specs.declared.event.Mark.{Mark}
use Rattle.octet_model.specs.declared.event.Mark.TheVariants.{Join, Draw, Fence}
use Rattle.octet_model.specs.declared.event.Place.{Place}
use Rattle.octet_model.specs.declared.log.Gapped.{Gapped}
use Rattle.octet_model.specs.declared.log.ThreadLog.{ThreadLog}
use Rattle.octet_model.specs.Machine.{Journals, journal_of, PlainState, starting_state, Operation, Wants, Behavior, is_enabled, draws_after, next_of, step, after}
use Rattle.octet_model.specs.HappensBefore.{event_at, is_access, IsOrdered}
use Rattle.octet_model.specs.Journals.{gapped_marks, log_of_journal, log_of}
use Rattle.octet_model.specs.Orders.{thread_log_of}
use Rattle.octet_model.specs.Plays.{operation_of, next_in, by_journals, lowest_play}
use Rattle.octet_model.specs.Validity.{IsMark}
use Rattle.octet_model.proofs.lemmas.Steps.{count, Makes, counts_step}
use Rattle.octet_model.proofs.lemmas.LawfulOrders.{lawful_order_has_its_log}
use Rattle.octet_model.proofs.lemmas.LogsOfJournals.{as_many_after}
use Rattle.octet_model.proofs.lemmas.LowestFronts.{lowest_play_is_lowest}
use Rattle.octet_model.proofs.lemmas.Validity.{valid_log}
use Rattle.octet_replay.specs.declared.need.Need.{Need}
use Rattle.octet_replay.specs.declared.need.Need.TheVariants.{Free}
use Rattle.octet_replay.specs.Needs.{NeedsAndCounts, after_step, no_counts, is_ready, IsLowestReady, NamesThread}
use Rattle.octet_replay.specs.Places.{FitInPlaces}
use Rattle.octet_replay.specs.Replayed.{is_draw, AwaitsNext}
use Rattle.octet_replay.specs.Threads.{need_of}
use Rattle.octet_replay.proofs.lemmas.Awaiting.{draws_counted, awaits_at_start, sum_none}
use Rattle.octet_replay.proofs.lemmas.Places.{front_fits_in_places}
use Rattle.octet_clock.specs.declared.journal_check.JournalCheck.{JournalCheck}
use Rattle.octet_clock.specs.declared.verdict.Verdict.{Verdict}
use Rattle.octet_clock.specs.declared.verdict.Verdict.TheVariants.{Ordered, Unordered}
use Rattle.octet_clock.specs.Checker.{Holds, TakesEvent}
use Rattle.octet_clock.specs.Clock.{count_in}
use Rattle.octet_clock.specs.Following.{counted, state_reached}
use Rattle.octet_clock.specs.Ordered.{AreNeedsAtStart, AreOfLawfulOrder, ChecksAt}
use Rattle.octet_clock.specs.Play.{made_by, IsWholePlay}
use Rattle.octet_clock.specs.Sources.{IsNextStep}
use Rattle.octet_clock.specs.Verdict.{JudgedUpTo}
use Rattle.octet_clock.proofs.checks.Checking.{verdict_is}
use Rattle.octet_clock.proofs.plays.Following.{made_now, next_of_front, one_more_counted, follows_on, all_counted}
use Rattle.octet_clock.proofs.plays.LowestPlays.{lowest_is_whole}
use Rattle.octet_clock.proofs.plays.Walk.{counts_are}
use Rattle.octet_clock.proofs.plays.WholePlay.{whole_play}

-- ---- what is known of the journals of a lawful order
module _ (js : Journals) (of : AreOfLawfulOrder js) where
  pub fit_in_places : FitInPlaces js
  fit_in_places =
      subst (λ (x : Journals). FitInPlaces x) of.are
      (front_fits_in_places of.script of.log.threads of.order (of.is_lawful.0, of.is_lawful.1.0) of.log.valid)

  some_whole : IsWholePlay js of.order
  some_whole = subst (λ (x : Journals). IsWholePlay x of.order) of.are (whole_play of.script of.log.threads of.order (of.is_lawful.0, of.is_lawful.1.0))

  pub low_is_whole : IsWholePlay js (lowest_play [] js)
  low_is_whole = lowest_is_whole js of.order some_whole

  log_is : log_of js ≡ of.log.threads
  log_is = ap log_of (sym of.are) ∙ lawful_order_has_its_log of.script of.log.threads of.order of.is_lawful

-- a mark of a journal is one of its log
mark_in_log : (before : ℕ) (j : List Event) (k : ℕ) (mark : Mark) → slice_get j k ≡ Some (Marked mark)
    → (i : ℕ) × (g : Gapped) × (slice_get (gapped_marks before j) i ≡ Some g) × (g.mark ≡ mark)
mark_in_log before [] k mark is = absurd cc
mark_in_log before (Marked own ∷ j) zero mark is = (0, record { gap = before; mark = own }, refl, cc)
mark_in_log before (Marked own ∷ j) (suc k) mark is = let rest = mark_in_log 0 j k mark is in (suc rest.0, rest.1, rest.2, rest.3)
mark_in_log before (Read object value ∷ j) zero mark is = absurd cc
mark_in_log before (Read object value ∷ j) (suc k) mark is = mark_in_log (suc before) j k mark is
mark_in_log before (Write object value ∷ j) zero mark is = absurd cc
mark_in_log before (Write object value ∷ j) (suc k) mark is = mark_in_log (suc before) j k mark is
mark_in_log before (Update object old new ∷ j) zero mark is = absurd cc
mark_in_log before (Update object old new ∷ j) (suc k) mark is = mark_in_log (suc before) j k mark is

module _ (js : Journals) (of : AreOfLawfulOrder js) where
  -- so it is valid
  mark_is_valid : (t k : ℕ) (mark : Mark) → event_at js (record { thread = t; event = k }) ≡ Some (Marked mark) → IsMark (length js) t mark
  mark_is_valid t k mark is =
      let within : t < length js = there (slice_get_within (journal_of js t) k (Marked mark) is) in
      let many : length js ≡ length of.log.threads = sym (length-map js log_of_journal) ∙ ap (λ (l : List ThreadLog). length l) (log_is js of) in
      let in_log = mark_in_log 0 (journal_of js t) k mark is in
      let own : log_of_journal (journal_of js t) ≡ thread_log_of of.log.threads t =
      sym (get_or-map log_of_journal js t [] (record { accesses = 0; marks = [] }) within) ∙ ap (λ (l : List ThreadLog). thread_log_of l t) (log_is js of) in
      let there' = ap (λ (l : ThreadLog). slice_get l.marks in_log.0) (sym own) ∙ in_log.2 in
      let marks = (thread_log_of of.log.threads t).marks in
      let inside = slice_get_within marks in_log.0 in_log.1 there' in
      let value = get_or_from_slice_get marks in_log.0 in_log.1 in_log.1 there' in
      let all = ((valid_log of.log.threads of.log.valid).each t (omega arith)).marks in
      subst (λ (n : ℕ). IsMark n t mark) (sym many)
      (subst (λ (m : Mark). IsMark (length of.log.threads) t m) (ap (λ (g : Gapped). g.mark) value ∙ in_log.3) (all in_log.0 in_log.1 inside))
    where
      there : k < length (journal_of js t) → t < length js
      there lt = elim (cases_lt t (length js)) [
        | inl below ↦ below
        | inr past ↦ absurd (omega (arith, ap (λ (j : List Event). length j) (get_or_past js t [] past)))
      ]

  pub some_journals : 1 ≤ length js
  some_journals =
      omega (arith, (valid_log of.log.threads of.log.valid).some_threads, length-map js log_of_journal, ap (λ (l : List ThreadLog). length l) (log_is js of))

  -- what a thread waits for names a thread
  pub need_names : (t k : ℕ) → NamesThread (length js) (need_of (next_in (event_at js (record { thread = t; event = k }))))
  need_names t k = go (event_at js (record { thread = t; event = k })) refl
    where
      go : (o : Option Event) → event_at js (record { thread = t; event = k }) ≡ o → NamesThread (length js) (need_of (next_in o))
      go None is = tt
      go (Some (Read object value)) is = tt
      go (Some (Write object value)) is = tt
      go (Some (Update object old new)) is = tt
      go (Some (Marked (Join from upto))) is = (mark_is_valid t k (Join from upto) is).0
      go (Some (Marked (Draw zero))) is = tt
      go (Some (Marked (Draw (suc number)))) is = tt
      go (Some (Marked (Fence number))) is = tt

  pub draw_is_small : (t k number : ℕ) → event_at js (record { thread = t; event = k }) ≡ Some (Marked (Draw number)) → number < 2 ^ 64
  draw_is_small t k number is = (mark_is_valid t k (Draw number) is).1

pub start_names : (js : Journals) → AreOfLawfulOrder js → (needs : List Need) → AreNeedsAtStart js needs → (k : ℕ) (d : Need) → k < length needs → NamesThread (length needs) (get_or needs k d)
start_names js of needs are k d lt =
    let is = are.each k (get_or needs k d) (slice_get-get_or needs k d lt) in
    subst (λ (need : Need). NamesThread (length needs) need) (sym is)
    (subst (λ (n : ℕ). NamesThread n (need_of (next_in (event_at js (record { thread = k; event = 0 }))))) (sym are.as_many) (need_names js of k 0))

-- ---- a step of the check
module _ (js : Journals) (of : AreOfLawfulOrder js) (check : JournalCheck) (at : ChecksAt js check) (t : ℕ) (lowest : IsLowestReady check.waits t) where
  abbrev V : Behavior
  V = by_journals js

  abbrev start : PlainState
  start = starting_state [] js

  abbrev play : List ℕ
  play = lowest_play [] js

  abbrev s : PlainState
  s = state_reached (by_journals js) (starting_state [] js) (lowest_play [] js) check.waits

  abbrev k : ℕ
  k = made_by (lowest_play [] js) (counted check.waits) t

  made : (o : Operation) × Makes V s t o
  made = made_now V start play check.waits at.follows t lowest

  pub play_within : counted check.waits < length play
  play_within = (next_of_front V start play check.waits at.follows t lowest).within

  step_is_of : get_or play (counted check.waits) 0 ≡ t
  step_is_of = (next_of_front V start play check.waits at.follows t lowest).is_of

  pub thread_within : t < length js
  thread_within = omega (arith, made.1.within, as_many_after V (take (counted check.waits) play) start, length-map {B = List Event} js (λ (j : List Event). []))

  pub as_many_needs : length check.waits.needs ≡ length js
  as_many_needs = at.follows.awaits.as_many ∙ as_many_after V (take (counted check.waits) play) start ∙ length-map js (λ (j : List Event). [])

  counts : count s.journals t ≡ k
  counts = counts_are js play (low_is_whole js of).is_play (counted check.waits) t (omega (arith, play_within))

  next_is : next_in (event_at js (record { thread = t; event = k })) ≡ Wants made.0
  next_is = ap (λ (n : ℕ). next_in (event_at js (record { thread = t; event = n }))) (sym counts) ∙ made.1.wanted

  pub made_is : count_in check.checker.made t ≡ k
  made_is = at.holds.made t

  -- there is a next event
  pub some_event : (place : ℕ) → place ≡ count_in check.checker.made t → event_at js (record { thread = t; event = place }) ≡ None → ⊥
  some_event place is none =
      let none' = ap (λ (n : ℕ). next_in (event_at js (record { thread = t; event = n }))) (sym made_is ∙ sym is) ∙ ap next_in none in
      let wants = next_is in
      absurd cc

  module _ (event : Event) (there : event_at js (record { thread = t; event = k }) ≡ Some event) where
    by_event : made.0 ≡ operation_of event
    by_event = let here = ap next_in (sym there) ∙ next_is in cc

    pub next_step : IsNextStep js play (counted check.waits) t event
    next_step = record {
      places = fit_in_places js of;
      whole = low_is_whole js of;
      step = record { within = play_within; is_of = step_is_of; makes = there };
    }

    pub room : suc k < 2 ^ 32
    room = omega (arith, slice_get_within (journal_of js t) k event there, (fit_in_places js of).events t [] thread_within)

    pub room_for_event : suc (get_or check.waits.events t 0) < 2 ^ 64
    room_for_event = omega (arith, at.follows.awaits.events t, counts, room)

    pub room_for_draw : is_draw event ≡ true → suc check.waits.draws < 2 ^ 64
    room_for_draw = go event there (subst (λ (o : Operation). IsTrue (is_enabled s o)) by_event made.1.enabled)
      where
        go : (e : Event) → event_at js (record { thread = t; event = k }) ≡ Some e → IsTrue (is_enabled s (operation_of e)) → is_draw e ≡ true → suc check.waits.draws < 2 ^ 64
        go (Read object value) is enabled draw = absurd cc
        go (Write object value) is enabled draw = absurd cc
        go (Update object old new) is enabled draw = absurd cc
        go (Marked (Join from upto)) is enabled draw = absurd cc
        go (Marked (Fence number)) is enabled draw = absurd cc
        go (Marked (Draw number)) is enabled draw = omega (arith, eqb-true number (suc s.draws) enabled, at.follows.awaits.draws, draw_is_small js of t k number is)

    -- before an access the thread waits for nothing
    pub waits_for_nothing : is_access event ≡ true → slice_get check.waits.needs t ≡ Some Free
    waits_for_nothing access =
        let there' = slice_get-get_or check.waits.needs t Free (omega (arith, thread_within, as_many_needs)) in
        there' ∙ ap Some (at.follows.awaits.needs t (get_or check.waits.needs t Free) there' ∙ ap need_of (made.1.wanted ∙ ap Wants by_event) ∙ go event access)
      where
        go : (e : Event) → is_access e ≡ true → need_of (Wants (operation_of e)) ≡ Free
        go (Read object value) access = refl
        go (Write object value) access = refl
        go (Update object old new) access = refl
        go (Marked mark) access = absurd cc

    drawn : (draws : ℕ) → (if is_draw event then suc draws else draws) ≡ draws_after made.0 draws
    drawn draws = draws_counted event draws ∙ ap (λ (o : Operation). draws_after o draws) (sym by_event)

    next_after : (place : ℕ) → place ≡ suc k → need_of (next_in (event_at js (record { thread = t; event = place }))) ≡ need_of (next_of V (step V s t) t)
    next_after place is = ap (λ (n : ℕ). need_of (next_in (event_at js (record { thread = t; event = n })))) (is ∙ ap suc (sym counts) ∙ sym (counts_step V s t made.0 made.1))

    module _ (place : ℕ) (place_is : place ≡ suc k) (check' : JournalCheck)
        (many : length check'.checker.marks.items ≡ length check.checker.marks.items) (taken : TakesEvent check.checker t event check'.checker)
        (waits_are : check'.waits ≡ after_step check.waits t (is_draw event) (need_of (next_in (event_at js (record { thread = t; event = place }))))) where
      pub more_counted : counted check'.waits ≡ suc (counted check.waits)
      more_counted = one_more_counted V start play check.waits at.follows t lowest made.0 made.1 (is_draw event) drawn (need_of (next_in (event_at js (record { thread = t; event = place })))) (next_after place place_is) check'.waits waits_are

      pub checks_on : ChecksAt js check'
      checks_on = record {
        many = many ∙ at.many;
        follows = follows_on V start play check.waits at.follows t lowest made.0 made.1 (is_draw event) drawn (need_of (next_in (event_at js (record { thread = t; event = place })))) (next_after place place_is) check'.waits waits_are;
        holds = subst (λ (n : ℕ). Holds js play n check'.checker) (sym more_counted) (taken js play (counted check.waits) next_step at.holds);
      }

-- ---- before the first step
pub check_starts : (js : Journals) (needs : List Need) (check : JournalCheck) → AreNeedsAtStart js needs
    → length check.checker.marks.items ≡ length js → ((play : List ℕ) → Holds js play 0 check.checker) → check.waits ≡ no_counts needs → ChecksAt js check
check_starts js needs check are many holds waits_are = record {
  many = many;
  follows = record {
    lowest = lowest_play_is_lowest [] js;
    awaits = subst (λ (x : PlainState). AwaitsNext (by_journals js) x check.waits) (sym state_is) (awaits_at_start (by_journals js) [] js needs check.waits are.as_many are.each waits_are);
  };
  holds = subst (λ (n : ℕ). Holds js (lowest_play [] js) n check.checker) (sym none_counted) (holds (lowest_play [] js));
}
  where
    none_counted : counted check.waits ≡ 0
    none_counted = ap (λ (w : NeedsAndCounts). sum w.events) waits_are ∙ sum_none (length needs)

    state_is : state_reached (by_journals js) (starting_state [] js) (lowest_play [] js) check.waits ≡ starting_state [] js
    state_is = ap (λ (n : ℕ). after (by_journals js) (starting_state [] js) (take n (lowest_play [] js))) none_counted

-- ---- what the check tells
module _ (js : Journals) (of : AreOfLawfulOrder js) (check : JournalCheck) (at : ChecksAt js check) where
  -- where some earlier conflict is unordered, the journals are not ordered
  pub not_ordered : (first second : Place) → check.checker.verdict ≡ Unordered first second → ¬ IsOrdered js
  not_ordered first second is ordered =
      let judged = subst (λ (v : Verdict). JudgedUpTo js (lowest_play [] js) (counted check.waits) v) is at.holds.judged in
      let told = verdict_is js (lowest_play [] js) (Unordered first second) (low_is_whole js of) judged in
      absurd (let ordered_is = told.ordered.1 ordered in cc)

  -- and where none is to the end, they are
  pub is_ordered : check.checker.verdict ≡ Ordered → ((t : ℕ) → is_ready check.waits t ≡ false) → IsOrdered js
  is_ordered is none =
      let play = lowest_play [] js in
      let all = all_counted (by_journals js) (starting_state [] js) play check.waits at.follows none in
      let judged = subst (λ (v : Verdict). JudgedUpTo js play (counted check.waits) v) is at.holds.judged in
      (verdict_is js play Ordered (low_is_whole js of) (λ step lt. judged step (omega arith))).ordered.0 refl
