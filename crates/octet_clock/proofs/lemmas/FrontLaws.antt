-- Fronts of a script and a log, beside the lowest order and beside the log alone.
use Rattle.std.proofs.Common.{◌≡◌, ℕ, zero, suc, ◌<◌, ◌≤◌, ◌⊎◌, ◌↔◌, inl, inr, Bool, true, false, nat_lt, List, [], ◌∷◌, ◌++◌, length, Option, Some, None, IsTrue, slice_get, refl, sym, ap, ◌∙◌, subst, arith, append-nil}
use Rattle.std.proofs.lemmas.Bool.{cases_eq, cases_lt, ltb-true, lt-ltb, le-ltb}
use Rattle.std.proofs.lemmas.List.{length-map}
use Rattle.std.proofs.lemmas.Option.{slice_get_past}
use Rattle.octet_model.specs.declared.command.Command.{Command}
use Rattle.octet_model.specs.declared.event.Event.{Event}
use Rattle.octet_model.specs.declared.event.Mark.{Mark}
use Rattle.octet_model.specs.declared.log.Gapped.{Gapped}
use Rattle.octet_model.specs.declared.log.ThreadLog.{ThreadLog}
use Rattle.octet_model.specs.declared.script.Script.{Script}
use Rattle.octet_model.specs.Thread.{AccessOrEnd, ToRead, ToWrite, ToBump, ToEnd, added}
use Rattle.octet_model.specs.Machine.{journal_of, PlainState, Operation, MakeMark, MakeRead, MakeWrite, MakeUpdate, Next, Wants, Finished, NothingFits, Behavior, is_enabled, next_of, may_step, step, after, IsFront, IsOrder}
use Rattle.octet_model.specs.HappensBefore.{IsOrdered}
use Rattle.octet_model.specs.Journals.{access_count, mark_count, gap_after, due_mark, next_access, mark_first}
use Rattle.octet_model.specs.Orders.{thread_log_of, by_log, starting_heap, opening_state, state_after, journals_after, outcome_of, lowest_order, IsLawfulFront, IsLawfulOrder}
use Rattle.octet_model.proofs.lemmas.Steps.{makes_from, what_it_makes, other_step}
use Rattle.octet_model.proofs.lemmas.Fronts.{front_leads_on, one_end, after_on}
use Rattle.octet_model.proofs.lemmas.LawfulOrders.{by_finish}
use Rattle.octet_model.proofs.lemmas.LogsOfJournals.{grown, as_many_after}
use Rattle.octet_model.proofs.lemmas.LowestFronts.{IsWithin, lowest_order_is_lawful}
use Rattle.octet_replay.specs.Judged.{DemandsEnd, DemandsAccess}
use Rattle.octet_clock.specs.Fronts.{demand_after, IsThrough, IsAmiss, IsThroughAfter, IsAmissAfter}
use Rattle.octet_clock.specs.Laws.{FrontsArePrefixes, FrontIsOfLog, LawfulLogIsUntied, NoFrontIsAmiss, OneOrderGives, OneOrderTells, UntiedFrontGoesOn, WholeFrontIsOrder}
use Rattle.octet_clock.specs.Untied.{any_access, by_log_alone, opening_alone}
use Rattle.octet_clock.proofs.lemmas.AlikeStates.{enabled_alike}
use Rattle.octet_clock.proofs.lemmas.LogsAlone.{StandsAlike, alike, by_counts, front_alone, lawful_is_untied, untied_leads_on}
use Rattle.octet_clock.proofs.lemmas.FrontsAlone.{IsNextAlone, next_alone, all_within}

-- what follows a front is a front from there
pub front_split : (V : Behavior) (front rest : List ℕ) (s : PlainState) → IsFront V s (front ++ rest) → IsFront V (after V s front) rest
front_split V [] rest s is = is
front_split V (t ∷ front) rest s is = front_split V front rest (step V s t) is.1

-- ---- the lowest order tells of each
pub fronts_are_prefixes : FrontsArePrefixes
fronts_are_prefixes script log front t orders is_front =
    let V = by_log script log in
    let s = opening_state script in
    let on = front_leads_on V (starting_heap script) script.threads (lowest_order script log) front orders.0.1 orders.1 is_front.1 in
    let more = grown V on.0 (after V s front) t in
    (more.0, ap (λ (x : PlainState). journal_of x.journals t) (sym on.2 ∙ after_on V front on.0 s) ∙ more.1)

pub one_order_tells : OneOrderTells
one_order_tells script log order lawful =
    let V = by_log script log in
    let low = lowest_order script log in
    let one : (first second : List ℕ) → IsLawfulOrder script log first → IsOrdered (journals_after script log first) → IsLawfulOrder script log second → IsOrdered (journals_after script log second) =
    λ first second is_first ordered is_second.
    subst (λ (x : PlainState). IsOrdered x.journals) (sym (one_end V (starting_heap script) script.threads first second is_first.1 ordered is_second.1)) ordered in (
      λ ordered. (let is_low = lowest_order_is_lawful script log order lawful ordered in (is_low, one order low lawful ordered is_low)),
      λ orders. one low order orders.0 orders.1 lawful,
    )

pub one_order_gives : OneOrderGives
one_order_gives script log order lawful orders =
    let same = one_end (by_log script log) (starting_heap script) script.threads (lowest_order script log) order orders.0.1 orders.1 lawful.1 in
    (ap (outcome_of script) same, ap (λ (x : PlainState). x.journals) same)

-- ---- through and amiss, by what is next
alone_finished : (next : Option Mark) (more more_marks : Bool) → mark_first next (any_access more more_marks) ≡ Finished → (more ≡ false) × (more_marks ≡ false)
alone_finished (Some mark) more more_marks is = absurd cc
alone_finished None true more_marks is = absurd cc
alone_finished None false true is = absurd cc
alone_finished None false false is = (refl, refl)

module _ (d : AccessOrEnd) (log : ThreadLog) (j : List Event) where
  abbrev due : Option Mark
  due = due_mark (slice_get log.marks (mark_count j)) (gap_after 0 j)

  abbrev next : Next
  next = mark_first (due_mark (slice_get log.marks (mark_count j)) (gap_after 0 j)) (next_access d (nat_lt (access_count j) log.accesses) (nat_lt (mark_count j) (length log.marks)))

  -- where no mark is left, none is due
  none_due : length log.marks ≤ mark_count j → due ≡ None
  none_due le = ap (λ (o : Option Gapped). due_mark o (gap_after 0 j)) (slice_get_past log.marks (mark_count j) le)

  pub amiss_fits_nothing : IsAmiss d log j → next ≡ NothingFits
  amiss_fits_nothing (inl early) =
      let left = lt-ltb (access_count j) log.accesses early.0.fewer in
      (λ i. mark_first (early.1 i) (next_access d (left i) (nat_lt (mark_count j) (length log.marks)))) ∙ go d early.0.ends (nat_lt (mark_count j) (length log.marks))
    where
      go : (x : AccessOrEnd) → DemandsEnd x → (m : Bool) → next_access x true m ≡ NothingFits
      go (ToRead object) ends m = absurd ends
      go (ToWrite object value) ends m = absurd ends
      go (ToBump object amount) ends m = absurd ends
      go (ToEnd end) ends m = refl
  amiss_fits_nothing (inr on) =
      let none = le-ltb (access_count j) log.accesses (omega (arith, on.made)) in
      (λ i. mark_first (none_due on.no_mark_left i) (next_access d (none i) (nat_lt (mark_count j) (length log.marks)))) ∙ go d on.demands (nat_lt (mark_count j) (length log.marks))
    where
      go : (x : AccessOrEnd) → DemandsAccess x → (m : Bool) → next_access x false m ≡ NothingFits
      go (ToRead object) demands m = refl
      go (ToWrite object value) demands m = refl
      go (ToBump object amount) demands m = refl
      go (ToEnd end) demands m = absurd demands

  pub through_is_finished : IsThrough d log j → next ≡ Finished
  through_is_finished through =
      let none = le-ltb (access_count j) log.accesses (omega (arith, through.accesses)) in
      let no_mark = le-ltb (mark_count j) (length log.marks) (omega (arith, through.marks)) in
      (λ i. mark_first (none_due (omega (arith, through.marks)) i) (next_access d (none i) (no_mark i))) ∙ go d through.ends
    where
      go : (x : AccessOrEnd) → DemandsEnd x → next_access x false false ≡ Finished
      go (ToRead object) ends = absurd ends
      go (ToWrite object value) ends = absurd ends
      go (ToBump object amount) ends = absurd ends
      go (ToEnd end) ends = refl

  -- nothing is left of the log
  record IsSpent : Type 0 where
    accesses : access_count j ≡ log.accesses
    marks : mark_count j ≡ length log.marks

  is_spent : IsWithin log j → nat_lt (access_count j) log.accesses ≡ false → nat_lt (mark_count j) (length log.marks) ≡ false → IsSpent
  is_spent within none no_mark = record {
    accesses = elim (cases_lt (access_count j) log.accesses) [
      | inl lt ↦ absurd (let left = lt-ltb (access_count j) log.accesses lt in cc)
      | inr past ↦ omega (arith, within.accesses)
    ];
    marks = elim (cases_lt (mark_count j) (length log.marks)) [
      | inl lt ↦ absurd (let left = lt-ltb (mark_count j) (length log.marks) lt in cc)
      | inr past ↦ omega (arith, within.marks)
    ];
  }

  pub finished_is_through : IsWithin log j → next ≡ Finished → IsThrough d log j
  finished_is_through within is =
      let f = by_finish due d (nat_lt (access_count j) log.accesses) (nat_lt (mark_count j) (length log.marks)) is in
      let spent = is_spent within f.no_access f.no_mark in
      record { ends = subst (λ (x : AccessOrEnd). DemandsEnd x) (sym f.demands) tt; accesses = spent.accesses; marks = spent.marks }

  -- where nothing is left of the log, the thread is through or amiss
  pub spent_ends : IsWithin log j → mark_first due (any_access (nat_lt (access_count j) log.accesses) (nat_lt (mark_count j) (length log.marks))) ≡ Finished → IsThrough d log j ⊎ IsAmiss d log j
  spent_ends within is =
      let parts = alone_finished due (nat_lt (access_count j) log.accesses) (nat_lt (mark_count j) (length log.marks)) is in
      go (is_spent within parts.0 parts.1) d
    where
      go : IsSpent → (x : AccessOrEnd) → IsThrough x log j ⊎ IsAmiss x log j
      go spent (ToEnd end) = inl (record { ends = tt; accesses = spent.accesses; marks = spent.marks })
      go spent (ToRead object) = inr (inr (record { demands = tt; made = spent.accesses; no_mark_left = omega (arith, spent.marks) }))
      go spent (ToWrite object value) = inr (inr (record { demands = tt; made = spent.accesses; no_mark_left = omega (arith, spent.marks) }))
      go spent (ToBump object amount) = inr (inr (record { demands = tt; made = spent.accesses; no_mark_left = omega (arith, spent.marks) }))

-- ---- a front of a script and a log
module _ (script : Script) (log : List ThreadLog) where
  abbrev V : Behavior
  V = by_log script log

  abbrev V' : Behavior
  V' = by_log_alone log

  -- where nothing fits a thread, nothing fits it later
  nothing_fits_still : (rest : List ℕ) (s : PlainState) (t : ℕ) → next_of V s t ≡ NothingFits → IsFront V s rest → next_of V (after V s rest) t ≡ NothingFits
  nothing_fits_still [] s t is front = is
  nothing_fits_still (u ∷ rest) s t is front =
      elim (cases_eq t u) [
        | inl same ↦ absurd (let m = what_it_makes V s u front.0 in let wants = m.1.wanted in let here = ap (λ (n : ℕ). next_of V s n) same in cc)
        | inr differ ↦ nothing_fits_still rest (step V s u) t (ap (λ (j : List Event). V t j) (other_step V s u t differ) ∙ is) front.1
      ]

  module _ (front : List ℕ) (lawful : IsLawfulFront script log front) where
    abbrev s : PlainState
    s = state_after script log front

    abbrev s' : PlainState
    s' = after (by_log_alone log) (opening_alone log) front

    both : IsFront V' (opening_alone log) front × StandsAlike (state_after script log front) (after (by_log_alone log) (opening_alone log) front)
    both = front_alone script log lawful.0 front lawful.1

    many : length (state_after script log front).journals ≡ length log
    many = as_many_after V front (opening_state script) ∙ length-map script.threads (λ (c : List Command). []) ∙ lawful.0

    within : (t : ℕ) → IsWithin (thread_log_of log t) (journal_of (state_after script log front).journals t)
    within t =
        let alone = all_within log front both.0 t in
        let same = both.1.each t in
        record { accesses = omega (arith, alone.accesses, same.accesses); marks = omega (arith, alone.marks, same.marks) }

    abbrev journal : ℕ → List Event
    journal t = journal_of (state_after script log front).journals t

    -- the next step by the log alone may be made by the script too, or the thread is amiss
    module _ (t : ℕ) (lt : t < length log) where
      abbrev own : ThreadLog
      own = thread_log_of log t

      abbrev d : AccessOrEnd
      d = demand_after script t (journal_of (state_after script log front).journals t)

      abbrev due_here : Option Mark
      due_here = due_mark (slice_get (thread_log_of log t).marks (mark_count (journal t))) (gap_after 0 (journal t))

      abbrev left : Bool
      left = nat_lt (access_count (journal t)) (thread_log_of log t).accesses

      abbrev MayOrAmiss : Type 0
      MayOrAmiss = IsTrue (may_step V (state_after script log front) t) ⊎ IsAmissAfter script log front t

      may_or_amiss : (o : Operation) → IsNextAlone due_here left o → IsTrue (is_enabled s' o) → MayOrAmiss
      may_or_amiss (MakeMark mark) is enabled =
          inl (makes_from V s t (MakeMark mark) (omega (arith, many)) (ap (λ (x : Option Mark). mark_first x (next_access d left (nat_lt (mark_count (journal t)) (length own.marks)))) is)
          (enabled_alike s s' (MakeMark mark) (alike s s' both.1) ∙ enabled)).may
      may_or_amiss (MakeRead object) is enabled = go d refl
        where
          wants : (x : AccessOrEnd) (o : Operation) → d ≡ x → next_access x true (nat_lt (mark_count (journal t)) (length own.marks)) ≡ Wants o → next_of V s t ≡ Wants o
          wants x o is_d next = (λ i. mark_first (is.0 i) (next_access (is_d i) (is.1 i) (nat_lt (mark_count (journal t)) (length own.marks)))) ∙ next

          go : (x : AccessOrEnd) → d ≡ x → MayOrAmiss
          go (ToRead o) is_d = inl (makes_from V s t (MakeRead o) (omega (arith, many)) (wants (ToRead o) (MakeRead o) is_d refl) refl).may
          go (ToWrite o value) is_d = inl (makes_from V s t (MakeWrite o value) (omega (arith, many)) (wants (ToWrite o value) (MakeWrite o value) is_d refl) refl).may
          go (ToBump o amount) is_d = inl (makes_from V s t (MakeUpdate o (added amount)) (omega (arith, many)) (wants (ToBump o amount) (MakeUpdate o (added amount)) is_d refl) refl).may
          go (ToEnd end) is_d = inr (inl (record { ends = subst (λ (x : AccessOrEnd). DemandsEnd x) (sym is_d) tt; fewer = ltb-true (access_count (journal t)) own.accesses is.1 }, is.0))
      may_or_amiss (MakeWrite object value) is enabled = absurd is
      may_or_amiss (MakeUpdate object change) is enabled = absurd is

    -- the first thread that is amiss, or all are through
    through_or_amiss : (n : ℕ) → ((t : ℕ) → t < n → IsThroughAfter script log front t ⊎ IsAmissAfter script log front t) → n ≤ length log
        → ((t : ℕ) → t < n → IsThroughAfter script log front t) ⊎ ((t : ℕ) × (t < length log) × IsAmissAfter script log front t)
    through_or_amiss zero each le = inl (λ t lt. absurd (omega arith))
    through_or_amiss (suc n) each le =
        elim (through_or_amiss n (λ t lt. each t (omega arith)) (omega arith)) [
          | inr amiss ↦ inr amiss
          | inl all ↦ elim (each n (omega arith)) [
            | inr amiss ↦ inr (n, omega arith, amiss)
            | inl through ↦ inl (λ t lt. elim (cases_lt t n) [
              | inl below ↦ all t below
              | inr past ↦ (let same : n ≡ t = omega arith in subst (λ (u : ℕ). IsThroughAfter script log front u) same through)
            ])
          ]
        ]

    -- each is through exactly where the front is an order
    all_through : ((t : ℕ) → t < length log → IsThroughAfter script log front t) → IsLawfulOrder script log front
    all_through all = (lawful.0, (lawful.1, λ t lt. through_is_finished (demand_after script t (journal t)) (thread_log_of log t) (journal t) (all t (omega (arith, many)))))

    whole : ((t : ℕ) → t < length log → IsThroughAfter script log front t) ↔ IsLawfulOrder script log front
    whole = (all_through, λ order t lt. finished_is_through (demand_after script t (journal t)) (thread_log_of log t) (journal t) (within t) (order.1.1 t (omega (arith, many))))

    -- what is next by the log alone decides
    module _ (rest : List ℕ) (order : IsOrder (by_log_alone log) (opening_alone log) (front ++ rest)) where
      next_alone_of : (t : ℕ) → next_of V' s' t ≡ mark_first (due_mark (slice_get (thread_log_of log t).marks (mark_count (journal t))) (gap_after 0 (journal t))) (any_access (nat_lt (access_count (journal t)) (thread_log_of log t).accesses) (nat_lt (mark_count (journal t)) (length (thread_log_of log t).marks)))
      next_alone_of t = by_counts script log s s' both.1 t

      abbrev EndsOrGoesOn : Type 0
      EndsOrGoesOn = IsLawfulOrder script log front ⊎ ((t : ℕ) × IsTrue (may_step (by_log script log) (state_after script log front) t)) ⊎ ((t : ℕ) × (t < length log) × IsAmissAfter script log front t)

      goes_on_by : (more : List ℕ) → rest ≡ more → EndsOrGoesOn
      goes_on_by [] is =
          let ended : IsOrder V' (opening_alone log) front = subst (λ (o : List ℕ). IsOrder V' (opening_alone log) o) (ap (λ (r : List ℕ). front ++ r) is ∙ append-nil front) order in
          let each : (t : ℕ) → t < length log → IsThroughAfter script log front t ⊎ IsAmissAfter script log front t =
          λ t lt. spent_ends (demand_after script t (journal t)) (thread_log_of log t) (journal t) (within t) (sym (next_alone_of t) ∙ ended.1 t (omega (arith, many, both.1.as_many))) in
          elim (through_or_amiss (length log) each (omega arith)) [ inl all ↦ inl (all_through all) | inr amiss ↦ inr (inr amiss) ]
      goes_on_by (t ∷ more) is =
          let step_left = subst (λ (r : List ℕ). IsFront V' (after V' (opening_alone log) front) r) is (front_split V' front rest (opening_alone log) order.0) in
          let m = what_it_makes V' s' t step_left.0 in
          let lt : t < length log = omega (arith, m.1.within, both.1.as_many, many) in
          let next = next_alone (due_here t lt) (left t lt) (nat_lt (mark_count (journal t)) (length (thread_log_of log t).marks)) m.0 (sym (next_alone_of t) ∙ m.1.wanted) in
          elim (may_or_amiss t lt m.0 next m.1.enabled) [ inl may ↦ inr (inl (t, may)) | inr amiss ↦ inr (inr (t, lt, amiss)) ]

pub no_front_is_amiss : NoFrontIsAmiss
no_front_is_amiss script log front t orders lawful lt amiss =
    let V = by_log script log in
    let s = opening_state script in
    let on = front_leads_on V (starting_heap script) script.threads (lowest_order script log) front orders.0.1 orders.1 lawful.1 in
    let j = journal_of (journals_after script log front) t in
    let now = amiss_fits_nothing (demand_after script t j) (thread_log_of log t) j amiss in
    let later = nothing_fits_still script log on.0 (after V s front) t now (front_split V front on.0 s on.1.0) in
    let there : t < length (after V s (front ++ on.0)).journals = omega (arith, as_many_after V (front ++ on.0) s, length-map {B = List Event} script.threads (λ (c : List Command). []), lawful.0) in
    let finished = on.1.1 t there in
    let same = ap (λ (x : PlainState). next_of V x t) (after_on V front on.0 s) in
    absurd cc

pub whole_front_is_order : WholeFrontIsOrder
whole_front_is_order script log front lawful = whole script log front lawful

pub front_is_of_log : FrontIsOfLog
front_is_of_log script log front lawful = (both script log front lawful).0

pub untied_front_goes_on : UntiedFrontGoesOn
untied_front_goes_on script log front untied lawful =
    let on = untied_leads_on log front untied (both script log front lawful).0 in
    goes_on_by script log front lawful on.0 on.1 on.0 refl

pub lawful_log_is_untied : LawfulLogIsUntied
lawful_log_is_untied = lawful_is_untied
