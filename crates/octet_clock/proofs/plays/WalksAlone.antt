-- The walk of a log alone: its steps, its end, and what that tells.
use Rattle.std.proofs.Common.{◌≡◌, ℕ, zero, suc, ◌+◌, ◌-◌, ◌^◌, ◌<◌, ◌≤◌, ◌↔◌, inl, inr, Bool, true, false, if◌then◌else◌, nat_lt, List, [], ◌∷◌, ◌++◌, length, replicate, Option, Some, None, IsTrue, get_or, slice_get, slice_index, slice_set, refl, sym, ap, ◌∙◌, subst, arith, length-set, length-append, append-nil}
use Rattle.std.proofs.lemmas.Bool.{cases_eq, ltb-true, eqb-true}
use Rattle.std.proofs.lemmas.List.{length-map, length-replicate, get_or-set_same, set-get_or, set-set}
use Rattle.std.proofs.lemmas.Option.{same_Some, slice_get_within, slice_get-get_or}
use Rattle.std.proofs.lemmas.List.Sums.{sum_by-set}
use Rattle.std.specs.List.{sum}
use Rattle.std.specs.Vec.{with_item}
use Rattle.octet_model.specs.declared.event.Event.{Event}
use Rattle.octet_model.specs.declared.event.Event.TheVariants.{Marked}
use Rattle.octet_model.specs.declared.event.Mark.{Mark}
use Rattle.octet_model.specs.declared.event.Mark.TheVariants.{Join, Draw, Fence}
use Rattle.octet_model.specs.declared.log.ThreadLog.{ThreadLog}
use Rattle.octet_model.specs.Machine.{Journals, journal_of, PlainState, Operation, MakeMark, MakeRead, MakeWrite, MakeUpdate, Wants, Behavior, is_enabled, event_made, draws_after, next_of, may_step, step, after, IsFront, AllFinished, IsOrder}
use Rattle.octet_model.specs.Journals.{due_mark, mark_first}
use Rattle.octet_model.specs.Log.{is_log}
use Rattle.octet_model.specs.Orders.{thread_log_of, event_total}
use Rattle.octet_model.proofs.lemmas.Steps.{Makes, what_it_makes, same_journal, other_step}
use Rattle.octet_model.proofs.lemmas.Fronts.{no_journal, after_on, front_on}
use Rattle.octet_model.proofs.lemmas.LowestFronts.{IsWithin}
use Rattle.octet_model.proofs.lemmas.LogsOfJournals.{as_many_after}
use Rattle.octet_model.proofs.lemmas.Splits.{accesses_split, marks_split, gap_split, length_parts}
use Rattle.octet_replay.specs.declared.need.Need.{Need}
use Rattle.octet_replay.specs.declared.need.Need.TheVariants.{Free}
use Rattle.octet_replay.specs.Needs.{NeedsAndCounts, after_events, after_step, no_counts, is_met, is_ready, NamesThread}
use Rattle.octet_replay.specs.Replayed.{is_draw, AwaitsNext}
use Rattle.octet_replay.specs.Threads.{need_of}
use Rattle.octet_replay.proofs.lemmas.Awaiting.{draws_counted, ready_may, awaits_after, one_counted, awaits_at_start, sum_none}
use Rattle.octet_replay.proofs.lemmas.EventsMade.{do_alike, gap_within}
use Rattle.octet_replay.proofs.lemmas.Reading.{log_read, get_same, get_other}
use Rattle.octet_replay.proofs.lemmas.Valid.{few_accesses, few_marks, due_is_valid}
use Rattle.octet_clock.specs.declared.log_walk.LogWalk.{LogWalk}
use Rattle.octet_clock.specs.declared.log_walk.Progress.{Progress}
use Rattle.octet_clock.specs.Following.{counted}
use Rattle.octet_clock.specs.LogWalks.{next_by_progress, with_accesses, Advances, AreAccesses, AreFirstNeeds, HasMadeAll, HasProgress, WalksAt, WantsSome}
use Rattle.octet_clock.specs.Untied.{any_access, next_by_log_alone, by_log_alone, opening_alone, IsUntied}
use Rattle.octet_clock.proofs.lemmas.LogsAlone.{untied_leads_on}
use Rattle.octet_clock.proofs.lemmas.FrontLaws.{front_split}
use Rattle.octet_clock.proofs.lemmas.FrontsAlone.{IsNextAlone, next_alone, all_within, front_is_short}

-- ---- one thread
module _ (log : ThreadLog) (p : Progress) where
  abbrev due : Option Mark
  due = due_mark (slice_get log.marks p.marks) p.gap

  abbrev left : Bool
  left = nat_lt p.accesses log.accesses

  abbrev IsNextHere : Operation → Type 0
  IsNextHere o = IsNextAlone due left o

  next_here : (o : Operation) → next_by_progress log p ≡ Wants o → IsNextHere o
  next_here o is = next_alone due left (nat_lt p.marks (length log.marks)) o is

  -- where some operation is next and no mark is due, an access is left
  pub access_left : WantsSome log p → due ≡ None → p.accesses < log.accesses
  access_left wants none = go wants.0 (next_here wants.0 wants.1)
    where
      go : (o : Operation) → IsNextHere o → p.accesses < log.accesses
      go (MakeMark mark) is = absurd cc
      go (MakeRead object) is = ltb-true p.accesses log.accesses is.1
      go (MakeWrite object value) is = absurd is
      go (MakeUpdate object change) is = absurd is

  -- a mark that is due is made
  pub advances_by_mark : (mark : Mark) (p' : Progress) (drew : Bool) → due ≡ Some mark → p' ≡ record { marks = p.marks + 1; accesses = p.accesses; gap = 0 } → drew ≡ is_draw (Marked mark) → Advances log p p' drew
  advances_by_mark mark p' drew is_due is drawn = record {
    counts = λ j o heap next has. subst (λ (x : Progress). HasProgress (j ++ event_made o heap ∷ []) x) (sym is) (counts j o heap (next_here o next) has);
    draws = λ o heap next. drawn ∙ draws o heap (next_here o next);
  }
    where
      counts : (j : List Event) (o : Operation) (heap : List ℕ) → IsNextHere o → HasProgress j p → HasProgress (j ++ event_made o heap ∷ []) (record { marks = p.marks + 1; accesses = p.accesses; gap = 0 })
      counts j (MakeMark other) heap next has = record {
        counts_marks = omega (arith, marks_split j (Marked other ∷ []), has.counts_marks);
        counts_accesses = omega (arith, accesses_split j (Marked other ∷ []), has.counts_accesses);
        counts_gap = sym (gap_split 0 j (Marked other ∷ []));
      }
      counts j (MakeRead object) heap next has = absurd (let none = next.0 in cc)
      counts j (MakeWrite object value) heap next has = absurd next
      counts j (MakeUpdate object change) heap next has = absurd next

      draws : (o : Operation) (heap : List ℕ) → IsNextHere o → is_draw (Marked mark) ≡ is_draw (event_made o heap)
      draws (MakeMark other) heap next = let same : mark ≡ other = same_Some mark other (sym is_due ∙ next) in ap (λ (m : Mark). is_draw (Marked m)) same
      draws (MakeRead object) heap next = absurd (let none = next.0 in cc)
      draws (MakeWrite object value) heap next = absurd next
      draws (MakeUpdate object change) heap next = absurd next

  -- and else an access
  pub advances_by_access : (p' : Progress) → due ≡ None → p' ≡ record { marks = p.marks; accesses = p.accesses + 1; gap = p.gap + 1 } → Advances log p p' false
  advances_by_access p' none is = record {
    counts = λ j o heap next has. subst (λ (x : Progress). HasProgress (j ++ event_made o heap ∷ []) x) (sym is) (counts j o heap (next_here o next) has);
    draws = λ o heap next. draws o heap (next_here o next);
  }
    where
      counts : (j : List Event) (o : Operation) (heap : List ℕ) → IsNextHere o → HasProgress j p → HasProgress (j ++ event_made o heap ∷ []) (record { marks = p.marks; accesses = p.accesses + 1; gap = p.gap + 1 })
      counts j (MakeMark other) heap next has = absurd cc
      counts j (MakeRead object) heap next has = record {
        counts_marks = omega (arith, marks_split j (event_made (MakeRead object) heap ∷ []), has.counts_marks);
        counts_accesses = omega (arith, accesses_split j (event_made (MakeRead object) heap ∷ []), has.counts_accesses);
        counts_gap = omega (arith, gap_split 0 j (event_made (MakeRead object) heap ∷ []), has.counts_gap);
      }
      counts j (MakeWrite object value) heap next has = absurd next
      counts j (MakeUpdate object change) heap next has = absurd next

      draws : (o : Operation) (heap : List ℕ) → IsNextHere o → false ≡ is_draw (event_made o heap)
      draws (MakeMark other) heap next = absurd cc
      draws (MakeRead object) heap next = refl
      draws (MakeWrite object value) heap next = absurd next
      draws (MakeUpdate object change) heap next = absurd next

  pub by_progress : (j : List Event) → HasProgress j p → next_by_log_alone log j ≡ next_by_progress log p
  by_progress j has = λ i. mark_first (due_mark (slice_get log.marks (sym has.counts_marks i)) (sym has.counts_gap i)) (any_access (nat_lt (sym has.counts_accesses i) log.accesses) (nat_lt (sym has.counts_marks i) (length log.marks)))

-- ---- what a thread waits for names a thread of the log
need_names : (threads : ℕ) (next : Option Mark) (more more_marks : Bool) → ((from upto : ℕ) → next ≡ Some (Join from upto) → from < threads) → NamesThread threads (need_of (mark_first next (any_access more more_marks)))
need_names threads (Some (Join from upto)) more more_marks names = names from upto refl
need_names threads (Some (Draw zero)) more more_marks names = tt
need_names threads (Some (Draw (suc number))) more more_marks names = tt
need_names threads (Some (Fence number)) more more_marks names = tt
need_names threads None true more_marks names = tt
need_names threads None false true names = tt
need_names threads None false false names = tt

pub names_thread : (log : List ThreadLog) → IsTrue (is_log log) → (t : ℕ) → t < length log → (p : Progress) → NamesThread (length log) (need_of (next_by_progress (thread_log_of log t) p))
names_thread log valid t within p =
    let own = thread_log_of log t in
    need_names (length log) (due_mark (slice_get own.marks p.marks) p.gap) (nat_lt p.accesses own.accesses) (nat_lt p.marks (length own.marks)) (λ from upto is. (due_is_valid log valid t within p.marks p.gap (Join from upto) is).0)

pub first_names : (log : List ThreadLog) → IsTrue (is_log log) → (needs : List Need) → AreFirstNeeds log needs → (k : ℕ) (d : Need) → k < length needs → NamesThread (length needs) (get_or needs k d)
first_names log valid needs are k d lt =
    let own = thread_log_of log k in
    let first : Progress = record { marks = 0; accesses = 0; gap = 0 } in
    let is = are.each k (get_or needs k d) (slice_get-get_or needs k d lt) ∙ ap need_of (by_progress own first [] (record { counts_marks = refl; counts_accesses = refl; counts_gap = refl })) in
    subst (λ (need : Need). NamesThread (length needs) need) (sym is)
    (subst (λ (n : ℕ). NamesThread n (need_of (next_by_progress own first))) (sym are.as_many) (names_thread log valid k (omega (arith, are.as_many)) first))

-- ---- accesses that are next
module _ (log : ThreadLog) (p : Progress) (is : next_by_progress log p ≡ Wants (MakeRead 0)) where
  no_mark : due log p ≡ None
  no_mark = (next_here log p (MakeRead 0) is).0

  pub one_left : p.accesses < log.accesses
  one_left = ltb-true p.accesses log.accesses (next_here log p (MakeRead 0) is).1

  -- one of them is made
  advances_to_next : (p' : Progress) → p' ≡ with_accesses p 1 → Advances log p p' false
  advances_to_next p' is_next =
      let accesses : 1 + p.accesses ≡ p.accesses + 1 = omega arith in
      let gap : 1 + p.gap ≡ p.gap + 1 = omega arith in
      advances_by_access log p p' no_mark (is_next ∙ (λ i. record { marks = p.marks; accesses = accesses i; gap = gap i }))

none_more : (p : Progress) → with_accesses p 0 ≡ p
none_more p =
    let accesses : 0 + p.accesses ≡ p.accesses = omega arith in
    let gap : 0 + p.gap ≡ p.gap = omega arith in
    λ i. record { marks = p.marks; accesses = accesses i; gap = gap i }

one_more : (p : Progress) (m : ℕ) → with_accesses p (suc m) ≡ with_accesses (with_accesses p m) 1
one_more p m =
    let accesses : suc m + p.accesses ≡ 1 + (m + p.accesses) = omega arith in
    let gap : suc m + p.gap ≡ 1 + (m + p.gap) = omega arith in
    λ i. record { marks = p.marks; accesses = accesses i; gap = gap i }

first_is_next : (log : ThreadLog) (p : Progress) (more : ℕ) → AreAccesses log p (suc more) → next_by_progress log p ≡ Wants (MakeRead 0)
first_is_next log p more next = ap (next_by_progress log) (sym (none_more p)) ∙ next 0 (omega arith)

-- ---- a step of the walk
module _ (log : List ThreadLog) (valid : IsTrue (is_log log)) (walk : LogWalk) (at : WalksAt log walk) (t : ℕ) (ready : is_ready walk.waits t ≡ true) where
  abbrev V₁ : Behavior
  V₁ = by_log_alone log

  abbrev s : PlainState
  s = after (by_log_alone log) (opening_alone log) at.front

  abbrev own : ThreadLog
  own = thread_log_of log t

  may : IsTrue (may_step V₁ s t)
  may = sym (ready_may V₁ s walk.waits at.awaits t) ∙ ready

  made : (o : Operation) × Makes V₁ s t o
  made = what_it_makes V₁ s t may

  many : length s.journals ≡ length log
  many = as_many_after V₁ at.front (opening_alone log) ∙ length-map log (λ (l : ThreadLog). [])

  pub thread_within : t < length walk.threads.items
  thread_within = omega (arith, made.1.within, many, at.as_many)

  pub log_within : t < length log
  log_within = omega (arith, thread_within, at.as_many)

  pub as_many_needs : length walk.waits.needs ≡ length log
  as_many_needs = at.awaits.as_many ∙ many

  -- what is read of the log and of the walk
  pub own_read : (logs : List ThreadLog) (read : ThreadLog) → logs ≡ log → read ≡ get_or logs t read → read ≡ own
  own_read logs read logs_are is = log_read log t read (is ∙ ap (λ (ls : List ThreadLog). get_or ls t read) logs_are) log_within

  pub progress_read : (p : Progress) → p ≡ get_or walk.threads.items t p → slice_get walk.threads.items t ≡ Some p
  progress_read p is = slice_get-get_or walk.threads.items t p thread_within ∙ ap (λ (x : Progress). Some x) (sym is)

  journals_within : IsWithin own (journal_of s.journals t)
  journals_within = all_within log at.front at.is_front t

  module _ (p : Progress) (there : slice_get walk.threads.items t ≡ Some p) where
    has : HasProgress (journal_of s.journals t) p
    has = at.each t p there

    next_is : next_by_progress own p ≡ Wants made.0
    next_is = sym (by_progress own p (journal_of s.journals t) has) ∙ made.1.wanted

    pub wants : WantsSome own p
    wants = (made.0, next_is)

    pub gap_within_accesses : p.gap ≤ p.accesses
    gap_within_accesses = omega (arith, gap_within 0 (journal_of s.journals t), has.counts_gap, has.counts_accesses)

    pub room_for_events : (more : ℕ) → more + p.accesses ≤ own.accesses + 1 → get_or walk.waits.events t 0 + more < 2 ^ 64
    room_for_events more within =
        omega (
          arith,
          within,
          at.awaits.events t,
          length_parts (journal_of s.journals t),
          has.counts_accesses,
          journals_within.marks,
          few_accesses log valid t,
          few_marks log valid t,
        )

    pub room_for_event : suc (get_or walk.waits.events t 0) < 2 ^ 64
    room_for_event = omega (arith, room_for_events 1 (omega (arith, has.counts_accesses, journals_within.accesses)))

    module _ (p' : Progress) (drew : Bool) (advances : Advances own p p' drew) where
      pub room_for_draw : drew ≡ true → suc walk.waits.draws < 2 ^ 64
      room_for_draw is = go made.0 next_is made.1.enabled (sym (advances.draws made.0 [] next_is) ∙ is)
        where
          go : (o : Operation) → next_by_progress own p ≡ Wants o → IsTrue (is_enabled s o) → is_draw (event_made o []) ≡ true → suc walk.waits.draws < 2 ^ 64
          go (MakeMark (Join from upto)) next enabled draw = absurd cc
          go (MakeMark (Fence number)) next enabled draw = absurd cc
          go (MakeMark (Draw number)) next enabled draw =
              omega (
                arith,
                eqb-true number (suc s.draws) enabled,
                at.awaits.draws,
                (due_is_valid log valid t log_within p.marks p.gap (Draw number) (next_here own p (MakeMark (Draw number)) next)).1,
              )
          go (MakeRead object) next enabled draw = absurd cc
          go (MakeWrite object value) next enabled draw = absurd cc
          go (MakeUpdate object change) next enabled draw = absurd cc

      drawn : (draws : ℕ) → (if drew then suc draws else draws) ≡ draws_after made.0 draws
      drawn draws =
          ap (λ (b : Bool). if b then suc draws else draws) (advances.draws made.0 [] next_is)
          ∙ draws_counted (event_made made.0 []) draws ∙ (do_alike made.0 []).draws draws

      own_journal : journal_of (step V₁ s t).journals t ≡ journal_of s.journals t ++ event_made made.0 s.heap ∷ []
      own_journal = ap (λ (js : Journals). journal_of js t) made.1.appends ∙ same_journal s.journals t (event_made made.0 s.heap) made.1.within

      has_more : HasProgress (journal_of (step V₁ s t).journals t) p'
      has_more = subst (λ (j : List Event). HasProgress j p') (sym own_journal) (advances.counts (journal_of s.journals t) made.0 s.heap next_is has)

      next_after : need_of (next_by_progress own p') ≡ need_of (next_of V₁ (step V₁ s t) t)
      next_after = ap need_of (sym (by_progress own p' (journal_of (step V₁ s t).journals t) has_more))

      module _ (walk' : LogWalk) (threads_are : walk'.threads.items ≡ slice_set walk.threads.items t p') (waits_are : walk'.waits ≡ after_step walk.waits t drew (need_of (next_by_progress own p'))) where
        pub more_counted : counted walk'.waits ≡ suc (counted walk.waits)
        more_counted = one_counted V₁ s walk.waits at.awaits t made.0 made.1 drew (drawn walk.waits.draws) (need_of (next_by_progress own p')) next_after walk'.waits waits_are

        state_is : after V₁ (opening_alone log) (at.front ++ t ∷ []) ≡ step V₁ s t
        state_is = after_on V₁ at.front (t ∷ []) (opening_alone log)

        each : (u : ℕ) (q : Progress) → slice_get walk'.threads.items u ≡ Some q → HasProgress (journal_of (step V₁ s t).journals u) q
        each u q at_u =
            let here = ap (λ (ps : List Progress). slice_get ps u) (sym threads_are) ∙ at_u in
            elim (cases_eq u t) [
              | inl same ↦
                  let at_t = subst (λ (n : ℕ). slice_get (slice_set walk.threads.items t p') n ≡ Some q) same here in
                  subst (λ (n : ℕ). HasProgress (journal_of (step V₁ s t).journals n) q) (sym same)
                  (subst (λ (x : Progress). HasProgress (journal_of (step V₁ s t).journals t) x) (get_same walk.threads.items t p' q at_t) has_more)
              | inr differ ↦
                  subst (λ (j : List Event). HasProgress j q) (sym (other_step V₁ s t u differ)) (at.each u q (sym (get_other walk.threads.items t u p' differ) ∙ here))
            ]

        pub walks_on : WalksAt log walk'
        walks_on = record {
          front = at.front ++ t ∷ [];
          is_front = front_on V₁ at.front (t ∷ []) (opening_alone log) at.is_front (may, tt);
          steps = omega (arith, more_counted, at.steps, length-append at.front (t ∷ []));
          awaits = subst (λ (x : PlainState). AwaitsNext V₁ x walk'.waits) (sym state_is)
              (awaits_after V₁ s walk.waits at.awaits t made.0 made.1 drew (drawn walk.waits.draws) (need_of (next_by_progress own p')) next_after walk'.waits waits_are);
          as_many = ap (λ (ps : List Progress). length ps) threads_are ∙ length-set walk.threads.items t p' ∙ at.as_many;
          each = λ u q at_u. subst (λ (x : PlainState). HasProgress (journal_of x.journals u) q) (sym state_is) (each u q at_u);
        }

-- no more events are counted than the log has
pub few_counted : (log : List ThreadLog) (walk : LogWalk) (at : WalksAt log walk) → counted walk.waits ≤ event_total log
few_counted log walk at = omega (arith, at.steps, front_is_short log at.front at.is_front)

-- ---- many accesses at once
-- one more event, with the same need
one_event_more : (w : NeedsAndCounts) (t m : ℕ) (need : Need) → slice_get w.needs t ≡ Some need → t < length w.events → after_step (after_events w t m) t false need ≡ after_events w t (suc m)
one_event_more w t m need there within =
    let events = w.events in
    let e = slice_index events t in
    let needs : slice_set w.needs t need ≡ w.needs = ap (slice_set w.needs t) (same_Some need (get_or w.needs t need) (sym there ∙ slice_get-get_or w.needs t need (slice_get_within w.needs t need there))) ∙ set-get_or w.needs t need in
    let more : slice_set (slice_set events t (m + e)) t (suc (slice_index (slice_set events t (m + e)) t)) ≡ slice_set events t (suc m + e) =
    set-set events t (m + e) (suc (slice_index (slice_set events t (m + e)) t)) ∙ ap (slice_set events t) (let last : suc (slice_index (slice_set events t (m + e)) t) ≡ suc m + e = omega (arith, get_or-set_same events t (m + e) 0 within) in last) in
    λ i. record { needs = needs i; events = more i; draws = w.draws }

free_is_ready : (w : NeedsAndCounts) (t : ℕ) → slice_get w.needs t ≡ Some Free → is_ready w t ≡ true
free_is_ready w t free = ap {B = Bool} (λ (o : Option Need). elim o [ None ↦ false | Some need ↦ is_met w.events w.draws need ]) free

module _ (log : List ThreadLog) (valid : IsTrue (is_log log)) (t : ℕ) where
  module _ (walk : LogWalk) (at : WalksAt log walk) (ready : is_ready walk.waits t ≡ true) (p : Progress) (there : slice_get walk.threads.items t ≡ Some p) where
    abbrev its : ThreadLog
    its = thread_log_of log t

    is_free : next_by_progress its p ≡ Wants (MakeRead 0) → slice_get walk.waits.needs t ≡ Some Free
    is_free next =
        let within : t < length walk.waits.needs = omega (arith, as_many_needs log valid walk at t ready, log_within log valid walk at t ready) in
        let is = slice_get-get_or walk.waits.needs t Free within in
        let journal = journal_of (after (by_log_alone log) (opening_alone log) at.front).journals t in
        is ∙ ap (λ (n : Need). Some n) (at.awaits.needs t (get_or walk.waits.needs t Free) is ∙ ap need_of (by_progress its p journal (at.each t p there) ∙ next))

    pub ready_ahead : (more : ℕ) (walk' : LogWalk) → next_by_progress its p ≡ Wants (MakeRead 0) → walk'.waits ≡ after_events walk.waits t more → is_ready walk'.waits t ≡ true
    ready_ahead more walk' next is = ap (λ (w : NeedsAndCounts). is_ready w t) is ∙ free_is_ready (after_events walk.waits t more) t (is_free next)

    within : t < length walk.threads.items
    within = slice_get_within walk.threads.items t p there

    abbrev between : ℕ → LogWalk
    between m = record { threads = with_item walk.threads t (with_accesses p m); waits = after_events walk.waits t m }

    there_between : (m : ℕ) → slice_get (between m).threads.items t ≡ Some (with_accesses p m)
    there_between m =
        let here = with_accesses p m in
        slice_get-get_or (slice_set walk.threads.items t here) t here (omega (arith, length-set walk.threads.items t here, within)) ∙ ap (λ (x : Progress). Some x) (get_or-set_same walk.threads.items t here here within)

    none_ahead : WalksAt log (between 0)
    none_ahead = record {
      front = at.front;
      is_front = at.is_front;
      steps = ap (λ (w : NeedsAndCounts). counted w) waits_same ∙ at.steps;
      awaits = subst (λ (w : NeedsAndCounts). AwaitsNext (by_log_alone log) (after (by_log_alone log) (opening_alone log) at.front) w) (sym waits_same) at.awaits;
      as_many = ap (λ (ps : List Progress). length ps) threads_same ∙ at.as_many;
      each = λ u q at_u. at.each u q (ap (λ (ps : List Progress). slice_get ps u) (sym threads_same) ∙ at_u);
    }
      where
        threads_same : slice_set walk.threads.items t (with_accesses p 0) ≡ walk.threads.items
        threads_same =
            let read = same_Some p (get_or walk.threads.items t p) (sym there ∙ slice_get-get_or walk.threads.items t p within) in
            ap (slice_set walk.threads.items t) (none_more p ∙ read) ∙ set-get_or walk.threads.items t p

        waits_same : after_events walk.waits t 0 ≡ walk.waits
        waits_same =
            let e : 0 + slice_index walk.waits.events t ≡ get_or walk.waits.events t 0 = omega arith in
            let events = ap (slice_set walk.waits.events t) e ∙ set-get_or walk.waits.events t 0 in
            λ i. record { needs = walk.waits.needs; events = events i; draws = walk.waits.draws }

    one_ahead : (m : ℕ) → AreAccesses its p (suc (suc m)) → WalksAt log (between m) → WalksAt log (between (suc m))
    one_ahead m next before =
        let here = with_accesses p m in
        let first = first_is_next its p (suc m) next in
        walks_on log valid (between m) before t (ready_ahead m (between m) first refl) here (there_between m) (with_accesses p (suc m)) false
        (advances_to_next its here (next m (omega arith)) (with_accesses p (suc m)) (one_more p m)) (between (suc m))
        (sym (set-set walk.threads.items t here (with_accesses p (suc m))))
        (sym (one_event_more walk.waits t m Free (is_free first) (omega (arith, at.awaits.counts, (made log valid walk at t ready).1.within)))
        ∙ ap (after_step (after_events walk.waits t m) t false) (sym (ap need_of (next (suc m) (omega arith)))))

    -- before the last of some accesses that are next
    pub walks_ahead : (more : ℕ) → AreAccesses its p (suc more) → WalksAt log (between more)
    walks_ahead zero next = none_ahead
    walks_ahead (suc m) next = one_ahead m next (walks_ahead m (λ i lt. next i (omega arith)))

  -- what is read of the log and of the walk, and how many accesses are next
  module _ (walk : LogWalk) (at : WalksAt log walk) (ready : is_ready walk.waits t ≡ true) (logs : List ThreadLog) (read : ThreadLog) (logs_are : logs ≡ log) (is_read : read ≡ get_or logs t read)
      (q p : Progress) (q_is : q ≡ get_or walk.threads.items t q) (p_is : p ≡ get_or walk.threads.items t p) (ahead : ℕ) (next : AreAccesses read q ahead) (several : 2 ≤ ahead) where
    abbrev more : ℕ
    more = ahead - 1

    there : slice_get walk.threads.items t ≡ Some p
    there = progress_read log valid walk at t ready p p_is

    next_here_too : AreAccesses (thread_log_of log t) p (suc more)
    next_here_too i lt =
        let same : q ≡ p = same_Some q p (sym (progress_read log valid walk at t ready q q_is) ∙ there) in
        let of_log = subst (λ (l : ThreadLog). AreAccesses l q ahead) (own_read log valid walk at t ready logs read logs_are is_read) next in
        subst (λ (x : Progress). AreAccesses (thread_log_of log t) x ahead) same of_log i (omega arith)

    last_left : more + p.accesses < (thread_log_of log t).accesses
    last_left = one_left (thread_log_of log t) (with_accesses p more) (next_here_too more (omega arith))

    pub room_to_skip : p.accesses + more < 2 ^ 32
    room_to_skip = omega (arith, last_left, few_accesses log valid t)

    pub room_in_gap : p.gap + more < 2 ^ 32
    room_in_gap = omega (arith, room_to_skip, gap_within_accesses log valid walk at t ready p there)

    pub room_to_count : get_or walk.waits.events t 0 + more < 2 ^ 64
    room_to_count = room_for_events log valid walk at t ready p there more (omega (arith, last_left))

    module _ (p' : Progress) (p'_is : p' ≡ record { marks = p.marks; accesses = p.accesses + more; gap = p.gap + more }) (waits : NeedsAndCounts) (counts : waits ≡ after_events walk.waits t more) where
      walk_is : between walk at ready p there more ≡ record { threads = with_item walk.threads t p'; waits = waits }
      walk_is =
          let accesses : more + p.accesses ≡ p.accesses + more = omega arith in
          let gap : more + p.gap ≡ p.gap + more = omega arith in
          let progress : with_accesses p more ≡ p' = (λ i. record { marks = p.marks; accesses = accesses i; gap = gap i }) ∙ sym p'_is in
          λ i. record { threads = with_item walk.threads t (progress i); waits = sym counts i }

      pub skips_on : WalksAt log (record { threads = with_item walk.threads t p'; waits = waits })
      skips_on = subst (λ (w : LogWalk). WalksAt log w) walk_is (walks_ahead walk at ready p there more next_here_too)

      pub still_ready : is_ready waits t ≡ true
      still_ready = ready_ahead walk at ready p there more (record { threads = walk.threads; waits = waits }) (first_is_next (thread_log_of log t) p more next_here_too) counts

      pub no_fewer_counted : counted walk.waits ≤ counted waits
      no_fewer_counted =
          let within : t < length walk.waits.events = omega (arith, at.awaits.counts, (made log valid walk at t ready).1.within) in
          omega (arith, ap (λ (w : NeedsAndCounts). sum w.events) counts, sum_by-set (λ (n : ℕ). n) walk.waits.events t (more + slice_index walk.waits.events t) 0 within)

-- ---- before the first step
pub walk_starts : (log : List ThreadLog) (needs : List Need) (walk : LogWalk) (first : Progress) → AreFirstNeeds log needs → HasProgress [] first
    → walk.threads.items ≡ replicate (length log) first → walk.waits ≡ no_counts needs → WalksAt log walk
walk_starts log needs walk first are has threads_are waits_are = record {
  front = [];
  is_front = tt;
  steps = ap (λ (w : NeedsAndCounts). sum w.events) waits_are ∙ sum_none (length needs);
  awaits = awaits_at_start (by_log_alone log) [] log needs walk.waits are.as_many are.each waits_are;
  as_many = ap (λ (ps : List Progress). length ps) threads_are ∙ length-replicate (length log) first;
  each = λ u q at_u.
      let is_first : first ≡ q = in_replicate (length log) u q (ap (λ (ps : List Progress). slice_get ps u) (sym threads_are) ∙ at_u) in
      subst (λ (j : List Event). HasProgress j q) (sym (no_journal log u)) (subst (λ (x : Progress). HasProgress [] x) is_first has);
}
  where
    in_replicate : (n u : ℕ) (q : Progress) → slice_get (replicate n first) u ≡ Some q → first ≡ q
    in_replicate zero u q at_u = absurd cc
    in_replicate (suc n) zero q at_u = same_Some first q at_u
    in_replicate (suc n) (suc u) q at_u = in_replicate n u q at_u

-- ---- at the end
module _ (log : List ThreadLog) (walk : LogWalk) (at : WalksAt log walk) (none : (t : ℕ) → is_ready walk.waits t ≡ false) where
  abbrev last : PlainState
  last = after (by_log_alone log) (opening_alone log) at.front

  many_journals : length last.journals ≡ length log
  many_journals = as_many_after (by_log_alone log) at.front (opening_alone log) ∙ length-map log (λ (l : ThreadLog). [])

  -- where all is made, the log is untied
  pub is_untied : ((u : ℕ) (q : Progress) → slice_get walk.threads.items u ≡ Some q → HasMadeAll (thread_log_of log u) q) → IsUntied log
  is_untied all = (at.front, (at.is_front, finished))
    where
      finished : AllFinished (by_log_alone log) last
      finished u lt =
          let q = get_or walk.threads.items u (record { marks = 0; accesses = 0; gap = 0 }) in
          let at_u = slice_get-get_or walk.threads.items u (record { marks = 0; accesses = 0; gap = 0 }) (omega (arith, at.as_many, many_journals)) in
          by_progress (thread_log_of log u) q (journal_of last.journals u) (at.each u q at_u) ∙ all u q at_u

  -- and where something is left, it is not
  pub is_tied : (u : ℕ) (q : Progress) → slice_get walk.threads.items u ≡ Some q → ¬ HasMadeAll (thread_log_of log u) q → ¬ IsUntied log
  is_tied u q at_u left untied =
      let V = by_log_alone log in
      let on = untied_leads_on log at.front untied at.is_front in
      let no_more : on.0 ≡ [] = ends on.0 (front_split V at.front on.0 (opening_alone log) on.1.0) in
      let whole : IsOrder V (opening_alone log) at.front = subst (λ (o : List ℕ). IsOrder V (opening_alone log) o) (ap (λ (rest : List ℕ). at.front ++ rest) no_more ∙ append-nil at.front) on.1 in
      let lt : u < length last.journals = omega (arith, slice_get_within walk.threads.items u q at_u, at.as_many, many_journals) in
      left (sym (by_progress (thread_log_of log u) q (journal_of last.journals u) (at.each u q at_u)) ∙ whole.1 u lt)
    where
      ends : (rest : List ℕ) → IsFront (by_log_alone log) last rest → rest ≡ []
      ends [] is = refl
      ends (v ∷ rest) is = absurd (let may = is.0 in let never = sym (ready_may (by_log_alone log) last walk.waits at.awaits v) ∙ none v in cc)

  -- which is told by what is made of each log
  pub untied_decided : (logs : List ThreadLog) → logs ≡ log → (all : Bool)
      → (all ≡ true → (u : ℕ) (q : Progress) → slice_get walk.threads.items u ≡ Some q → HasMadeAll (thread_log_of logs u) q)
      → (all ≡ false → (u : ℕ) × (q : Progress) × (slice_get walk.threads.items u ≡ Some q) × ¬ HasMadeAll (thread_log_of logs u) q)
      → IsTrue all ↔ IsUntied log
  untied_decided logs is true made left = (λ yes. is_untied (subst (λ (ls : List ThreadLog). (u : ℕ) (q : Progress) → slice_get walk.threads.items u ≡ Some q → HasMadeAll (thread_log_of ls u) q) is (made refl)), λ untied. refl)
  untied_decided logs is false made left =
      let some = subst (λ (ls : List ThreadLog). (u : ℕ) × (q : Progress) × (slice_get walk.threads.items u ≡ Some q) × ¬ HasMadeAll (thread_log_of ls u) q) is (left refl) in
      (λ yes. absurd cc, λ untied. absurd (is_tied some.0 some.1 some.2 some.3 untied))
