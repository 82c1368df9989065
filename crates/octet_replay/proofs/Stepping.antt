-- A replay that makes the steps of the lowest order.
use Rattle.std.proofs.Common.{◌≡◌, ℕ, zero, suc, ◌^◌, ◌<◌, inl, inr, Bool, true, false, nat_lt, List, [], ◌∷◌, ◌++◌, length, take, Option, Some, None, IsTrue, get_or, slice_get, slice_set, refl, sym, ap, ◌∙◌, subst, arith, length-set}
use Rattle.std.proofs.lemmas.Bool.{cases_eq, ltb-true, eqb-true, and_parts}
use Rattle.std.proofs.lemmas.List.{length-map}
use Rattle.std.proofs.lemmas.List.Sums.{sum_by-set}
use Rattle.std.proofs.lemmas.Option.{same_Some, slice_get_within, slice_get_cases, slice_get-get_or}
use Rattle.std.specs.List.{sum}
use Rattle.octet_model.specs.declared.command.Command.{Command}
use Rattle.octet_model.specs.declared.event.Event.{Event}
use Rattle.octet_model.specs.declared.event.Event.TheVariants.{Read, Write, Update, Marked}
use Rattle.octet_model.specs.declared.event.Mark.TheVariants.{Join, Draw, Fence}
use Rattle.octet_model.specs.declared.object.Object.{Object}
use Rattle.octet_model.specs.declared.script.Script.{Script}
use Rattle.octet_model.specs.declared.log.Log.{Log}
use Rattle.octet_model.specs.declared.log.ThreadLog.{ThreadLog}
use Rattle.octet_model.specs.Thread.{AccessOrEnd, ToRead, ToWrite, ToBump, ToEnd, added, starting_configuration}
use Rattle.octet_model.specs.Machine.{Journals, journal_of, PlainState, Next, Wants, Finished, NothingFits, Operation, is_enabled, event_made, heap_after, appended, no_events, next_of, may_proceed, may_step, step, after, MakeRead, MakeWrite, MakeUpdate}
use Rattle.octet_model.specs.Orders.{commands_of, thread_log_of, by_log, starting_heap, opening_state, lowest_order}
use Rattle.octet_model.specs.Plays.{operation_of}
use Rattle.octet_model.proofs.lemmas.Steps.{Makes, makes_from, same_journal, as_many_step, other_step}
use Rattle.octet_model.proofs.lemmas.Fronts.{no_journal}
use Rattle.octet_model.proofs.lemmas.LogsOfJournals.{as_many_after}
use Rattle.octet_model.proofs.lemmas.LowestFronts.{is_next, lowest_order_is_lowest}
use Rattle.octet_model.proofs.lemmas.Splits.{length_parts}
use Rattle.octet_model.specs.declared.event.Mark.{Mark}
use Rattle.octet_model.specs.Journals.{due_mark, next_access, mark_first}
use Rattle.octet_model.specs.Log.{is_log}
use Rattle.octet_model.specs.Validity.{IsMark}
use Rattle.octet_replay.specs.declared.need.Need.{Need}
use Rattle.octet_replay.specs.declared.next_step.NextStep.{NextStep}
use Rattle.octet_replay.specs.declared.next_step.NextStep.TheVariants.{Mark as ToMark, Read as NextRead, Write as NextWrite, Bump as NextBump, Finished as IsThrough, NothingFits as FitsNothing}
use Rattle.octet_replay.specs.declared.thread.NextDemand.{NextDemand}
use Rattle.octet_replay.specs.declared.thread.NextDemand.TheVariants.{Read as DemandsRead, Write as DemandsWrite, Bump as DemandsBump, Ended}
use Rattle.octet_replay.specs.declared.thread.ThreadReplay.{ThreadReplay}
use Rattle.octet_replay.specs.declared.replayer.replay.Replay.{Replay}
use Rattle.octet_replay.specs.NextDemand.{demand_of, NamesObject}
use Rattle.octet_replay.specs.Needs.{NeedsAndCounts, after_step, no_counts, is_ready, IsLowestReady, NamesThread}
use Rattle.octet_replay.specs.NextSteps.{as_next, AccessesWithin}
use Rattle.octet_replay.specs.ReplayState.{ReplayState, state_at, plain_state, regions_of, HasHalted, IsLowestStep, IsNextStep, IsNextThread}
use Rattle.octet_replay.specs.Replayed.{state_of, is_draw, AreNeedsOf, AreReplaysOf, CanMake, IsAt, IsNextAt, IsNextOf, MakesEvent, StandsAt}
use Rattle.octet_replay.specs.Threads.{need_of, next_by_counts, next_event, DemandsWithin, Grown, HasRoomFor, IsReplayOf, StandsFor, WritesWithin}
use Rattle.octet_replay.proofs.lemmas.Awaiting as awaiting
use Rattle.octet_replay.proofs.lemmas.Awaiting.{OneMore, one_more, none_below, draws_counted, awaits_after, awaits_at_start}
use Rattle.octet_replay.proofs.lemmas.EventsMade.{DoAlike, do_alike, same_length}
use Rattle.octet_replay.proofs.lemmas.Growing.{by_counts, came_here, grows, stands_for, writes_within, has_room}
use Rattle.octet_replay.proofs.lemmas.Valid.{few_accesses, few_marks, due_is_valid}
use Rattle.octet_replay.proofs.lemmas.Reading.{log_read}
use Rattle.octet_replay.proofs.lemmas.Reading.{get_same, get_other}

-- ---- what is next for a thread
record IsWanted (next : Next) (heap : List ℕ) (event : Event) : Type 0 where
  operation : Operation
  next_is : next ≡ Wants operation
  makes : event_made operation heap ≡ event

wanted : (next : Next) (heap : List ℕ) (event : Event) → next_event next heap ≡ Some event → IsWanted next heap event
wanted Finished heap event is = absurd cc
wanted NothingFits heap event is = absurd cc
wanted (Wants operation) heap event is = record { operation = operation; next_is = refl; makes = same_Some (event_made operation heap) event is }

makes_none : (s : PlainState) (next : Next) (heap : List ℕ) → may_proceed s next ≡ true → next_event next heap ≡ None → ⊥
makes_none s Finished heap may is = cc
makes_none s NothingFits heap may is = cc
makes_none s (Wants operation) heap may is = cc

-- an access that is next names an object of those that its thread's demand names
module _ (objects : ℕ) (due : Option Mark) (a m : Bool) where
  reads_within : (d : NextDemand) (object : ℕ) → NamesObject objects d → demand_of d ≡ ToRead object → object < objects
  reads_within (DemandsRead o) object names is = subst (λ (n : ℕ). n < objects) (let same : o ≡ object = cc in same) names
  reads_within (DemandsWrite o v) object names is = absurd cc
  reads_within (DemandsBump o v) object names is = absurd cc
  reads_within (Ended end) object names is = absurd cc

  writes_to : (d : NextDemand) (object value : ℕ) → NamesObject objects d → demand_of d ≡ ToWrite object value → object < objects
  writes_to (DemandsRead o) object value names is = absurd cc
  writes_to (DemandsWrite o v) object value names is = subst (λ (n : ℕ). n < objects) (let same : o ≡ object = cc in same) names
  writes_to (DemandsBump o v) object value names is = absurd cc
  writes_to (Ended end) object value names is = absurd cc

  bumps_within : (d : NextDemand) (object amount : ℕ) → NamesObject objects d → demand_of d ≡ ToBump object amount → object < objects
  bumps_within (DemandsRead o) object amount names is = absurd cc
  bumps_within (DemandsWrite o v) object amount names is = absurd cc
  bumps_within (DemandsBump o v) object amount names is = subst (λ (n : ℕ). n < objects) (let same : o ≡ object = cc in same) names
  bumps_within (Ended end) object amount names is = absurd cc

  next_within : (d : NextDemand) → NamesObject objects d → (next : NextStep) → as_next next ≡ mark_first due (next_access (demand_of d) a m) → AccessesWithin objects next
  next_within d names (ToMark mark) is = tt
  next_within d names (NextRead object) is = reads_within d object names (is_next due (demand_of d) a m (MakeRead object) (sym is)).0
  next_within d names (NextWrite object value) is = writes_to d object value names (is_next due (demand_of d) a m (MakeWrite object value) (sym is)).0
  next_within d names (NextBump object amount) is =
      let bumps = (is_next due (demand_of d) a m (MakeUpdate object (added amount)) (sym is)).0 in
      bumps_within d object bumps.0 names bumps.1
  next_within d names IsThrough is = tt
  next_within d names FitsNothing is = tt

module _ (script : Script) (log : List ThreadLog) (s : PlainState) (threads : List ThreadReplay) (heap : List ℕ) (w : NeedsAndCounts) (stands : StandsAt script log s threads heap w) where
  -- a thread may step exactly where its need is met
  pub ready_may : (t : ℕ) → is_ready w t ≡ may_step (by_log script log) s t
  ready_may = awaiting.ready_may (by_log script log) s w stands.waits

  pub next_here : (t : ℕ) (x : ThreadReplay) → slice_get threads t ≡ Some x → next_of (by_log script log) s t ≡ next_by_counts (thread_log_of log t) x
  next_here t x at = by_counts (commands_of script t) (starting_configuration script.fuel) (length script.objects) (thread_log_of log t) (journal_of s.journals t) x (stands.each t x at)

  pub names_objects : (t : ℕ) (x : ThreadReplay) → slice_get threads t ≡ Some x → NamesObject (length heap) x.up_next
  names_objects t x at = subst (λ (n : ℕ). NamesObject n x.up_next) (sym stands.heap_has) (stands.each t x at).names

  pub some_event : (t : ℕ) (x : ThreadReplay) → slice_get threads t ≡ Some x → is_ready w t ≡ true → next_event (next_by_counts (thread_log_of log t) x) heap ≡ None → ⊥
  some_event t x at ready is =
      let may = (and_parts _ _ (sym (ready_may t) ∙ ready)).1 in
      makes_none s (next_by_counts (thread_log_of log t) x) heap (ap (may_proceed s) (sym (next_here t x at)) ∙ may) is

  -- a thread whose need is met makes its event
  module _ (t : ℕ) (ready : is_ready w t ≡ true) (x : ThreadReplay) (at : slice_get threads t ≡ Some x) (event : Event) (is : next_event (next_by_counts (thread_log_of log t) x) heap ≡ Some event) where
    pub may : IsTrue (may_step (by_log script log) s t)
    may = sym (ready_may t) ∙ ready

    want : IsWanted (next_by_counts (thread_log_of log t) x) heap event
    want = wanted (next_by_counts (thread_log_of log t) x) heap event is

    makes : Makes (by_log script log) s t want.operation
    makes =
        let next = next_here t x at ∙ want.next_is in
        makes_from (by_log script log) s t want.operation (ltb-true t (length s.journals) (and_parts _ _ may).0) next (sym (ap (may_proceed s) next) ∙ (and_parts _ _ may).1)

    made : event_made want.operation s.heap ≡ event
    made = ap (event_made want.operation) (sym stands.heap_is) ∙ want.makes

    alike : DoAlike (operation_of event) want.operation heap
    alike = subst (λ (e : Event). DoAlike (operation_of e) want.operation heap) want.makes (do_alike want.operation heap)

    pub enabled : IsTrue (is_enabled s (operation_of event))
    enabled = alike.enabled s ∙ makes.enabled

    pub journals_are : (step (by_log script log) s t).journals ≡ appended s.journals t event
    journals_are = makes.appends ∙ ap (appended s.journals t) made

    pub own_journal : journal_of (step (by_log script log) s t).journals t ≡ journal_of s.journals t ++ event ∷ []
    own_journal = ap (λ (js : Journals). journal_of js t) journals_are ∙ same_journal s.journals t event makes.within

    -- and stands after it where the step leads
    module _ (y : ThreadReplay) (grown : Grown x event y) (threads' : List ThreadReplay) (threads_are : threads' ≡ slice_set threads t y) (heap' : List ℕ) (heap_is : heap' ≡ heap_after (operation_of event) heap)
        (w' : NeedsAndCounts) (waits_are : w' ≡ after_step w t (is_draw event) (need_of (next_by_counts (thread_log_of log t) y))) where
      abbrev s' : PlainState
      s' = step (by_log script log) s t

      becomes : IsReplayOf (commands_of script t) (starting_configuration script.fuel) (length script.objects) (thread_log_of log t) (journal_of s'.journals t) y
      becomes =
          subst (λ (j : List Event). IsReplayOf (commands_of script t) (starting_configuration script.fuel) (length script.objects) (thread_log_of log t) j y) (sym own_journal)
          (grows (commands_of script t) (starting_configuration script.fuel) (length script.objects) (thread_log_of log t) (journal_of s.journals t) x (stands.each t x at) heap event y is grown)

      each : AreReplaysOf script log s'.journals threads'
      each u z at_u =
          let here = ap (λ (xs : List ThreadReplay). slice_get xs u) (sym threads_are) ∙ at_u in
          elim (cases_eq u t) [
            | inl same ↦
                let at_t = subst (λ (n : ℕ). slice_get (slice_set threads t y) n ≡ Some z) same here in
                subst (λ (n : ℕ). IsReplayOf (commands_of script n) (starting_configuration script.fuel) (length script.objects) (thread_log_of log n) (journal_of s'.journals n) z) (sym same)
                (subst (λ (v : ThreadReplay). IsReplayOf (commands_of script t) (starting_configuration script.fuel) (length script.objects) (thread_log_of log t) (journal_of s'.journals t) v) (get_same threads t y z at_t) becomes)
            | inr differ ↦
                subst (λ (j : List Event). IsReplayOf (commands_of script u) (starting_configuration script.fuel) (length script.objects) (thread_log_of log u) j z) (sym (other_step (by_log script log) s t u differ))
                (stands.each u z (sym (get_other threads t u y differ) ∙ here))
          ]

      own_next : next_of (by_log script log) s' t ≡ next_by_counts (thread_log_of log t) y
      own_next = by_counts (commands_of script t) (starting_configuration script.fuel) (length script.objects) (thread_log_of log t) (journal_of s'.journals t) y becomes

      pub stands_after : StandsAt script log (step (by_log script log) s t) threads' heap' w'
      stands_after = record {
        as_many = ap (λ (xs : List ThreadReplay). length xs) threads_are ∙ length-set threads t y ∙ stands.as_many ∙ sym (as_many_step (by_log script log) s t);
        each = each;
        heap_is = heap_is ∙ alike.heap_is ∙ ap (heap_after want.operation) stands.heap_is ∙ sym (ap (λ (x : PlainState). x.heap) makes.stepped);
        heap_has = ap (λ (h : List ℕ). length h) heap_is ∙ same_length (operation_of event) heap ∙ stands.heap_has;
        waits =
            awaits_after (by_log script log) s w stands.waits t want.operation makes (is_draw event) (draws_counted event w.draws ∙ alike.draws w.draws)
            (need_of (next_by_counts (thread_log_of log t) y)) (ap need_of (sym own_next)) w' waits_are;
      }

-- ---- the replay, step by step
same_state_of : (r r' : Replay) → r'.script ≡ r.script → r'.log ≡ r.log → (k : ℕ) → sum r'.waits.events ≡ k → state_of r' ≡ record (state_of r) { steps = k }
same_state_of r r' script log k steps = rw (script, log, steps) refl

module _ (r : Replay) (at : IsAt r) where
  pub ready_within : (t : ℕ) → is_ready r.waits t ≡ true → t < length r.threads.items
  ready_within t ready =
      let may = sym (ready_may r.script.value r.log.value.threads (plain_state (state_of r)) r.threads.items r.heap.items r.waits at.stands t) ∙ ready in
      omega (arith, at.stands.as_many, ltb-true t (length (plain_state (state_of r)).journals) (and_parts _ _ may).0)

  as_many_logs : length (plain_state (state_of r)).journals ≡ length r.log.value.threads
  as_many_logs =
      as_many_after (by_log r.script.value r.log.value.threads) (take (sum r.waits.events) (lowest_order r.script.value r.log.value.threads)) (opening_state r.script.value)
      ∙ length-map r.script.value.threads (λ (c : List Command). []) ∙ at.agree

  pub within_log : (t : ℕ) → is_ready r.waits t ≡ true → t < length r.log.value.threads
  within_log t ready = omega (arith, ready_within t ready, at.stands.as_many, as_many_logs)

  pub halted : ((t : ℕ) → is_ready r.waits t ≡ false) → HasHalted (state_of r)
  halted none t = sym (ready_may r.script.value r.log.value.threads (plain_state (state_of r)) r.threads.items r.heap.items r.waits at.stands t) ∙ none t

  pub next_thread : (t : ℕ) → IsLowestReady r.waits t → IsNextThread (state_of r) t
  next_thread t lowest =
      let ready = ready_may r.script.value r.log.value.threads (plain_state (state_of r)) r.threads.items r.heap.items r.waits at.stands in
      let more =
      one_more (by_log r.script.value r.log.value.threads) (sum r.waits.events) (lowest_order r.script.value r.log.value.threads) (opening_state r.script.value)
      (lowest_order_is_lowest r.script.value r.log.value.threads at.agree) t (sym (ready t) ∙ lowest.is_met) (λ u below. sym (ready u) ∙ lowest.lowest u below) in
      record { there = omega (arith, within_log t lowest.is_met, at.agree); within = more.within; is_of = more.is_of; may = sym (ready t) ∙ lowest.is_met }

  -- the thread of the next step is the lowest whose need is met
  pub lowest_ready : (t : ℕ) → IsNextThread (state_of r) t → IsLowestReady r.waits t
  lowest_ready t next =
      let ready = ready_may r.script.value r.log.value.threads (plain_state (state_of r)) r.threads.items r.heap.items r.waits at.stands in
      record {
        is_met = ready t ∙ next.may;
        lowest = λ u below.
            ready u
            ∙ none_below (by_log r.script.value r.log.value.threads) (sum r.waits.events) (lowest_order r.script.value r.log.value.threads) (opening_state r.script.value)
            (lowest_order_is_lowest r.script.value r.log.value.threads at.agree) next.within u (subst (λ (n : ℕ). u < n) (sym next.is_of) below);
      }

  -- what is next for a thread, by its counts
  pub next_at : (t : ℕ) (next : NextStep) → as_next next ≡ next_of (by_log r.script.value r.log.value.threads) (plain_state (state_of r)) t → IsNextAt r t next
  next_at t next is x there =
      let own = thread_log_of r.log.value.threads t in
      let here = is ∙ next_here r.script.value r.log.value.threads (plain_state (state_of r)) r.threads.items r.heap.items r.waits at.stands t x there in
      record {
        is = here;
        within = λ objects names. next_within objects (due_mark (slice_get own.marks x.marks) x.gap) (nat_lt x.accesses own.accesses) (nat_lt x.marks (length own.marks)) x.up_next names next here;
      }

  pub has_thread : (t : ℕ) → t < length r.script.value.threads → t < length r.threads.items
  has_thread t within = omega (arith, at.stands.as_many, as_many_logs, at.agree)

  pub regions_are : (t : ℕ) (x : ThreadReplay) → x ≡ get_or r.threads.items t x → t < length r.script.value.threads → x.config.regions ≡ regions_of (state_of r) t
  regions_are t x is within =
      (at.stands.each t x (slice_get-get_or r.threads.items t x (has_thread t within) ∙ ap (λ (z : ThreadReplay). Some z) (sym is))).regions

  module _ (t : ℕ) (lowest : IsLowestReady r.waits t) (x : ThreadReplay) (there : slice_get r.threads.items t ≡ Some x) (event : Event)
      (is : next_event (next_by_counts (thread_log_of r.log.value.threads t) x) r.heap.items ≡ Some event) where
    may_now : IsTrue (may_step (by_log r.script.value r.log.value.threads) (plain_state (state_of r)) t)
    may_now = may r.script.value r.log.value.threads (plain_state (state_of r)) r.threads.items r.heap.items r.waits at.stands t lowest.is_met x there event is

    more : OneMore (by_log r.script.value r.log.value.threads) (lowest_order r.script.value r.log.value.threads) (opening_state r.script.value) (sum r.waits.events) t
    more =
        one_more (by_log r.script.value r.log.value.threads) (sum r.waits.events) (lowest_order r.script.value r.log.value.threads) (opening_state r.script.value)
        (lowest_order_is_lowest r.script.value r.log.value.threads at.agree) t may_now
        (λ u below. sym (ready_may r.script.value r.log.value.threads (plain_state (state_of r)) r.threads.items r.heap.items r.waits at.stands u) ∙ lowest.lowest u below)

    pub next_step : IsNextStep (state_of r) t event
    next_step = record {
      within = more.within;
      is_of = more.is_of;
      may = may_now;
      makes =
          ap (λ (z : PlainState). z.journals) more.steps
          ∙ journals_are r.script.value r.log.value.threads (plain_state (state_of r)) r.threads.items r.heap.items r.waits at.stands t lowest.is_met x there event is;
    }

    module _ (next : NextStep) (r' : Replay) (m : MakesEvent r t event next r') where
      within : t < length r.waits.events
      within =
          omega (arith, at.stands.waits.counts, at.stands.as_many, slice_get_within r.threads.items t x there)

      steps_are : sum r'.waits.events ≡ suc (sum r.waits.events)
      steps_are =
          ap (λ (w : NeedsAndCounts). sum w.events) m.waits
          ∙ omega (arith, sum_by-set (λ (n : ℕ). n) r.waits.events t (suc (get_or r.waits.events t 0)) 0 within)

      pub state_after_event : state_of r' ≡ record (state_of r) { steps = suc (sum r.waits.events) }
      state_after_event = same_state_of r r' m.script m.log (suc (sum r.waits.events)) steps_are

      same_x : m.was ≡ x
      same_x = same_Some m.was x (sym m.is_there ∙ there)

      pub at_after : IsAt r'
      at_after = record {
        agree = subst (λ (z : ReplayState). length z.script.threads ≡ length z.log.threads) (sym state_after_event) at.agree;
        stands =
            subst (λ (z : ReplayState). StandsAt z.script z.log.threads (plain_state z) r'.threads.items r'.heap.items r'.waits) (sym state_after_event)
            (subst (λ (z : PlainState). StandsAt r.script.value r.log.value.threads z r'.threads.items r'.heap.items r'.waits) (sym more.steps)
            (stands_after r.script.value r.log.value.threads (plain_state (state_of r)) r.threads.items r.heap.items r.waits at.stands t lowest.is_met x there event is
            m.becomes (subst (λ (z : ThreadReplay). Grown z event m.becomes) same_x m.grown) r'.threads.items m.threads r'.heap.items m.heap r'.waits m.waits));
      }

-- ---- room to count
need_names : (threads : ℕ) (due : Option Mark) (d : AccessOrEnd) (a m : Bool) → ((from upto : ℕ) → due ≡ Some (Join from upto) → from < threads) → NamesThread threads (need_of (mark_first due (next_access d a m)))
need_names threads (Some (Join from upto)) d a m names = names from upto refl
need_names threads (Some (Draw zero)) d a m names = tt
need_names threads (Some (Draw (suc number))) d a m names = tt
need_names threads (Some (Fence number)) d a m names = tt
need_names threads None (ToRead object) true m names = tt
need_names threads None (ToRead object) false m names = tt
need_names threads None (ToWrite object value) true m names = tt
need_names threads None (ToWrite object value) false m names = tt
need_names threads None (ToBump object amount) true m names = tt
need_names threads None (ToBump object amount) false m names = tt
need_names threads None (ToEnd end) true m names = tt
need_names threads None (ToEnd end) false true names = tt
need_names threads None (ToEnd end) false false names = tt

module _ (log : List ThreadLog) (valid : IsTrue (is_log log)) (t : ℕ) (within : t < length log) (x : ThreadReplay) where
  mark_is_valid : (mark : Mark) → due_mark (slice_get (thread_log_of log t).marks x.marks) x.gap ≡ Some mark → IsMark (length log) t mark
  mark_is_valid = due_is_valid log valid t within x.marks x.gap

  pub names_thread : NamesThread (length log) (need_of (next_by_counts (thread_log_of log t) x))
  names_thread =
      let own = thread_log_of log t in
      need_names (length log) (due_mark (slice_get own.marks x.marks) x.gap) (demand_of x.up_next) (nat_lt x.accesses own.accesses) (nat_lt x.marks (length own.marks))
      (λ from upto is. (mark_is_valid (Join from upto) is).0)

  pub draw_is_small : (number : ℕ) (heap : List ℕ) → next_event (next_by_counts (thread_log_of log t) x) heap ≡ Some (Marked (Draw number)) → number < 2 ^ 64
  draw_is_small number heap is = (mark_is_valid (Draw number) (came_here (thread_log_of log t) x heap (Marked (Draw number)) is).has).1

module _ (r : Replay) (at : IsAt r) (t : ℕ) (ready : is_ready r.waits t ≡ true) (x : ThreadReplay) (there : slice_get r.threads.items t ≡ Some x) (event : Event)
    (is : next_event (next_by_counts (thread_log_of r.log.value.threads t) x) r.heap.items ≡ Some event) where
  replay_of : IsReplayOf (commands_of r.script.value t) (starting_configuration r.script.value.fuel) (length r.script.value.objects) (thread_log_of r.log.value.threads t) (journal_of (plain_state (state_of r)).journals t) x
  replay_of = at.stands.each t x there

  stands_now : (z : ThreadReplay) → slice_get r.threads.items t ≡ Some z → StandsFor event z
  stands_now z at_z =
      subst (λ (v : ThreadReplay). StandsFor event v) (same_Some x z (sym there ∙ at_z))
      (stands_for (commands_of r.script.value t) (starting_configuration r.script.value.fuel) (length r.script.value.objects) (thread_log_of r.log.value.threads t) (journal_of (plain_state (state_of r)).journals t) x replay_of r.heap.items event is)

  room_now : (z : ThreadReplay) → slice_get r.threads.items t ≡ Some z → HasRoomFor event z
  room_now z at_z =
      subst (λ (v : ThreadReplay). HasRoomFor event v) (same_Some x z (sym there ∙ at_z))
      (has_room (commands_of r.script.value t) (starting_configuration r.script.value.fuel) (length r.script.value.objects) (thread_log_of r.log.value.threads t) (journal_of (plain_state (state_of r)).journals t) x replay_of r.heap.items event is
      (few_accesses r.log.value.threads r.log.value.valid t) (few_marks r.log.value.threads r.log.value.valid t))

  writes_now : WritesWithin (length r.heap.items) event
  writes_now =
      subst (λ (n : ℕ). WritesWithin n event) (sym at.stands.heap_has)
      (writes_within (commands_of r.script.value t) (starting_configuration r.script.value.fuel) (length r.script.value.objects) (thread_log_of r.log.value.threads t) (journal_of (plain_state (state_of r)).journals t) x replay_of r.heap.items event is)

  names_now : (z after : ThreadReplay) → slice_get r.threads.items t ≡ Some z → Grown z event after → NamesThread (length r.waits.needs) (need_of (next_by_counts (thread_log_of r.log.value.threads t) after))
  names_now z after' at_z grown =
      subst (λ (n : ℕ). NamesThread n (need_of (next_by_counts (thread_log_of r.log.value.threads t) after'))) (sym (at.stands.waits.as_many ∙ as_many_logs r at))
      (names_thread r.log.value.threads r.log.value.valid t (within_log r at t ready) after')

  events_now : suc (get_or r.waits.events t 0) < 2 ^ 64
  events_now =
      omega (
        arith,
        at.stands.waits.events t,
        length_parts (journal_of (plain_state (state_of r)).journals t),
        replay_of.counts.counts_accesses,
        replay_of.counts.counts_marks,
        replay_of.few_accesses,
        replay_of.few_marks,
        few_accesses r.log.value.threads r.log.value.valid t,
        few_marks r.log.value.threads r.log.value.valid t,
      )

  draws_now : is_draw event ≡ true → suc r.waits.draws < 2 ^ 64
  draws_now = go event is (enabled r.script.value r.log.value.threads (plain_state (state_of r)) r.threads.items r.heap.items r.waits at.stands t ready x there event is)
    where
      go : (e : Event) → next_event (next_by_counts (thread_log_of r.log.value.threads t) x) r.heap.items ≡ Some e → IsTrue (is_enabled (plain_state (state_of r)) (operation_of e)) → is_draw e ≡ true → suc r.waits.draws < 2 ^ 64
      go (Read object value) is_e enabled draw = absurd cc
      go (Write object value) is_e enabled draw = absurd cc
      go (Update object before after) is_e enabled draw = absurd cc
      go (Marked (Join from upto)) is_e enabled draw = absurd cc
      go (Marked (Fence number)) is_e enabled draw = absurd cc
      go (Marked (Draw number)) is_e enabled draw =
          omega (
            arith,
            eqb-true number (suc (plain_state (state_of r)).draws) enabled,
            at.stands.waits.draws,
            draw_is_small r.log.value.threads r.log.value.valid t (within_log r at t ready) x number r.heap.items is_e,
          )

  pub can_make : CanMake r t event
  can_make = record {
    within = omega (arith, slice_get_within r.threads.items t x there);
    stands = stands_now;
    room = room_now;
    object = writes_now;
    met = ready;
    names = names_now;
    events = events_now;
    draws = draws_now;
  }

-- ---- before the first step
module _ (script : Script) (log : List ThreadLog) (agree : length script.threads ≡ length log) (threads : List ThreadReplay) (as_many : length threads ≡ length script.threads)
    (each : AreReplaysOf script log (no_events script.threads) threads) where
  -- each need is that of a thread
  need_there : (needs : List Need) → AreNeedsOf log threads needs → (k : ℕ) (need : Need) → slice_get needs k ≡ Some need
      → (x : ThreadReplay) × (slice_get threads k ≡ Some x) × (need_of (next_by_counts (thread_log_of log k) x) ≡ need)
  need_there needs are k need at =
      elim (slice_get_cases threads k).1 [
        | inl there ↦ (there.0, there.2, sym (are.each k there.0 need there.2 at))
        | inr past ↦ absurd (omega (arith, past.0, are.as_many, slice_get_within needs k need at))
      ]

  pub start_stands : (heap : List ℕ) (needs : List Need) (w : NeedsAndCounts) → heap ≡ starting_heap script → AreNeedsOf log threads needs → w ≡ no_counts needs → StandsAt script log (opening_state script) threads heap w
  start_stands heap needs_told w heap_is are waits_are = record {
    as_many = as_many ∙ sym (length-map script.threads (λ (c : List Command). []));
    each = each;
    heap_is = heap_is;
    heap_has = ap (λ (h : List ℕ). length h) heap_is ∙ length-map script.objects (λ (o : Object). o.start);
    waits =
        awaits_at_start (by_log script log) (starting_heap script) script.threads needs_told w (are.as_many ∙ as_many)
        (λ t need at.
        let there = need_there needs_told are t need at in
        sym there.2
        ∙ ap need_of (sym (by_counts (commands_of script t) (starting_configuration script.fuel) (length script.objects) (thread_log_of log t) [] there.0
        (subst (λ (j : List Event). IsReplayOf (commands_of script t) (starting_configuration script.fuel) (length script.objects) (thread_log_of log t) j there.0) (no_journal script.threads t) (each t there.0 there.1)))))
        waits_are;
  }

  pub start_names : IsTrue (is_log log) → (needs : List Need) → AreNeedsOf log threads needs
      → (k : ℕ) (d : Need) → k < length needs → NamesThread (length needs) (get_or needs k d)
  start_names valid needs are k d within =
      let length_is : length needs ≡ length log = are.as_many ∙ as_many ∙ agree in
      let there = need_there needs are k (get_or needs k d) (slice_get-get_or needs k d within) in
      subst (λ (n : ℕ). NamesThread n (get_or needs k d)) (sym length_is)
      (subst (λ (need : Need). NamesThread (length log) need) there.2 (names_thread log valid k (omega (arith, within, length_is)) there.0))

pub opening_is : (r : Replay) (script : Script) (log : Log) → r.script.value ≡ script → r.log.value ≡ log → sum r.waits.events ≡ 0 → state_of r ≡ record { script = script; log = log; steps = 0 }
opening_is r script log is_script is_log none = λ i. record { script = is_script i; log = is_log i; steps = none i }

at_opening : (r : Replay) → length r.script.value.threads ≡ length r.log.value.threads → sum r.waits.events ≡ 0
    → StandsAt r.script.value r.log.value.threads (opening_state r.script.value) r.threads.items r.heap.items r.waits → IsAt r
at_opening r agree none stands = record {
  agree = agree;
  stands =
      subst (λ (k : ℕ). StandsAt r.script.value r.log.value.threads (state_at r.script.value r.log.value.threads k) r.threads.items r.heap.items r.waits) (sym none) stands;
}

pub at_start : (r : Replay) (script : Script) (log : Log) → r.script.value ≡ script → r.log.value ≡ log → length script.threads ≡ length log.threads → sum r.waits.events ≡ 0
    → StandsAt script log.threads (opening_state script) r.threads.items r.heap.items r.waits → IsAt r
at_start r script log is_script is_log agree none stands =
    let agree_script = subst (λ (s : Script). length s.threads ≡ length log.threads) (sym is_script) agree in
    let stands_script = subst (λ (s : Script). StandsAt s log.threads (opening_state s) r.threads.items r.heap.items r.waits) (sym is_script) stands in
    at_opening r
    (subst (λ (l : Log). length r.script.value.threads ≡ length l.threads) (sym is_log) agree_script) none
    (subst (λ (l : Log). StandsAt r.script.value l.threads (opening_state r.script.value) r.threads.items r.heap.items r.waits) (sym is_log) stands_script)

-- the thread that was read
pub thread_read : (r : Replay) → IsAt r → (t : ℕ) → is_ready r.waits t ≡ true → (x : ThreadReplay) → x ≡ get_or r.threads.items t x → slice_get r.threads.items t ≡ Some x
thread_read r at t ready x is = slice_get-get_or r.threads.items t x (ready_within r at t ready) ∙ ap (λ (z : ThreadReplay). Some z) (sym is)

-- the thread's log and what is next for it, as they were read
module _ (r : Replay) (at : IsAt r) (t : ℕ) (ready : is_ready r.waits t ≡ true) (log : Log) (logs : List ThreadLog) (own : ThreadLog) (of_log : log ≡ r.log.value) (logs_are : logs ≡ log.threads) (own_is : own ≡ get_or logs t own) where
  pub own_log_read : own ≡ thread_log_of r.log.value.threads t
  own_log_read = log_read r.log.value.threads t own (own_is ∙ ap (λ (ls : List ThreadLog). get_or ls t own) (logs_are ∙ ap (λ (l : Log). l.threads) of_log)) (within_log r at t ready)

  pub next_read : (x : ThreadReplay) (next : NextStep) → x ≡ get_or r.threads.items t x → as_next next ≡ next_by_counts own x → ((objects : ℕ) → DemandsWithin objects x → AccessesWithin objects next) → IsNextAt r t next
  next_read x next x_is is within z at_z =
      subst (λ (y : ThreadReplay). IsNextOf (thread_log_of r.log.value.threads t) y next) (same_Some x z (sym (thread_read r at t ready x x_is) ∙ at_z))
      (subst (λ (l : ThreadLog). IsNextOf l x next) own_log_read (record { is = is; within = within }))

-- a thread that may step, and what is next for it
module _ (r : Replay) (at : IsAt r) (t : ℕ) (ready : is_ready r.waits t ≡ true) (next : NextStep) (its : IsNextAt r t next) where
  pub thread_here : (x : ThreadReplay) × (slice_get r.threads.items t ≡ Some x)
  thread_here =
      elim (slice_get_cases r.threads.items t).1 [
        | inl there ↦ (there.0, there.2)
        | inr past ↦ absurd (omega (arith, past.0, ready_within r at t ready))
      ]

  pub access_within : (now : List ℕ) → now ≡ r.heap.items → AccessesWithin (length now) next
  access_within now same =
      subst (λ (heap : List ℕ). AccessesWithin (length heap) next) (sym same)
      ((its thread_here.0 thread_here.1).within (length r.heap.items)
      (names_objects r.script.value r.log.value.threads (plain_state (state_of r)) r.threads.items r.heap.items r.waits at.stands t thread_here.0 thread_here.1))

  pub event_found : (now : List ℕ) (o found : Option Event) → now ≡ r.heap.items → o ≡ next_event (as_next next) now → o ≡ found
      → next_event (next_by_counts (thread_log_of r.log.value.threads t) thread_here.0) r.heap.items ≡ found
  event_found now o found same is found_is =
      ap (λ (n : Next). next_event n r.heap.items) (sym (its thread_here.0 thread_here.1).is) ∙ ap (next_event (as_next next)) (sym same) ∙ sym is ∙ found_is

  pub mark_found : (mark : Mark) → next ≡ ToMark mark → next_event (next_by_counts (thread_log_of r.log.value.threads t) thread_here.0) r.heap.items ≡ Some (Marked mark)
  mark_found mark is = event_found r.heap.items (next_event (as_next next) r.heap.items) (Some (Marked mark)) refl refl (ap (λ (n : NextStep). next_event (as_next n) r.heap.items) is)

  -- the next step of the lowest order
  pub lowest_step_is : IsLowestReady r.waits t → IsLowestStep (state_of r) (record { thread = t; next = next })
  lowest_step_is lowest = record {
    of_thread = next_thread r at t lowest;
    is =
        (its thread_here.0 thread_here.1).is
        ∙ sym (next_here r.script.value r.log.value.threads (plain_state (state_of r)) r.threads.items r.heap.items r.waits at.stands t thread_here.0 thread_here.1);
  }

-- what is next for a thread after its event
pub next_after : (r : Replay) (t : ℕ) (event : Event) (next : NextStep) (r' : Replay) → MakesEvent r t event next r' → IsNextAt r' t next
next_after r t event next r' m z at_z =
    let same = get_same r.threads.items t m.becomes z (ap (λ (xs : List ThreadReplay). slice_get xs t) (sym m.threads) ∙ at_z) in
    subst (λ (logs : List ThreadLog). IsNextOf (thread_log_of logs t) z next) (λ i. (sym m.log i).value.threads)
    (subst (λ (y : ThreadReplay). IsNextOf (thread_log_of r.log.value.threads t) y next) same m.next_is)
