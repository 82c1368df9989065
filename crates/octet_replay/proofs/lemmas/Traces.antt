-- The trace of an order, step by step.
use Rattle.std.proofs.Common.{◌≡◌, ℕ, zero, suc, ◌-◌, ◌<◌, inl, inr, Bool, cond, List, [], ◌∷◌, ◌++◌, length, map, take, Option, Some, None, IsTrue, get_or, slice_get, refl, sym, ap, ◌∙◌, subst, arith, append_assoc}
use Rattle.std.proofs.Math.Seq.{take-suc}
use Rattle.std.proofs.lemmas.Bool.{cases_eq, eq-eqb, ne_eqb}
use Rattle.std.proofs.lemmas.List.{append-nil, take_all}
use Rattle.std.proofs.lemmas.Option.{get_or_from_slice_get, slice_get_within}
use Rattle.octet_model.specs.declared.event.Event.{Event}
use Rattle.octet_model.specs.declared.event.Place.{Place}
use Rattle.octet_model.specs.declared.log.ThreadLog.{ThreadLog}
use Rattle.octet_model.specs.declared.script.Script.{Script}
use Rattle.octet_model.specs.Machine.{Journals, journal_of, PlainState, Behavior, Operation, Next, event_made, appended, may_step, step, after, IsFront}
use Rattle.octet_model.specs.Orders.{by_log, opening_state, event_total, go_on, lowest, lowest_front, lowest_order}
use Rattle.octet_model.specs.Traces.{event_placed, trace_along, trace_of}
use Rattle.octet_model.proofs.lemmas.Fronts.{after_on, no_journal}
use Rattle.octet_model.proofs.lemmas.LowestFronts.{lowest_order_is_full}
use Rattle.octet_model.proofs.lemmas.LowestThread.{lowest_may, none_at_all}
use Rattle.octet_model.proofs.lemmas.Steps.{at, count, counts_step, Makes, new_event, other_step, same_journal, what_it_makes}
use Rattle.octet_replay.specs.Judged.{last_state}
use Rattle.octet_replay.specs.Laws.{placed_from, told_of, TraceFollowsOrder, TraceHasJournals, TraceIsWhole}
use Rattle.octet_replay.specs.ReplayState.{ReplayState, plain_state, state_at, IsNextStep}
use Rattle.octet_replay.specs.TracerState.{TracerState, TellsNext}

-- the next event of a thread, with its place
abbrev pub placed : PlainState → ℕ → Operation → Place × Event
placed s thread operation = (record { thread = thread; event = count s.journals thread }, event_made operation s.heap)

module _ (V : Behavior) where
  -- the computed front is one, however many steps it is given
  pub lowest_front_is_front : (steps : ℕ) (s : PlainState) → IsFront V s (lowest_front V steps s)
  lowest_front_is_front zero s = tt
  lowest_front_is_front (suc steps) s = go (lowest V s) (λ t is. lowest_may V s t is) (λ t. lowest_front_is_front steps (step V s t))
    where
      go : (o : Option ℕ) → ((t : ℕ) → o ≡ Some t → IsTrue (may_step V s t)) → ((t : ℕ) → IsFront V (step V s t) (lowest_front V steps (step V s t)))
          → IsFront V s (go_on o (λ t. lowest_front V steps (step V s t)))
      go None may rest = tt
      go (Some t) may rest = (may t refl, rest t)

  -- one step, and the rest
  pub trace_cons : (t : ℕ) (order : List ℕ) (s : PlainState) → IsTrue (may_step V s t)
      → (o : Operation) × Makes V s t o × (trace_along V s (t ∷ order) ≡ placed s t o ∷ trace_along V (step V s t) order)
  trace_cons t order s may =
      let m = what_it_makes V s t may in
      (m.0, m.1, ap (λ (n : Next). event_placed s t n ++ trace_along V (step V s t) order) m.1.wanted)

  pub length_trace : (order : List ℕ) (s : PlainState) → IsFront V s order → length (trace_along V s order) ≡ length order
  length_trace [] s front = refl
  length_trace (t ∷ order) s front =
      let c = trace_cons t order s front.0 in
      ap (λ (l : List (Place × Event)). length l) c.2 ∙ ap suc (length_trace order (step V s t) front.1)

  pub threads_of_trace : (order : List ℕ) (s : PlainState) → IsFront V s order → map (λ (item : Place × Event). item.0.thread) (trace_along V s order) ≡ order
  threads_of_trace [] s front = refl
  threads_of_trace (t ∷ order) s front =
      let c = trace_cons t order s front.0 in
      ap (map (λ (item : Place × Event). item.0.thread)) c.2 ∙ ap (λ (l : List ℕ). t ∷ l) (threads_of_trace order (step V s t) front.1)

  -- what a step of a front tells
  pub record IsTold (order : List ℕ) (s : PlainState) (n : ℕ) : Type 0 where
    pub operation : Operation
    pub makes : Makes V (after V s (take n order)) (get_or order n 0) operation
    pub item : slice_get (trace_along V s order) n ≡ Some (placed (after V s (take n order)) (get_or order n 0) operation)

  pub told_at : (order : List ℕ) (s : PlainState) (n : ℕ) → IsFront V s order → n < length order → IsTold order s n
  told_at [] s n front lt = absurd (omega arith)
  told_at (t ∷ order) s zero front lt =
      let c = trace_cons t order s front.0 in
      record { operation = c.0; makes = c.1; item = ap (λ (l : List (Place × Event)). slice_get l 0) c.2 }
  told_at (t ∷ order) s (suc n) front lt =
      let c = trace_cons t order s front.0 in
      let rest = told_at order (step V s t) n front.1 (omega arith) in
      record { operation = rest.operation; makes = rest.makes; item = ap (λ (l : List (Place × Event)). slice_get l (suc n)) c.2 ∙ rest.item }

  -- of each thread a front tells what its journal has more after it
  pub told_more : (order : List ℕ) (s : PlainState) (u : ℕ) → IsFront V s order
      → (more : List Event) × (journal_of (after V s order).journals u ≡ journal_of s.journals u ++ more) × (told_of u (trace_along V s order) ≡ placed_from u more (count s.journals u))
  told_more [] s u front = ([], sym (append-nil (journal_of s.journals u)), refl)
  told_more (t ∷ order) s u front =
      let c = trace_cons t order s front.0 in
      let rest = told_more order (step V s t) u front.1 in
      let e : Event = event_made c.0 s.heap in
      elim (cases_eq t u) [
        | inl same ↦
            let own : journal_of (step V s t).journals u ≡ journal_of s.journals u ++ e ∷ [] =
            ap (λ (js : Journals). journal_of js u) c.1.appends ∙ subst (λ (v : ℕ). journal_of (appended s.journals t e) v ≡ journal_of s.journals v ++ e ∷ []) same (same_journal s.journals t e c.1.within) in
            let one : count (step V s t).journals u ≡ suc (count s.journals u) = subst (λ (v : ℕ). count (step V s t).journals v ≡ suc (count s.journals v)) same (counts_step V s t c.0 c.1) in (
              e ∷ rest.0,
              rest.1 ∙ ap (λ (j : List Event). j ++ rest.0) own ∙ append_assoc (journal_of s.journals u) (e ∷ []) rest.0,
              ap (told_of u) c.2 ∙ ap (λ (b : Bool). cond b (placed s t c.0 ∷ told_of u (trace_along V (step V s t) order)) (told_of u (trace_along V (step V s t) order))) (eq-eqb t u same)
                  ∙ ap (λ (v : ℕ). (record { thread = v; event = count s.journals v }, e) ∷ told_of u (trace_along V (step V s t) order)) same
                  ∙ ap (λ (l : List (Place × Event)). (record { thread = u; event = count s.journals u }, e) ∷ l) (rest.2 ∙ ap (placed_from u rest.0) one),
            )
        | inr differ ↦
            let other : journal_of (step V s t).journals u ≡ journal_of s.journals u = other_step V s t u (λ is. differ (sym is)) in (
              rest.0,
              rest.1 ∙ ap (λ (j : List Event). j ++ rest.0) other,
              ap (told_of u) c.2 ∙ ap (λ (b : Bool). cond b (placed s t c.0 ∷ told_of u (trace_along V (step V s t) order)) (told_of u (trace_along V (step V s t) order))) (ne_eqb t u differ)
                  ∙ rest.2 ∙ ap (λ (j : List Event). placed_from u rest.0 (length j)) other,
            )
      ]

-- ---- the lowest order

pub lowest_order_is_front : (script : Script) (log : List ThreadLog) → IsFront (by_log script log) (opening_state script) (lowest_order script log)
lowest_order_is_front script log = lowest_front_is_front (by_log script log) (event_total log) (opening_state script)

-- its trace has an event for each step
pub trace_has_all : (script : Script) (log : List ThreadLog) → length (trace_of script log) ≡ length (lowest_order script log)
trace_has_all script log = length_trace (by_log script log) (lowest_order script log) (opening_state script) (lowest_order_is_front script log)

pub trace_has_journals : TraceHasJournals
trace_has_journals script log thread =
    let s = opening_state script in
    let none : journal_of s.journals thread ≡ [] = no_journal script.threads thread in
    let told = told_more (by_log script log) (lowest_order script log) s thread (lowest_order_is_front script log) in
    told.2 ∙ ap (λ (j : List Event). placed_from thread told.0 (length j)) none
    ∙ ap (λ (j : List Event). placed_from thread j 0) (sym (told.1 ∙ ap (λ (j : List Event). j ++ told.0) none))

pub trace_follows_order : TraceFollowsOrder
trace_follows_order script log = threads_of_trace (by_log script log) (lowest_order script log) (opening_state script) (lowest_order_is_front script log)

pub trace_is_whole : TraceIsWhole
trace_is_whole script log thread agree = none_at_all (by_log script log) (last_state script log) (lowest_order_is_full script log agree) thread

-- ---- a step of a replayer

module _ (r : ReplayState) (t : ℕ) (e : Event) (next : IsNextStep r t e) where
  abbrev order : List ℕ
  order = lowest_order r.script r.log.threads

  abbrev s : PlainState
  s = plain_state r

  pub one_step : take (suc r.steps) order ≡ take r.steps order ++ t ∷ []
  one_step = take-suc order r.steps 0 next.within ∙ ap (λ (u : ℕ). take r.steps order ++ u ∷ []) next.is_of

  pub stepped_to : state_at r.script r.log.threads (suc r.steps) ≡ step (by_log r.script r.log.threads) s t
  stepped_to =
      ap (λ (o : List ℕ). after (by_log r.script r.log.threads) (opening_state r.script) o) one_step ∙ after_on (by_log r.script r.log.threads) (take r.steps order) (t ∷ []) (opening_state r.script)

  -- what an operation makes that is the thread's next is its event
  pub event_is : (o : Operation) → Makes (by_log r.script r.log.threads) s t o → event_made o s.heap ≡ e
  event_is o makes =
      let one = new_event s.journals t (event_made o s.heap) makes.within in
      let other = new_event s.journals t e makes.within in
      let same : appended s.journals t (event_made o s.heap) ≡ appended s.journals t e = sym makes.appends ∙ ap (λ (x : PlainState). x.journals) (sym stepped_to) ∙ next.makes in
      let alike : Some (event_made o s.heap) ≡ Some e = sym one ∙ ap (λ (js : Journals). at js t (count s.journals t)) same ∙ other in
      cc

  -- it tells the event of the trace that comes next
  pub is_told : slice_get (trace_of r.script r.log.threads) r.steps ≡ Some (record { thread = t; event = count s.journals t }, e)
  is_told =
      let V = by_log r.script r.log.threads in
      let told = told_at V order (opening_state r.script) r.steps (lowest_order_is_front r.script r.log.threads) next.within in
      let makes = subst (λ (u : ℕ). Makes V s u told.operation) next.is_of told.makes in
      told.item ∙ ap (λ (u : ℕ). Some (placed s u told.operation)) next.is_of
      ∙ ap (λ (x : Event). Some (record { thread = t; event = count s.journals t }, x)) (event_is told.operation makes)

-- ---- what a tracer has told

module _ (t after' : TracerState) (item : Place × Event) (tells : TellsNext t (Some item) after') where
  pub told_within : t.told < length (trace_of t.script t.log.threads)
  told_within = slice_get_within (trace_of t.script t.log.threads) t.told item tells.0

  -- the events told with one more
  pub take_told : take after'.told (trace_of after'.script after'.log.threads) ≡ take t.told (trace_of t.script t.log.threads) ++ item ∷ []
  take_told =
      let trace = trace_of t.script t.log.threads in
      ap (λ (x : TracerState). take x.told (trace_of x.script x.log.threads)) tells.1 ∙ take-suc trace t.told item told_within
      ∙ ap (λ (x : Place × Event). take t.told trace ++ x ∷ []) (get_or_from_slice_get trace t.told item item tells.0)

  -- fewer are left
  pub fewer_to_tell : length (trace_of after'.script after'.log.threads) - after'.told < length (trace_of t.script t.log.threads) - t.told
  fewer_to_tell =
      subst (λ (x : TracerState). length (trace_of x.script x.log.threads) - x.told < length (trace_of t.script t.log.threads) - t.told) (sym tells.1) (omega (arith, told_within))

-- all were told
pub take_all_told : (t after' : TracerState) → TellsNext t None after' → take t.told (trace_of t.script t.log.threads) ≡ trace_of t.script t.log.threads
take_all_told t after' tells = take_all t.told (trace_of t.script t.log.threads) (omega (arith, tells.0))
