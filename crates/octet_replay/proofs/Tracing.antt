-- A tracer, step by step.
use Rattle.std.proofs.Common.{◌≡◌, ℕ, suc, ◌+◌, ◌^◌, ◌<◌, inl, inr, List, [], length, take, drop, replicate, Some, slice_get, slice_index, slice_set, sym, ap, ◌∙◌, subst, arith}
use Rattle.std.proofs.Math.ListN.{take-append-drop}
use Rattle.std.proofs.lemmas.Bool.{cases_eq, cases_lt}
use Rattle.std.proofs.lemmas.List.{length-map, get_or-set_same, get_or-set_other, get_or_past, get_or-replicate, length-replicate}
use Rattle.std.proofs.lemmas.Option.{slice_get_within}
use Rattle.octet_model.specs.declared.command.Command.{Command}
use Rattle.octet_model.specs.declared.event.Event.{Event}
use Rattle.octet_model.specs.declared.log.Log.{Log}
use Rattle.octet_model.specs.declared.script.Script.{Script}
use Rattle.octet_model.specs.declared.limits.TheConstants.{MAX_THREADS}
use Rattle.octet_model.specs.Machine.{Journals, journal_of, PlainState, after}
use Rattle.octet_model.specs.Orders.{by_log, opening_state, journals_after, lowest_order}
use Rattle.octet_model.specs.Traces.{trace_of}
use Rattle.octet_model.proofs.lemmas.Fronts.{after_on, no_journal, stays}
use Rattle.octet_model.proofs.lemmas.LogsOfJournals.{as_many_after}
use Rattle.octet_model.proofs.lemmas.Validity.{valid_log}
use Rattle.octet_model.proofs.lemmas.Steps.{at, count, counts_new, new_event, other_journal}
use Rattle.octet_replay.specs.ReplayState.{ReplayState, plain_state, state_at, HasHalted, IsNextStep}
use Rattle.octet_replay.specs.TracerState.{TracerState, HasToldAll, IsTracedTo}
use Rattle.octet_replay.proofs.lemmas.Collecting.{thread_there}
use Rattle.octet_replay.proofs.lemmas.Halting.{all_steps_made}
use Rattle.octet_replay.proofs.lemmas.Places.{lowest_order_fits_in_places}
use Rattle.octet_replay.proofs.lemmas.Traces.{is_told, trace_has_all}

abbrev seen : ReplayState → TracerState
seen r = record { script = r.script; log = r.log; told = r.steps }

-- the threads of a script and a log that a replayer begins with
pub agreeing : (script : Script) (log : Log) (r : ReplayState) → r ≡ record { script = script; log = log; steps = 0 } → length script.threads ≡ length log.threads → length r.script.threads ≡ length r.log.threads
agreeing script log r opens agree = subst (λ (x : ReplayState). length x.script.threads ≡ length x.log.threads) (sym opens) agree

-- before the first step
pub traced_at_start : (r : ReplayState) (threads : ℕ) → r.steps ≡ 0 → length r.script.threads ≡ length r.log.threads → IsTracedTo r (replicate threads 0)
traced_at_start r threads begins agree = record {
  agree = agree;
  within = omega (arith, begins);
  counts = λ u. elim (cases_lt u threads) [ inl lt ↦ get_or-replicate threads u 0 0 lt | inr past ↦ get_or_past (replicate threads 0) u 0 (omega (arith, length-replicate {A = ℕ} threads 0)) ]
      ∙ sym (ap (λ (k : ℕ). count (state_at r.script r.log.threads k).journals u) begins ∙ ap (λ (j : List Event). length j) (no_journal r.script.threads u));
}

-- what is made after some steps stands in the order's journals
stays_to_end : (r : ReplayState) (k t n : ℕ) (e : Event) → at (state_at r.script r.log.threads k).journals t n ≡ Some e → at (journals_after r.script r.log.threads (lowest_order r.script r.log.threads)) t n ≡ Some e
stays_to_end r k t n e is =
    let order = lowest_order r.script r.log.threads in
    let V = by_log r.script r.log.threads in
    let whole : after V (opening_state r.script) order ≡ after V (state_at r.script r.log.threads k) (drop k order) =
    ap (after V (opening_state r.script)) (sym (take-append-drop k order)) ∙ after_on V (take k order) (drop k order) (opening_state r.script) in
    ap (λ (s : PlainState). at s.journals t n) whole ∙ stays V (drop k order) (state_at r.script r.log.threads k) t n e is

module _ (r after' : ReplayState) (made : List ℕ) (t : TracerState) (traced : IsTracedTo r made) (view : seen r ≡ t) where
  -- where no thread may step all was told
  pub all_told : HasHalted r → HasToldAll t
  all_told halted = subst HasToldAll view (omega (arith, traced.within, all_steps_made r traced.agree halted, trace_has_all r.script r.log.threads))

  pub unchanged : after' ≡ r → seen after' ≡ t
  unchanged is = ap seen is ∙ view

  module _ (by : ℕ) (e : Event) (next : IsNextStep r by e × (after' ≡ record r { steps = suc r.steps })) where
    there : by < length (plain_state r).journals
    there = thread_there r by e next.0

    abbrev own : ℕ
    own = slice_index made by

    pub thread_within : by < length r.log.threads
    thread_within =
        omega (arith, there, traced.agree, as_many_after (by_log r.script r.log.threads) (take r.steps (lowest_order r.script r.log.threads)) (opening_state r.script), length-map {B = List Event} r.script.threads (λ (c : List Command). []))

    pub counted : length made ≡ MAX_THREADS → by < length made
    counted many = omega (arith, thread_within, many, (valid_log r.log.threads r.log.valid).most_threads)

    -- there is room to count one more
    pub room : own + 1 < 2 ^ 32
    room =
        let whole = journals_after r.script r.log.threads (lowest_order r.script r.log.threads) in
        let fits = lowest_order_fits_in_places r.script r.log.threads traced.agree r.log.valid in
        let here : at (state_at r.script r.log.threads (suc r.steps)).journals by (count (plain_state r).journals by) ≡ Some e =
        ap (λ (js : Journals). at js by (count (plain_state r).journals by)) next.0.makes ∙ new_event (plain_state r).journals by e there in
        let within = slice_get_within (journal_of whole by) (count (plain_state r).journals by) e (stays_to_end r (suc r.steps) by (count (plain_state r).journals by) e here) in
        elim (cases_lt by (length whole)) [
          | inl lt ↦ omega (arith, within, traced.counts by, fits.events by [] lt)
          | inr past ↦ absurd (omega (arith, within, ap (λ (j : List Event). length j) (get_or_past whole by [] past)))
        ]

    pub tells : slice_get (trace_of t.script t.log.threads) t.told ≡ Some (record { thread = by; event = own }, e)
    tells =
        subst (λ (x : TracerState). slice_get (trace_of x.script x.log.threads) x.told ≡ Some (record { thread = by; event = own }, e)) view
        (is_told r by e next.0 ∙ ap (λ (n : ℕ). Some (record { thread = by; event = n }, e)) (sym (traced.counts by)))

    pub one_more : seen after' ≡ record t { told = suc t.told }
    one_more = ap seen next.1 ∙ ap (λ (x : TracerState). record x { told = suc x.told }) view

    pub traced_on : by < length made → IsTracedTo after' (slice_set made by (own + 1))
    traced_on lt = subst (λ (x : ReplayState). IsTracedTo x (slice_set made by (own + 1))) (sym next.1) (record {
      agree = traced.agree;
      within = omega (arith, next.0.within);
      counts = λ u. elim (cases_eq u by) [
        | inr differ ↦
            get_or-set_other made by u (own + 1) 0 differ ∙ traced.counts u ∙ ap (λ (j : List Event). length j) (sym (other_journal (plain_state r).journals by u e differ))
            ∙ ap (λ (js : Journals). count js u) (sym next.0.makes)
        | inl same ↦
            let here : slice_index (slice_set made by (own + 1)) by ≡ count (state_at r.script r.log.threads (suc r.steps)).journals by =
            get_or-set_same made by (own + 1) 0 lt
            ∙ omega (arith, traced.counts by, counts_new (plain_state r).journals by e there, ap (λ (js : Journals). count js by) next.0.makes) in
            subst (λ (v : ℕ). slice_index (slice_set made by (own + 1)) v ≡ count (state_at r.script r.log.threads (suc r.steps)).journals v) (sym same) here
      ];
    })
