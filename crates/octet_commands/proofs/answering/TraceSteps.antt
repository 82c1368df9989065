-- A step of a trace: whose event it is, and that it fits what its thread demands.
use Rattle.std.proofs.Common.{◌≡◌, ℕ, suc, ◌<◌, List, [], ◌∷◌, length, take, Some, get_or, slice_get, slice_index, sym, ap, ◌∙◌, subst, arith}
use Rattle.std.proofs.Math.Seq.{take-suc}
use Rattle.std.proofs.lemmas.List.{length-map}
use Rattle.std.proofs.lemmas.Option.{same_Some, slice_get_within}
use Rattle.octet_model.specs.declared.command.Command.{Command}
use Rattle.octet_model.specs.declared.event.Event.{Event}
use Rattle.octet_model.specs.declared.event.Place.{Place}
use Rattle.octet_model.specs.declared.log.ThreadLog.{ThreadLog}
use Rattle.octet_model.specs.declared.script.Script.{Script}
use Rattle.octet_model.specs.Thread.{Configuration, configuration_after, starting_configuration, FitsFrom}
use Rattle.octet_model.specs.Journals.{next_by_log}
use Rattle.octet_model.specs.Machine.{journal_of, PlainState, Behavior, Operation, MakeMark, MakeRead, MakeWrite, MakeUpdate, Wants, event_made, appended, after}
use Rattle.octet_model.specs.Orders.{by_log, commands_of, thread_log_of, lowest_order, opening_state}
use Rattle.octet_model.specs.Traces.{trace_of}
use Rattle.octet_model.proofs.lemmas.Fronts.{after_on}
use Rattle.octet_model.proofs.lemmas.LogsOfJournals.{as_many_after}
use Rattle.octet_model.proofs.lemmas.LowestFronts.{next_by}
use Rattle.octet_replay.specs.ReplayState.{state_at}
use Rattle.octet_replay.proofs.lemmas.Traces.{lowest_order_is_front, placed, told_at, trace_has_all}

-- an operation that is next makes an event that fits
fits_next : (commands : List Command) (c : Configuration) (log : ThreadLog) (journal : List Event) (heap : List ℕ) (o : Operation) → next_by_log commands c log journal ≡ Wants o
    → FitsFrom commands (configuration_after commands c journal) (event_made o heap ∷ [])
fits_next commands c log journal heap (MakeMark mark) is = tt
fits_next commands c log journal heap (MakeRead object) is = let next = next_by commands c log journal (MakeRead object) is in (next.0, tt)
fits_next commands c log journal heap (MakeWrite object value) is = let next = next_by commands c log journal (MakeWrite object value) is in (next.0, tt)
fits_next commands c log journal heap (MakeUpdate object change) is =
    let next = next_by commands c log journal (MakeUpdate object change) is in
    ((next.0.0, next.0.1, ap (λ (f : ℕ → ℕ). f (slice_index heap object)) next.0.2), tt)

-- the event that comes after so many of a trace
pub record IsStep (script : Script) (log : List ThreadLog) (told : ℕ) (item : Place × Event) : Type 0 where
  pub within : item.0.thread < length script.threads
  pub there : item.0.thread < length (state_at script log told).journals
  pub appends : (state_at script log (suc told)).journals ≡ appended (state_at script log told).journals item.0.thread item.1
  pub fits : FitsFrom (commands_of script item.0.thread)
      (configuration_after (commands_of script item.0.thread) (starting_configuration script.fuel) (journal_of (state_at script log told).journals item.0.thread)) (item.1 ∷ [])

module _ (script : Script) (log : List ThreadLog) (told : ℕ) (item : Place × Event) where
  abbrev V : Behavior
  V = by_log script log

  abbrev order : List ℕ
  order = lowest_order script log

  abbrev s : PlainState
  s = state_at script log told

  pub step_of : slice_get (trace_of script log) told ≡ Some item → IsStep script log told item
  step_of is =
      let lt : told < length order = omega (arith, slice_get_within (trace_of script log) told item is, trace_has_all script log) in
      let at = told_at V order (opening_state script) told (lowest_order_is_front script log) lt in
      let t = get_or order told 0 in
      let both : Some (placed s t at.operation) ≡ Some item = sym at.item ∙ is in
      let item_is : placed s t at.operation ≡ item = same_Some (placed s t at.operation) item both in
      subst (λ (x : Place × Event). IsStep script log told x) item_is (record {
        within = omega (arith, at.makes.within, as_many_after V (take told order) (opening_state script), length-map {B = List Event} script.threads (λ (c : List Command). []));
        there = at.makes.within;
        appends =
            ap (λ (o : List ℕ). (after V (opening_state script) o).journals) (take-suc order told 0 lt)
            ∙ ap (λ (x : PlainState). x.journals) (after_on V (take told order) (t ∷ []) (opening_state script))
            ∙ at.makes.appends;
        fits = fits_next (commands_of script t) (starting_configuration script.fuel) (thread_log_of log t) (journal_of s.journals t) s.heap at.operation at.makes.wanted;
      })
