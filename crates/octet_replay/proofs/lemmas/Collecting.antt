-- The events of a replayer, kept until it halts.
use Rattle.std.proofs.Common.{◌≡◌, ℕ, suc, ◌-◌, ◌<◌, List, [], ◌∷◌, ◌++◌, length, replicate, get_or, slice_set, refl, sym, ap, ◌∙◌, subst, arith}
use Rattle.std.proofs.lemmas.Bool.{and_parts, ltb-true}
use Rattle.std.proofs.lemmas.List.{get_or_default}
use Rattle.octet_model.specs.declared.event.Event.{Event}
use Rattle.octet_model.specs.declared.script.Script.{Script}
use Rattle.octet_model.specs.declared.log.Log.{Log}
use Rattle.octet_model.specs.Machine.{Journals, journal_of, PlainState, no_events, next_of, may_proceed, appended}
use Rattle.octet_model.specs.Orders.{by_log, journals_after, lowest_order}
use Rattle.octet_replay.specs.ReplayState.{ReplayState, state_at, plain_state, HasHalted, IsNextStep}
use Rattle.octet_replay.specs.Places.{FitInPlaces}
use Rattle.octet_replay.proofs.lemmas.Halting.{is_last_state}
use Rattle.octet_replay.proofs.lemmas.Places.{lowest_order_fits_in_places}

pub no_events_are : {A : Type 0} (xs : List A) → replicate (length xs) [] ≡ no_events xs
no_events_are [] = refl
no_events_are (x ∷ xs) = ap (λ (js : Journals). [] ∷ js) (no_events_are xs)

-- before the first step
pub begins_empty : (r : ReplayState) (threads : ℕ) (journals : Journals) → r.steps ≡ 0 → threads ≡ length r.script.threads → journals ≡ replicate threads [] → journals ≡ (plain_state r).journals
begins_empty r threads journals steps as_many is =
    is ∙ ap (λ (n : ℕ). replicate n []) as_many ∙ no_events_are r.script.threads
    ∙ ap (λ (k : ℕ). (state_at r.script r.log.threads k).journals) (sym steps)

-- a step's thread is there
pub thread_there : (r : ReplayState) (thread : ℕ) (event : Event) → IsNextStep r thread event → thread < length (plain_state r).journals
thread_there r thread event next =
    ltb-true thread (length (plain_state r).journals) (and_parts _ (may_proceed (plain_state r) (next_of (by_log r.script r.log.threads) (plain_state r) thread)) next.may).0

-- and its event is the next of its journal
pub one_more_event : (r after : ReplayState) (thread : ℕ) (event : Event) (journals : Journals) (old new : List Event) → IsNextStep r thread event → after ≡ record r { steps = suc r.steps }
    → journals ≡ (plain_state r).journals → old ≡ get_or journals thread old → new ≡ old ++ event ∷ [] → slice_set journals thread new ≡ (plain_state after).journals
one_more_event r after thread event journals old new next after_is is old_is new_is =
    let within : thread < length journals = omega (arith, thread_there r thread event next, ap (λ (js : Journals). length js) is) in
    let own : old ≡ journal_of journals thread = old_is ∙ get_or_default journals thread old [] within in
    ap (slice_set journals thread) (new_is ∙ ap (λ (j : List Event). j ++ event ∷ []) own)
    ∙ ap (λ (js : Journals). appended js thread event) is ∙ sym next.makes ∙ ap (λ (x : ReplayState). (plain_state x).journals) (sym after_is)

-- fewer steps are left after a step
pub fewer_left : (r after : ReplayState) (thread : ℕ) (event : Event) → IsNextStep r thread event → after ≡ record r { steps = suc r.steps }
    → length (lowest_order after.script after.log.threads) - after.steps < length (lowest_order r.script r.log.threads) - r.steps
fewer_left r after thread event next after_is =
    subst (λ (x : ReplayState). length (lowest_order x.script x.log.threads) - x.steps < length (lowest_order r.script r.log.threads) - r.steps) (sym after_is) (omega (arith, next.within))

-- the journals that were kept until then
pub collected : (script : Script) (log : Log) (old new : ReplayState) (journals : Journals) → old ≡ record { script = script; log = log; steps = 0 } → new.script ≡ old.script → new.log ≡ old.log
    → length script.threads ≡ length log.threads → HasHalted new → journals ≡ (plain_state new).journals → journals ≡ journals_after script log.threads (lowest_order script log.threads)
collected script log old new journals opens same_script same_log agree halted is =
    let new_is : new ≡ record { script = script; log = log; steps = new.steps } =
    λ i. record { script = (same_script ∙ ap (λ (x : ReplayState). x.script) opens) i; log = (same_log ∙ ap (λ (x : ReplayState). x.log) opens) i; steps = new.steps } in
    let halted' = subst (λ (x : ReplayState). HasHalted x) new_is halted in
    is ∙ ap (λ (x : ReplayState). (plain_state x).journals) new_is
    ∙ ap (λ (s : PlainState). s.journals) (is_last_state (record { script = script; log = log; steps = new.steps }) agree halted')

pub collected_fit : (script : Script) (log : Log) (journals : Journals) → length script.threads ≡ length log.threads → journals ≡ journals_after script log.threads (lowest_order script log.threads) → FitInPlaces journals
collected_fit script log journals agree is = subst (λ (js : Journals). FitInPlaces js) (sym is) (lowest_order_fits_in_places script log.threads agree log.valid)
