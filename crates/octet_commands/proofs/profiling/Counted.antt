-- Counting the events of a replay by class, one after another.
use Rattle.std.proofs.Common.{◌≡◌, ℕ, zero, suc, ◌+◌, ◌*◌, ◌^◌, ◌≤◌, ◌<◌, ◌==◌, Bool, cond, inl, inr, List, [], ◌∷◌, ◌++◌, length, replicate, Option, slice_index, slice_set, refl, sym, ap, ◌∙◌, subst, arith, length-append, zero-add}
use Rattle.std.specs.List.{All, count_by}
use Rattle.std.proofs.lemmas.Bool.{cases_eq, eq-eqb, ne_eqb}
use Rattle.std.proofs.lemmas.List.{length-set, get_or-set_same, get_or-set_other, length-replicate, get_or-replicate}
use Rattle.std.proofs.lemmas.List.FromFn.{fill_by_all, get_or-map-range_with_len, length-map-range_with_len}
use Rattle.std.proofs.lemmas.List.Sums.{sum_by-cons, sum_by-append, count_by-le-length}
use Rattle.octet_model.specs.declared.event.Event.{Event}
use Rattle.octet_model.specs.declared.log.Log.{Log}
use Rattle.octet_model.specs.declared.script.Script.{Script}
use Rattle.octet_model.specs.Machine.{Journals, appended, no_events, step}
use Rattle.octet_model.specs.Orders.{journals_after, lowest_order}
use Rattle.octet_watch.specs.Tally.{all_events, saturated}
use Rattle.octet_replay.specs.Places.{FitInPlaces}
use Rattle.octet_replay.specs.ReplayState.{ReplayState, state_at, plain_state, HasHalted, IsNextStep}
use Rattle.octet_replay.proofs.lemmas.Collecting.{collected, thread_there}
use Rattle.octet_commands.specs.Profile.{class_of, class_count, counts}
use Rattle.octet_commands.proofs.profiling.FirstSteps.{first_steps_fit_in_places}

-- the events of journals that fit in places are fewer than 2 ^ 64
bounded : (journals : List (List Event)) → All (λ journal. length journal < 2 ^ 32) journals → length (all_events journals) ≤ length journals * 2 ^ 32
bounded [] each = omega arith
bounded (journal ∷ journals) each = omega (arith, length-append journal (all_events journals), each 0 journal (omega arith), bounded journals (λ k d less. each (suc k) d (omega (arith, less))))

few_events : (journals : List (List Event)) → FitInPlaces journals → length (all_events journals) < 2 ^ 64
few_events journals places = omega (arith, bounded journals places.events, places.threads)

-- no event is of any class
no_event : {A : Type 0} (xs : List A) → all_events (no_events xs) ≡ []
no_event [] = refl
no_event (x ∷ xs) = no_event xs

pub counts_none : (wanted : Option ℕ) (r : ReplayState) (numbers : List ℕ) → r.steps ≡ 0 → numbers ≡ replicate (class_count wanted) 0 → numbers ≡ counts wanted (plain_state r).journals
counts_none wanted r numbers begins is =
    is ∙ fill_by_all (λ k. count_by (λ event. class_of wanted event == k) (all_events (plain_state r).journals)) (replicate (class_count wanted) 0) (class_count wanted) 0
    (length-replicate {A = ℕ} (class_count wanted) 0)
    (λ k below. get_or-replicate (class_count wanted) k 0 0 below ∙ sym (ap (count_by (λ event. class_of wanted event == k)) none))
  where
    none : all_events (plain_state r).journals ≡ []
    none = ap (λ (k : ℕ). all_events (state_at r.script r.log.threads k).journals) begins ∙ no_event r.script.threads

pub length_counts : (wanted : Option ℕ) (js : Journals) → length (counts wanted js) ≡ class_count wanted
length_counts wanted js = length-map-range_with_len (λ k. count_by (λ event. class_of wanted event == k) (all_events js)) 0 (class_count wanted)

-- one event more is one more of its class
count_appended : (p : Event → Bool) (js : Journals) (thread : ℕ) (event : Event) → thread < length js
    → count_by p (all_events (appended js thread event)) ≡ count_by p (all_events js) + cond (p event) 1 0
count_appended p [] thread event lt = absurd (omega (arith, lt))
count_appended p (j ∷ js) zero event lt =
    let each : Event → ℕ = λ e. cond (p e) 1 0 in
    omega (arith, sum_by-append each (j ++ event ∷ []) (all_events js), sum_by-append each j (event ∷ []), sum_by-cons each event [], sum_by-append each j (all_events js))
count_appended p (j ∷ js) (suc thread) event lt =
    let each : Event → ℕ = λ e. cond (p e) 1 0 in
    omega (arith, sum_by-append each j (all_events (appended js thread event)), sum_by-append each j (all_events js), count_appended p js thread event (omega (arith, lt)))

module _ (wanted : Option ℕ) (js : Journals) (thread : ℕ) (event : Event) (there : thread < length js) (few : length (all_events (appended js thread event)) < 2 ^ 64) where
  abbrev own : ℕ
  own = class_of wanted event

  abbrev more : ℕ
  more = saturated (slice_index (counts wanted js) own + 1)

  abbrev before : ℕ → ℕ
  before k = count_by (λ e. class_of wanted e == k) (all_events js)

  abbrev after : ℕ → ℕ
  after k = count_by (λ e. class_of wanted e == k) (all_events (appended js thread event))

  at : (k : ℕ) → k < class_count wanted → slice_index (counts wanted js) k ≡ before k
  at k below = get_or-map-range_with_len before 0 (class_count wanted) k k 0 below (zero-add k)

  added : (k : ℕ) → after k ≡ before k + cond (own == k) 1 0
  added k = count_appended (λ e. class_of wanted e == k) js thread event there

  fits : (k : ℕ) → after k < 2 ^ 64
  fits k = omega (arith, count_by-le-length (λ e. class_of wanted e == k) (all_events (appended js thread event)), few)

  pub counts_one_more : slice_set (counts wanted js) own more ≡ counts wanted (appended js thread event)
  counts_one_more = fill_by_all after (slice_set (counts wanted js) own more) (class_count wanted) 0
      (length-set (counts wanted js) own more ∙ length-map-range_with_len before 0 (class_count wanted))
      (λ k below. elim (cases_eq k own) [
        | inr differ ↦
            let none : cond {A = ℕ} (own == k) 1 0 ≡ 0 = ap (λ b. cond {A = ℕ} b 1 0) (ne_eqb own k (λ same. differ (sym same))) in
            get_or-set_other (counts wanted js) own k more 0 differ ∙ at k below ∙ omega (arith, added k, none)
        | inl same ↦
            let one : cond {A = ℕ} (own == k) 1 0 ≡ 1 = ap (λ b. cond {A = ℕ} b 1 0) (eq-eqb own k (sym same)) in
            let within : own < length (counts wanted js) = omega (arith, below, same, length-map-range_with_len before 0 (class_count wanted)) in
            ap (slice_index (slice_set (counts wanted js) own more)) same ∙ get_or-set_same (counts wanted js) own more 0 within
            ∙ omega (arith, at own (omega (arith, below, same)), ap before same, added k, one, fits k)
      ])

-- ---- the steps of a replay

-- a replayer that has halted has counted the whole order
pub counts_all : (wanted : Option ℕ) (script : Script) (log : Log) (old new : ReplayState) → old ≡ record { script = script; log = log; steps = 0 } → new.script ≡ old.script → new.log ≡ old.log
    → length script.threads ≡ length log.threads → HasHalted new → counts wanted (plain_state new).journals ≡ counts wanted (journals_after script log.threads (lowest_order script log.threads))
counts_all wanted script log old new opens same_script same_log agree halted =
    ap (counts wanted) (collected script log old new (plain_state new).journals opens same_script same_log agree halted refl)

-- a step counts its event
pub counts_step : (wanted : Option ℕ) (r next : ReplayState) (thread : ℕ) (event : Event) (numbers then : List ℕ) → length r.script.threads ≡ length r.log.threads → IsNextStep r thread event → next ≡ record r { steps = suc r.steps }
    → numbers ≡ counts wanted (plain_state r).journals → then ≡ slice_set numbers (class_of wanted event) (saturated (slice_index numbers (class_of wanted event) + 1)) → then ≡ counts wanted (plain_state next).journals
counts_step wanted r next thread event numbers then agree step next_is is then_is =
    then_is ∙ ap (λ (ns : List ℕ). slice_set ns (class_of wanted event) (saturated (slice_index ns (class_of wanted event) + 1))) is
    ∙ counts_one_more wanted (plain_state r).journals thread event (thread_there r thread event step) few
    ∙ ap (counts wanted) (sym step.makes) ∙ ap (λ (x : ReplayState). counts wanted (plain_state x).journals) (sym next_is)
  where
    few : length (all_events (appended (plain_state r).journals thread event)) < 2 ^ 64
    few = subst (λ (js : Journals). length (all_events js) < 2 ^ 64) step.makes
        (few_events (state_at r.script r.log.threads (suc r.steps)).journals (first_steps_fit_in_places r.script r.log.threads (suc r.steps) agree r.log.valid))
