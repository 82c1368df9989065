-- Each script and log has one answer.
use Rattle.std.proofs.Common.{◌≡◌, ◌≢◌, ℕ, zero, suc, ◌<◌, ◌⊎◌, inl, inr, nat_lt, List, [], length, map, refl, sym, ap, ◌∙◌, subst, arith}
use Rattle.std.proofs.lemmas.Bool.{cases_eq, cases_lt, lt-ltb}
use Rattle.std.proofs.lemmas.List.{length-map}
use Rattle.octet_model.specs.declared.command.Command.{Command}
use Rattle.octet_model.specs.declared.event.Event.{Event}
use Rattle.octet_model.specs.declared.script.Script.{Script}
use Rattle.octet_model.specs.declared.log.ThreadLog.{ThreadLog}
use Rattle.octet_model.specs.Thread.{AccessOrEnd, ToRead, ToWrite, ToBump, ToEnd}
use Rattle.octet_model.specs.Machine.{Next, Wants, Finished, NothingFits, next_of}
use Rattle.octet_model.specs.Journals.{access_count, mark_count}
use Rattle.octet_model.specs.Orders.{thread_log_of, by_log, opening_state, lowest_order}
use Rattle.octet_model.proofs.lemmas.LawfulOrders.{by_finish}
use Rattle.octet_model.proofs.lemmas.LogsOfJournals.{as_many_after}
use Rattle.octet_model.proofs.lemmas.LowestFronts.{lowest_order_is_lowest, lowest_is_front, lowest_order_is_lawful}
use Rattle.octet_replay.specs.declared.fault.ReplayFault.{ReplayFault}
use Rattle.octet_replay.specs.declared.fault.ReplayFault.TheVariants.{ThreadsDiffer, Stuck, Misfit, OutOfMemory}
use Rattle.octet_replay.specs.Judged.{IsLawful, last_state, last_journal, last_demand, DemandsEnd, DemandsAccess, Finds, FindsOf, IsMisfitThread, IsFinished, IsMisfit, HasCause}
use Rattle.octet_replay.specs.Laws.{LawfulOrRefused, LawfulIsNotRefused, OneRefusal, FaithfulIsLawful}

pub faithful : FaithfulIsLawful
faithful script log outcome f =
    let lawful = lowest_order_is_lawful script log f.order f.is_lawful (f.ordered f.order f.is_lawful) in
    (lawful, f.outcomes (lowest_order script log) lawful)

as_many_last : (script : Script) (log : List ThreadLog) → length (last_state script log).journals ≡ length script.threads
as_many_last script log =
    as_many_after (by_log script log) (lowest_order script log) (opening_state script) ∙ length-map script.threads (λ (c : List Command). [])

-- no thread both ends early and goes on
end_or_access : (d : AccessOrEnd) → DemandsEnd d → DemandsAccess d → ⊥
end_or_access (ToRead object) ends access = ends
end_or_access (ToWrite object value) ends access = ends
end_or_access (ToBump object amount) ends access = ends
end_or_access (ToEnd end) ends access = access

finished_fits : (script : Script) (log : List ThreadLog) (t : ℕ) → IsFinished script log t → ¬ IsMisfitThread script log t
finished_fits script log t finished misfit =
    let j = last_journal script log t in
    let l = thread_log_of log t in
    let parts = by_finish _ (last_demand script log t) (nat_lt (access_count j) l.accesses) _ finished in
    let ends : DemandsEnd (last_demand script log t) = subst (λ (d : AccessOrEnd). DemandsEnd d) (sym parts.demands) tt in
    elim misfit.1 [
      | inl early ↦ (let left = lt-ltb (access_count j) l.accesses early.0.fewer in let none = parts.no_access in absurd cc)
      | inr on ↦ end_or_access (last_demand script log t) ends on.0.demands
    ]

pub not_refused : LawfulIsNotRefused
not_refused script log (ThreadsDiffer of_script of_log) lawful not_memory cause = cause.differ (cause.script_has ∙ lawful.0 ∙ sym cause.log_has)
not_refused script log (Stuck positions) lawful not_memory cause =
    cause.waits.2 (lawful.1.1 cause.waits.0 (omega (arith, as_many_last script log, lawful.0, cause.waits.1)))
not_refused script log (Misfit thread wanted found) lawful not_memory cause =
    finished_fits script log thread (lawful.1.1 thread (omega (arith, as_many_last script log, lawful.0, cause.within))) (found, cause.finds)
not_refused script log OutOfMemory lawful not_memory cause = not_memory refl

one_found : (d : AccessOrEnd) (log : ThreadLog) (j : List Event) (found other : ℕ) → Finds d log j found → Finds d log j other → found ≡ other
one_found d log j found other (inl p) (inl q) = p.1 ∙ sym q.1
one_found d log j found other (inl p) (inr q) = absurd (end_or_access d p.0.ends q.0.demands)
one_found d log j found other (inr p) (inl q) = absurd (end_or_access d q.0.ends p.0.demands)
one_found d log j found other (inr p) (inr q) = p.1 ∙ sym q.1

one_misfit : (script : Script) (log : List ThreadLog) (t w f t' w' f' : ℕ) → IsMisfit script log t w f → IsMisfit script log t' w' f' → Misfit t w f ≡ Misfit t' w' f'
one_misfit script log t w f t' w' f' p q =
    elim (cases_lt t t') [
      | inl below ↦ absurd (q.lowest t below (f, p.finds))
      | inr above ↦ elim (cases_lt t' t) [
        | inl below ↦ absurd (p.lowest t' below (f', q.finds))
        | inr above' ↦
            let same : t ≡ t' = omega arith in
            let found : f ≡ f' = one_found _ _ _ f f' (subst (λ (n : ℕ). FindsOf script log n f) same p.finds) q.finds in
            let wanted : w ≡ w' = p.wants ∙ ap (λ (n : ℕ). (thread_log_of log n).accesses) same ∙ sym q.wants in
            rw (same, found, wanted) refl
      ]
    ]

pub one_refusal : OneRefusal
one_refusal script log OutOfMemory other f o p q = absurd (f refl)
one_refusal script log (ThreadsDiffer s l) OutOfMemory f o p q = absurd (o refl)
one_refusal script log (ThreadsDiffer s l) (ThreadsDiffer s' l') f o p q =
    let script_same : s ≡ s' = p.script_has ∙ sym q.script_has in
    let log_same : l ≡ l' = p.log_has ∙ sym q.log_has in
    rw (script_same, log_same) refl
one_refusal script log (ThreadsDiffer s l) (Stuck positions) f o p q = absurd (p.differ (p.script_has ∙ q.agree ∙ sym p.log_has))
one_refusal script log (ThreadsDiffer s l) (Misfit t w n) f o p q = absurd (p.differ (p.script_has ∙ q.agree ∙ sym p.log_has))
one_refusal script log (Stuck positions) OutOfMemory f o p q = absurd (o refl)
one_refusal script log (Stuck positions) (ThreadsDiffer s l) f o p q = absurd (q.differ (q.script_has ∙ p.agree ∙ sym q.log_has))
one_refusal script log (Stuck positions) (Stuck others) f o p q = ap Stuck (p.made ∙ sym q.made)
one_refusal script log (Stuck positions) (Misfit t w n) f o p q = absurd (p.fit t q.within (n, q.finds))
one_refusal script log (Misfit t w n) OutOfMemory f o p q = absurd (o refl)
one_refusal script log (Misfit t w n) (ThreadsDiffer s l) f o p q = absurd (q.differ (q.script_has ∙ p.agree ∙ sym q.log_has))
one_refusal script log (Misfit t w n) (Stuck positions) f o p q = absurd (q.fit t p.within (n, p.finds))
one_refusal script log (Misfit t w n) (Misfit t' w' n') f o p q = one_misfit script log t w n t' w' n' p q

-- a test that decides finds the first below `n` that passes, or none
record First (P : ℕ → Type 0) (n : ℕ) : Type 0 where
  place : ℕ
  within : place < n
  passes : P place
  below : (lower : ℕ) → lower < place → ¬ P lower

first_or_none : (P : ℕ → Type 0) → ((k : ℕ) → P k ⊎ ¬ P k) → (n : ℕ) → First P n ⊎ ((k : ℕ) → k < n → ¬ P k)
first_or_none P decide zero = inr (λ k lt. absurd (omega arith))
first_or_none P decide (suc n) =
    elim (first_or_none P decide n) [
      | inl found ↦ inl (record { place = found.place; within = omega (arith, found.within); passes = found.passes; below = found.below })
      | inr none ↦ elim (decide n) [
        | inl here ↦ inl (record { place = n; within = omega arith; passes = here; below = none })
        | inr not_here ↦ inr (λ k lt. elim (cases_eq k n) [ inl same ↦ subst (λ (m : ℕ). ¬ P m) (sym same) not_here | inr differ ↦ none k (omega arith) ])
      ]
    ]

goes_on_or_not : (d : AccessOrEnd) (log : ThreadLog) (j : List Event) → DemandsAccess d → ((found : ℕ) × Finds d log j found) ⊎ ¬ ((found : ℕ) × Finds d log j found)
goes_on_or_not d log j access =
    elim (cases_eq (access_count j) log.accesses) [
      | inr differ ↦ inr (λ misfit. elim misfit.1 [ inl early ↦ end_or_access d early.0.ends access | inr on ↦ differ on.0.made ])
      | inl same ↦ elim (cases_lt (mark_count j) (length log.marks)) [
        | inl left ↦ inr (λ misfit. elim misfit.1 [ inl early ↦ end_or_access d early.0.ends access | inr on ↦ absurd (omega (arith, on.0.no_mark_left)) ])
        | inr none_left ↦ inl (suc log.accesses, inr (record { demands = access; made = same; no_mark_left = none_left }, refl))
      ]
    ]

misfit_or_not : (d : AccessOrEnd) (log : ThreadLog) (j : List Event) → ((found : ℕ) × Finds d log j found) ⊎ ¬ ((found : ℕ) × Finds d log j found)
misfit_or_not (ToRead object) log j = goes_on_or_not (ToRead object) log j tt
misfit_or_not (ToWrite object value) log j = goes_on_or_not (ToWrite object value) log j tt
misfit_or_not (ToBump object amount) log j = goes_on_or_not (ToBump object amount) log j tt
misfit_or_not (ToEnd end) log j =
    elim (cases_lt (access_count j) log.accesses) [
      | inl fewer ↦ inl (access_count j, inl (record { ends = tt; fewer = fewer }, refl))
      | inr enough ↦ inr (λ misfit. elim misfit.1 [ inl early ↦ absurd (omega (arith, early.0.fewer)) | inr on ↦ on.0.demands ])
    ]

finished_or_not : (next : Next) → (next ≡ Finished) ⊎ ¬ (next ≡ Finished)
finished_or_not Finished = inl refl
finished_or_not NothingFits = inr (λ is. absurd cc)
finished_or_not (Wants operation) = inr (λ is. absurd cc)

unfinished_or_not : (next : Next) → (¬ (next ≡ Finished)) ⊎ ¬ (¬ (next ≡ Finished))
unfinished_or_not next = elim (finished_or_not next) [ inl is ↦ inr (λ is_not. is_not is) | inr is_not ↦ inl is_not ]

finished_from : (next : Next) → ¬ (¬ (next ≡ Finished)) → next ≡ Finished
finished_from next not_not = elim (finished_or_not next) [ inl is ↦ is | inr is_not ↦ absurd (not_not is_not) ]

module _ (script : Script) (log : List ThreadLog) where
  abbrev Answer : Type 0
  Answer = IsLawful script log ⊎ ((fault : ReplayFault) × (fault ≢ OutOfMemory) × HasCause script log fault)

  by_waiting : length script.threads ≡ length log → ((t : ℕ) → t < length log → ¬ IsMisfitThread script log t)
      → First (λ t. ¬ IsFinished script log t) (length log) ⊎ ((t : ℕ) → t < length log → ¬ (¬ IsFinished script log t)) → Answer
  by_waiting same fit (inl found) =
      inr (
        Stuck (map (λ (j : List Event). length j) (last_state script log).journals),
        (λ is. absurd cc),
        record { agree = same; fit = fit; waits = (found.place, found.within, found.passes); made = refl },
      )
  by_waiting same fit (inr none) =
      inl (
        same,
        (
          lowest_is_front (by_log script log) (lowest_order script log) (opening_state script) (lowest_order_is_lowest script log same),
          λ t within. finished_from (next_of (by_log script log) (last_state script log) t) (none t (omega (arith, as_many_last script log))),
        ),
      )

  by_misfit : length script.threads ≡ length log → First (λ t. IsMisfitThread script log t) (length log) ⊎ ((t : ℕ) → t < length log → ¬ IsMisfitThread script log t) → Answer
  by_misfit same (inl found) =
      inr (
        Misfit found.place (thread_log_of log found.place).accesses found.passes.0,
        (λ is. absurd cc),
        record { agree = same; within = found.within; wants = refl; finds = found.passes.1; lowest = found.below },
      )
  by_misfit same (inr fit) =
      by_waiting same fit (first_or_none (λ t. ¬ IsFinished script log t) (λ t. unfinished_or_not (next_of (by_log script log) (last_state script log) t)) (length log))

  answer : Answer
  answer =
      elim (cases_eq (length script.threads) (length log)) [
        | inl same ↦ by_misfit same (first_or_none (λ t. IsMisfitThread script log t) (λ t. misfit_or_not (last_demand script log t) (thread_log_of log t) (last_journal script log t)) (length log))
        | inr differ ↦ inr (ThreadsDiffer (length script.threads) (length log), (λ is. absurd cc), record { script_has = refl; log_has = refl; differ = differ })
      ]

pub lawful_or_refused : LawfulOrRefused
lawful_or_refused script log = answer script log
