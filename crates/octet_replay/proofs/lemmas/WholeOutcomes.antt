-- What an order comes to has all threads and objects.
use Rattle.std.proofs.Common.{◌≡◌, ℕ, suc, List, [], ◌∷◌, length, refl, ap, ◌∙◌, subst, arith}
use Rattle.std.proofs.lemmas.List.{length-map}
use Rattle.octet_model.specs.declared.command.Command.{Command}
use Rattle.octet_model.specs.declared.log.ThreadLog.{ThreadLog}
use Rattle.octet_model.specs.declared.object.Object.{Object}
use Rattle.octet_model.specs.declared.outcome.Outcome.{Outcome}
use Rattle.octet_model.specs.declared.script.Script.{Script}
use Rattle.octet_model.specs.Machine.{Journals, PlainState, Behavior, step, after}
use Rattle.octet_model.specs.Orders.{by_log, opening_state, state_after, ends_of, values_read, IsFaithful}
use Rattle.octet_model.proofs.lemmas.Steps.{by_step}
use Rattle.octet_model.proofs.lemmas.LogsOfJournals.{as_many_after}
use Rattle.octet_replay.specs.Laws.{IsWholeOutcome, ExecutionIsWhole}
use Rattle.octet_replay.proofs.lemmas.EventsMade.{same_length}

length_ends : (fuel : ℕ) (threads : List (List Command)) (journals : Journals) → length journals ≡ length threads → length (ends_of fuel threads journals) ≡ length threads
length_ends fuel [] journals same = refl
length_ends fuel (c ∷ threads) [] same = absurd (omega arith)
length_ends fuel (c ∷ threads) (j ∷ journals) same = ap suc (length_ends fuel threads journals (omega arith))

length_heap : (behavior : Behavior) (order : List ℕ) (s : PlainState) → length (after behavior s order).heap ≡ length s.heap
length_heap behavior [] s = refl
length_heap behavior (t ∷ order) s =
    length_heap behavior order (step behavior s t)
    ∙ by_step behavior (λ (x : PlainState). length x.heap ≡ length s.heap) s t (λ o. same_length o s.heap) refl

pub whole : ExecutionIsWhole
whole script log order =
    let journals = as_many_after (by_log script log) order (opening_state script) ∙ length-map script.threads (λ (c : List Command). []) in
    record {
      ends = length_ends script.fuel script.threads (state_after script log order).journals journals;
      reads = length-map (state_after script log order).journals values_read ∙ journals;
      heap = length_heap (by_log script log) order (opening_state script) ∙ length-map script.objects (λ (o : Object). o.start);
    }

-- so does what a faithful recording has as its outcome
pub faithful_whole : (script : Script) (log : List ThreadLog) (outcome : Outcome) → IsFaithful script log outcome → IsWholeOutcome script outcome
faithful_whole script log outcome faithful = subst (IsWholeOutcome script) (faithful.outcomes faithful.order faithful.is_lawful) (whole script log faithful.order)
