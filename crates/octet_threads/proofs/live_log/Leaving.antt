-- What a run leaves of its log in the file, when it has ended or was refused.
use Rattle.std.proofs.Common.{◌≡◌, ◌∙◌, ℕ, zero, suc, ◌<◌, ◌≤◌, List, [], ◌∷◌, All, length, map, Option, None, refl, sym, ap, subst, arith}
use Rattle.std.proofs.lemmas.List.{length-map}
use Rattle.octet_base.specs.Desk.{DeskState}
use Rattle.octet_base.specs.declared.fault.DeskFault.{DeskFault}
use Rattle.octet_model.specs.declared.command.Command.{Command}
use Rattle.octet_model.specs.declared.log.ThreadLog.{ThreadLog}
use Rattle.octet_model.specs.declared.script.Script.{Script}
use Rattle.octet_model.specs.Machine.{Journals, journal_of}
use Rattle.octet_model.specs.Journals.{access_count, log_of}
use Rattle.octet_heap.specs.declared.heap.Heap.{Heap}
use Rattle.octet_heap.specs.Seated.{journals_of}
use Rattle.octet_threads.specs.declared.heap.runner.Runner.{Runner}
use Rattle.octet_live.specs.Written.{IsWritten, IsPartlyWritten, Writes}
use Rattle.octet_live.specs.Laws.{marks_at}
use Rattle.octet_live.proofs.lemmas.Written.{written, nothing_written}
use Rattle.octet_threads.specs.Runners.{AreOf, HasEnded, IsHeapOf}
use Rattle.octet_threads.specs.Work.{marks_made, workers_in}
use Rattle.octet_threads.proofs.runners.Ending.{fuelled, good, many_ended}
use Rattle.octet_threads.proofs.live_log.ThreadLogs.{IsGoodJournal, journals_valid, journals_few, length_logs}

made_in_log : (runners : List Runner) (u : ℕ) → u < length runners → marks_at (log_of (journals_of (workers_in runners))) u ≡ marks_made runners u
made_in_log [] u less = absurd (omega (arith, less))
made_in_log (r ∷ runners) zero less = refl
made_in_log (r ∷ runners) (suc u) less = made_in_log runners u (omega (arith, less))

length_in_log : (runners : List Runner) → length (log_of (journals_of (workers_in runners))) ≡ length runners
length_in_log [] = refl
length_in_log (r ∷ runners) = ap suc (length_in_log runners)

-- the marks of the runners are those of their log
pub log_written : (runners : List Runner) (logs : List ThreadLog) (threads : ℕ) (kept : Option DeskFault) (before after : DeskState) → logs ≡ log_of (journals_of (workers_in runners)) → threads ≡ length runners
    → Writes threads (marks_made runners) before kept after → IsWritten logs before kept after
log_written runners logs threads kept before after same many writes =
    subst (λ (l : List ThreadLog). IsWritten l before kept after) (sym same)
    (written threads (marks_made runners) (log_of (journals_of (workers_in runners))) (length_in_log runners ∙ sym many) (λ u less. made_in_log runners u (omega (arith, less, many))) kept before after writes)

-- and that is valid
pub partly_written : (script : Script) (heap : Heap) (runners : List Runner) (threads : ℕ) (kept : Option DeskFault) (before after : DeskState) → IsHeapOf script heap → AreOf script runners → All (HasEnded heap) runners → threads ≡ length runners
    → Writes threads (marks_made runners) before kept after → IsPartlyWritten (length script.threads) before after
partly_written script heap runners threads kept before after is of ended many writes =
    let js = journals_of (workers_in runners) in
    let as_many = many_ended script heap runners is of ended in
    let within = fuelled script heap runners is of ended in
    let each = good script heap runners is of ended in record {
      logs = log_of js;
      valid = journals_valid script js as_many within each;
      as_many = length_logs js ∙ as_many;
      few = journals_few script js as_many within each;
      kept = kept;
      written = log_written runners (log_of js) threads kept before after refl many writes;
    }

-- before any thread has run, the journals are empty
abbrev empty_journals : List (List Command) → Journals
empty_journals threads = map (λ commands. []) threads

none_made : (threads : List (List Command)) (u : ℕ) → journal_of (empty_journals threads) u ≡ []
none_made [] u = refl
none_made (commands ∷ threads) zero = refl
none_made (commands ∷ threads) (suc u) = none_made threads u

no_marks : (threads : List (List Command)) (u : ℕ) → marks_at (log_of (empty_journals threads)) u ≡ []
no_marks [] u = refl
no_marks (commands ∷ threads) zero = refl
no_marks (commands ∷ threads) (suc u) = no_marks threads u

empty_good : (threads thread : ℕ) → IsGoodJournal threads thread []
empty_good threads thread = record { valid = refl; few = omega arith }

pub nothing_added : (script : Script) (state : DeskState) → IsPartlyWritten (length script.threads) state state
nothing_added script state =
    let js = empty_journals script.threads in
    let as_many : length js ≡ length script.threads = length-map script.threads (λ (commands : List Command). []) in
    let within : (u : ℕ) → access_count (journal_of js u) ≤ script.fuel = λ u. omega (arith, ap access_count (none_made script.threads u)) in
    let each : (u : ℕ) → u < length js → IsGoodJournal (length js) u (journal_of js u) = λ u less. subst (IsGoodJournal (length js) u) (sym (none_made script.threads u)) (empty_good (length js) u) in record {
      logs = log_of js;
      valid = journals_valid script js as_many within each;
      as_many = length_logs js ∙ as_many;
      few = journals_few script js as_many within each;
      kept = None;
      written = nothing_written (log_of js) state (λ u less. no_marks script.threads u);
    }
