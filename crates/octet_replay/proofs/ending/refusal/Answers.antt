use Rattle.std.proofs.Common.{◌≡◌, ◌+◌, ℕ, ◌<◌, ◌≤◌, ◌^◌, List, length, map, Some, slice_get, refl, sym, ap, ◌∙◌, subst}
use Rattle.octet_model.specs.declared.limits.TheConstants.{MAX_ACCESSES, MAX_THREADS}
use Rattle.octet_model.specs.declared.log.Log.{Log}
use Rattle.octet_model.specs.declared.log.ThreadLog.{ThreadLog}
use Rattle.octet_model.specs.Orders.{thread_log_of}
use Rattle.octet_replay.specs.declared.thread.ThreadReplay.{ThreadReplay}
use Rattle.octet_replay.specs.declared.replayer.replay.Replay.{Replay}
use Rattle.octet_replay.specs.ReplayState.{HasHalted}
use Rattle.octet_replay.specs.Replayed.{state_of, FindsNothing, IsAt, IsFinishedHere, TellsMisfit}
use Rattle.octet_replay.proofs.lemmas.Valid.{few_accesses}
use Rattle.octet_replay.proofs.Judging.{few_here, many_here, marks_here, misfit_is_cause, stuck_is_cause, finished_is_lawful}
use Rattle.octet_replay.proofs.ending.refusal.Goals as goal

-- the logs and the threads that were read are the replay's own
module _ (r : Replay) (log : Log) (logs : List ThreadLog) (threads : List ThreadReplay) (of_log : log ≡ r.log.value) (logs_are : logs ≡ log.threads) (threads_are : threads ≡ r.threads.items) where
  own_logs : logs ≡ r.log.value.threads
  own_logs = logs_are ∙ ap (λ (l : Log). l.threads) of_log

  as_many : IsAt r → HasHalted (state_of r) → length threads ≡ length logs
  as_many at halted = ap (λ (ts : List ThreadReplay). length ts) threads_are ∙ many_here r at halted ∙ ap (λ (ls : List ThreadLog). length ls) (sym own_logs)

  few_in_each : (t : ℕ) → (thread_log_of logs t).accesses ≤ MAX_ACCESSES
  few_in_each t = subst (λ (ls : List ThreadLog). (thread_log_of ls t).accesses ≤ MAX_ACCESSES) (sym own_logs) (few_accesses r.log.value.threads r.log.value.valid t)

  told : (P : List ThreadLog → List ThreadReplay → Type 0) → P logs threads → P r.log.value.threads r.threads.items
  told P holds = subst (λ (ls : List ThreadLog). P ls r.threads.items) own_logs (subst (λ (ts : List ThreadReplay). P logs ts) threads_are holds)

pub lowest_misfit-requires-clause-few : goal.lowest_misfit-requires-clause-few
lowest_misfit-requires-clause-few c =
    subst (λ (threads : List ThreadReplay). length threads ≤ MAX_THREADS) (sym c.as_slice-threads.ensures.value) (few_here c.args.replay.now c.requires.at c.requires.halted)

pub lowest_misfit-requires-clause-as_many : goal.lowest_misfit-requires-clause-as_many
lowest_misfit-requires-clause-as_many c = as_many c.args.replay.now c.args.log.now c.as_slice-logs.result.now c.as_slice-threads.result.now c.requires.of_log c.as_slice-logs.ensures c.as_slice-threads.ensures.value c.requires.at c.requires.halted

pub lowest_misfit-requires-clause-room : goal.lowest_misfit-requires-clause-room
lowest_misfit-requires-clause-room c = few_in_each c.args.replay.now c.args.log.now c.as_slice-logs.result.now c.as_slice-threads.result.now c.requires.of_log c.as_slice-logs.ensures c.as_slice-threads.ensures.value

pub returns-in-Some-clause-refused : goal.returns-in-Some-clause-refused
returns-in-Some-clause-refused c =
    misfit_is_cause c.args.replay.now c.requires.at c.requires.halted c.in-Some.fault
    (told c.args.replay.now c.args.log.now c.as_slice-logs.result.now c.as_slice-threads.result.now c.requires.of_log c.as_slice-logs.ensures c.as_slice-threads.ensures.value
    (λ logs threads. TellsMisfit logs threads c.in-Some.fault) c.in-Some.ensures.some)

pub are_finished-requires : goal.are_finished-requires
are_finished-requires c = as_many c.args.replay.now c.args.log.now c.as_slice-logs.result.now c.as_slice-threads.result.now c.requires.of_log c.as_slice-logs.ensures c.as_slice-threads.ensures.value c.requires.at c.requires.halted

pub positions_of-requires : goal.positions_of-requires
positions_of-requires c =
    subst (λ (threads : List ThreadReplay). (t : ℕ) (x : ThreadReplay) → slice_get threads t ≡ Some x → x.marks < 2 ^ 32) (sym c.as_slice-threads.ensures.value)
    (marks_here c.args.replay.now c.requires.at c.requires.halted)

pub returns-then-not-are_finished-clause-refused : goal.returns-then-not-are_finished-clause-refused
returns-then-not-are_finished-clause-refused c =
    stuck_is_cause c.args.replay.now c.requires.at c.requires.halted
    (told c.args.replay.now c.args.log.now c.as_slice-logs.result.now c.as_slice-threads.result.now c.requires.of_log c.as_slice-logs.ensures c.as_slice-threads.ensures.value
    (λ logs threads. (t : ℕ) (x : ThreadReplay) → slice_get threads t ≡ Some x → FindsNothing (thread_log_of logs t) x) (c.in_default.ensures.none refl))
    c.in_ok-positions.positions
    (told c.args.replay.now c.args.log.now c.as_slice-logs.result.now c.as_slice-threads.result.now c.requires.of_log c.as_slice-logs.ensures c.as_slice-threads.ensures.value
    (λ logs threads. (t : ℕ) × (t < length threads) × ¬ IsFinishedHere logs threads t) (c.if-not-are_finished.ensures.some refl))
    (c.in_ok-positions.ensures ∙ ap (λ (threads : List ThreadReplay). map (λ (x : ThreadReplay). x.accesses + x.marks) threads) c.as_slice-threads.ensures.value)

pub returns-clause-lawful : goal.returns-clause-lawful
returns-clause-lawful c =
    finished_is_lawful c.args.replay.now c.requires.at c.requires.halted
    (told c.args.replay.now c.args.log.now c.as_slice-logs.result.now c.as_slice-threads.result.now c.requires.of_log c.as_slice-logs.ensures c.as_slice-threads.ensures.value
    (λ logs threads. (t : ℕ) → IsFinishedHere logs threads t) (c.if-not-are_finished.ensures.all refl))
