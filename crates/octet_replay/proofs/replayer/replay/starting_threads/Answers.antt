use Rattle.std.proofs.Common.{ℕ, ◌<◌, [], List, length, ap, ◌∙◌, subst, sym, get_or, slice_get, arith, length-append}
use Rattle.octet_model.specs.declared.event.Event.{Event}
use Rattle.octet_model.specs.declared.log.ThreadLog.{ThreadLog}
use Rattle.octet_model.specs.Orders.{commands_of, thread_log_of}
use Rattle.octet_model.specs.Thread.{starting_configuration}
use Rattle.octet_model.proofs.lemmas.Fronts.{no_journal}
use Rattle.octet_replay.specs.Threads.{IsReplayOf}
use Rattle.octet_replay.specs.declared.thread.ThreadReplay.{ThreadReplay}
use Rattle.octet_replay.proofs.lemmas.Reading.{log_read, holds_pushed}
use Rattle.octet_replay.proofs.replayer.replay.starting_threads.Goals as goal

pub loop-thread-preserved : goal.loop-thread-preserved
loop-thread-preserved c =
    let script = c.args.script.now in
    let log = c.args.log.now.threads in
    let P : ℕ → ThreadReplay → Type 0 = λ t x. IsReplayOf (commands_of script t) (starting_configuration script.fuel) (length script.objects) (thread_log_of log t) [] x in
    let it = c.index-as_slice-thread.result in
    let within : c.loop-thread.thread < length log = omega arith in
    let log_is = log_read log c.loop-thread.thread it (c.index-as_slice-thread.is ∙ ap (λ (l : List ThreadLog). get_or l c.loop-thread.thread it) c.as_slice.ensures) within in
    let new : P c.loop-thread.thread c.in_ok-new.field-0 =
    subst (λ (l : ThreadLog). IsReplayOf (commands_of script c.loop-thread.thread) (starting_configuration script.fuel) (length script.objects) l [] c.in_ok-new.field-0) log_is c.in_ok-new.ensures in
    record {
      as_many = omega (arith, ap (λ (xs : List ThreadReplay). length xs) c.in_ok-push.ensures.items, length-append {A = ThreadReplay});
      each = λ t x at.
          holds_pushed P c.loop-thread.threads.items c.in_ok-new.field-0 c.loop-thread.invariant.each
          (subst (λ (n : ℕ). P n c.in_ok-new.field-0) (sym c.loop-thread.invariant.as_many) new)
          t x (ap (λ (xs : List ThreadReplay). slice_get xs t) (sym c.in_ok-push.ensures.items) ∙ at);
    }

pub returns-clause-each : goal.returns-clause-each
returns-clause-each c thread t at =
    let script = c.args.script.now in
    subst (λ (j : List Event). IsReplayOf (commands_of script thread) (starting_configuration script.fuel) (length script.objects) (thread_log_of c.args.log.now.threads thread) j t) (sym (no_journal script.threads thread))
    (c.loop-thread.invariant.each thread t at)
