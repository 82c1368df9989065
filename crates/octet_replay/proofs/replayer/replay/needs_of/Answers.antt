use Rattle.std.proofs.Common.{◌≡◌, ℕ, ◌<◌, List, length, Some, slice_get, sym, ap, ◌∙◌, arith, length-append}
use Rattle.octet_model.specs.Orders.{thread_log_of}
use Rattle.octet_replay.specs.Threads.{need_of, next_by_counts}
use Rattle.octet_replay.specs.declared.need.Need.{Need}
use Rattle.octet_replay.specs.declared.thread.ThreadReplay.{ThreadReplay}
use Rattle.octet_replay.proofs.lemmas.Reading.{holds_there, holds_pushed}
use Rattle.octet_replay.proofs.replayer.replay.needs_of.Goals as goal

pub loop-thread-preserved : goal.loop-thread-preserved
loop-thread-preserved c =
    let logs = c.args.logs.now in
    let threads = c.args.threads.now in
    let P : ℕ → Need → Type 0 = λ k need. (t : ThreadReplay) → slice_get threads k ≡ Some t → need ≡ need_of (next_by_counts (thread_log_of logs k) t) in
    let within : c.loop-thread.thread < length threads = omega arith in
    let new : P (length c.loop-thread.needs) c.need.result =
    holds_there (λ log x. c.need.result ≡ need_of (next_by_counts log x)) logs threads c.loop-thread.thread c.index-logs-thread.result c.index-threads-thread.result c.requires within
    c.index-logs-thread.is c.index-threads-thread.is c.need.ensures (length c.loop-thread.needs) c.loop-thread.invariant.as_many in
    record {
      as_many = omega (arith, ap (λ (ns : List Need). length ns) c.in_ok-push.ensures.ok, length-append {A = Need}, c.loop-thread.invariant.as_many);
      each = λ k need at.
          holds_pushed P c.loop-thread.needs c.need.result c.loop-thread.invariant.each new
          k need (ap (λ (ns : List Need). slice_get ns k) (sym c.in_ok-push.ensures.ok) ∙ at);
    }
