use Rattle.std.proofs.Common.{◌≡◌, ◌<◌, inl, inr, length, arith}
use Rattle.std.proofs.lemmas.Bool.{cases_eq}
use Rattle.std.proofs.lemmas.Option.{slice_get_within}
use Rattle.octet_model.specs.Machine.{Finished}
use Rattle.octet_replay.specs.Threads.{next_by_counts}
use Rattle.octet_replay.proofs.lemmas.Reading.{holds_there}
use Rattle.octet_replay.proofs.judge.are_finished.Goals as goal

pub loop-thread-preserved : goal.loop-thread-preserved
loop-thread-preserved c lower below t at =
    elim (cases_eq lower c.loop-thread.thread) [
      | inr differ ↦ c.loop-thread.invariant lower (omega arith) t at
      | inl same ↦
          let within : c.loop-thread.thread < length c.args.threads.now = omega arith in
          holds_there (λ log x. next_by_counts log x ≡ Finished) c.args.logs.now c.args.threads.now c.loop-thread.thread c.index-logs-thread.result c.index-threads-thread.result c.requires within
          c.index-logs-thread.is c.index-threads-thread.is (c.is_finished.ensures.0 c.if-not-is_finished.false) lower same t at
    ]

pub returns-clause-all : goal.returns-clause-all
returns-clause-all c all thread t at = c.loop-thread.invariant thread (omega (arith, slice_get_within c.args.threads.now thread t at)) t at
