use Rattle.std.proofs.Common.{◌<◌, inl, inr, length, refl, ap, subst, arith}
use Rattle.std.proofs.lemmas.Bool.{cases_eq}
use Rattle.std.proofs.lemmas.Option.{slice_get_read, slice_get_within}
use Rattle.octet_model.specs.declared.log.ThreadLog.{ThreadLog}
use Rattle.octet_replay.specs.Replayed.{FindsIn, FindsNothing}
use Rattle.octet_replay.proofs.lemmas.Reading.{holds_there, log_read}
use Rattle.octet_replay.proofs.judge.lowest_misfit.Goals as goal

pub returns-in-Some-clause-some : goal.returns-in-Some-clause-some
returns-in-Some-clause-some c =
    let within : c.loop-thread.thread < length c.args.threads.now = omega arith in
    let it = c.index-threads-thread.result in
    let log_is = log_read c.args.logs.now c.loop-thread.thread c.index-logs-thread.result c.index-logs-thread.is (omega arith) in
    record {
      it = it;
      is_there = slice_get_read c.args.threads.now (length c.args.threads.now) c.loop-thread.thread it refl within c.index-threads-thread.is;
      wants = ap (λ (log : ThreadLog). log.accesses) log_is;
      finds = subst (λ (log : ThreadLog). FindsIn log it c.in-Some.found) log_is c.in-Some.ensures.some;
      lowest = λ lower t below at. c.loop-thread.invariant lower t below at;
    }

pub loop-thread-preserved : goal.loop-thread-preserved
loop-thread-preserved c lower t below at =
    elim (cases_eq lower c.loop-thread.thread) [
      | inr differ ↦ c.loop-thread.invariant lower t (omega arith) at
      | inl same ↦
          let within : c.loop-thread.thread < length c.args.threads.now = omega arith in
          holds_there (λ log x. FindsNothing log x) c.args.logs.now c.args.threads.now c.loop-thread.thread c.index-logs-thread.result c.index-threads-thread.result c.requires.as_many within
          c.index-logs-thread.is c.index-threads-thread.is (c.in_default.ensures.none refl) lower same t at
    ]

pub returns-clause-none : goal.returns-clause-none
returns-clause-none c none thread t at = c.loop-thread.invariant thread t (omega (arith, slice_get_within c.args.threads.now thread t at)) at
