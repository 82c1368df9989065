use Rattle.std.proofs.Common.{refl, arith}
use Rattle.octet_clock.proofs.plays.WalksAlone.{as_many_needs, log_within, room_to_skip, room_in_gap, room_to_count, skips_on, still_ready, no_fewer_counted}
use Rattle.octet_clock.proofs.log_walk.LogWalk.skip.Goals as goal

pub overflow_add-progress : goal.overflow_add-progress
overflow_add-progress c =
    omega (arith, room_to_skip c.args.log.now.threads c.args.log.now.valid c.args.thread c.args.self.now c.requires.at c.requires.ready c.as_slice.result.now c.index-as_slice-thread.result c.as_slice.ensures c.index-as_slice-thread.is c.index.result.now c.index_mut-progress.result.now c.index.ensures c.index_mut-progress.ensures.value c.accesses_ahead-ahead.result c.accesses_ahead-ahead.ensures (omega arith))

pub overflow_add-progress-2 : goal.overflow_add-progress-2
overflow_add-progress-2 c =
    omega (arith, room_in_gap c.args.log.now.threads c.args.log.now.valid c.args.thread c.args.self.now c.requires.at c.requires.ready c.as_slice.result.now c.index-as_slice-thread.result c.as_slice.ensures c.index-as_slice-thread.is c.index.result.now c.index_mut-progress.result.now c.index.ensures c.index_mut-progress.ensures.value c.accesses_ahead-ahead.result c.accesses_ahead-ahead.ensures (omega arith))

pub count-requires-clause-within : goal.count-requires-clause-within
count-requires-clause-within c =
    let logs = c.args.log.now.threads in
    let valid = c.args.log.now.valid in
    omega (arith, as_many_needs logs valid c.args.self.now c.requires.at c.args.thread c.requires.ready, log_within logs valid c.args.self.now c.requires.at c.args.thread c.requires.ready)

pub count-requires-clause-room : goal.count-requires-clause-room
count-requires-clause-room c =
    omega (arith, room_to_count c.args.log.now.threads c.args.log.now.valid c.args.thread c.args.self.now c.requires.at c.requires.ready c.as_slice.result.now c.index-as_slice-thread.result c.as_slice.ensures c.index-as_slice-thread.is c.index.result.now c.index_mut-progress.result.now c.index.ensures c.index_mut-progress.ensures.value c.accesses_ahead-ahead.result c.accesses_ahead-ahead.ensures (omega arith))

pub returns : goal.returns
returns c = record {
  at = skips_on c.args.log.now.threads c.args.log.now.valid c.args.thread c.args.self.now c.requires.at c.requires.ready c.as_slice.result.now c.index-as_slice-thread.result c.as_slice.ensures c.index-as_slice-thread.is c.index.result.now c.index_mut-progress.result.now c.index.ensures c.index_mut-progress.ensures.value c.accesses_ahead-ahead.result c.accesses_ahead-ahead.ensures (omega arith) _ refl c.count.new.self c.count.ensures;
  ready = still_ready c.args.log.now.threads c.args.log.now.valid c.args.thread c.args.self.now c.requires.at c.requires.ready c.as_slice.result.now c.index-as_slice-thread.result c.as_slice.ensures c.index-as_slice-thread.is c.index.result.now c.index_mut-progress.result.now c.index.ensures c.index_mut-progress.ensures.value c.accesses_ahead-ahead.result c.accesses_ahead-ahead.ensures (omega arith) _ refl c.count.new.self c.count.ensures;
  no_fewer = no_fewer_counted c.args.log.now.threads c.args.log.now.valid c.args.thread c.args.self.now c.requires.at c.requires.ready c.as_slice.result.now c.index-as_slice-thread.result c.as_slice.ensures c.index-as_slice-thread.is c.index.result.now c.index_mut-progress.result.now c.index.ensures c.index_mut-progress.ensures.value c.accesses_ahead-ahead.result c.accesses_ahead-ahead.ensures (omega arith) _ refl c.count.new.self c.count.ensures;
}
