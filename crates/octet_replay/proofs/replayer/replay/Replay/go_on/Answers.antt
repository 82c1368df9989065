use Rattle.std.proofs.Common.{refl, arith}
use Rattle.octet_replay.proofs.Stepping.{own_log_read, next_read}
use Rattle.octet_replay.proofs.replayer.replay.Replay.go_on.Goals as goal

pub loop-lowest-init : goal.loop-lowest-init
loop-lowest-init c =
    let r = c.args.self.now in
    let logs = c.as_slice.result.now in
    let own = c.index-as_slice-thread.result in
    let ready = c.requires.lowest.is_met in
    record {
      at = c.requires.at;
      lowest = c.requires.lowest;
      its =
          next_read r c.requires.at c.args.thread ready c.args.log.now logs own c.requires.of_log c.as_slice.ensures c.index-as_slice-thread.is
          c.index.result.now c.next-next.result c.index.ensures c.next-next.ensures.next c.next-next.ensures.within;
      of_log = own_log_read r c.requires.at c.args.thread ready c.args.log.now logs own c.requires.of_log c.as_slice.ensures c.index-as_slice-thread.is;
      same_script = refl;
      same_log = refl;
      far = omega arith;
    }
