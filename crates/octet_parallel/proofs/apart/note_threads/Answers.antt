use Rattle.std.proofs.Common.{◌∙◌, arith}
use Rattle.octet_parallel.proofs.uses.Known.{known_with, seen_with}
use Rattle.octet_parallel.proofs.apart.note_threads.Goals as goal

pub loop-thread-preserved : goal.loop-thread-preserved
loop-thread-preserved c =
    let threads = c.args.threads.now in
    let commands = c.as_slice.result.now in
    let item = c.index-threads-thread.result in
    let is = c.as_slice.ensures ∙ c.index-threads-thread.is in
    let before = c.loop-thread in
    let noted = c.note_commands in
    record {
      known = known_with threads before.thread commands item before.uses noted.new.uses c.loop-thread-test.true is
          before.invariant.known noted.ensures;
      seen = seen_with threads before.thread commands item before.uses noted.new.uses c.loop-thread-test.true is
          c.args.uses.now before.invariant.seen noted.ensures;
    }

pub returns-clause-known : goal.returns-clause-known
returns-clause-known c thread place command within stands =
    c.loop-thread.invariant.known thread place command (omega arith) stands
