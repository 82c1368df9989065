use Rattle.std.proofs.Common.{rules, ◌≡◌, None, subst}
use Rattle.octet_rerun.specs.Reruns.{MakesMarks, Halts}
use Rattle.octet_host_script.specs.Threads.{rerun_of}
use Rattle.octet_host_script.proofs.following.RepeatedHandIn.hand_in.Goals as goal

pub returns-in-Err-clause-refused : goal.returns-in-Err-clause-refused
returns-in-Err-clause-refused c =
    let after = c.finish.new.follower in
    let same : c.into_follower-follower.result ≡ c.args.self.thread.follower = search rules in
    let run : c.deref-2.result.now.rerun ≡ rerun_of c.args.self = search rules in record {
      after = after;
      halt = c.in-Err._halt;
      marks = subst (λ f. MakesMarks f after) same c.finish.ensures.marks;
      halts = subst (λ r. Halts None r after c.in-Err._halt) run c.in-Err.ensures.halts;
    }
