use Rattle.std.proofs.Common.{rules, ◌≡◌, None}
use Rattle.octet_rerun.specs.Reruns.{recorded_of, made_by, next_recorded}
use Rattle.octet_rerun.proofs.Recorded.{none_left}
use Rattle.octet_rerun.proofs.rerun.Rerun.finish.Goals as goal

pub returns-in-Ok-None-clause-all : goal.returns-in-Ok-None-clause-all
returns-in-Ok-None-clause-all c =
    let w = c.make_marks.new.follower in
    let none : next_recorded c.args.self.now w ≡ None = search rules in
    none_left (made_by w) (recorded_of c.args.self.now w.thread) c.in-Ok-None.ensures.own.begins none
