use Rattle.std.proofs.Common.{rules, ◌≡◌, List, Option, sym, subst}
use Rattle.octet_parallel.specs.declared.finished.Finished as finished
use Rattle.octet_parallel.specs.declared.player.Player.{Player}
use Rattle.octet_parallel.specs.Calls.{script_in, log_in, ClosesTo, EachEnded}
use Rattle.octet_rerun.specs.Reruns.{players_of}
use Rattle.octet_rerun.proofs.Repeating.{each_ended, recording_of, repeats, some_outcome}
use Rattle.octet_rerun.proofs.rerun.Rerun.close.Goals as goal

pub close-requires-clause-ended : goal.close-requires-clause-ended
close-requires-clause-ended c =
    let players : c.in_ok-players.players ≡ players_of c.args.followers = search rules in
    subst (λ (l : List Player). EachEnded c.args.self.field l) (sym players) (each_ended c.args.self c.args.followers c.requires.ended)

pub unreachable-requires : goal.unreachable-requires
unreachable-requires c =
    let script = script_in c.args.self.field in let log = (log_in c.args.self.field).threads in
    some_outcome script log (recording_of c.args.self c.args.followers c.requires.all c.requires.ended).orders c.in_ok-players.players
    (subst (λ (o : Option finished.Finished). ClosesTo script log c.in_ok-players.players o) c.in-None.is c.in_ok-finished.ensures.closes)

pub returns : goal.returns
returns c =
    let script = script_in c.args.self.field in let log = (log_in c.args.self.field).threads in
    repeats script log (recording_of c.args.self c.args.followers c.requires.all c.requires.ended).orders c.in_ok-players.players c.in-Some.finished
    (subst (λ (o : Option finished.Finished). ClosesTo script log c.in_ok-players.players o) c.in-Some.is c.in_ok-finished.ensures.closes)
