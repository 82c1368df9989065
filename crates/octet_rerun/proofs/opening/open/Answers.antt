use Rattle.std.proofs.Common.{rules, ◌≡◌, List, sym, subst}
use Rattle.std.proofs.lemmas.List.{length-map}
use Rattle.octet_clock.proofs.lemmas.FrontLaws.{lawful_log_is_untied}
use Rattle.octet_parallel.specs.declared.player.Player.{Player}
use Rattle.octet_parallel.specs.Calls.{EachUnbegun}
use Rattle.octet_rerun.specs.declared.follower.Follower.{Follower}
use Rattle.octet_rerun.specs.declared.rerun.Rerun.{Rerun}
use Rattle.octet_rerun.specs.Reruns.{players_of, EachAtStart}
use Rattle.octet_rerun.proofs.Followers.{at_start}
use Rattle.octet_rerun.proofs.Repeating.{recording_from}
use Rattle.octet_rerun.proofs.opening.open.Goals as goal

pub new-requires-clause-untied : goal.new-requires-clause-untied
new-requires-clause-untied c = lawful_log_is_untied c.args.script.now c.args.log.now.threads _ c.requires.ordered.0

pub returns-clause-followers : goal.returns-clause-followers
returns-clause-followers c =
    let rerun : Rerun = record { field = c.in_ok-field.field; recorded = c.in_ok-recorded.recorded; diverged = c.new-2.result } in
    let followers = c.in_ok-followers.followers.items in
    let same : players_of followers ≡ c.in_ok-field.players = search rules in
    subst (λ (l : List Follower). EachAtStart rerun l) (sym c.from_vec.ensures)
    (at_start rerun followers
    (recording_from rerun c.args.script.now c.args.log.now c.in_ok-field.ensures.of.0 c.in_ok-field.ensures.of.1 c.requires.ordered c.in_ok-recorded.ensures.journals c.in_ok-recorded.ensures.places)
    c.in_ok-followers.ensures.plain
    (subst (λ (l : List Player). EachUnbegun c.in_ok-field.field l) (sym same) c.in_ok-field.ensures.players.1)
    (length-map followers (λ (f : Follower). f.player)))
