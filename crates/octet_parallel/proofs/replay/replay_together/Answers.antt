use Rattle.std.proofs.Common.{rules, ◌≡◌, All, length}
use Rattle.std.specs.List.{AllZip}
use Rattle.octet_parallel.specs.Calls.{SomeFrontIsAmiss}
use Rattle.octet_parallel.specs.Judging.{HasPlayed, IsSamePlayer}
use Rattle.octet_parallel.proofs.lemmas.Players.{handed_back}
use Rattle.octet_parallel.proofs.verdicts.Verdicts.{amiss_judged}
use Rattle.octet_parallel.proofs.replay.replay_together.Goals as goal

pub close-requires-clause-ended : goal.close-requires-clause-ended
close-requires-clause-ended g c =
    let made = c.into_vec-players.result.items in
    let ran = c.play_all.new.players in
    let zip : AllZip IsSamePlayer made ran = search rules in
    let played : All (HasPlayed c.in_ok-field.field) ran = search rules in
    let long : length made ≡ c.into_vec-players.result.len = search rules in
    handed_back c.in_ok-field.field _ made ran _ c.into_vec-players.result.len c.in_ok-field.ensures.players.1 c.into_vec-players.ensures long zip played c.from_vec.ensures

pub returns-in-None : goal.returns-in-None
returns-in-None g c =
    let some : SomeFrontIsAmiss c.args.script.now c.args.log.now.threads = search rules in
    amiss_judged c.args.script.now c.args.log.now.threads some
