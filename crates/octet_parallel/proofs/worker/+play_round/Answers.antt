use Rattle.std.proofs.Common.{rules, ◌≡◌, All, ◌∷◌, subst}
use Rattle.std.proofs.lemmas.List.Elements.{All-cons}
use Rattle.octet_parallel.specs.Calls.{IsPlayerOf}
use Rattle.octet_parallel.specs.Judging.{HasPlayed}
use Rattle.octet_parallel.proofs.lemmas.Players.{all_first, all_others}
use Rattle.octet_parallel.proofs.worker.+play_round.Goals as goal

pub play_on-has_ended-requires-after_bounds : goal.play_on-has_ended-requires-after_bounds
play_on-has_ended-requires-after_bounds g t c κs within =
    let is : c.args.players.now ≡ c.in-Some.first.now ∷ c.in-Some.others.now = search rules in
    all_first (IsPlayerOf c.args.field.now) c.in-Some.first.now c.in-Some.others.now (subst (All (IsPlayerOf c.args.field.now)) is c.requires)

pub play_round-have_ended-requires-after_bounds : goal.play_round-have_ended-requires-after_bounds
play_round-have_ended-requires-after_bounds g t c κs within =
    let is : c.args.players.now ≡ c.in-Some.first.now ∷ c.in-Some.others.now = search rules in
    all_others (IsPlayerOf c.args.field.now) c.in-Some.first.now c.in-Some.others.now (subst (All (IsPlayerOf c.args.field.now)) is c.requires)

pub returns-then-has_ended-clause-own : goal.returns-then-has_ended-clause-own
returns-then-has_ended-clause-own g t c = All-cons (IsPlayerOf c.args.field.now) _ _ c.play_on-has_ended.ensures.own c.play_round-have_ended.ensures.own

pub returns-then-has_ended-clause-ended : goal.returns-then-has_ended-clause-ended
returns-then-has_ended-clause-ended g t c both = All-cons (HasPlayed c.args.field.now) _ _ (c.play_on-has_ended.ensures.ended c.if-has_ended.true) (c.play_round-have_ended.ensures.ended both)

pub returns-else-has_ended-clause-own : goal.returns-else-has_ended-clause-own
returns-else-has_ended-clause-own g t c = All-cons (IsPlayerOf c.args.field.now) _ _ c.play_on-has_ended.ensures.own c.play_round-have_ended.ensures.own
