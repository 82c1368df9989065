use Rattle.std.proofs.Common.{rules, ◌≡◌, zero, suc, [], ◌∷◌, sym, subst, arith}
use Rattle.octet_parallel.specs.declared.field.Field.{Field}
use Rattle.octet_parallel.specs.declared.player.Player.{Player}
use Rattle.octet_parallel.specs.Calls.{view_of, EachEnded}
use Rattle.octet_parallel.specs.Judging.{HasPlayed}
use Rattle.octet_tests.proofs.field_tests.close_both.Goals as goal

both_ended : (field : Field) (first second : Player) → HasPlayed field first × ((view_of first).number ≡ 0) → HasPlayed field second × ((view_of second).number ≡ 1) → EachEnded field (first ∷ second ∷ [])
both_ended field first second a b zero none h = (a.0.own, a.1, a.0.ended)
both_ended field first second a b (suc zero) none h = (b.0.own, b.1, b.0.ended)
both_ended field first second a b (suc (suc n)) none h = absurd (omega arith)

pub close-requires-clause-ended : goal.close-requires-clause-ended
close-requires-clause-ended c = let e : c.push-2.new.self ≡ c.args.first ∷ c.args.second ∷ [] = search rules in
    subst (EachEnded c.args.field) (sym e) (both_ended c.args.field c.args.first c.args.second c.requires.first c.requires.second)
