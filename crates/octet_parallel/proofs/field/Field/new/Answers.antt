use Rattle.std.proofs.Common.{rules, ◌≡◌, ◌∙◌, length, sym, subst, ap}
use Rattle.octet_model.specs.declared.log.Log.{Log}
use Rattle.octet_parallel.specs.Calls.{EachUnbegun}
use Rattle.octet_parallel.proofs.seats.Beginning.{each_unbegun, as_many_players}
use Rattle.octet_parallel.proofs.field.Field.new.Goals as goal

pub returns-clause-players : goal.returns-clause-players
returns-clause-players c =
    let many = as_many_players _ _ 0 _ _ c.in_ok-players.ensures in
    let counts : length c.in_ok-words.seats.items ≡ c.in_ok-words.words.players = c.in_ok-words.ensures.seats.0 ∙ sym (ap (λ (l : Log). length l.threads) c.in_ok-words.ensures.of.1) ∙ c.in_ok-words.words.numbered in (
      search rules,
      subst (EachUnbegun _) (sym c.from_vec.ensures) (each_unbegun _ c.args.script.now c.args.log.now c.in_ok-words.ensures.of.0 c.in_ok-words.ensures.of.1 _ _ c.in_ok-players.ensures c.in_ok-words.ensures.seats.1 counts),
    )
