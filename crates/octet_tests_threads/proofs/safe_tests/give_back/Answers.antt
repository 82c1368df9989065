use Rattle.std.proofs.Common.{rules, ◌≡◌, zero, suc, ◌∷◌, [], sym, subst, arith}
use Rattle.octet_rule.specs.declared.words.Seat.{Seat}
use Rattle.octet_rule.specs.declared.words.Words.{Words}
use Rattle.octet_rule.specs.Seats.{IsSeatOf, RestsAs, EachRests}
use Rattle.octet_tests_threads.proofs.safe_tests.give_back.Goals as goal

both_rest : (w : Words) (first second : Seat) → IsSeatOf w first × RestsAs 0 first → IsSeatOf w second × RestsAs 1 second → EachRests w (first ∷ second ∷ [])
both_rest w first second a b zero none h = a
both_rest w first second a b (suc zero) none h = b
both_rest w first second a b (suc (suc n)) none h = absurd (omega arith)

pub close-requires : goal.close-requires
close-requires c = let e : c.push-2.new.self ≡ c.args.first ∷ c.args.second ∷ [] = search rules in
    (search rules, subst (EachRests c.args.words) (sym e) (both_rest c.args.words c.args.first c.args.second c.requires.first c.requires.second))
