use Rattle.std.proofs.Common.{subst, Some}
use Rattle.std.specs.Prelude.{IfOk, IfErr}
use Rattle.octet_c.specs.Closed.{Closes, RefusesToClose}
use Rattle.octet_c.specs.Sessions.{IsHeld}
use Rattle.octet_c.proofs.Ended.{same_behind}
use Rattle.octet_c.proofs.Pairs.{all_held}
use Rattle.octet_c.proofs.close_kind.Goals as goal

pub close-requires : goal.close-requires
close-requires g c = all_held (λ it. g.T.Behind.as_held it) (λ b. b.value) (λ b. IsHeld b.value) (λ b good. good) c.in_ok-threads.threads.items c.args.boxes.items c.in_ok-threads.ensures.threads c.requires.good

pub returns-clause-closes : goal.returns-clause-closes
returns-clause-closes g c =
    subst (λ s. IfOk c.close.result (λ kept. Closes s (Some kept))) (same_behind (λ it. g.T.Behind.as_held it) (λ b. b.value) c.in_ok-threads.threads.items c.args.boxes.items c.in_ok-threads.ensures.threads) c.close.ensures.closes

pub returns-clause-refused : goal.returns-clause-refused
returns-clause-refused g c =
    subst (λ s. IfErr c.close.result (RefusesToClose s)) (same_behind (λ it. g.T.Behind.as_held it) (λ b. b.value) c.in_ok-threads.threads.items c.args.boxes.items c.in_ok-threads.ensures.threads) c.close.ensures.refused
