use Rattle.std.proofs.Common.{subst, Some}
use Rattle.std.specs.Prelude.{IfOk, IfErr}
use Rattle.octet_c.specs.Closed.{Closes, RefusesToClose}
use Rattle.octet_c.proofs.closed.Goals as goal

pub returns-clause-closes : goal.returns-clause-closes
returns-clause-closes c = subst (λ s. IfOk c.close_boxes.result (λ kept. Closes s (Some kept))) c.in_ok-boxes.ensures.taken c.close_boxes.ensures.closes

pub returns-clause-refused : goal.returns-clause-refused
returns-clause-refused c = subst (λ s. IfErr c.close_boxes.result (RefusesToClose s)) c.in_ok-boxes.ensures.taken c.close_boxes.ensures.refused
