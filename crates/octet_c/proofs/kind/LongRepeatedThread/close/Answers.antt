use Rattle.std.proofs.Common.{rules, ◌≡◌, Some, Err, map, sym, subst}
use Rattle.std.specs.Prelude.{IfErr}
use Rattle.octet_c.specs.declared.held.Held.TheVariants as held
use Rattle.octet_c.specs.Closed.{RefusesToClose}
use Rattle.octet_c.proofs.Leaving.{closes_again, good_again, refused_again}
use Rattle.octet_c.proofs.kind.LongRepeatedThread.close.Goals as goal

pub returns-clause-good : goal.returns-clause-good
returns-clause-good c = good_again c.args.threads.items c.in_ok-again.again c.in_ok-again.ensures.closed

pub returns-clause-closes : goal.returns-clause-closes
returns-clause-closes c = closes_again c.args.threads.items c.in_ok-again.again c.in_ok-again.ensures.as_one c.in_ok-again.ensures.closed c.in_ok-again.ensures.theirs

pub returns-in_err-again-clause-refused : goal.returns-in_err-again-clause-refused
returns-in_err-again-clause-refused c =
    let fault = c.in_err-again.field-0.0 in
    let same : c.from_residual.result ≡ Err fault = search rules in
    subst (λ r. IfErr r (RefusesToClose (map (λ it. Some (held.LongRepeated it)) c.args.threads.items))) (sym same) (refused_again c.args.threads.items fault c.in_err-again.ensures.refused)
