use Rattle.std.proofs.Common.{rules, ◌≡◌, Some, Err, map, sym, subst}
use Rattle.std.specs.Prelude.{IfErr}
use Rattle.octet_c.specs.declared.held.Held.TheVariants as held
use Rattle.octet_c.specs.Closed.{RefusesToClose}
use Rattle.octet_c.proofs.Leaving.{closes_long, good_long, refused_long}
use Rattle.octet_c.proofs.kind.LongRecordedThread.close.Goals as goal

pub returns-clause-good : goal.returns-clause-good
returns-clause-good c = good_long c.args.threads.items (record { values = c.in_ok-values.values }) c.in_ok-values.ensures.closed

pub returns-clause-closes : goal.returns-clause-closes
returns-clause-closes c = closes_long c.args.threads.items (record { values = c.in_ok-values.values }) c.in_ok-values.ensures.as_one c.in_ok-values.ensures.closed c.in_ok-values.ensures.theirs

pub returns-in_err-values-clause-refused : goal.returns-in_err-values-clause-refused
returns-in_err-values-clause-refused c =
    let fault = c.in_err-values.field-0.0 in
    let same : c.from_residual.result ≡ Err fault = search rules in
    subst (λ r. IfErr r (RefusesToClose (map (λ it. Some (held.LongRecorded it)) c.args.threads.items))) (sym same) (refused_long c.args.threads.items fault c.in_err-values.ensures.refused)
