use Rattle.std.proofs.Common.{rules, ◌≡◌, Some, Err, map, sym, subst}
use Rattle.std.specs.Prelude.{IfErr}
use Rattle.octet_c.specs.declared.held.Held.TheVariants as held
use Rattle.octet_c.specs.Closed.{RefusesToClose}
use Rattle.octet_c.proofs.Leaving.{closes_recorded, good_recorded, refused_recorded}
use Rattle.octet_c.proofs.kind.RecordedThread.close.Goals as goal

pub returns-clause-good : goal.returns-clause-good
returns-clause-good c = good_recorded c.args.threads.items c.in_ok-kept.kept c.in_ok-kept.ensures.keeps

pub returns-clause-closes : goal.returns-clause-closes
returns-clause-closes c = closes_recorded c.args.threads.items c.in_ok-kept.kept c.in_ok-kept.ensures.as_one c.in_ok-kept.ensures.keeps c.in_ok-kept.ensures.theirs

pub returns-in_err-kept-clause-refused : goal.returns-in_err-kept-clause-refused
returns-in_err-kept-clause-refused c =
    let fault = c.in_err-kept.field-0.0 in
    let same : c.from_residual.result ≡ Err fault = search rules in
    subst (λ r. IfErr r (RefusesToClose (map (λ it. Some (held.Recorded it)) c.args.threads.items))) (sym same) (refused_recorded c.args.threads.items fault c.in_err-kept.ensures.refused)
