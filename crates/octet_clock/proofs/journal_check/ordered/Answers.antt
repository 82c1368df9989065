use Rattle.std.proofs.Common.{refl, subst}
use Rattle.octet_model.specs.Machine.{Journals}
use Rattle.octet_clock.specs.Ordered.{ChecksAt}
use Rattle.octet_clock.specs.Sharing.{HasNoConflict}
use Rattle.octet_clock.proofs.checks.JournalsAlone.{is_ordered, not_ordered}
use Rattle.octet_clock.proofs.checks.SharedObjects.{all_ordered}
use Rattle.octet_clock.proofs.journal_check.ordered.Goals as goal

pub returns-then-branch : goal.returns-then-branch
returns-then-branch c =
    let nothing = subst HasNoConflict c.as_slice-journals.ensures (c.in_ok-nothing_conflicts.ensures c.if-branch.true) in
    (λ yes. all_ordered c.args.journals.now nothing, λ ordered. refl)

pub returns-in-Unordered : goal.returns-in-Unordered
returns-in-Unordered c =
    let at = subst (λ (js : Journals). ChecksAt js c.step.new.self) c.as_slice-journals.ensures c.in_ok-step.ensures.at in
    (λ yes. absurd cc, λ ordered. absurd (not_ordered c.args.journals.now c.requires c.step.new.self at c.in-Unordered.first c.in-Unordered.second c.in-Unordered.is ordered))

pub returns : goal.returns
returns c =
    let inv = c.loop-thread.invariant in
    (λ yes. is_ordered c.args.journals.now c.requires c.loop-thread.check inv.at inv.ordered (c.in_default.ensures.none refl), λ ordered. refl)
