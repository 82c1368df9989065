use Rattle.std.proofs.Common.{ℕ, List, All, map, sym, subst}
use Rattle.octet_hunt.specs.Hunts.{EndsOtherwise}
use Rattle.octet_outcomes.specs.declared.endings.Ending.{Ending}
use Rattle.octet_outcomes.specs.Endings.{IsEnding, heap_of}
use Rattle.octet_outcomes.specs.Runs.{AreAllOutcomes}
use Rattle.octet_commands.specs.Outcomes.{AlwaysLeaves, LeavesOther}
use Rattle.octet_commands.proofs.answering.Endings.{always_left, judged_other, other_left}
use Rattle.octet_commands.proofs.always.judge_leaves.Goals as goal

pub returns-then-has_other : goal.returns-then-has_other
returns-then-has_other c =
    let script = c.args.script.now in
    judged_other (AlwaysLeaves script c.args.object c.args.number) ((value : ℕ) × LeavesOther script c.args.object c.args.number value) (EndsOtherwise script c.args.object c.args.number) c.in_ok-find.find
    (other_left script c.as_slice-endings.result.now c.args.object c.args.number (subst (λ (l : List Ending). All (IsEnding script) l) (sym c.as_slice-endings.ensures) c.in_ok-found.ensures.each) (c.has_other.ensures.some c.if-has_other.true))
    c.in_ok-find.ensures

pub returns-in-Whole : goal.returns-in-Whole
returns-in-Whole c =
    let script = c.args.script.now in
    always_left script c.as_slice-endings.result.now c.args.object c.args.number (subst (λ (l : List Ending). AreAllOutcomes script (map heap_of l)) (sym c.as_slice-endings.ensures) (c.in_ok-found.ensures.all c.in-Whole.is))
    (c.has_other.ensures.none c.if-has_other.false)
