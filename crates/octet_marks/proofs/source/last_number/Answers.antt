use Rattle.std.proofs.Common.{◌∙◌, sym, arith}
use Rattle.octet_marks.proofs.Lists.{last_found, last_other}
use Rattle.octet_marks.proofs.source.last_number.Goals as goal

pub returns-then-source_of-source : goal.returns-then-source_of-source
returns-then-source_of-source c =
    c.number_of.ensures
    ∙ sym (last_found c.args.source c.args.marks.now c.loop-left.left _ c.loop-left-test.true c.loop-left.invariant.within (sym c.source_of.ensures ∙ c.if-source_of-source.true))
    ∙ c.loop-left.invariant.same

pub loop-left-preserved : goal.loop-left-preserved
loop-left-preserved c = record {
  within = omega arith;
  same = sym (last_other c.args.source c.args.marks.now c.loop-left.left _ c.loop-left-test.true c.loop-left.invariant.within (λ same. c.if-source_of-source.false (c.source_of.ensures ∙ same)))
      ∙ c.loop-left.invariant.same;
}
