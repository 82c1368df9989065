use Rattle.std.proofs.Common.{refl, arith}
use Rattle.octet_tail.proofs.Counted.{marks_before}
use Rattle.octet_tail.proofs.fronts.Fronts.span.Goals as goal

pub returns : goal.returns
returns c = record {
  upto = refl;
  from = λ made last all between.
      let had = marks_before c.args.self.now c.args.thread made last all between in
      omega (arith, c.saturating_sub.ensures, c.made_by-before.ensures, c.marks_before.ensures, had);
}
