use Rattle.std.proofs.Common.{◌≡◌, Bool, Ok, false, ap, ◌∙◌, arith}
use Rattle.octet_blocks.proofs.Written.{gathers_on, same_known}
use Rattle.octet_blocks.proofs.writer.BlockWriter.gather.Goals as goal

pub returns-in_err-put-clause-gathers : goal.returns-in_err-put-clause-gathers
returns-in_err-put-clause-gathers c = gathers_on c.args.self.now c.loop-item.self c.put.new.self c.loop-item.invariant.gathers (gathers_on c.loop-item.self c.hold.new.self c.put.new.self c.hold.ensures.gathers c.put.ensures.gathers)

pub returns-then-branch-clause-gathers : goal.returns-then-branch-clause-gathers
returns-then-branch-clause-gathers c = gathers_on c.args.self.now c.loop-item.self c.put.new.self c.loop-item.invariant.gathers (gathers_on c.loop-item.self c.hold.new.self c.put.new.self c.hold.ensures.gathers c.put.ensures.gathers)

pub loop-item-preserved : goal.loop-item-preserved
loop-item-preserved c =
    let was : c.put.result ≡ Ok c.in_ok-put.field-0 = c.in_ok-put.was in
    let is : c.put.result ≡ Ok false = was ∙ ap (λ (b : Bool). Ok b) c.if-branch.false in
    let noted = c.put.ensures.noted is in
    let same = same_known c.hold.new.self c.put.new.self c.put.ensures.receiver in
    record {
      gathers = gathers_on c.args.self.now c.loop-item.self c.put.new.self c.loop-item.invariant.gathers (gathers_on c.loop-item.self c.hold.new.self c.put.new.self c.hold.ensures.gathers c.put.ensures.gathers);
      known = omega (arith, c.loop-item.invariant.known, c.hold.ensures.known, same);
      none = noted.0;
      goes_on = noted.1;
    }

pub returns-clause-gathers : goal.returns-clause-gathers
returns-clause-gathers c = gathers_on c.args.self.now c.loop-item.self c.hold.new.self c.loop-item.invariant.gathers c.hold.ensures.gathers
