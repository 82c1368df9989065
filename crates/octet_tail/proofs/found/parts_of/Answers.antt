use Rattle.std.proofs.Common.{rules, ◌≡◌, ◌+◌, [], ◌∷◌, ◌++◌, List, length, length-append, sym, ap, subst, arith}
use Rattle.octet_tail.specs.declared.parts.Part.{Part}
use Rattle.octet_tail.proofs.Searching.{AreFirstParts, one_part, parts_to_end}
use Rattle.octet_tail.proofs.found.parts_of.Goals as goal

pub returns-clause-parts : goal.returns-clause-parts
returns-clause-parts c =
    parts_to_end c.args.fronts.now c.args.last c.args.made.now c.loop-thread.thread c.loop-thread.parts (omega (arith, c.loop-thread-test.false, c.loop-thread.auto.thread-end)) c.loop-thread.invariant.parts

pub loop-thread-preserved : goal.loop-thread-preserved
loop-thread-preserved c =
    let fronts = c.args.fronts.now in let made = c.args.made.now in let k = c.loop-thread.thread in let parts = c.loop-thread.parts in let part = c.in_ok-part_of.field-0 in
    let pushed : c.push.new.self ≡ parts ++ part ∷ [] = search rules in record {
      parts = subst (AreFirstParts fronts c.args.last made (k + 1)) (sym pushed)
          (one_part fronts c.args.last made k parts _ c.index-made-thread.result part (omega arith) c.index-made-thread.is c.loop-thread.invariant.parts c.in_ok-part_of.ensures.part);
      count = omega (arith, c.loop-thread.invariant.count, ap (λ (l : List Part). length l) pushed, length-append parts (part ∷ []));
    }
