use Rattle.std.proofs.Common.{ℕ, ◌+◌, ◌<◌, drop, length, sym, ap, ◌∙◌, arith, add-one}
use Rattle.std.proofs.lemmas.List.{drop_more}
use Rattle.octet_model.specs.Thread.{end_from}
use Rattle.octet_outcomes.proofs.closers.end_of.Goals as goal

pub loop-at-preserved : goal.loop-at-preserved
loop-at-preserved c =
    let commands = c.args.commands.now in
    let at = c.loop-at.at in
    let lt : at < length commands = omega (arith, c.loop-at-test.true) in
    record {
      few = omega (arith, c.in-Some.ensures.few, c.loop-at.invariant.few);
      end =
          ap (λ (n : ℕ). end_from c.in-Some.after n (drop (at + 1) commands)) (add-one at)
          ∙ sym (c.in-Some.ensures.depth at (drop (at + 1) commands))
          ∙ ap (end_from c.loop-at.depth at) (sym (drop_more commands at _ lt))
          ∙ c.loop-at.invariant.end;
    }
