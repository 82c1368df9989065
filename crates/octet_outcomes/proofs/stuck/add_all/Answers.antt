use Rattle.std.proofs.Common.{◌≡◌, true, false, sym, ◌∙◌, arith}
use Rattle.octet_outcomes.proofs.Going.{left_few, none_left}
use Rattle.octet_outcomes.proofs.stuck.add_all.Goals as goal

pub loop-round-init : goal.loop-round-init
loop-round-init c = record { marks = c.requires.marks; few = omega (arith, left_few c.args.marks.now) }

pub returns : goal.returns
returns c = record {
  right = c.loop-round.invariant.marks;
  apart = λ place lt unmarked.
      absurd (let no : true ≡ false = sym (none_left c.loop-round.marks (omega (arith, c.loop-round.invariant.few, c.loop-round-test.false, c.loop-round.auto.marks)) place lt) ∙ unmarked in cc);
}
