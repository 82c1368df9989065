use Rattle.std.proofs.Common.{◌≡◌, ◌∙◌, ℕ, List, ap, sym, subst}
use Rattle.octet_tail.specs.Fronts.{after, asked_of, IsLeastFront}
use Rattle.octet_tail.proofs.Sifting.{least_front, rest_after}
use Rattle.octet_tail.proofs.finder.FrontFinder.find.Goals as goal

pub returns-clause-front : goal.returns-clause-front
returns-clause-front c = λ marks is. let found = c.settle.new.self in
    subst (λ (l : List ℕ). IsLeastFront (asked_of c.args.self) marks (record { made = l; draws = found.needs.draws })) (sym c.from_vec.ensures)
    (subst (λ (l : List ℕ). IsLeastFront l marks (record { made = found.needs.made.items; draws = found.needs.draws })) (ap (λ v. v.items) c.in_ok-settle.ensures.asked)
    (least_front marks found (c.in_ok-settle.ensures.finds marks is) c.in_ok-settle.ensures.open))

pub returns-clause-marks : goal.returns-clause-marks
returns-clause-marks c = λ marks is. let found = c.settle.new.self in
    c.from_vec-2.ensures ∙ subst (λ (l : List ℕ). found.kept.items ≡ after (record { made = l; draws = found.needs.draws }) marks) (sym c.from_vec.ensures)
    (rest_after marks found (c.in_ok-settle.ensures.finds marks is) c.in_ok-settle.ensures.open)
