use Rattle.std.proofs.Common.{List, subst, sym, refl, arith}
use Rattle.octet_tail.specs.declared.placed.Placed.{Placed}
use Rattle.octet_tail.specs.Fronts.{IsRound}
use Rattle.octet_tail.proofs.Finding.{round_begins, round_goes_on}
use Rattle.octet_tail.proofs.finder.sift_all.Goals as goal

pub loop-placed-init : goal.loop-placed-init
loop-placed-init c = subst (λ (l : List Placed). IsRound c.args.all.now c.args.needs.now c.args.needs.now 0 l) (sym c.requires.none) (round_begins c.args.all.now c.args.needs.now)

pub loop-placed-preserved : goal.loop-placed-preserved
loop-placed-preserved c = round_goes_on c.args.all.now c.args.needs.now c.loop-placed.needs c.sift.new.needs c.loop-placed.placed-index c.loop-placed.kept.items c.sift.new.kept.items _ _ (omega arith) refl
    c.in_ok-sift.ensures.upto c.in_ok-sift.ensures.sifted c.loop-placed.invariant
