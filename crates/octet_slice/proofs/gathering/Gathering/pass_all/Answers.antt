use Rattle.std.proofs.Common.{◌≡◌, refl, subst, sym}
use Rattle.octet_slice.specs.Gathering.{HasDraws, HasMarks, IsPartOfPast}
use Rattle.octet_slice.specs.code.Reached.{Gathered, gathered}
use Rattle.octet_slice.proofs.Settling.{advances_on, advances_still}
use Rattle.octet_slice.proofs.gathering.Gathering.pass_all.Goals as goal

pub taking-preserved : goal.taking-preserved
taking-preserved c = advances_on c.args.logs.now (gathered c.args.self.now) (gathered c.taking.self) (gathered c.take_next.new.self) c.taking.has_passed c.taking.invariant c.taking-test.ensures.advances

pub searching-init : goal.searching-init
searching-init c = record {
  advances = advances_still c.args.logs.now (gathered c.args.self.now) (gathered c.taking.self) (gathered c.take_next.new.self) c.taking.has_passed c.taking.invariant c.taking-test.ensures.advances;
  marks = λ never journals of now are part.
      let still : gathered c.taking.self ≡ gathered c.args.self.now = c.taking.invariant.still never in
      subst (λ (g : Gathered). HasMarks journals g c.args.thread) still (c.taking-test.ensures.settled refl journals of now are (subst (λ (g : Gathered). IsPartOfPast journals of now g) (sym still) part));
}

pub searching-preserved : goal.searching-preserved
searching-preserved c = record {
  advances = advances_on c.args.logs.now (gathered c.args.self.now) (gathered c.searching.self) (gathered c.pass_next.new.self) c.searching.has_passed c.searching.invariant.advances c.searching-test.ensures.advances;
  marks = λ never. absurd cc;
}

pub returns-clause-advances : goal.returns-clause-advances
returns-clause-advances c = advances_still c.args.logs.now (gathered c.args.self.now) (gathered c.searching.self) (gathered c.pass_next.new.self) c.searching.has_passed c.searching.invariant.advances c.searching-test.ensures.advances

pub returns-clause-settled : goal.returns-clause-settled
returns-clause-settled c never journals of now are part =
    let still : gathered c.searching.self ≡ gathered c.args.self.now = c.searching.invariant.advances.still never in
    record {
      marks = c.searching.invariant.marks never journals of now are part;
      draws = subst (λ (g : Gathered). HasDraws journals g c.args.thread) still (c.searching-test.ensures.settled refl journals of now are (subst (λ (g : Gathered). IsPartOfPast journals of now g) (sym still) part));
    }
