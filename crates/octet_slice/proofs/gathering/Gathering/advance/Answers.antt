use Rattle.std.proofs.Common.{◌≡◌, ◌∙◌, Bool, false, refl, subst, sym}
use Rattle.octet_slice.specs.Gathering.{IsPartOfPast, IsSettled}
use Rattle.octet_slice.specs.code.Advancing.{Advances}
use Rattle.octet_slice.specs.code.Reached.{Gathered, gathered}
use Rattle.octet_slice.proofs.Settling.{advances_on, advances_still, all_settled, settled_more}
use Rattle.octet_slice.proofs.gathering.Gathering.advance.Goals as goal
use Rattle.octet_slice.proofs.gathering.Gathering.advance.Goals.{then-pass_all, else-pass_all}

pub loop-thread-preserved : goal.loop-thread-preserved
loop-thread-preserved c =
    let start = gathered c.args.self.now in
    let here = gathered c.loop-thread.self in
    let next = gathered c.pass_all.new.self in
    elim c.if-pass_all.branch [
      | then-pass_all w ↦ record {
        advances =
            subst (λ (has_passed : Bool). Advances c.args.logs.now start has_passed next) (sym w.has_passed-is)
            (advances_on c.args.logs.now start here next c.loop-thread.has_passed c.loop-thread.invariant.advances w.if-pass_all.ensures.advances);
        settled = λ never. absurd (let has_passed = w.has_passed-is in cc);
      }
      | else-pass_all w ↦ record {
        advances =
            subst (λ (has_passed : Bool). Advances c.args.logs.now start has_passed next) (sym w.has_passed-is)
            (advances_still c.args.logs.now start here next c.loop-thread.has_passed c.loop-thread.invariant.advances w.if-pass_all.ensures.advances);
        settled = λ never journals of now are part.
            let before : c.loop-thread.has_passed ≡ false = sym w.has_passed-is ∙ never in
            let still : here ≡ start = c.loop-thread.invariant.advances.still before in
            settled_more journals c.loop-thread.thread start (c.loop-thread.invariant.settled before journals of now are part)
            (subst (λ (g : Gathered). IsSettled journals g c.loop-thread.thread) still (w.if-pass_all.ensures.settled refl journals of now are (subst (λ (g : Gathered). IsPartOfPast journals of now g) (sym still) part)));
      }
    ]

pub returns-clause-settled : goal.returns-clause-settled
returns-clause-settled c never journals of now are part =
    all_settled journals c.args.logs.now of now c.loop-thread.thread (gathered c.args.self.now) (gathered c.loop-thread.self) (c.loop-thread.invariant.advances.still never) are c.loop-thread-test.false part
    (c.loop-thread.invariant.settled never journals of now are part)
