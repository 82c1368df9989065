use Rattle.std.proofs.Common.{◌≡◌, ◌∙◌, ◌≤◌, ◌++◌, length, arith}
use Rattle.std.proofs.lemmas.List.{take-append-drop}
use Rattle.octet_live.proofs.Drained.{front_more, front_refused}
use Rattle.octet_live.proofs.pieces.add_marks.Goals as goal

pub loop-left-preserved : goal.loop-left-preserved
loop-left-preserved g c =
    let left = c.loop-left.left.now in
    let first = c.split_at.result.0.now in
    let rest = c.split_at.result.1.now in
    let both : first ++ rest ≡ left = (λ i. c.split_at.ensures.front i ++ c.split_at.ensures.back i) ∙ take-append-drop c.min.result left in
    let some : 1 ≤ length first = grind (arith, c.loop-left-test.true, c.is_empty.ensures, c.min.ensures, c.split_at.ensures.front_len) in record {
      whole = λ kept end more. c.loop-left.invariant.whole kept end (front_more c.args.thread first rest left _ _ end kept both some c.in-None.ensures.added more);
      begun = c.in-None.ensures.begun ∙ c.loop-left.invariant.begun;
    }

pub returns-in-Some-clause-added : goal.returns-in-Some-clause-added
returns-in-Some-clause-added g c =
    let left = c.loop-left.left.now in
    let first = c.split_at.result.0.now in
    let rest = c.split_at.result.1.now in
    let both : first ++ rest ≡ left = (λ i. c.split_at.ensures.front i ++ c.split_at.ensures.back i) ∙ take-append-drop c.min.result left in
    let some : 1 ≤ length first = grind (arith, c.loop-left-test.true, c.is_empty.ensures, c.min.ensures, c.split_at.ensures.front_len) in
    c.loop-left.invariant.whole _ _ (front_refused c.args.thread first rest left _ _ c.in-Some.fault both some c.in-Some.ensures.added)
