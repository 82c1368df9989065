use Rattle.std.proofs.Common.{◌≡◌, suc, ◌+◌, [], ap, ◌∙◌, Result, Ok, Err, IfOk, arith}
use Rattle.octet_script.specs.Words.{lines, texts, words_of_line}
use Rattle.octet_script.proofs.Numbered.{all_parts, parts_from, taken_in}
use Rattle.octet_script.proofs.numbering.command_lines.Goals as goal

pub loop-line-init : goal.loop-line-init
loop-line-init c = record {
  numbered = c.new-numbering.ensures (parts_from 1 (lines c.args.text.now)) ∙ all_parts c.args.text.now;
  fits = omega arith;
}

pub loop-line-preserved : goal.loop-line-preserved
loop-line-preserved c = record {
  numbered =
      let words : texts c.as_slice.result.now ≡ words_of_line c.in-Some.line.now = ap texts c.as_slice.ensures.value ∙ c.in_ok-split_words.ensures in
      let next : c.loop-line.number + 1 ≡ suc c.loop-line.number = omega arith in
      taken_in c.loop-line.numbering c.take_in.new.self c.loop-line.number _ c.in-Some.line.now _ _ _ _ c.in_ok-take_in.ensures words next c.in-Some.ensures.line c.loop-line.invariant.numbered;
  fits = omega (arith, c.in-Some.ensures.shorter, c.loop-line.invariant.fits);
}

-- what is told of a result holds of what it is equal to
is_also : {A E : Type 0} (result : Result A E) (x y : A) → IfOk result (λ a. a ≡ x) → x ≡ y → IfOk result (λ a. a ≡ y)
is_also (Ok a) x y is same = is ∙ same
is_also (Err e) x y is same = tt

pub returns : goal.returns
returns c =
    let words : texts c.as_slice-2.result.now ≡ words_of_line c.loop-line.rest.now = ap texts c.as_slice-2.ensures.value ∙ c.in_ok-split_words-2.ensures in
    is_also c.finish.result _ _ c.finish.ensures
    (taken_in c.loop-line.numbering c.take_in-2.new.self c.loop-line.number (suc c.loop-line.number) c.loop-line.rest.now _ _ [] _ c.in_ok-take_in-2.ensures words (λ i. suc c.loop-line.number) c.in_default.ensures.line c.loop-line.invariant.numbered)
