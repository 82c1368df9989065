use Rattle.std.proofs.Common.{◌∙◌, sym}
use Rattle.octet_script.proofs.judging.Judged.{line_cut, line_last}
use Rattle.octet_script.proofs.words.cut_line.Goals as goal

pub returns-in-Some-clause-line : goal.returns-in-Some-clause-line
returns-in-Some-clause-line c =
    let line = c.split_at in
    let after = c.split_at-in-Some in
    (line_cut c.args.text.now line.result.0.now line.result.1.now after.result.1.now c.in-Some.end (sym c.find_byte.ensures ∙ c.in-Some.is) line.ensures.front line.ensures.back after.ensures.back).0

pub returns-in-None-clause-line : goal.returns-in-None-clause-line
returns-in-None-clause-line c = line_last c.args.text.now (sym c.find_byte.ensures ∙ c.in-None.is)
