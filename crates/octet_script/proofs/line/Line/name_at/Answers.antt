use Rattle.std.proofs.Common.{◌∙◌, sym, ap}
use Rattle.std.specs.Option.{is_some}
use Rattle.octet_script.specs.Spelling.{declared_names}
use Rattle.octet_script.specs.Parsing.{judged_name}
use Rattle.octet_script.proofs.judging.Judged.{name_twice}
use Rattle.octet_script.proofs.line.Line.name_at.Goals as goal

pub returns-then-is_some-clause-value : goal.returns-then-is_some-clause-value
returns-then-is_some-clause-value c =
    let names = declared_names c.args.objects.now in
    let line = c.args.self.now.number in
    let word = c.word_at-word.result.now in
    let good = sym c.is_name.ensures ∙ c.if-not-is_name.false in
    let twice = ap is_some (sym c.place_of.ensures) ∙ sym c.is_some.ensures ∙ c.if-is_some.true in
    rw c.refused-then-is_some.ensures (ap (judged_name names line) (sym c.word_at-word.ensures) ∙ name_twice names line word good twice)
