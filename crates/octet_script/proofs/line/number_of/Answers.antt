use Rattle.std.proofs.Common.{◌∙◌, sym, arith}
use Rattle.octet_script.proofs.spelling.Numbers.{number_too_long, number_without_digits, number_read, digits_are_utf8}
use Rattle.octet_script.proofs.line.number_of.Goals as goal

pub returns-then-word-gt-MAX_DIGITS : goal.returns-then-word-gt-MAX_DIGITS
returns-then-word-gt-MAX_DIGITS c = sym (number_too_long c.args.word.now c.if-word-gt-MAX_DIGITS.true)

pub returns-then-not-are_digits : goal.returns-then-not-are_digits
returns-then-not-are_digits c = sym (number_without_digits c.args.word.now (sym c.are_digits.ensures ∙ c.if-not-are_digits.true))

pub returns-in-Ok : goal.returns-in-Ok
returns-in-Ok c =
    let digits = sym c.are_digits.ensures ∙ c.if-not-are_digits.false in
    let parsed = rw c.in-Ok.ensures.cases.0 at c.parse.ensures.value.0 in
    c.ok.ensures.value ∙ number_read c.args.word.now c.parse.result (omega arith) digits parsed

pub returns-in-Err : goal.returns-in-Err
returns-in-Err c =
    let digits = sym c.are_digits.ensures ∙ c.if-not-are_digits.false in
    absurd (c.in-Err.ensures.cases.0 (digits_are_utf8 c.args.word.now digits))
