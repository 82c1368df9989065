use Rattle.std.proofs.Common.{sym, ◌∙◌}
use Rattle.octet_script.proofs.spelling.Cut.{no_word, one_word, word_then, word_shorter}
use Rattle.octet_script.proofs.words.first_word.Goals as goal

pub returns-in_default-clause-word : goal.returns-in_default-clause-word
returns-in_default-clause-word c = no_word c.args.text.now (sym c.find_filled.ensures ∙ c.in_default.is)

pub returns-in-Some-find_blank-clause-word : goal.returns-in-Some-find_blank-clause-word
returns-in-Some-find_blank-clause-word c =
    let cut = c.split_at-in-Some-find_blank in
    word_then c.args.text.now c.split_at.result.1.now cut.result.0.now cut.result.1.now c.in-Some.start c.in-Some-find_blank.end (sym c.find_filled.ensures ∙ c.in-Some.is) c.split_at.ensures.back (sym c.find_blank.ensures ∙ c.in-Some-find_blank.is) cut.ensures.front cut.ensures.back

pub returns-in-Some-find_blank-clause-shorter : goal.returns-in-Some-find_blank-clause-shorter
returns-in-Some-find_blank-clause-shorter c =
    let cut = c.split_at-in-Some-find_blank in
    word_shorter c.args.text.now c.split_at.result.1.now cut.result.1.now c.in-Some.start c.in-Some-find_blank.end (sym c.find_filled.ensures ∙ c.in-Some.is) c.split_at.ensures.back (sym c.find_blank.ensures ∙ c.in-Some-find_blank.is) cut.ensures.back

pub returns-in-None-clause-word : goal.returns-in-None-clause-word
returns-in-None-clause-word c =
    one_word c.args.text.now c.split_at.result.1.now c.in-Some.start (sym c.find_filled.ensures ∙ c.in-Some.is) c.split_at.ensures.back (sym c.find_blank.ensures ∙ c.in-None.is)
