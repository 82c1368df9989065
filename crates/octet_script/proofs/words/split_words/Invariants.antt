use Rattle.std.proofs.Common.{◌≡◌, ◌++◌, length}
use Rattle.octet_script.specs.Words.{words, words_of_line, texts}
use Rattle.octet_script.proofs.words.split_words.Given as goal

abbrev pub decreases-loop-word : goal.decreases-loop-word
decreases-loop-word l = length l.rest

abbrev pub invariant-loop-word : goal.invariant-loop-word
invariant-loop-word l = texts l.words.items ++ words l.rest ≡ words_of_line l.line
