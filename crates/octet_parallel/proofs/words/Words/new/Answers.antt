use Rattle.std.proofs.Common.{rules, ◌≡◌, ◌∙◌, ◌+◌, ◌*◌, ◌++◌, replicate, length, sym, subst₂, []}
use Rattle.atomic_table.specs.Table as table
use Rattle.octet_model.specs.declared.script.Script.{Script}
use Rattle.octet_model.specs.declared.log.Log.{Log}
use Rattle.octet_parallel.specs.Rule.{IsRuled, first_view}
use Rattle.octet_seats.specs.Cells.{spread}
use Rattle.octet_seats.proofs.lemmas.Spread.{as_many_words}
use Rattle.octet_model.specs.Orders.{starting_heap}
use Rattle.octet_parallel.proofs.seats.LaidOut.{opens, words_at_first, many_starts}
use Rattle.octet_parallel.proofs.words.Words.new.Goals as goal

pub of_words-requires : goal.of_words-requires
of_words-requires c =
    let script : c.of.result.value ≡ c.args.script.now = search rules in
    let log : c.of-2.result.value ≡ c.args.log.now = search rules in
    let ws : c.as_slice-2.result.now ≡ spread (replicate (length c.args.log.now.threads) 0 ++ starting_heap c.args.script.now) = search rules in
    subst₂ (λ (s : Script) (l : Log). IsRuled s l (table.opening c.as_slice-2.result.now [] (first_view s l))) (sym script) (sym log)
    (opens c.args.script.now c.args.log.now c.requires.threads c.requires.untied (search rules) c.as_slice-2.result.now (ws ∙ sym (words_at_first c.args.script.now c.args.log.now)))

pub invariant_of-words : goal.invariant_of-words
invariant_of-words c =
    let many : length c.in_ok-words.words.items ≡ 8 * (c.thread_count-players.result + length c.in_ok-cells.cells.items) = as_many_words _ c.in_ok-cells.cells.items c.thread_count-players.result (search rules) in
    let starts = many_starts c.args.script.now in search rules
