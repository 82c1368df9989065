use Rattle.std.proofs.Common.{rules, ◌≡◌, ◌∙◌, ◌+◌, ◌*◌, ◌++◌, ℕ, List, replicate, length, sym, subst, []}
use Rattle.atomic_table.specs.Table as table
use Rattle.octet_seats.specs.Cells.{spread}
use Rattle.octet_seats.proofs.lemmas.Spread.{as_many_words}
use Rattle.octet_follow.specs.Rule.{IsRuled, first_view}
use Rattle.octet_follow.proofs.seats.LaidOut.{opens, words_at_first}
use Rattle.octet_follow.proofs.words.Words.new.Goals as goal

pub of_words-requires : goal.of_words-requires
of_words-requires c =
    let starts : c.of.result.value ≡ c.args.starts.now = search rules in
    let ws : c.as_slice-2.result.now ≡ spread (replicate (c.args.followers + 1) 0 ++ c.args.starts.now) = search rules in
    subst (λ (s : List ℕ). IsRuled s c.args.followers (table.opening c.as_slice-2.result.now [] (first_view s c.args.followers))) (sym starts)
    (opens c.args.starts.now c.args.followers (search rules) c.as_slice-2.result.now (ws ∙ words_at_first c.args.starts.now c.args.followers))

pub invariant_of-words : goal.invariant_of-words
invariant_of-words c =
    let many : length c.in_ok-words.words.items ≡ 8 * ((c.args.followers + 1) + length c.args.starts.now) = as_many_words _ c.args.starts.now (c.args.followers + 1) (search rules) in
    search rules
