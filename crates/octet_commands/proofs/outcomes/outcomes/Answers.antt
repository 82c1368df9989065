use Rattle.std.proofs.Common.{◌≡◌, ◌∙◌, ℕ, List, All, map, ap, sym, subst}
use Rattle.std.proofs.lemmas.Result.{IfOk-weaker}
use Rattle.octet_outcomes.specs.declared.endings.Ending.{Ending}
use Rattle.octet_outcomes.specs.Endings.{heap_of}
use Rattle.octet_commands.specs.declared.outcomes.Told.{Told}
use Rattle.octet_commands.specs.Answer.{answer_of}
use Rattle.octet_commands.specs.Outcomes.{search_said, search_text, IsTold, OutcomesAnswers}
use Rattle.octet_commands.proofs.answering.Endings.{explored_by, told_width}
use Rattle.octet_commands.proofs.outcomes.outcomes.Goals as goal

pub search_text-requires : goal.search_text-requires
search_text-requires c = told_width c.args.script.now c.as_slice-2.result.now (subst (λ (l : List Told). All (IsTold c.args.script.now) l) (sym c.as_slice-2.ensures) c.in_ok-told.ensures.each)

pub returns : goal.returns
returns c =
    let script = c.args.script.now in
    let found = c.in_ok-found.found in
    let told = c.in_ok-told.told in
    let heaps = c.in_ok-told.ensures.heaps ∙ ap (λ (l : List Ending). map heap_of l) c.as_slice.ensures in
    IfOk-weaker c.say_search.result (λ reply. answer_of reply ≡ search_said c.in_ok-text.text.items found.seen) (λ reply. OutcomesAnswers script c.args.most (answer_of reply))
    (λ reply is. (
      told,
      found.moments,
      found.stuck,
      found.seen,
      explored_by script c.args.most found told c.in_ok-told.ensures.each heaps c.in_ok-found.ensures.all c.in_ok-found.ensures.most c.in_ok-found.ensures.stuck c.in_ok-found.ensures.free,
      is ∙ ap (λ (t : List ℕ). search_said t found.seen) (c.in_ok-text.ensures ∙ ap (λ (l : List Told). search_text script l found.moments found.stuck) c.as_slice-2.ensures),
    ))
    c.say_search.ensures
