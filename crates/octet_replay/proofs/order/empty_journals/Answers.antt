use Rattle.std.proofs.Common.{List, [], ◌∷◌, ◌++◌, ap, ◌∙◌}
use Rattle.std.proofs.lemmas.List.{replicate-append-replicate}
use Rattle.octet_model.specs.declared.event.Event.{Event}
use Rattle.octet_replay.proofs.order.empty_journals.Goals as goal

pub loop-preserved : goal.loop-preserved
loop-preserved c =
    c.in_ok-push.ensures.items ∙ ap (λ (j : List Event). c.loop.journals.items ++ j ∷ []) c.new.ensures
    ∙ ap (λ (js : List (List Event)). js ++ [] ∷ []) c.loop.invariant ∙ replicate-append-replicate {A = List Event} c.loop.counter 1 []
