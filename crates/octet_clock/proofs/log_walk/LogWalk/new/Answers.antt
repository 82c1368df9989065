use Rattle.std.proofs.Common.{ℕ, List, replicate, ap, ◌∙◌, subst}
use Rattle.octet_model.specs.declared.log.ThreadLog.{ThreadLog}
use Rattle.octet_clock.specs.LogWalks.{AreFirstNeeds}
use Rattle.octet_clock.proofs.plays.WalksAlone.{first_names, walk_starts}
use Rattle.octet_clock.proofs.log_walk.LogWalk.new.Goals as goal

pub new-requires-clause-names : goal.new-requires-clause-names
new-requires-clause-names c =
    first_names c.args.log.now.threads c.args.log.now.valid c.in_ok-needs.needs
    (subst (λ (ls : List ThreadLog). AreFirstNeeds ls c.in_ok-needs.needs) c.as_slice.ensures c.in_ok-needs.ensures)

pub returns : goal.returns
returns c =
    walk_starts c.args.log.now.threads c.in_ok-needs.needs _ c.start.result
    (subst (λ (ls : List ThreadLog). AreFirstNeeds ls c.in_ok-needs.needs) c.as_slice.ensures c.in_ok-needs.ensures)
    c.start.ensures
    (c.in_ok-threads.ensures.items_if_clones_equal (λ y is. is) ∙ ap (λ (n : ℕ). replicate n c.start.result) c.len.ensures) c.in_ok-new.ensures
