use Rattle.std.proofs.Common.{get_or, ◌∙◌}
use Rattle.octet_outcomes.specs.Moments.{no_moment}
use Rattle.octet_outcomes.proofs.Ends.{is_ending}
use Rattle.octet_outcomes.proofs.endings.ending_at.Goals as goal

pub returns-clause-is : goal.returns-clause-is
returns-clause-is c =
    is_ending c.args.script.now _ (get_or c.args.found.now.moments.moments c.args.place no_moment) c.in_ok-picks_to.ensures c.requires.there.1 (c.from_vec.ensures ∙ c.in_ok-heap.ensures.items ∙ c.heap.ensures.heap)
