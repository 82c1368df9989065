use Rattle.std.proofs.Common.{refl, subst, length}
use Rattle.std.specs.Vec.{with_item}
use Rattle.octet_replay.specs.declared.need.Need.{Need}
use Rattle.octet_replay.specs.Needs.{NamesThread}
use Rattle.octet_replay.proofs.Placing.{still_listed, lists_kept}
use Rattle.octet_replay.proofs.waits.Lists.enlist.Goals as goal

pub returns-then-index-count-clause-others : goal.returns-then-index-count-clause-others
returns-then-index-count-clause-others c =
    let within = subst (λ (n : Need). NamesThread (length c.args.self.now.at_events.items) n) c.in-Events.is c.requires.lists in
    still_listed c.args.self.now (record c.args.self.now { at_events = with_item c.args.self.now.at_events c.in-Events.of c.add.new.self }) refl refl
    (lists_kept c.args.self.now.at_events.items c.in-Events.of c.index_mut.result.now c.add.new.self c.index_mut.ensures.value within c.add.ensures.kept)
    (λ t n a. a)

pub returns-then-self-count-clause-others : goal.returns-then-self-count-clause-others
returns-then-self-count-clause-others c =
    still_listed c.args.self.now (record c.args.self.now { at_draws = c.add-then-self-count.new.self }) refl refl (λ of list at. (list, at, λ t n a. a)) c.add-then-self-count.ensures.kept

pub returns-then-self-count-2-clause-others : goal.returns-then-self-count-2-clause-others
returns-then-self-count-2-clause-others c =
    still_listed c.args.self.now (record c.args.self.now { at_draws = c.add-then-self-count-2.new.self }) refl refl (λ of list at. (list, at, λ t n a. a)) c.add-then-self-count-2.ensures.kept

pub returns-then-self-count-3-clause-others : goal.returns-then-self-count-3-clause-others
returns-then-self-count-3-clause-others c =
    still_listed c.args.self.now (record c.args.self.now { at_draws = c.add-then-self-count-3.new.self }) refl refl (λ of list at. (list, at, λ t n a. a)) c.add-then-self-count-3.ensures.kept
