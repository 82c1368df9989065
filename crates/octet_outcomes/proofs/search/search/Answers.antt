use Rattle.std.proofs.Common.{◌≡◌, ◌+◌, length, sym, subst, rules}
use Rattle.octet_outcomes.specs.Moments.{MomentsState}
use Rattle.octet_outcomes.specs.Searches.{IsSearched}
use Rattle.octet_outcomes.proofs.search.search.Goals as goal

pub returns-then-is_err-2-clause-searched : goal.returns-then-is_err-2-clause-searched
returns-then-is_err-2-clause-searched c =
    let went = c.follow_all-went_on.new.self in
    subst (λ (m : MomentsState). IsSearched c.args.script.now (record { guides = went.guides; moments = m; tree = went.tree; edges = went.edges })) (sym c.widen.ensures) c.follow_all-went_on.ensures.searched

pub loop-place-preserved : goal.loop-place-preserved
loop-place-preserved c =
    let went = c.follow_all-went_on.new.self in
    let next : length went.edges.rows ≡ c.loop-place.place + 1 = search rules in
    record {
      searched = subst (λ (m : MomentsState). IsSearched c.args.script.now (record { guides = went.guides; moments = m; tree = went.tree; edges = went.edges })) (sym c.widen.ensures) c.follow_all-went_on.ensures.searched;
      next = next;
    }
