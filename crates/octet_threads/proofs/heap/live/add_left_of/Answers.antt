use Rattle.std.proofs.Common.{◌≡◌, ◌∙◌, List, Some, sym, subst}
use Rattle.octet_model.specs.declared.log.Gapped.{Gapped}
use Rattle.octet_live.specs.declared.feed.Feed.{Feed}
use Rattle.octet_live.specs.Feeds.{HasSent}
use Rattle.octet_live.specs.Drained.{IsFeedOf}
use Rattle.octet_threads.proofs.heap.live.add_left_of.Goals as goal

pub add_left-requires-clause-feed : goal.add_left-requires-clause-feed
add_left-requires-clause-feed g c κs within =
    let (own, is, of) = c.requires.sends in
    let same : own ≡ c.in-Some.feed = (let both : Some own ≡ Some c.in-Some.feed = sym is ∙ c.in-Some.is in cc) in
    subst (λ (feed : Feed). IsFeedOf c.args.drainer.now c.args.thread feed) same of

pub add_left-requires-clause-sent : goal.add_left-requires-clause-sent
add_left-requires-clause-sent g c κs within = subst (λ (marks : List Gapped). HasSent c.in-Some.feed marks) (sym c.marks-own.ensures) (c.args.runner.now.fed c.in-Some.feed c.in-Some.is)
