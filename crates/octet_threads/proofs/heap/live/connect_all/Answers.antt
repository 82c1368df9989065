use Rattle.std.proofs.Common.{rules, ◌≡◌, ◌∙◌, ◌+◌, ◌<◌, ℕ, List, ◌∷◌, length, slice_index_or, refl, sym, ap, subst, arith}
use Rattle.octet_live.specs.declared.feed.Feed.{Feed}
use Rattle.octet_live.specs.Feeds.{HasSentNothing}
use Rattle.octet_live.specs.Drained.{IsFeedOf}
use Rattle.octet_threads.specs.declared.heap.runner.Runner.{Runner}
use Rattle.octet_threads.proofs.live_log.Connecting.{AreFeedsFrom, are_feeds, one_sends}
use Rattle.octet_threads.proofs.runners.Places.{as_many, map_set}
use Rattle.octet_threads.proofs.heap.live.connect_all.Goals as goal

pub loop-feed-init : goal.loop-feed-init
loop-feed-init c =
    let all : c.into_iter-feed-iterator.result.rest.items ≡ c.args.feeds.items = search rules in record {
      feeds = subst (AreFeedsFrom c.args.drainer.now 0) (sym all) (are_feeds 0 c.args.drainer.now c.args.feeds.items (λ t other there. let same : t ≡ 0 + t = omega arith in
          subst (λ (n : ℕ). IsFeedOf c.args.drainer.now n (slice_index_or c.args.feeds.items t other) × HasSentNothing (slice_index_or c.args.feeds.items t other)) same (c.requires.feeds t other there)));
      left = omega (arith, ap (λ (l : List Feed). length l) all, c.requires.as_many);
      workers = refl;
      threads = refl;
      sends = λ thread none less. absurd (omega (arith, less));
    }

pub loop-feed-preserved : goal.loop-feed-preserved
loop-feed-preserved c =
    let i = c.loop-feed.invariant in
    let runners = c.loop-feed.runners in
    let none = c.index-runners-thread.result in
    let next : c.loop-feed.feed-iterator.rest.items ≡ c.in-Some.feed ∷ c.next.new.self.rest.items = search rules in
    let feeds = subst (AreFeedsFrom c.args.drainer.now c.loop-feed.thread) next i.feeds in
    let many = as_many c.args.runners.now runners i.workers i.threads in
    let first : c.loop-feed.thread < length c.args.runners.now = omega (arith, i.left, ap (λ (l : List Feed). length l) next) in
    let there : c.loop-feed.thread < length runners = omega (arith, first, many) in record {
      feeds = feeds.1;
      left = omega (arith, i.left, ap (λ (l : List Feed). length l) next);
      workers = map_set (λ (r : Runner). r.worker) runners c.loop-feed.thread none c.connect.new.runner c.connect.ensures.worker ∙ i.workers;
      threads = map_set (λ (r : Runner). r.config) runners c.loop-feed.thread none c.connect.new.runner c.connect.ensures.config ∙ i.threads;
      sends = one_sends c.args.drainer.now runners c.loop-feed.thread c.in-Some.feed c.connect.new.runner there feeds.0.0 c.connect.ensures.feed i.sends;
    }
