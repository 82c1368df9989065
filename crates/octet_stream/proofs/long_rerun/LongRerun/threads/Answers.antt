use Rattle.std.proofs.Common.{rules, ◌≡◌, ◌+◌, ℕ, List, [], ◌∷◌, ◌++◌, length, length-append, slice_index_or, sym, ap, subst, arith}
use Rattle.octet_follow.specs.declared.follower.Follower.{Follower}
use Rattle.octet_follow.specs.Calls as calls
use Rattle.octet_stream.specs.declared.feeder.Feeder.{Feeder}
use Rattle.octet_stream.specs.declared.long_follower.LongFollower.{LongFollower}
use Rattle.octet_stream.specs.Followers.{IsFedAt, EachAtStart}
use Rattle.octet_stream.proofs.Pairs.{AreFrom, from_each, each_pair_more}
use Rattle.octet_stream.proofs.long_rerun.LongRerun.threads.Goals as goal

pub loop-follower-init : goal.loop-follower-init
loop-follower-init c =
    let run = c.args.self.now in
    let start = λ (n : ℕ) (f : Follower). calls.IsAtStart run.course c.args.room.marks n f in
    let no_threads : c.new-threads.result.items ≡ [] = search rules in
    let no_feeders : c.new-feeders.result.items ≡ [] = search rules in
    let all : c.into_iter-follower-iterator.result.rest.items ≡ c.args.followers.items = search rules in record {
      start = subst (AreFrom start 0) (sym all) (from_each start 0 c.args.followers.items (λ t other there. let same : t ≡ 0 + t = omega arith in
          subst (λ (n : ℕ). start n (slice_index_or c.args.followers.items t other)) same (c.requires.start t other there)));
      left = omega (arith, ap (λ (l : List Follower). length l) all);
      many = ap (λ (l : List LongFollower). length l) no_threads;
      as_many = ap (λ (l : List Feeder). length l) no_feeders;
      ends = subst (λ (l : List LongFollower). EachAtStart run l c.new-feeders.result.items) (sym no_threads) (λ t other nobody there. absurd (omega (arith, there)));
    }

pub thread-requires-clause-start : goal.thread-requires-clause-start
thread-requires-clause-start c =
    let start = λ (n : ℕ) (f : Follower). calls.IsAtStart c.args.self.now.course c.args.room.marks n f in
    let next : c.loop-follower.follower-iterator.rest.items ≡ c.in-Some.follower ∷ c.next.new.self.rest.items = search rules in
    (subst (AreFrom start c.loop-follower.number) next c.loop-follower.invariant.start).0

pub loop-follower-preserved : goal.loop-follower-preserved
loop-follower-preserved c =
    let run = c.args.self.now in let i = c.loop-follower.invariant in
    let start = λ (n : ℕ) (f : Follower). calls.IsAtStart run.course c.args.room.marks n f in
    let next : c.loop-follower.follower-iterator.rest.items ≡ c.in-Some.follower ∷ c.next.new.self.rest.items = search rules in
    let threads : c.push.new.self.items ≡ c.loop-follower.threads.items ++ c.in_ok-thread.thread ∷ [] = search rules in
    let feeders : c.push-in-loop-follower.new.self.items ≡ c.loop-follower.feeders.items ++ c.in_ok-thread.feeder ∷ [] = search rules in
    let many : length c.loop-follower.feeders.items ≡ length c.loop-follower.threads.items = omega (arith, i.many, i.as_many) in
    let last = subst (λ (t : ℕ). IsFedAt run t c.in_ok-thread.thread c.in_ok-thread.feeder) (sym i.many) c.in_ok-thread.ensures in
    let more = each_pair_more (IsFedAt run) c.loop-follower.threads.items c.loop-follower.feeders.items c.in_ok-thread.thread c.in_ok-thread.feeder many i.ends last in record {
      start = (subst (AreFrom start c.loop-follower.number) next i.start).1;
      left = omega (arith, i.left, ap (λ (l : List Follower). length l) next);
      many = omega (arith, i.many, ap (λ (l : List LongFollower). length l) threads, length-append c.loop-follower.threads.items (c.in_ok-thread.thread ∷ []));
      as_many = omega (arith, i.as_many, ap (λ (l : List Feeder). length l) feeders, length-append c.loop-follower.feeders.items (c.in_ok-thread.feeder ∷ []));
      ends = subst (λ (l : List LongFollower). EachAtStart run l c.push-in-loop-follower.new.self.items) (sym threads) (subst (λ (l : List Feeder). EachAtStart run (c.loop-follower.threads.items ++ c.in_ok-thread.thread ∷ []) l) (sym feeders) more);
    }
