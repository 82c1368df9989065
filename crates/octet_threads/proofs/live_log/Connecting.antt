-- Runners are given their feeds.
use Rattle.std.proofs.Common.{◌≡◌, ◌∙◌, ℕ, suc, ◌+◌, ◌<◌, inl, inr, List, [], ◌∷◌, length, set, slice_index_or, Some, sym, ap, subst, arith}
use Rattle.std.proofs.lemmas.Bool.{cases_eq}
use Rattle.std.proofs.lemmas.List.{get_or-set_same, get_or-set_other}
use Rattle.octet_live.specs.declared.drainer.Drainer.{Drainer}
use Rattle.octet_live.specs.declared.feed.Feed.{Feed}
use Rattle.octet_live.specs.Feeds.{HasSentNothing}
use Rattle.octet_live.specs.Drained.{IsFeedOf}
use Rattle.octet_threads.specs.declared.heap.runner.Runner.{Runner}
use Rattle.octet_threads.specs.Work.{SendsTo}

abbrev IsNewFeed : Drainer → ℕ → Feed → Type 0
IsNewFeed drainer thread feed = IsFeedOf drainer thread feed × HasSentNothing feed

-- the feeds of the threads from this one on, in order, which have sent nothing
abbrev pub AreFeedsFrom : Drainer → ℕ → List Feed → Type 0
AreFeedsFrom drainer thread [] = Unit {0}
AreFeedsFrom drainer thread (feed ∷ feeds) = IsNewFeed drainer thread feed × AreFeedsFrom drainer (thread + 1) feeds

pub are_feeds : (first : ℕ) (drainer : Drainer) (feeds : List Feed) → ((thread : ℕ) (none : Feed) → thread < length feeds → IsFeedOf drainer (first + thread) (slice_index_or feeds thread none) × HasSentNothing (slice_index_or feeds thread none))
    → AreFeedsFrom drainer first feeds
are_feeds first drainer [] each = tt
are_feeds first drainer (feed ∷ feeds) each = (
  subst (λ (n : ℕ). IsNewFeed drainer n feed) (omega arith) (each 0 feed (omega arith)),
  are_feeds (first + 1) drainer feeds (λ t none less. let same : first + suc t ≡ (first + 1) + t = omega arith in
      subst (λ (n : ℕ). IsNewFeed drainer n (slice_index_or feeds t none)) same (each (suc t) none (omega (arith, less)))),
)

-- one more sends by its feed
pub one_sends : (drainer : Drainer) (runners : List Runner) (thread : ℕ) (feed : Feed) (runner : Runner) → thread < length runners → IsFeedOf drainer thread feed → runner.feed ≡ Some feed
    → ((t : ℕ) (none : Runner) → t < thread → SendsTo drainer t (slice_index_or runners t none).feed)
    → (t : ℕ) (none : Runner) → t < thread + 1 → SendsTo drainer t (slice_index_or (set runners thread runner) t none).feed
one_sends drainer runners thread feed runner there of is before t none less = elim (cases_eq t thread) [
  | inl same ↦ subst (λ (r : Runner). SendsTo drainer t r.feed) (sym (ap (λ (n : ℕ). slice_index_or (set runners thread runner) n none) same ∙ get_or-set_same runners thread runner none there))
      (feed, is, subst (λ (n : ℕ). IsFeedOf drainer n feed) (sym same) of)
  | inr differ ↦ subst (λ (r : Runner). SendsTo drainer t r.feed) (sym (get_or-set_other runners thread t runner none differ)) (before t none (omega (arith, less, differ)))
]
