-- What a feed has sent, and its end.
use Rattle.std.proofs.Common.{◌≡◌, ◌∙◌, ℕ, List, ◌++◌, length-append, take, Some, slice_get, sym, ap, arith}
use Rattle.std.proofs.lemmas.List.{take-append-le}
use Rattle.octet_model.specs.declared.log.Gapped.{Gapped}
use Rattle.octet_ring.specs.Views.{RingName}
use Rattle.octet_live.specs.declared.feed.Feed.{Feed}
use Rattle.octet_live.specs.declared.drainer.Drainer.{Drainer}
use Rattle.octet_live.specs.Feeds.{HasSent, HasSentNothing, end_of}
use Rattle.octet_live.specs.Drained.{threads_of, rings_of, IsFeedOf}

-- nothing is the first of any marks
pub nothing_sent : (feed : Feed) (marks : List Gapped) → HasSentNothing feed → HasSent feed marks
nothing_sent feed marks none = (none.0 ∙ ap (λ (n : ℕ). take n marks) (sym none.1), omega (arith, none.1))

-- the first of some marks are the first of these and more
pub still_sent : (feed : Feed) (marks more : List Gapped) → HasSent feed marks → HasSent feed (marks ++ more)
still_sent feed marks more has = (has.0 ∙ sym (take-append-le feed.sent marks more has.1), omega (arith, has.1, length-append marks more))

-- a feed with the same end is one of a drainer that has the same rings
pub still_feed : (drainer drainer' : Drainer) (thread : ℕ) (feed feed' : Feed) → rings_of drainer' ≡ rings_of drainer → threads_of drainer' ≡ threads_of drainer → end_of feed' ≡ end_of feed → IsFeedOf drainer thread feed → IsFeedOf drainer' thread feed'
still_feed drainer drainer' thread feed feed' rings as_many same (named, of_ring) =
    let there = of_ring.0 in
    let is = of_ring.1 in
    let of : feed'.sender.thread ≡ feed.sender.thread = ap (λ (e : ℕ × RingName). e.0) same in
    let ring : feed'.sender.ring ≡ feed.sender.ring = ap (λ (e : ℕ × RingName). e.1) same in (
      of ∙ named,
      (omega (arith, of, there, as_many), (λ i. slice_get (rings i) (of i)) ∙ (is ∙ ap (λ (r : RingName). Some r) (sym ring))),
    )
