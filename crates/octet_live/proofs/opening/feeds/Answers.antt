use Rattle.std.proofs.Common.{◌≡◌, ◌∙◌, ◌<◌, inl, inr, ℕ, List, [], length, map, replicate, get_or, slice_index_or, refl, sym, ap, subst, arith}
use Rattle.std.proofs.lemmas.Bool.{cases_lt}
use Rattle.std.proofs.lemmas.List.{length-map, length-replicate, get_or-map, get_or-replicate, get_or_past}
use Rattle.octet_model.specs.declared.log.Gapped.{Gapped}
use Rattle.octet_ring.specs.Views.{SenderView, DrainView, IsOf}
use Rattle.octet_live.specs.declared.feed.Feed.{Feed}
use Rattle.octet_live.specs.Feeds.{HasSentNothing, feed_by}
use Rattle.octet_live.specs.Drained.{IsFeedOf}
use Rattle.octet_live.proofs.opening.feeds.Goals as goal

none_received : (n thread : ℕ) → get_or {A = List Gapped} (replicate n []) thread [] ≡ []
none_received n thread = elim (cases_lt thread n) [
  | inl less ↦ get_or-replicate n thread [] [] less
  | inr past ↦ get_or_past (replicate n []) thread [] (omega (arith, past, length-replicate {A = List Gapped} n []))
]

pub returns-clause-count : goal.returns-clause-count
returns-clause-count c =
    let senders = c.in_ok-senders.senders in
    ap (λ (l : List Feed). length l) (c.in_ok-feeds.ensures ∙ ap (λ (l : List SenderView). map feed_by l) c.into_vec.ensures) ∙ (length-map senders feed_by ∙ c.in_ok-senders.ensures.count)

pub returns-clause-feeds : goal.returns-clause-feeds
returns-clause-feeds c = λ thread none there.
    let senders = c.in_ok-senders.senders in
    let drainer = c.in_ok-drainer.drainer in
    let made = c.in_ok-feeds.ensures ∙ ap (λ (l : List SenderView). map feed_by l) c.into_vec.ensures in
    let here : thread < length senders = omega (arith, there, ap (λ (l : List Feed). length l) made, length-map senders feed_by) in
    let sender = slice_index_or senders thread none.sender in
    let own = c.in_ok-senders.ensures.senders thread none.sender here in
    let of : IsOf drainer.drain sender = subst (λ (drain : DrainView). IsOf drain sender) (sym c.in_ok-drainer.ensures.drain) own.1 in
    subst (λ (feed : Feed). IsFeedOf drainer thread feed × HasSentNothing feed)
    (sym (ap (λ (l : List Feed). slice_index_or l thread none) made ∙ get_or-map feed_by senders thread none.sender none here))
    ((own.0.0, of), (own.0.2, refl))

pub returns-clause-drainer : goal.returns-clause-drainer
returns-clause-drainer c =
    let received = ap (λ (drain : DrainView). drain.received) c.in_ok-drainer.ensures.drain ∙ c.in_ok-senders.ensures.drain.0 in record {
      as_many = ap (λ (l : List (List Gapped)). length l) received ∙ length-replicate c.args.threads [];
      none = λ thread. ap (λ (l : List (List Gapped)). get_or l thread []) received ∙ none_received c.args.threads thread;
      kept = c.in_ok-drainer.ensures.kept;
    }
