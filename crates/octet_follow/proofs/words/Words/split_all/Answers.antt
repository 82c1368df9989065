use Rattle.std.proofs.Common.{rules, ◌≡◌, ◌∙◌, ◌++◌, ◌∷◌, [], sym, ap, subst}
use Rattle.octet_seats.specs.Rows.{AreInRow}
use Rattle.octet_follow.specs.Views.{FollowerView}
use Rattle.octet_follow.specs.Seats.{IsFreshSeat}
use Rattle.octet_seats.proofs.lemmas.Rows.{row_more}
use Rattle.octet_follow.proofs.seats.Ending.{each_fresh}
use Rattle.octet_follow.proofs.words.Words.split_all.Goals as goal

pub loop-preserved : goal.loop-preserved
loop-preserved c = let i = c.loop.invariant in let f = c.split.ensures.first.1 in let g = c.split.ensures.seat in let e : c.push.new.self.items ≡ c.loop.seats.items ++ c.split.result ∷ [] = search rules in (
  c.split.ensures.first.0,
  (ap (λ (v : FollowerView). v.number) f ∙ i.1.0, ap (λ (v : FollowerView). v.follower) f ∙ i.1.1),
  ap (λ (v : FollowerView). v.followers_made) f ∙ search rules,
  ap (λ (v : FollowerView). v.joined) f ∙ i.3,
  subst (AreInRow (IsFreshSeat c.args.self.now) 1) (sym e) (row_more (IsFreshSeat c.args.self.now) 1 c.loop.counter c.loop.seats.items c.split.result i.4 (search rules) (
    g.0,
    (ap (λ (v : FollowerView). v.number) g.1 ∙ i.2, ap (λ (v : FollowerView). v.follower) g.1),
  )),
  search rules,
)

pub returns : goal.returns
returns c = let i = c.loop.invariant in (
  search rules,
  each_fresh c.args.self.now c.insert.new.self.items c.loop.seats.items c.loop.first (search rules) i.0 i.1 (search rules) i.3 i.4,
)
