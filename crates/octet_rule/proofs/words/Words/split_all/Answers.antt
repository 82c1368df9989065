use Rattle.std.proofs.Common.{rules, ◌≡◌, ◌∙◌, ◌++◌, ◌∷◌, [], sym, ap, subst}
use Rattle.octet_rule.specs.Views.{SeatView}
use Rattle.octet_rule.specs.Seats.{BelongsTo, IsFresh}
use Rattle.octet_seats.proofs.lemmas.Rows.{row_more}
use Rattle.octet_rule.proofs.Ending.{AreFresh, each_fresh}
use Rattle.octet_rule.proofs.words.Words.split_all.Goals as goal

pub loop-thread-preserved : goal.loop-thread-preserved
loop-thread-preserved c = let i = c.loop-thread.invariant in let f = c.split.ensures.first.1 in let g = c.split.ensures.seat in let e : c.push.new.self.items ≡ c.loop-thread.seats.items ++ c.split.result ∷ [] = search rules in (
  c.split.ensures.first.0,
  (ap (λ (v : SeatView). v.number) f ∙ i.1.0, ap (λ (v : SeatView). v.thread) f ∙ i.1.1, ap (λ (v : SeatView). v.journal) f ∙ i.1.2, ap (λ (v : SeatView). v.trail) f ∙ i.1.3),
  ap (λ (v : SeatView). v.seats_made) f ∙ search rules,
  ap (λ (v : SeatView). v.joined) f ∙ i.3,
  subst (AreFresh c.args.self.now 1) (sym e) (row_more (λ t seat. BelongsTo c.args.self.now seat × IsFresh t seat) 1 c.loop-thread.thread c.loop-thread.seats.items c.split.result i.4 (search rules) (
    g.0,
    (ap (λ (v : SeatView). v.number) g.1 ∙ i.2, ap (λ (v : SeatView). v.thread) g.1, ap (λ (v : SeatView). v.journal) g.1, ap (λ (v : SeatView). v.trail) g.1),
  )),
  search rules,
)

pub returns : goal.returns
returns c = let i = c.loop-thread.invariant in (
  search rules,
  each_fresh c.args.self.now c.insert.new.self.items c.loop-thread.seats.items c.loop-thread.first (search rules) i.0 i.1 (search rules) i.3 i.4,
)
