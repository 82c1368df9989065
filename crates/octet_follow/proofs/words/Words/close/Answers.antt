use Rattle.std.proofs.Common.{rules, ◌≡◌, ◌∙◌, ◌∷◌, ◌+◌, ◌*◌, List, ℕ, sym, subst}
use Rattle.std.specs.Mem.Slots.{slots_items}
use Rattle.std.proofs.lemmas.Result.{IfOk-weaker}
use Rattle.octet_follow.specs.declared.words.Seat.{Seat}
use Rattle.octet_seats.specs.Cells.{cells_in}
use Rattle.octet_seats.proofs.lemmas.Rows.{first_rest}
use Rattle.octet_follow.specs.Seats.{starts_of, Closes}
use Rattle.octet_follow.proofs.seats.Ending.{IsParted, parted, closes}
use Rattle.octet_follow.proofs.words.Words.close.Goals.{After-remove-first}
use Rattle.octet_follow.proofs.words.Words.close.Goals as goal

all_seats : (c : After-remove-first) → c.args.seats.items ≡ c.remove-first.result ∷ c.remove-first.new.self.items
all_seats c = first_rest c.args.seats.items c.remove-first.new.self.items c.remove-first.result (search rules) c.remove-first.ensures.value c.remove-first.ensures.by_index.2

parts : (c : After-remove-first) → IsParted c.args.self c.remove-first.result c.remove-first.new.self.items
parts c = parted c.args.self c.args.seats.items c.remove-first.new.self.items c.remove-first.result (all_seats c) c.requires.1 c.requires.0

pub join_all-first-requires-clause-first : goal.join_all-first-requires-clause-first
join_all-first-requires-clause-first c = let p = parts (goal.at.join_all-first-requires-clause-first c).After-remove-first in (p.own, p.zeroth, p.none_joined)

pub join_all-first-requires-clause-seats : goal.join_all-first-requires-clause-seats
join_all-first-requires-clause-seats c = (parts (goal.at.join_all-first-requires-clause-seats c).After-remove-first).others

pub returns : goal.returns
returns c = let e = all_seats (goal.at.returns c).After-remove-first in let p = parts (goal.at.returns c).After-remove-first in let g = c.join_all-first.ensures in let w = c.args.self in
    let done = closes (starts_of w) w.table.shared.key.followers (slots_items c.close_with-closed.result.words) (slots_items c.close_with-closed.result.slots) c.join_all-first.result.inner.id w
    c.remove-first.result c.remove-first.new.self.items c.join_all-first.result.inner.me.0 c.join_all-first.result.live g.own.1 g.first g.joined p.others (p.all ∙ sym w.numbered) c.close_with-closed.ensures.values.2 in
    IfOk-weaker c.read_cells-values.result (λ r. r.items ≡ cells_in (slots_items c.close_with-closed.result.words) (8 * (w.followers + 1)) w.objects) (λ r. Closes (starts_of w) c.args.seats.items r.items)
    (λ r is. subst (λ (z : List Seat × List ℕ). Closes (starts_of w) z.0 z.1) (λ i. (sym e i, ((λ j. cells_in (slots_items c.close_with-closed.result.words) (8 * (w.numbered j + 1)) (w.sized j)) ∙ sym is) i)) done)
    c.read_cells-values.ensures
