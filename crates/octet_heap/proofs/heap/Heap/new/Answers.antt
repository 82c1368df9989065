use Rattle.std.proofs.Common.{◌≡◌, ◌∙◌, sym, subst, ap}
use Rattle.octet_heap.specs.Seated.{seats_in, ArePlain}
use Rattle.octet_heap.proofs.Seating.{each_new, each_starts, same_count}
use Rattle.octet_heap.proofs.heap.Heap.new.Goals as goal

pub returns-clause-workers : goal.returns-clause-workers
returns-clause-workers c = let seats_made = c.in_ok-words.ensures in let items = c.from_vec.ensures in
    let are : seats_in c.from_vec.result ≡ c.in_ok-words.seats = ap seats_in items ∙ (c.in_ok-workers.ensures.seats ∙ c.into_vec.ensures) in (
      same_count c.from_vec.result c.in_ok-words.seats are ∙ (seats_made.2 ∙ c.thread_count-threads.ensures.count),
      each_new _ c.in_ok-words.seats c.from_vec.result are (subst (ArePlain c.args.script.now.fuel) (sym items) c.in_ok-workers.ensures.plain) seats_made.3,
    )

pub returns-clause-threads : goal.returns-clause-threads
returns-clause-threads c = let new = returns-clause-workers c in (new.0, each_starts _ c.from_vec.result new.1)
