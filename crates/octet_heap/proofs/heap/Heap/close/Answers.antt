use Rattle.std.proofs.Common.{rules, ◌≡◌, map}
use Rattle.octet_model.specs.Journals.{log_of}
use Rattle.octet_model.specs.Orders.{values_read}
use Rattle.octet_rule.specs.Seats.{starts_of}
use Rattle.octet_heap.specs.Seated.{seats_in, journals_of}
use Rattle.octet_heap.proofs.Explained.{workers_explained}
use Rattle.octet_heap.proofs.Seating.{resting_seats, all_closed}
use Rattle.octet_heap.proofs.heap.Heap.close.Goals as goal

pub close-requires : goal.close-requires
close-requires c = let are : c.from_vec.result ≡ seats_in c.args.workers = search rules in resting_seats c.args.self c.from_vec.result c.args.workers are c.requires.all c.requires.still

pub returns-clause-record_of : goal.returns-clause-record_of
returns-clause-record_of c = let are : c.from_vec.result ≡ seats_in c.args.workers = search rules in record {
  logs = search rules;
  reads = search rules;
  values = workers_explained (starts_of c.args.self.words) c.args.workers c.from_vec.result c.in_ok-heap.heap are c.in_ok-heap.ensures;
}

pub returns-clause-closed : goal.returns-clause-closed
returns-clause-closed c = let are : c.from_vec.result ≡ seats_in c.args.workers = search rules in
    let logs : c.from_vec-2.result ≡ log_of (journals_of c.args.workers) = search rules in
    let reads : c.from_vec-3.result ≡ map values_read (journals_of c.args.workers) = search rules in
    all_closed c.args.self c.args.workers c.from_vec.result (record { logs = c.from_vec-2.result; reads = c.from_vec-3.result; heap = c.in_ok-heap.heap }) c.requires.all c.requires.still are logs reads c.in_ok-heap.ensures
