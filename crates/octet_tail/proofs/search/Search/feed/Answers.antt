use Rattle.std.proofs.Common.{[], refl, arith}
use Rattle.octet_tail.proofs.Searching.{searches_on, searches_same, searches_bytes}
use Rattle.octet_tail.proofs.search.Search.feed.Goals as goal

pub returns-in-Ok-clause-searches : goal.returns-in-Ok-clause-searches
returns-in-Ok-clause-searches c =
    let mid = c.note_all.new.self in
    searches_on c.args.bytes.now c.args.self.now mid (record mid { reader = c.feed.new.self }) c.note_all.ensures.searches
    (searches_bytes c.args.bytes.now mid (record mid { reader = c.feed.new.self }) c.reader_reads_what_it_is_fed.ensures.fed (λ i. omega (arith, c.type_inv.bytes i)) refl c.in-Ok.ensures.ok)

pub returns-in-Err-clause-searches : goal.returns-in-Err-clause-searches
returns-in-Err-clause-searches c =
    let mid = c.note_all.new.self in
    searches_on [] c.args.self.now mid (record mid { reader = c.feed.new.self }) c.note_all.ensures.searches (searches_same mid (record mid { reader = c.feed.new.self }) refl c.in-Err.ensures.err)
