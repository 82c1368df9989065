use Rattle.std.proofs.Common.{◌≡◌, ◌<◌, length, get_or}
use Rattle.octet_outcomes.specs.Moments.{no_moment}
use Rattle.octet_outcomes.specs.Searches.{IsSearched}
use Rattle.octet_outcomes.proofs.Ways.{RowTo}
use Rattle.octet_outcomes.proofs.search.Searched.follow_all.Given as goal

abbrev pub invariant-loop-thread : goal.invariant-loop-thread
invariant-loop-thread l = record {
  searched : IsSearched l.script l.self;
  same : l.self.edges ≡ l.fn.self.edges;
  there : l.place < length l.self.moments.moments;
  row : RowTo l.script l.self.moments.moments (get_or l.self.moments.moments l.place no_moment) l.only l.thread l.row.items;
}
