use Rattle.std.proofs.Common.{◌≡◌, length}
use Rattle.octet_outcomes.specs.Searches.{IsSearched}
use Rattle.octet_outcomes.proofs.search.search.Given as goal

abbrev pub invariant-loop-place : goal.invariant-loop-place
invariant-loop-place l = record {
  searched : IsSearched l.script l.found;
  next : length l.found.edges.rows ≡ l.place;
}
