use Rattle.std.proofs.Common.{◌≡◌, suc, length, map, take}
use Rattle.octet_outcomes.specs.Moments.{IsRowOf, moment_of, start_of}
use Rattle.octet_outcomes.proofs.moments.first_row.Given as goal

abbrev pub invariant-loop-guide : goal.invariant-loop-guide
invariant-loop-guide l = record {
  row : IsRowOf (length l.stands) (length l.heaps.rows) l.row.items;
  len : length l.row.items ≡ suc l.guide-index;
  names : moment_of l.stands l.heaps.rows l.row.items ≡ record { stands = map (start_of l.fuel) (take l.guide-index l.guides); heap = l.heap };
}
