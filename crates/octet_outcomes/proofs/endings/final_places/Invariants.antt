use Rattle.std.proofs.Common.{◌≡◌}
use Rattle.octet_outcomes.proofs.Ends.{AreFinal}
use Rattle.octet_outcomes.proofs.endings.final_places.Given as goal

abbrev pub invariant-loop-place : goal.invariant-loop-place
invariant-loop-place l = record {
  width : l.heaps.width ≡ l.found.moments.objects;
  final : AreFinal l.script l.found.moments.moments l.place l.heaps.rows l.places.items;
}
