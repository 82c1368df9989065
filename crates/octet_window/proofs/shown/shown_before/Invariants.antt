use Rattle.std.proofs.Common.{◌≡◌, ◌≤◌, drop, length, replicate}
use Rattle.octet_window.specs.Values.{shown_before}
use Rattle.octet_window.proofs.shown.shown_before.Given as goal

abbrev pub invariant-loop-place : goal.invariant-loop-place
invariant-loop-place l = record {
  within : l.place ≤ length l.steps;
  shown : l.values.items ≡ shown_before (drop l.place l.steps) (replicate l.objects 0);
  wide : length l.values.items ≡ l.objects;
}

abbrev pub decreases-loop-place : goal.decreases-loop-place
decreases-loop-place l = l.place
