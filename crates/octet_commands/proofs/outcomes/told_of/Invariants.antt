use Rattle.std.proofs.Common.{◌≡◌, All, map, take}
use Rattle.octet_outcomes.specs.Endings.{heap_of}
use Rattle.octet_commands.specs.Outcomes.{IsTold}
use Rattle.octet_commands.proofs.outcomes.told_of.Given as goal

abbrev pub invariant-loop-ending : goal.invariant-loop-ending
invariant-loop-ending l = All (IsTold l.script) l.told × (map (λ t. t.heap) l.told ≡ map heap_of (take l.ending-index l.endings))
