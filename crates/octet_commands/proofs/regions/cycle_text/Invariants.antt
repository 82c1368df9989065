use Rattle.std.proofs.Common.{◌≡◌, ◌++◌, codes, drop}
use Rattle.std.specs.List.{flat_map}
use Rattle.octet_commands.specs.Answer.{hop_line}
use Rattle.octet_commands.proofs.regions.cycle_text.Given as goal

abbrev pub invariant-loop-hop : goal.invariant-loop-hop
invariant-loop-hop l = l.text.items ++ flat_map hop_line (drop l.hop-index l.hops) ≡ codes "cycle\n" ++ flat_map hop_line l.hops
