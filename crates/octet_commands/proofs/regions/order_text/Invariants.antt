use Rattle.std.proofs.Common.{◌≡◌, ◌++◌, codes, drop}
use Rattle.std.specs.List.{flat_map}
use Rattle.octet_commands.specs.Answer.{region_line}
use Rattle.octet_commands.proofs.regions.order_text.Given as goal

abbrev pub invariant-loop-region : goal.invariant-loop-region
invariant-loop-region l = l.text.items ++ flat_map region_line (drop l.region-index l.regions) ≡ codes "serial\n" ++ flat_map region_line l.regions
