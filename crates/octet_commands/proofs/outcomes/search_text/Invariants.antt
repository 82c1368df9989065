use Rattle.std.proofs.Common.{◌≡◌, ◌++◌, drop}
use Rattle.std.specs.List.{flat_map}
use Rattle.octet_commands.specs.Outcomes.{told_text}
use Rattle.octet_commands.proofs.outcomes.search_text.Given as goal

abbrev pub invariant-loop-one : goal.invariant-loop-one
invariant-loop-one l = l.text.items ++ flat_map (told_text l.script) (drop l.one-index l.told) ≡ flat_map (told_text l.script) l.told
