use Rattle.std.proofs.Common.{◌≡◌, ◌++◌, drop}
use Rattle.std.specs.List.{flat_map}
use Rattle.octet_model.specs.Texts.{value_word}
use Rattle.octet_replay.proofs.line.push_positions.Given as goal

abbrev pub invariant-loop-position : goal.invariant-loop-position
invariant-loop-position l = l.line.items ++ flat_map value_word (drop l.position-index l.positions) ≡ l.fn.line.items ++ flat_map value_word l.positions
