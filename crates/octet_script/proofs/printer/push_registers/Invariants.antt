use Rattle.std.proofs.Common.{◌≡◌, ◌++◌, drop}
use Rattle.std.specs.Prelude.{codes}
use Rattle.std.specs.List.{flat_map}
use Rattle.octet_script.specs.Spelling.{register_word}
use Rattle.octet_script.proofs.printer.push_registers.Given as goal

abbrev pub invariant-loop-register : goal.invariant-loop-register
invariant-loop-register l =
    l.out.items ++ flat_map (λ r. codes " " ++ register_word r) (drop l.register-index l.registers) ≡ l.fn.out.items ++ l.word ++ flat_map (λ r. codes " " ++ register_word r) l.registers
