use Rattle.std.proofs.Common.{◌≡◌, map}
use Rattle.octet_gen.specs.Generated.{generated_names, first_numbers}
use Rattle.octet_gen.proofs.generator.make_objects.Given as goal

abbrev pub invariant-loop-place : goal.invariant-loop-place
invariant-loop-place l =
    (map (λ object. object.name) l.objects ≡ generated_names l.place)
    × (map (λ object. object.start) l.objects ≡ first_numbers l.place)
