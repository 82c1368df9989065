use Rattle.std.proofs.Common.{map, ap, rules, ◌∙◌}
use Rattle.octet_gen.specs.Generated.{generated_name}
use Rattle.octet_gen.proofs.Names.{no_names, no_numbers, names_more, numbers_more, map_pushed}
use Rattle.octet_gen.proofs.generator.make_objects.Goals as goal

pub loop-place-init : goal.loop-place-init
loop-place-init c = (ap (map (λ object. object.name)) c.new-objects.ensures ∙ no_names, ap (map (λ object. object.start)) c.new-objects.ensures ∙ no_numbers)

pub loop-place-preserved : goal.loop-place-preserved
loop-place-preserved c = (
  map_pushed (λ object. object.name) c.loop-place.objects c.push.new.self _ _ _ (generated_name c.loop-place.place) c.loop-place.invariant.0 c.in_ok-push.ensures.ok c.in_ok-name_of.ensures (names_more c.loop-place.place),
  map_pushed (λ object. object.start) c.loop-place.objects c.push.new.self _ _ _ c.loop-place.place c.loop-place.invariant.1 c.in_ok-push.ensures.ok (search rules) (numbers_more c.loop-place.place),
)
