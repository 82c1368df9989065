use Rattle.std.proofs.Common.{◌≡◌, [], ◌∷◌, ◌++◌, ap, ◌∙◌}
use Rattle.octet_gen.specs.Generated.{access_of_draw}
use Rattle.octet_gen.proofs.Sequence.{no_accesses, none_drawn, access_pushed, one_drawn}
use Rattle.octet_gen.proofs.generator.push_accesses.Goals as goal

pub loop-place-init : goal.loop-place-init
loop-place-init c = (no_accesses c.args.draws.now.number 0 c.args.thread c.args.commands.now, none_drawn c.args.draws.now.number)

pub loop-place-preserved : goal.loop-place-preserved
loop-place-preserved c =
    let pushed : c.push.new.self ≡ c.loop-place.commands ++ access_of_draw c.args.thread c.draw.result ∷ [] = c.in_ok-push.ensures.ok ∙ ap (λ access. c.loop-place.commands ++ access ∷ []) c.access_of.ensures in (
      access_pushed c.args.draws.now.number c.args.thread c.loop-place._place c.loop-place.draws.number c.draw.new.self.number c.draw.result c.args.commands.now c.loop-place.commands c.push.new.self
          c.loop-place.invariant.0 c.loop-place.invariant.1 c.draw.ensures.number c.draw.ensures.draw pushed,
      one_drawn c.args.draws.now.number c.loop-place._place c.loop-place.draws.number c.draw.new.self.number c.loop-place.invariant.1 c.draw.ensures.number,
    )
