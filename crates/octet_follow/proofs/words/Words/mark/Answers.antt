use Rattle.std.proofs.Common.{rules, ◌≡◌, sym, subst}
use mathlib.Core.Option.{some-injective}
use Rattle.octet_model.specs.declared.event.Mark.{Mark}
use Rattle.octet_follow.specs.Steps.{ToMark}
use Rattle.octet_follow.specs.Rule.{DoesStep}
use Rattle.octet_follow.proofs.steps.Allowed.{marks}
use Rattle.octet_follow.proofs.words.Words.mark.Goals as goal

pub compare_exchange_with-requires : goal.compare_exchange_with-requires
compare_exchange_with-requires c = (search rules, search rules, marks _ _ _ _ _ (search rules) _ c.args.shown c.args.events c.args.mark c.requires.found c.requires.shown c.requires.events (search rules))

pub returns-clause-step : goal.returns-clause-step
returns-clause-step c =
    let made = c.compare_exchange_with.ensures.2 in
    let same : made.0 ≡ c.args.mark = sym (some-injective _ _ (made.1)) in
    subst (λ (m : Mark). DoesStep (ToMark m) c.args.seat.now.inner.me.0 c.compare_exchange_with.new.seat.me.0) same (_, made.2.1)
