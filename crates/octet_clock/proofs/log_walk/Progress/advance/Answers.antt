use Rattle.std.proofs.Common.{refl, sym, ◌∙◌, arith}
use Rattle.octet_model.proofs.lemmas.LowestFronts.{due_within}
use Rattle.octet_clock.proofs.plays.WalksAlone.{access_left, advances_by_mark, advances_by_access}
use Rattle.octet_clock.proofs.log_walk.Progress.advance.Goals as goal

pub overflow_add-self : goal.overflow_add-self
overflow_add-self c =
    omega (arith, access_left c.args.log.now c.args.self.now c.requires.wants (sym c.due_mark.ensures ∙ c.in_default.is))

pub overflow_add-self-2 : goal.overflow_add-self-2
overflow_add-self-2 c =
    omega (arith, due_within c.args.log.now.marks c.args.self.now.marks c.args.self.now.gap c.in-Some.mark (sym c.due_mark.ensures ∙ c.in-Some.is))

pub returns-in_default : goal.returns-in_default
returns-in_default c = advances_by_access c.args.log.now c.args.self.now _ (sym c.due_mark.ensures ∙ c.in_default.is) refl

pub returns : goal.returns
returns c = advances_by_mark c.args.log.now c.args.self.now c.in-Some.mark _ c.is_draw.result (sym c.due_mark.ensures ∙ c.in-Some.is) refl c.is_draw.ensures
