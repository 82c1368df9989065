use Rattle.std.proofs.Common.{rules, ◌≡◌, List, drop, ◌+◌, Err, refl, subst, arith}
use Rattle.octet_model.specs.declared.log.Gapped.{Gapped}
use Rattle.octet_tail.specs.declared.finder.Untaken.TheVariants.{ManyEvents}
use Rattle.octet_tail.proofs.Noted.{IsPlaced, one_placed, too_many, left_from}
use Rattle.octet_tail.proofs.finders.Finders.place_all.Goals as goal

pub returns-in_err-place-clause-untaken : goal.returns-in_err-place-clause-untaken
returns-in_err-place-clause-untaken c = λ is.
    let failed : c.place.result ≡ Err ManyEvents = search rules in
    let rest = drop (c.loop-gapped.gapped-index + 1) c.args.marks.now in
    too_many c.args.thread c.args.marks.now c.args.self.now c.loop-gapped.self _ rest
    (subst (λ (l : List Gapped). IsPlaced c.args.thread c.args.marks.now c.args.self.now c.loop-gapped.self l) (left_from c.args.marks.now c.loop-gapped.gapped-index _ _ (omega arith) refl) c.loop-gapped.invariant)
    (c.place.ensures.untaken failed)

pub loop-gapped-preserved : goal.loop-gapped-preserved
loop-gapped-preserved c =
    let rest = drop (c.loop-gapped.gapped-index + 1) c.args.marks.now in
    one_placed c.args.thread c.args.marks.now c.args.self.now c.loop-gapped.self c.place.new.self _ rest
    (subst (λ (l : List Gapped). IsPlaced c.args.thread c.args.marks.now c.args.self.now c.loop-gapped.self l) (left_from c.args.marks.now c.loop-gapped.gapped-index _ _ (omega arith) refl) c.loop-gapped.invariant)
    c.in_ok-place.ensures.takes c.in_ok-place.ensures.comes
