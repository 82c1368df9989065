use Rattle.std.proofs.Common.{rules, ◌≡◌, List, Err, refl, subst}
use Rattle.octet_model.specs.declared.log.Gapped.{Gapped}
use Rattle.octet_tail.specs.declared.finder.Untaken.TheVariants.{ManyEvents}
use Rattle.octet_tail.specs.Places.{come_at, ComesTo}
use Rattle.octet_tail.specs.Between.{placed_from}
use Rattle.octet_tail.specs.Noting.{come_with, IsUncounted, TakesOn}
use Rattle.octet_tail.proofs.Noted.{gap_many, marks_many, noted_block}
use Rattle.octet_tail.proofs.finders.Finders.note_block.Goals as goal

pub returns-in_err-place_all-clause-unnoted : goal.returns-in_err-place_all-clause-unnoted
returns-in_err-place_all-clause-unnoted c = λ is made last all had.
    let failed : c.place_all.result ≡ Err ManyEvents = search rules in
    let block = c.args.block.now in let old = c.args.self.now in
    marks_many made last all block old had
    (subst (λ (l : List Gapped). IsUncounted old block.thread (come_with l block.thread (come_at old.places block.thread))) c.as_slice.ensures (c.place_all.ensures.untaken failed))

pub returns-in-Some-clause-noted : goal.returns-in-Some-clause-noted
returns-in-Some-clause-noted c = λ made last all had.
    let block = c.args.block.now in let old = c.args.self.now in let mid = c.place_all.new.self in
    let come = come_at old.places block.thread in
    noted_block made last all block old mid _
    (subst (λ (l : List Gapped). TakesOn (placed_from l block.thread come) old mid) c.as_slice.ensures c.in_ok-place_all.ensures.takes)
    (subst (λ (l : List Gapped). ComesTo block.thread (come_with l block.thread come) old.places mid.places) c.as_slice.ensures c.in_ok-place_all.ensures.comes)
    refl refl c.in-Some.ensures.comes had

pub returns-in-None-clause-unnoted : goal.returns-in-None-clause-unnoted
returns-in-None-clause-unnoted c = λ is made last all had.
    let block = c.args.block.now in let old = c.args.self.now in let mid = c.place_all.new.self in
    let come = come_at old.places block.thread in
    gap_many made last all block old mid had
    (subst (λ (l : List Gapped). ComesTo block.thread (come_with l block.thread come) old.places mid.places) c.as_slice.ensures c.in_ok-place_all.ensures.comes)
    c.in-None.ensures.uncounted.0
