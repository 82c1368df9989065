use Rattle.std.proofs.Common.{◌≡◌, ◌-◌, ℕ, suc, get_or, sym, ◌∙◌, subst, arith}
use Rattle.std.proofs.lemmas.Option.{slice_get-get_or}
use Rattle.octet_regions.specs.code.Walk.{EarliestFrom, NotesFrom}
use Rattle.octet_regions.proofs.QueuesByAccess.{no_access}
use Rattle.octet_regions.proofs.Walking.{differ_if, equal_if, found_here, found_is, found_none, found_not, noted_more, noted_still, notes_none, own_is_not_before}
use Rattle.octet_regions.proofs.walk.earliest_before.Goals as goal

pub loop-place-init : goal.loop-place-init
loop-place-init c = record {
  within = omega arith;
  notes = notes_none c.args.accesses.now c.args.region c.new-later.result c.new-later.ensures;
  found = found_none c.args.accesses.now c.args.thread c.args.from c.args.region;
}

pub loop-place-preserved-in-Continue-1 : goal.loop-place-preserved-in-Continue-1
loop-place-preserved-in-Continue-1 c =
    let inv = c.loop-place.invariant in
    let p = c.loop-place.place - 1 in
    let n : c.loop-place.place ≡ suc p = omega (arith, c.loop-place-test.true) in
    let access = get_or c.args.accesses.now p no_access in
    let here = slice_get-get_or c.args.accesses.now p no_access (omega (arith, inv.within, c.loop-place-test.true)) in
    let notes = subst (λ (k : ℕ). NotesFrom c.args.accesses.now k c.args.region c.loop-place.later) n inv.notes in
    let found = subst (λ (k : ℕ). EarliestFrom c.args.accesses.now k c.args.thread c.args.from c.args.region c.loop-place.found) n inv.found in
    let own = equal_if access.region c.args.region (sym c.eq.ensures ∙ c.if-eq.true) in
    record {
      within = omega (arith, inv.within);
      notes = noted_more c.args.accesses.now p c.args.thread c.args.from c.args.region c.loop-place.later access c.requires.differ c.requires.rise here c.note.new.self own c.in_ok-note.ensures notes;
      found = own_is_not_before c.args.accesses.now p c.args.thread c.args.from c.args.region c.loop-place.later access c.requires.differ c.requires.rise here c.loop-place.found own found;
    }

pub loop-place-preserved-then-is_before : goal.loop-place-preserved-then-is_before
loop-place-preserved-then-is_before c =
    let inv = c.loop-place.invariant in
    let p = c.loop-place.place - 1 in
    let n : c.loop-place.place ≡ suc p = omega (arith, c.loop-place-test.true) in
    let access = get_or c.args.accesses.now p no_access in
    let here = slice_get-get_or c.args.accesses.now p no_access (omega (arith, inv.within, c.loop-place-test.true)) in
    let notes = subst (λ (k : ℕ). NotesFrom c.args.accesses.now k c.args.region c.loop-place.later) n inv.notes in
    record {
      within = omega (arith, inv.within);
      notes = noted_still c.args.accesses.now p c.args.thread c.args.from c.args.region c.loop-place.later access c.requires.differ c.requires.rise here (differ_if access.region c.args.region (sym c.eq.ensures ∙ c.if-eq.false)) notes;
      found = found_here c.args.accesses.now p c.args.thread c.args.from c.args.region c.loop-place.later access c.requires.differ c.requires.rise here notes (c.is_before.ensures.yes c.if-is_before.true);
    }

pub loop-place-preserved : goal.loop-place-preserved
loop-place-preserved c =
    let inv = c.loop-place.invariant in
    let p = c.loop-place.place - 1 in
    let n : c.loop-place.place ≡ suc p = omega (arith, c.loop-place-test.true) in
    let access = get_or c.args.accesses.now p no_access in
    let here = slice_get-get_or c.args.accesses.now p no_access (omega (arith, inv.within, c.loop-place-test.true)) in
    let notes = subst (λ (k : ℕ). NotesFrom c.args.accesses.now k c.args.region c.loop-place.later) n inv.notes in
    let found = subst (λ (k : ℕ). EarliestFrom c.args.accesses.now k c.args.thread c.args.from c.args.region c.loop-place.found) n inv.found in
    record {
      within = omega (arith, inv.within);
      notes = noted_still c.args.accesses.now p c.args.thread c.args.from c.args.region c.loop-place.later access c.requires.differ c.requires.rise here (differ_if access.region c.args.region (sym c.eq.ensures ∙ c.if-eq.false)) notes;
      found = found_not c.args.accesses.now p c.args.thread c.args.from c.args.region c.loop-place.later access c.requires.differ c.requires.rise here c.loop-place.found notes (c.is_before.ensures.no c.if-is_before.false) found;
    }

pub returns : goal.returns
returns c = found_is c.args.accesses.now c.loop-place.place c.args.thread c.args.from c.args.region c.loop-place.found (omega (arith, c.loop-place-test.false)) c.loop-place.invariant.found
