use Rattle.std.proofs.Common.{◌≡◌, Some, inl, length, slice_get, refl, sym, ◌∙◌, arith}
use Rattle.std.proofs.lemmas.Option.{slice_get_read}
use Rattle.octet_regions.proofs.Waiting.{unmet_all, unmet_found, unmet_skip}
use Rattle.octet_regions.proofs.queue.RegionQueue.lowest_unmet.Goals as goal

pub loop-place-preserved-then-wait-of : goal.loop-place-preserved-then-wait-of
loop-place-preserved-then-wait-of c =
    let inv = c.loop-place.invariant in
    let at : slice_get c.args.self.now.waits.items c.loop-place.place ≡ Some c.index-wait.result.now = slice_get_read c.args.self.now.waits.items (length c.args.self.now.waits.items) c.loop-place.place c.index-wait.result.now refl (omega (arith, c.loop-place-test.true, c.requires)) c.index-wait.ensures in
    record {
      from_here = omega (arith, inv.from_here);
      within = inl (omega (arith, c.loop-place-test.true));
      lowest = unmet_skip c.args.self.now c.args.taken.now c.loop-place.place c.index-wait.result.now c.loop-place.lowest at (λ above. absurd (omega (arith, above, c.if-wait-of.true, c.of.ensures))) inv.lowest;
    }

pub loop-place-preserved-then-not-is_lower : goal.loop-place-preserved-then-not-is_lower
loop-place-preserved-then-not-is_lower c =
    let inv = c.loop-place.invariant in
    let at : slice_get c.args.self.now.waits.items c.loop-place.place ≡ Some c.index-wait.result.now = slice_get_read c.args.self.now.waits.items (length c.args.self.now.waits.items) c.loop-place.place c.index-wait.result.now refl (omega (arith, c.loop-place-test.true, c.requires)) c.index-wait.ensures in
    record {
      from_here = omega (arith, inv.from_here);
      within = inl (omega (arith, c.loop-place-test.true));
      lowest = unmet_skip c.args.self.now c.args.taken.now c.loop-place.place c.index-wait.result.now c.loop-place.lowest at (λ above. sym c.is_lower.ensures ∙ c.if-not-is_lower.true) inv.lowest;
    }

pub loop-place-preserved : goal.loop-place-preserved
loop-place-preserved c =
    let inv = c.loop-place.invariant in
    let at : slice_get c.args.self.now.waits.items c.loop-place.place ≡ Some c.index-wait.result.now = slice_get_read c.args.self.now.waits.items (length c.args.self.now.waits.items) c.loop-place.place c.index-wait.result.now refl (omega (arith, c.loop-place-test.true, c.requires)) c.index-wait.ensures in
    record {
      from_here = omega (arith, inv.from_here);
      within = inl (omega (arith, c.loop-place-test.true));
      lowest = unmet_found c.args.self.now c.args.taken.now c.loop-place.place c.index-wait.result.now c.loop-place.lowest at inv.from_here (omega (arith, c.if-wait-of.false, c.of.ensures)) (sym c.is_lower.ensures ∙ c.if-not-is_lower.false) inv.lowest;
    }

pub returns : goal.returns
returns c = unmet_all c.args.self.now c.args.taken.now c.loop-place.place c.args.item.waits_upto c.loop-place.lowest (omega (arith, c.loop-place-test.false)) c.loop-place.invariant.within c.loop-place.invariant.lowest
