use Rattle.std.proofs.Common.{Vec, Global, sym, subst}
use Rattle.octet_regions.specs.declared.region.Region.{Region}
use Rattle.octet_regions.proofs.Choosing.{are_within, Chose, chose_all, chose_more, chose_none, chosen_behind}
use Rattle.octet_regions.proofs.chooser.Chooser.choose.Goals as goal

pub loop-region-init : goal.loop-region-init
loop-region-init c = record { some_accesses = c.requires.keeps; all = λ accesses keeps. (keeps, chose_none accesses c.args.self.now.order.items c.requires.none) }

pub chosen-requires-clause-few : goal.chosen-requires-clause-few
chosen-requires-clause-few c = c.loop-region.invariant.some_accesses.1.few

pub chosen-requires-clause-within : goal.chosen-requires-clause-within
chosen-requires-clause-within c = are_within c.loop-region.invariant.some_accesses.0 c.loop-region.self c.loop-region.invariant.some_accesses.1

pub take-requires-clause-few : goal.take-requires-clause-few
take-requires-clause-few c =
    let known = c.loop-region.invariant.some_accesses in
    (c.chosen.ensures.keeps known.0 known.1).few

pub take-requires-clause-there : goal.take-requires-clause-there
take-requires-clause-there c =
    let known = c.loop-region.invariant.some_accesses in
    (c.chosen.ensures.keeps known.0 known.1).there c.in-Some.region (c.in-Some.ensures.chosen known.0 known.1).free.next.left.is_region

pub take-requires-clause-room : goal.take-requires-clause-room
take-requires-clause-room c =
    let known = c.loop-region.invariant.some_accesses in
    known.1.room c.in-Some.region (c.in-Some.ensures.chosen known.0 known.1).free.next.left.is_region

pub take-requires-clause-left : goal.take-requires-clause-left
take-requires-clause-left c =
    let known = c.loop-region.invariant.some_accesses in
    chosen_behind known.0 c.chosen.new.self (c.chosen.ensures.keeps known.0 known.1) c.in-Some.region (c.in-Some.ensures.chosen known.0 known.1)

pub loop-region-preserved : goal.loop-region-preserved
loop-region-preserved c =
    let inv = c.loop-region.invariant in
    let known = inv.some_accesses in
    record {
      some_accesses = (known.0, c.in_ok-take.ensures.keeps known.0 (c.chosen.ensures.keeps known.0 known.1) (c.in-Some.ensures.chosen known.0 known.1));
      all = λ accesses keeps.
          let now = inv.all accesses keeps in
          let chosen = c.in-Some.ensures.chosen accesses now.0 in (
            c.in_ok-take.ensures.keeps accesses (c.chosen.ensures.keeps accesses now.0) chosen,
            chose_more accesses c.chosen.new.self.order.items c.take.new.self.order.items c.in-Some.region c.in_ok-take.ensures.order chosen
                (subst (λ (order : Vec Region Global). Chose accesses order.items) (sym c.chosen.ensures.order) now.1),
          );
    }

pub returns : goal.returns
returns c = record {
  chose = λ accesses keeps.
      let now = c.loop-region.invariant.all accesses keeps in
      let none = c.in_default.ensures.chosen accesses now.0 in
      record {
        keeps = c.chosen.ensures.keeps accesses now.0;
        choice = chose_all accesses c.chosen.new.self.order.items (subst (λ (order : Vec Region Global). Chose accesses order.items) (sym c.chosen.ensures.order) now.1) none;
        none_free = none;
      };
}
