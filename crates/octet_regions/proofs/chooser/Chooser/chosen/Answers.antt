use Rattle.std.proofs.Common.{inl, inr, arith, ℕ, Vec, Global, refl, sym, ◌∙◌, subst}
use Rattle.std.proofs.lemmas.Bool.{cases_lt}
use Rattle.octet_regions.specs.declared.region.Region.{Region}
use Rattle.octet_regions.specs.Choice.{IsFree}
use Rattle.octet_regions.specs.code.Earlier.{region_of}
use Rattle.octet_regions.proofs.Choosing.{chosen_is, none_chosen}
use Rattle.octet_regions.proofs.chooser.Chooser.chosen.Goals as goal

pub loop-thread-init : goal.loop-thread-init
loop-thread-init c = record {
  order = refl;
  many = refl;
  within = c.requires.within;
  left = refl;
  keeps = λ accesses keeps. keeps;
  none = λ accesses keeps lower lt. absurd (omega (arith, lt));
}

pub returns-in-Some-clause-chosen : goal.returns-in-Some-clause-chosen
returns-in-Some-clause-chosen c = λ accesses keeps.
    let inv = c.loop-thread.invariant in
    let now = c.free_in.ensures.keeps accesses (inv.keeps accesses keeps) in
    chosen_is accesses c.free_in.new.self now c.loop-thread.thread c.in-Some.number (c.in-Some.ensures.free accesses now)
    (λ lower lt number. subst (λ (order : Vec Region Global). ¬ IsFree accesses order.items (region_of lower number)) (sym c.free_in.ensures.order) (inv.none accesses keeps lower lt number))

pub loop-thread-preserved : goal.loop-thread-preserved
loop-thread-preserved c =
    let inv = c.loop-thread.invariant in
    record {
      order = c.free_in.ensures.order ∙ inv.order;
      many = c.free_in.ensures.many ∙ inv.many;
      within = c.free_in.ensures.within;
      left = c.free_in.ensures.left ∙ inv.left;
      keeps = λ accesses keeps. c.free_in.ensures.keeps accesses (inv.keeps accesses keeps);
      none = λ accesses keeps lower lt number. elim (cases_lt lower c.loop-thread.thread) [
        | inl lower' ↦ subst (λ (order : Vec Region Global). ¬ IsFree accesses order.items (region_of lower number)) (sym c.free_in.ensures.order) (inv.none accesses keeps lower lower' number)
        | inr ge ↦ subst (λ (t : ℕ). ¬ IsFree accesses c.free_in.new.self.order.items (region_of t number)) (omega (arith, ge, lt)) (c.in_default.ensures.free accesses (c.free_in.ensures.keeps accesses (inv.keeps accesses keeps)) number)
      ];
    }

pub returns-clause-chosen : goal.returns-clause-chosen
returns-clause-chosen c = λ accesses keeps.
    let inv = c.loop-thread.invariant in
    none_chosen accesses c.loop-thread.self (inv.keeps accesses keeps) (λ lower lt number. inv.none accesses keeps lower (omega (arith, lt, c.loop-thread-test.false, c.len-thread-end.ensures, inv.many)) number)

pub returns-in-Some-clause-keeps : goal.returns-in-Some-clause-keeps
returns-in-Some-clause-keeps c = λ accesses keeps. c.free_in.ensures.keeps accesses (c.loop-thread.invariant.keeps accesses keeps)
