use Rattle.std.proofs.Common.{rules, ◌≡◌, ◌∙◌, ◌∷◌, All, length, length-set, slice_index_or, inl, inr, sym, ap, subst, arith, suc, Some}
use Rattle.std.proofs.lemmas.Bool.{cases_eq}
use Rattle.std.proofs.lemmas.List.{get_or-set_other}
use Rattle.std.proofs.lemmas.Grind.{get_or-set_at}
use Rattle.octet_c.specs.declared.handle.Handle.{Handle}
use Rattle.octet_c.specs.Sessions.{IsHeld}
use Rattle.octet_c.proofs.handing.put_all.Goals as goal

pub put-requires-clause-good : goal.put-requires-clause-good
put-requires-clause-good c =
    let next : c.loop-place.boxes.rest.items ≡ c.in-Some.held ∷ c.next.new.self.rest.items = search rules in
    let all : All (λ held. IsHeld held.value) (c.in-Some.held ∷ c.next.new.self.rest.items) = subst (All (λ held. IsHeld held.value)) next c.loop-place.invariant.good in
    all 0 c.in-Some.held (omega arith)

pub loop-place-preserved : goal.loop-place-preserved
loop-place-preserved c =
    let i = c.loop-place.invariant in let held = c.in-Some.held in let index = c.loop-place.place-index in let items = c.loop-place.place-items in
    let new = c.put.new.self in let left = c.next.new.self.rest.items in let boxes = c.args.boxes.items in
    let next : c.loop-place.boxes.rest.items ≡ held ∷ left = search rules in
    let all : All (λ held. IsHeld held.value) (held ∷ left) = subst (All (λ held. IsHeld held.value)) next i.good in
    let long = length-set items index new in
    let put : new.held ≡ Some held.value = c.put.ensures in record {
      good = λ k d lt. all (suc k) d (omega (arith, lt));
      count = omega (arith, i.count, ap length next, long);
      all = long ∙ i.all;
      rest = λ k d. ap (λ xs. slice_index_or xs (suc k) d) (sym next) ∙ (i.rest (suc k) d ∙ ap (λ n. slice_index_or boxes n d) (omega arith));
      held = λ k h d lt. elim (cases_eq k index) [
        | inl same ↦ ap (λ (x : Handle). x.held) (get_or-set_at items index k new h same (omega (arith, i.count, ap length next)))
            ∙ (put ∙ ap (λ b. Some b.value) (ap (λ xs. slice_index_or xs 0 d) (sym next) ∙ (i.rest 0 d ∙ ap (λ n. slice_index_or boxes n d) (omega (arith, same)))))
        | inr apart ↦ ap (λ (x : Handle). x.held) (get_or-set_other items index k new h apart) ∙ i.held k h d (omega (arith, lt, apart))
      ];
    }
