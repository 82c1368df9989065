use Rattle.std.proofs.Common.{rules, ◌≡◌, ◌∙◌, ◌<◌, [], ◌∷◌, ◌++◌, length, length-append, slice_index_or, Some, ap, sym, arith, suc}
use Rattle.octet_c.specs.Closed.{kind_of}
use Rattle.octet_c.proofs.Ended.{other_kind, one_more_behind}
use Rattle.octet_c.proofs.handing.threads_of.Goals as goal

pub returns-in_default-clause-refused : goal.returns-in_default-clause-refused
returns-in_default-clause-refused g c =
    let i = c.loop-held.invariant in let box = c.in-Some.held in let boxes = c.args.boxes.items in let place = length c.loop-held.yielded in
    let next : c.loop-held.held-iterator.rest.items ≡ box ∷ c.next.new.self.rest.items = search rules in
    let inside : place < length boxes = omega (arith, i.count, ap length next) in
    let at : slice_index_or boxes place box ≡ box = sym (ap (λ xs. slice_index_or xs 0 box) (sym next) ∙ (i.left 0 box ∙ ap (λ n. slice_index_or boxes n box) (omega arith))) in
    let other : kind_of box.value ≡ Some g.T.Thread.kind → ⊥ = search rules in
    other_kind (λ b. b.value) boxes g.T.Thread.kind c.requires place box inside at other

pub loop-held-preserved : goal.loop-held-preserved
loop-held-preserved g c =
    let i = c.loop-held.invariant in let box = c.in-Some.held in let boxes = c.args.boxes.items in
    let next : c.loop-held.held-iterator.rest.items ≡ box ∷ c.next.new.self.rest.items = search rules in
    let threads = c.loop-held.threads.items in let yielded = c.loop-held.yielded in let it = c.in-Some-of_held.it in
    let pushed : c.push.new.self.items ≡ threads ++ it ∷ [] = search rules in
    let is : box.value ≡ g.T.Behind.as_held it = search rules in
    let long : length (c.loop-held.yielded ++ box ∷ []) ≡ suc (length c.loop-held.yielded) = omega (arith, length-append c.loop-held.yielded (box ∷ [])) in record {
      threads = one_more_behind (λ it. g.T.Behind.as_held it) (λ b. b.value) threads c.push.new.self.items it yielded box pushed is i.threads;
      count = omega (arith, i.count, ap length next, long);
      left = λ k d. ap (λ xs. slice_index_or xs (suc k) d) (sym next) ∙ (i.left (suc k) d ∙ ap (λ n. slice_index_or boxes n d) (omega (arith, long)));
    }
