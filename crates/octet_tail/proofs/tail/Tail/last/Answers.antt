use Rattle.std.proofs.Common.{◌≡◌, ◌∙◌, ◌++◌, ◌-◌, List, length, take, drop, sym, ap, subst, arith}
use Rattle.std.proofs.lemmas.List.{take-append-drop}
use Rattle.octet_model.specs.declared.event.Event.{Event}
use Rattle.octet_tail.specs.Tails.{IsLast}
use Rattle.octet_tail.proofs.Tailing.{cut}
use Rattle.octet_tail.proofs.tail.Tail.last.Goals as goal

pub returns : goal.returns
returns c = λ accesses is.
    let kept : List Event = c.in_ok-kept.kept.items in
    let all = c.in_ok-kept.ensures in
    let mid = c.len.result - c.args.many in
    let slice : c.as_slice.result.now ≡ kept = c.as_slice.ensures.value in
    let front : c.split_at.result.0.now ≡ take mid kept = c.split_at.ensures.front ∙ ap (λ (l : List Event). take mid l) slice in
    let back : c.split_at.result.1.now ≡ drop mid kept = c.split_at.ensures.back ∙ ap (λ (l : List Event). drop mid l) slice in
    let given : c.from_vec.result ≡ c.split_at.result.1.now = c.from_vec.ensures ∙ c.in_ok-from_slice.ensures.items in
    subst (IsLast accesses c.args.many) (sym given) (cut accesses c.args.many c.args.self.now kept c.split_at.result.0.now c.split_at.result.1.now is all
    (ap (λ (l : List Event). l ++ c.split_at.result.1.now) front ∙ (ap (λ (l : List Event). take mid kept ++ l) back ∙ take-append-drop mid kept))
    (omega (arith, c.split_at.ensures.back_len, c.len.ensures, c.requires, ap (λ (l : List Event). length l) slice, ap (λ (l : List Event). length l) all, c.as_slice.ensures.len)))
