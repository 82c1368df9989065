-- A tail as its thread goes on.
use Rattle.std.proofs.Common.{◌≡◌, ◌≤◌, inl, inr, ℕ, List, [], ◌∷◌, ◌++◌, length, sym, ap, ◌∙◌, arith, append_assoc, append-nil}
use Rattle.std.specs.Vec.{vec_capacity}
use Rattle.octet_model.specs.declared.event.Event.{Event}
use Rattle.octet_tail.specs.declared.tail.Tail.{Tail}
use Rattle.octet_tail.specs.Tails.{kept_in, room_of, IsLast, IsTail}

-- the older ones are let go
pub turned : (accesses : List Event) (tail next : Tail) → IsTail accesses tail → vec_capacity tail.newer ≤ length tail.newer.items → next.older ≡ tail.newer → next.newer.items ≡ []
    → vec_capacity next.newer ≡ vec_capacity tail.older → IsTail accesses next
turned accesses tail next is full older none room = record {
  gone = is.gone ++ tail.older.items;
  all = is.all ∙ (sym (append_assoc is.gone tail.older.items tail.newer.items)
      ∙ ap (λ (l : List Event). (is.gone ++ tail.older.items) ++ l) (sym (append-nil tail.newer.items) ∙ (ap (λ (l : List Event). tail.newer.items ++ l) (sym none) ∙ ap (λ (l : List Event). l ++ next.newer.items) (sym same))));
  enough = inr (omega (arith, full, capacity, ap (λ (l : List Event). length l) same));
  rooms = room ∙ (sym is.rooms ∙ sym capacity);
  some = omega (arith, is.some, is.rooms, capacity);
}
  where
    same : next.older.items ≡ tail.newer.items
    same = ap (λ v. v.items) older

    capacity : room_of next ≡ vec_capacity tail.newer
    capacity = ap (λ v. vec_capacity v) older

-- one more is noted
pub noted : (accesses : List Event) (tail next : Tail) (access : Event) → IsTail accesses tail → next.older ≡ tail.older
    → next.newer.items ≡ tail.newer.items ++ access ∷ [] → vec_capacity next.newer ≡ vec_capacity tail.newer → IsTail (accesses ++ access ∷ []) next
noted accesses tail next access is older newer room = record {
  gone = is.gone;
  all = ap (λ (l : List Event). l ++ access ∷ []) is.all ∙ (append_assoc is.gone (kept_in tail) (access ∷ []) ∙ ap (λ (l : List Event). is.gone ++ l) more);
  enough = elim is.enough [ inl none ↦ inl none | inr full ↦ inr (omega (arith, full, capacity, ap (λ (l : List Event). length l) same)) ];
  rooms = room ∙ (is.rooms ∙ sym capacity);
  some = omega (arith, is.some, capacity);
}
  where
    same : next.older.items ≡ tail.older.items
    same = ap (λ v. v.items) older

    capacity : room_of next ≡ room_of tail
    capacity = ap (λ v. vec_capacity v) older

    more : kept_in tail ++ access ∷ [] ≡ kept_in next
    more = append_assoc tail.older.items tail.newer.items (access ∷ []) ∙ (ap (λ (l : List Event). tail.older.items ++ l) (sym newer) ∙ ap (λ (l : List Event). l ++ next.newer.items) (sym same))

-- those that are kept are cut in two
pub cut : (accesses : List Event) (many : ℕ) (tail : Tail) (kept before last : List Event) → IsTail accesses tail → kept ≡ kept_in tail → before ++ last ≡ kept
    → length last ≡ many → IsLast accesses many last
cut accesses many tail kept before last is all halves count = record {
  earlier = is.gone ++ before;
  all = is.all ∙ (ap (λ (l : List Event). is.gone ++ l) (sym all ∙ sym halves) ∙ sym (append_assoc is.gone before last));
  count = count;
}
