-- A finder that is given marks, or lets them go.
use Rattle.std.proofs.Common.{◌≡◌, ℕ, zero, suc, ◌+◌, ◌<◌, ◌≤◌, ◌⊎◌, inl, inr, List, [], ◌∷◌, ◌++◌, length, take, get_or, refl, sym, ap, ◌∙◌, subst, arith, length-append}
use Rattle.octet_window.specs.declared.front.Front.{Front}
use Rattle.octet_window.specs.Fronts.{made_in}
use Rattle.octet_tail.specs.declared.finder.FrontFinder.{FrontFinder}
use Rattle.octet_tail.specs.declared.needs.Needs.{Needs}
use Rattle.octet_tail.specs.declared.placed.Placed.{Placed}
use Rattle.octet_tail.specs.Fronts.{asked_of, end_of, front_of, needs_of, AreOpen, HasMark, IsFinder, IsOpen, IsRound, IsUpTo, Keeps, KeepsAll, OpensUp, Sifts}
use Rattle.octet_tail.proofs.Sifting.{up_to_itself, up_to_more, sifts_stay, sifts_settled, sifts_kept, sifts_again, keeps_kept, keeps_earlier, keeps_at, taken_settled, taken_least}

-- one more mark
finder_more : (marks : List Placed) (f g : FrontFinder) (q : Placed) → asked_of g ≡ asked_of f → IsUpTo (needs_of f) (needs_of g) → IsFinder marks f
    → Sifts (asked_of f) (needs_of g) (marks ++ q ∷ []) g.kept.items → ((front : Front) → Keeps (asked_of f) front q → IsUpTo (needs_of f) front → IsUpTo (needs_of g) front)
    → IsFinder (marks ++ q ∷ []) g
finder_more marks f g q same up is sifts least = record {
  first = λ thread. subst (λ (l : List ℕ). get_or l thread 0 ≤ made_in (needs_of g) thread) (sym same) (omega (arith, is.first thread, up.made thread));
  sifts = subst (λ (l : List ℕ). Sifts l (needs_of g) (marks ++ q ∷ []) g.kept.items) (sym same) sifts;
  least = λ front for_. let keeps = keeps_earlier (asked_of f) front marks q (subst (λ (l : List ℕ). KeepsAll l front (marks ++ q ∷ [])) same for_.keeps) in
      least front keeps.1 (is.least front (record { first = subst (λ (l : List ℕ). (thread : ℕ) → get_or l thread 0 ≤ made_in front thread) same for_.first; keeps = keeps.0 }));
}

-- one that comes after what is asked for
pub finder_sifts : (marks : List Placed) (f g : FrontFinder) (q : Placed) → asked_of g ≡ asked_of f → IsUpTo (needs_of f) (needs_of g) → get_or (asked_of f) q.thread 0 ≤ q.accesses
    → OpensUp q f.needs f.kept.items g.needs g.kept.items → IsFinder marks f → IsFinder (marks ++ q ∷ []) g
finder_sifts marks f g q same up later (inl t) is = finder_more marks f g q same up is
    (subst (λ (l : List Placed). Sifts (asked_of f) (needs_of g) (marks ++ q ∷ []) l) (sym t.1)
    (sifts_settled (asked_of f) (needs_of g) marks f.kept.items q (sifts_stay (asked_of f) (needs_of f) (needs_of g) marks f.kept.items up is.sifts) (taken_settled (asked_of f) (needs_of f) (needs_of g) q later t.0)))
    (λ front keeps above. taken_least (asked_of f) (needs_of f) (needs_of g) front q t.0 keeps above)
finder_sifts marks f g q same up later (inr o) is = finder_more marks f g q same up is
    (subst (λ (l : List Placed). Sifts (asked_of f) (needs_of g) (marks ++ q ∷ []) l) (sym o.2)
    (sifts_kept (asked_of f) (needs_of g) marks f.kept.items q (sifts_stay (asked_of f) (needs_of f) (needs_of g) marks f.kept.items up is.sifts) later))
    (λ front keeps above. subst (λ (n : Needs). IsUpTo (front_of n) front) (sym o.1) above)

-- one that comes before
pub finder_takes : (marks : List Placed) (f g : FrontFinder) (q : Placed) → asked_of g ≡ asked_of f → IsUpTo (needs_of f) (needs_of g) → q.accesses < get_or (asked_of f) q.thread 0
    → end_of (asked_of f) q ≤ made_in (needs_of g) q.thread → HasMark (needs_of g) q.mark → g.kept ≡ f.kept
    → ((front : Front) → IsUpTo (needs_of f) front → end_of (asked_of f) q ≤ made_in front q.thread → HasMark front q.mark → IsUpTo (needs_of g) front)
    → IsFinder marks f → IsFinder (marks ++ q ∷ []) g
finder_takes marks f g q same up before there mark kept least is = finder_more marks f g q same up is
    (subst (λ (l : List Placed). Sifts (asked_of f) (needs_of g) (marks ++ q ∷ []) l) (sym (ap (λ v. v.items) kept))
    (sifts_settled (asked_of f) (needs_of g) marks f.kept.items q (sifts_stay (asked_of f) (needs_of f) (needs_of g) marks f.kept.items up is.sifts)
    (record { first = λ _. there; there = omega (arith, there); mark = mark })))
    (λ front keeps above. let end = keeps.first before in least front above end (keeps.before (omega (arith, end))))

take_length : (xs : List Placed) → take (length xs) xs ≡ xs
take_length [] = refl
take_length (x ∷ xs) = ap (λ (l : List Placed). x ∷ l) (take_length xs)

-- marks are let go
pub finder_round : (marks : List Placed) (f g : FrontFinder) → g.asked ≡ f.asked → IsRound f.kept.items f.needs g.needs (length f.kept.items) g.kept.items → IsFinder marks f → IsFinder marks g
finder_round marks f g asked r is = record {
  first = λ thread. subst (λ (l : List ℕ). get_or l thread 0 ≤ made_in (needs_of g) thread) (sym same) (omega (arith, is.first thread, r.upto.made thread));
  sifts = subst (λ (l : List ℕ). Sifts l (needs_of g) marks g.kept.items) (sym same) (sifts_again (asked_of f) (needs_of f) (needs_of g) marks f.kept.items g.kept.items r.upto is.sifts
      (subst (λ (l : List Placed). Sifts [] (needs_of g) l g.kept.items) (take_length f.kept.items) r.sifts));
  least = λ front for_. let keeps = subst (λ (l : List ℕ). KeepsAll l front marks) same for_.keeps in
      r.least (asked_of f) front (keeps_kept (asked_of f) (needs_of f) front marks f.kept.items is.sifts keeps)
      (is.least front (record { first = subst (λ (l : List ℕ). (thread : ℕ) → get_or l thread 0 ≤ made_in front thread) same for_.first; keeps = keeps }));
}
  where
    same : asked_of g ≡ asked_of f
    same = ap (λ v. v.items) asked

-- where none was let go, those that are kept are open
pub round_open : (all kept : List Placed) (before now : Needs) → IsRound all before now (length all) kept → length all ≤ length kept → AreOpen (front_of now) kept
round_open all kept before now r few = elim r.open_or_fewer [
  | inl o ↦ o.2
  | inr f ↦ absurd (omega (arith, f, few))
]

take_step : (xs : List Placed) (k : ℕ) (d : Placed) → k < length xs → take (k + 1) xs ≡ take k xs ++ get_or xs k d ∷ []
take_step [] k d lt = absurd (omega (arith, lt))
take_step (x ∷ xs) zero d lt = refl
take_step (x ∷ xs) (suc k) d lt = ap (λ (n : ℕ). take n (x ∷ xs)) (next k) ∙ ap (λ (l : List Placed). x ∷ l) (take_step xs k d (omega (arith, lt)))
  where
    next : (n : ℕ) → suc n + 1 ≡ suc (n + 1)
    next n = omega arith

open_more : (a : Front) (kept : List Placed) (q : Placed) → AreOpen a kept → IsOpen a q → AreOpen a (kept ++ q ∷ [])
open_more a [] q are is = (is, tt)
open_more a (p ∷ kept) q are is = (are.0, open_more a kept q are.1 is)

pub round_begins : (all : List Placed) (before : Needs) → IsRound all before before 0 []
round_begins all before = record {
  upto = up_to_itself (front_of before);
  sifts = refl;
  least = λ asked front keeps above. above;
  open_or_fewer = inl (refl, refl, tt);
}

pub round_goes_on : (all : List Placed) (before now next : Needs) (k : ℕ) (kept others : List Placed) (d q : Placed) → k < length all → q ≡ get_or all k d
    → IsUpTo (front_of now) (front_of next) → OpensUp q now kept next others → IsRound all before now k kept → IsRound all before next (k + 1) others
round_goes_on all before now next k kept others d q lt at up (inl t) r = record {
  upto = up_to_more (front_of before) (front_of now) (front_of next) r.upto up;
  sifts = subst (λ (l : List Placed). Sifts [] (front_of next) l others) (sym (take_step all k d lt)) (subst (λ (p : Placed). Sifts [] (front_of next) (take k all ++ p ∷ []) others) at
      (subst (λ (l : List Placed). Sifts [] (front_of next) (take k all ++ q ∷ []) l) (sym t.1)
      (sifts_settled [] (front_of next) (take k all) kept q (sifts_stay [] (front_of now) (front_of next) (take k all) kept up r.sifts) (taken_settled [] (front_of now) (front_of next) q (omega arith) t.0))));
  least = λ asked front keeps above. taken_least asked (front_of now) (front_of next) front q t.0 (subst (Keeps asked front) (sym at) (keeps_at asked front all k d lt keeps)) (r.least asked front keeps above);
  open_or_fewer = inr (fewer r.open_or_fewer);
}
  where
    fewer : ((length kept ≡ k) × (now ≡ before) × AreOpen (front_of now) kept) ⊎ (length kept < k) → length others < k + 1
    fewer (inl o) = omega (arith, o.0, ap (λ (l : List Placed). length l) t.1)
    fewer (inr f) = omega (arith, f, ap (λ (l : List Placed). length l) t.1)
round_goes_on all before now next k kept others d q lt at up (inr o) r = record {
  upto = up_to_more (front_of before) (front_of now) (front_of next) r.upto up;
  sifts = subst (λ (l : List Placed). Sifts [] (front_of next) l others) (sym (take_step all k d lt)) (subst (λ (p : Placed). Sifts [] (front_of next) (take k all ++ p ∷ []) others) at
      (subst (λ (l : List Placed). Sifts [] (front_of next) (take k all ++ q ∷ []) l) (sym o.2)
      (sifts_kept [] (front_of next) (take k all) kept q (sifts_stay [] (front_of now) (front_of next) (take k all) kept up r.sifts) (omega arith))));
  least = λ asked front keeps above. subst (λ (n : Needs). IsUpTo (front_of n) front) (sym o.1) (r.least asked front keeps above);
  open_or_fewer = go r.open_or_fewer;
}
  where
    many : length others ≡ length kept + 1
    many = ap (λ (l : List Placed). length l) o.2 ∙ length-append kept (q ∷ [])

    go : ((length kept ≡ k) × (now ≡ before) × AreOpen (front_of now) kept) ⊎ (length kept < k) → ((length others ≡ k + 1) × (next ≡ before) × AreOpen (front_of next) others) ⊎ (length others < k + 1)
    go (inl s) = inl (
      omega (arith, many, s.0),
      o.1 ∙ s.1,
      subst (λ (n : Needs). AreOpen (front_of n) others) (sym o.1) (subst (AreOpen (front_of now)) (sym o.2) (open_more (front_of now) kept q s.2 o.0)),
    )
    go (inr f) = inr (omega (arith, many, f))
