-- Marks that a front has, and those that are kept.
use Rattle.std.proofs.Common.{◌≡◌, ℕ, zero, suc, Bool, if◌then◌else◌, ◌<◌, ◌≤◌, inl, inr, List, [], ◌∷◌, ◌++◌, length, get_or, refl, sym, ap, ◌∙◌, subst, arith}
use Rattle.std.proofs.lemmas.Bool.{le-ltb, lt-ltb}
use Rattle.octet_model.specs.declared.event.Mark.{Mark}
use Rattle.octet_model.specs.declared.event.Mark.TheVariants.{Join, Draw, Fence}
use Rattle.octet_window.specs.declared.front.Front.{Front}
use Rattle.octet_window.specs.Fronts.{made_in}
use Rattle.octet_tail.specs.declared.finder.FrontFinder.{FrontFinder}
use Rattle.octet_tail.specs.declared.placed.Placed.{Placed}
use Rattle.octet_tail.specs.Fronts.{after, asked_of, needs_of, AreOpen, Has, HasMark, IsDrawn, IsFinder, IsLeastFront, IsOpen, IsSettled, IsUpTo, Keeps, KeepsAll, Sifts, TakesIn}

pub up_to_itself : (a : Front) → IsUpTo a a
up_to_itself a = record { made = λ thread. omega arith; draws = omega arith }

pub up_to_more : (a b c : Front) → IsUpTo a b → IsUpTo b c → IsUpTo a c
up_to_more a b c ab bc = record {
  made = λ thread. omega (arith, ab.made thread, bc.made thread);
  draws = omega (arith, ab.draws, bc.draws);
}

mark_stays : (a b : Front) (m : Mark) → IsUpTo a b → HasMark a m → HasMark b m
mark_stays a b (Join from upto) ab has = omega (arith, ab.made from, has)
mark_stays a b (Draw number) ab has = omega (arith, ab.draws, has)
mark_stays a b (Fence number) ab has = omega (arith, ab.draws, has)

drawn_stays : (a b : Front) (m : Mark) → IsUpTo a b → IsDrawn a m → IsDrawn b m
drawn_stays a b (Join from upto) ab is = absurd is
drawn_stays a b (Draw number) ab is = omega (arith, ab.draws, is)
drawn_stays a b (Fence number) ab is = absurd is

settled_stays : (asked : List ℕ) (a b : Front) (p : Placed) → IsUpTo a b → IsSettled asked a p → IsSettled asked b p
settled_stays asked a b p ab s = record {
  first = λ before. omega (arith, s.first before, ab.made p.thread);
  there = omega (arith, s.there, ab.made p.thread);
  mark = mark_stays a b p.mark ab s.mark;
}

pub sifts_stay : (asked : List ℕ) (a b : Front) (marks kept : List Placed) → IsUpTo a b → Sifts asked a marks kept → Sifts asked b marks kept
sifts_stay asked a b [] kept ab s = s
sifts_stay asked a b (p ∷ marks) kept ab (inl s) = inl (settled_stays asked a b p ab s.0, sifts_stay asked a b marks kept ab s.1)
sifts_stay asked a b (p ∷ marks) kept ab (inr s) = inr (s.0, s.1, s.2, sifts_stay asked a b marks s.0 ab s.3)

-- one more mark, which is settled
pub sifts_settled : (asked : List ℕ) (a : Front) (marks kept : List Placed) (q : Placed) → Sifts asked a marks kept → IsSettled asked a q → Sifts asked a (marks ++ q ∷ []) kept
sifts_settled asked a [] kept q s is = inl (is, s)
sifts_settled asked a (p ∷ marks) kept q (inl s) is = inl (s.0, sifts_settled asked a marks kept q s.1 is)
sifts_settled asked a (p ∷ marks) kept q (inr s) is = inr (s.0, s.1, s.2, sifts_settled asked a marks s.0 q s.3 is)

-- one more mark, which is kept
pub sifts_kept : (asked : List ℕ) (a : Front) (marks kept : List Placed) (q : Placed) → Sifts asked a marks kept → get_or asked q.thread 0 ≤ q.accesses → Sifts asked a (marks ++ q ∷ []) (kept ++ q ∷ [])
sifts_kept asked a [] kept q s is = inr ([], ap (λ (l : List Placed). l ++ q ∷ []) s, is, refl)
sifts_kept asked a (p ∷ marks) kept q (inl s) is = inl (s.0, sifts_kept asked a marks kept q s.1 is)
sifts_kept asked a (p ∷ marks) kept q (inr s) is = inr (s.0 ++ q ∷ [], ap (λ (l : List Placed). l ++ q ∷ []) s.1, s.2, sifts_kept asked a marks s.0 q s.3 is)

-- what is asked for does not matter to a mark that comes after it
settled_for : (asked : List ℕ) (a : Front) (p : Placed) → get_or asked p.thread 0 ≤ p.accesses → IsSettled [] a p → IsSettled asked a p
settled_for asked a p later s = record { first = λ before. absurd (omega (arith, before, later)); there = s.there; mark = s.mark }

-- marks that are sifted again
pub sifts_again : (asked : List ℕ) (a b : Front) (marks kept rest : List Placed) → IsUpTo a b → Sifts asked a marks kept → Sifts [] b kept rest → Sifts asked b marks rest
sifts_again asked a b [] kept rest ab s t = subst (λ (l : List Placed). Sifts [] b l rest) s t
sifts_again asked a b (p ∷ marks) kept rest ab (inl s) t = inl (settled_stays asked a b p ab s.0, sifts_again asked a b marks kept rest ab s.1 t)
sifts_again asked a b (p ∷ marks) kept rest ab (inr s) t = go (λ others u. sifts_again asked a b marks s.0 others ab s.3 u) (subst (λ (l : List Placed). Sifts [] b l rest) s.1 t)
  where
    go : ((others : List Placed) → Sifts [] b s.0 others → Sifts asked b marks others) → Sifts [] b (p ∷ s.0) rest → Sifts asked b (p ∷ marks) rest
    go more (inl u) = inl (settled_for asked b p s.2 u.0, more rest u.1)
    go more (inr u) = inr (u.0, u.1, s.2, more u.0 u.3)

-- a front that keeps all marks keeps those that are kept
pub keeps_kept : (asked : List ℕ) (a front : Front) (marks kept : List Placed) → Sifts asked a marks kept → KeepsAll asked front marks → KeepsAll asked front kept
keeps_kept asked a front [] kept s k = subst (KeepsAll asked front) (sym s) tt
keeps_kept asked a front (p ∷ marks) kept (inl s) k = keeps_kept asked a front marks kept s.1 k.1
keeps_kept asked a front (p ∷ marks) kept (inr s) k = subst (KeepsAll asked front) (sym s.1) (k.0, keeps_kept asked a front marks s.0 s.3 k.1)

pub keeps_earlier : (asked : List ℕ) (front : Front) (marks : List Placed) (q : Placed) → KeepsAll asked front (marks ++ q ∷ []) → KeepsAll asked front marks × Keeps asked front q
keeps_earlier asked front [] q k = (tt, k.0)
keeps_earlier asked front (p ∷ marks) q k = let rest = keeps_earlier asked front marks q k.1 in ((k.0, rest.0), rest.1)

pub keeps_at : (asked : List ℕ) (front : Front) (marks : List Placed) (k : ℕ) (d : Placed) → k < length marks → KeepsAll asked front marks → Keeps asked front (get_or marks k d)
keeps_at asked front [] k d lt keeps = absurd (omega (arith, lt))
keeps_at asked front (p ∷ marks) zero d lt keeps = keeps.0
keeps_at asked front (p ∷ marks) (suc k) d lt keeps = keeps_at asked front marks k d (omega (arith, lt)) keeps.1

-- what is let go is settled
pub taken_settled : (asked : List ℕ) (a b : Front) (p : Placed) → get_or asked p.thread 0 ≤ p.accesses → TakesIn p a b → IsSettled asked b p
taken_settled asked a b p later t = record { first = λ before. absurd (omega (arith, before, later)); there = t.there; mark = t.mark }

-- a front that keeps the mark and has what is needed has it all
pub taken_least : (asked : List ℕ) (a b front : Front) (p : Placed) → TakesIn p a b → Keeps asked front p → IsUpTo a front → IsUpTo b front
taken_least asked a b front p t k up = t.least front up there (k.before there)
  where
    there : Has front p
    there = elim t.covered [
      | inl has ↦ omega (arith, has, up.made p.thread)
      | inr drawn ↦ k.drawn (drawn_stays a front p.mark up drawn)
    ]

-- where all marks that are kept are open, the front is closed
open_keeps : (asked : List ℕ) (a : Front) (p : Placed) → get_or asked p.thread 0 ≤ p.accesses → IsOpen a p → Keeps asked a p
open_keeps asked a p later o = record {
  first = λ before. absurd (omega (arith, before, later));
  before = λ has. absurd (omega (arith, has, o.later));
  drawn = λ is. absurd (o.undrawn is);
}

settled_keeps : (asked : List ℕ) (a : Front) (p : Placed) → IsSettled asked a p → Keeps asked a p
settled_keeps asked a p s = record { first = s.first; before = λ has. s.mark; drawn = λ is. s.there }

pub closed : (asked : List ℕ) (a : Front) (marks kept : List Placed) → Sifts asked a marks kept → AreOpen a kept → KeepsAll asked a marks
closed asked a [] kept s o = tt
closed asked a (p ∷ marks) kept (inl s) o = (settled_keeps asked a p s.0, closed asked a marks kept s.1 o)
closed asked a (p ∷ marks) kept (inr s) o =
    let open_ : AreOpen a (p ∷ s.0) = subst (AreOpen a) s.1 o in (open_keeps asked a p s.2 open_.0, closed asked a marks s.0 s.3 open_.1)

pub kept_after : (asked : List ℕ) (a : Front) (marks kept : List Placed) → Sifts asked a marks kept → AreOpen a kept → kept ≡ after a marks
kept_after asked a [] kept s o = s
kept_after asked a (p ∷ marks) kept (inl s) o = kept_after asked a marks kept s.1 o ∙ sym (ap (λ (b : Bool). if b then p ∷ after a marks else after a marks) (le-ltb (made_in a p.thread) p.events s.0.there))
kept_after asked a (p ∷ marks) kept (inr s) o =
    s.1 ∙ (ap (λ (l : List Placed). p ∷ l) (kept_after asked a marks s.0 s.3 open_.1) ∙ sym (ap (λ (b : Bool). if b then p ∷ after a marks else after a marks) (lt-ltb (made_in a p.thread) p.events open_.0.later)))
  where
    open_ : AreOpen a (p ∷ s.0)
    open_ = subst (AreOpen a) s.1 o

-- a finder whose marks are all open has found the front
pub least_front : (marks : List Placed) (finder : FrontFinder) → IsFinder marks finder → AreOpen (needs_of finder) finder.kept.items → IsLeastFront (asked_of finder) marks (needs_of finder)
least_front marks finder is o = record {
  is = record { first = is.first; keeps = closed (asked_of finder) (needs_of finder) marks finder.kept.items is.sifts o };
  least = is.least;
}

pub rest_after : (marks : List Placed) (finder : FrontFinder) → IsFinder marks finder → AreOpen (needs_of finder) finder.kept.items → finder.kept.items ≡ after (needs_of finder) marks
rest_after marks finder is o = kept_after (asked_of finder) (needs_of finder) marks finder.kept.items is.sifts o
