-- Accesses in another order that keeps the order of each two in conflict.
use Rattle.std.proofs.Common.{◌≡◌, ◌≢◌, ℕ, zero, suc, ◌<◌, Bool, true, false, ◌&&◌, ◌==◌, not, cond, List, [], ◌∷◌, ◌++◌, map, Some, slice_get, refl, sym, ap, ◌∙◌, subst, arith}
use Rattle.std.specs.List.{filter}
use Rattle.std.proofs.lemmas.Bool.{eqb-true}
use Rattle.octet_model.specs.declared.event.Event.{Event}
use Rattle.octet_model.specs.Machine.{event_made, heap_after}
use Rattle.octet_model.specs.HappensBefore.{is_access}
use Rattle.octet_model.specs.Plays.{operation_of}
use Rattle.octet_model.proofs.lemmas.Fronts.{Apart}
use Rattle.octet_regions.specs.declared.access.Access.{Access}

-- what the accesses make of a heap
abbrev pub heap_past : List Access → List ℕ → List ℕ
heap_past [] heap = heap
heap_past (a ∷ as_) heap = heap_past as_ (heap_after (operation_of a.event) heap)

-- each access takes what the heap holds
abbrev pub Runs : List ℕ → List Access → Type 0
Runs heap [] = Unit {0}
Runs heap (a ∷ as_) = (is_access a.event ≡ true) × (event_made (operation_of a.event) heap ≡ a.event) × Runs (heap_after (operation_of a.event) heap) as_

abbrev pub of_thread : ℕ → Access → Bool
of_thread u a = a.region.thread == u

abbrev pub by_thread : ℕ → List Access → List Event
by_thread u as_ = map (λ (a : Access). a.event) (filter (of_thread u) as_)

-- another order of accesses, with the same for each thread, that runs where they run and leads to the same heap
pub record Reorders (as_ bs : List Access) : Type 0 where
  pub runs : (heap : List ℕ) → Runs heap as_ → Runs heap bs
  pub heaps : (heap : List ℕ) → heap_past as_ heap ≡ heap_past bs heap
  pub threads : (u : ℕ) → by_thread u as_ ≡ by_thread u bs

pub same_order : (as_ : List Access) → Reorders as_ as_
same_order as_ = record { runs = λ heap runs. runs; heaps = λ heap. refl; threads = λ u. refl }

pub then_order : (as_ bs cs : List Access) → Reorders as_ bs → Reorders bs cs → Reorders as_ cs
then_order as_ bs cs p q = record { runs = λ heap runs. q.runs heap (p.runs heap runs); heaps = λ heap. p.heaps heap ∙ q.heaps heap; threads = λ u. p.threads u ∙ q.threads u }

by_thread_more : (u : ℕ) (a : Access) (as_ bs : List Access) → by_thread u as_ ≡ by_thread u bs → by_thread u (a ∷ as_) ≡ by_thread u (a ∷ bs)
by_thread_more u a as_ bs same = go (of_thread u a)
  where
    go : (b : Bool) → map (λ (x : Access). x.event) (cond b (a ∷ filter (of_thread u) as_) (filter (of_thread u) as_)) ≡ map (λ (x : Access). x.event) (cond b (a ∷ filter (of_thread u) bs) (filter (of_thread u) bs))
    go true = ap (λ (es : List Event). a.event ∷ es) same
    go false = same

pub behind : (a : Access) (as_ bs : List Access) → Reorders as_ bs → Reorders (a ∷ as_) (a ∷ bs)
behind a as_ bs p = record {
  runs = λ heap runs. (runs.0, runs.1, p.runs (heap_after (operation_of a.event) heap) runs.2);
  heaps = λ heap. p.heaps (heap_after (operation_of a.event) heap);
  threads = λ u. by_thread_more u a as_ bs (p.threads u);
}

pub behind_all : (front as_ bs : List Access) → Reorders as_ bs → Reorders (front ++ as_) (front ++ bs)
behind_all [] as_ bs p = p
behind_all (a ∷ front) as_ bs p = behind a (front ++ as_) (front ++ bs) (behind_all front as_ bs p)

-- two accesses whose order does not matter, by different threads
pub record Swap (a b : Access) : Type 0 where
  pub others : a.region.thread ≢ b.region.thread
  pub apart : Apart (operation_of a.event) (operation_of b.event)

swapped_threads : (u : ℕ) (a b : Access) (as_ : List Access) → a.region.thread ≢ b.region.thread → by_thread u (a ∷ b ∷ as_) ≡ by_thread u (b ∷ a ∷ as_)
swapped_threads u a b as_ others = go (of_thread u a) (of_thread u b) refl refl
  where
    rest : List Access
    rest = filter (of_thread u) as_

    go : (p q : Bool) → of_thread u a ≡ p → of_thread u b ≡ q → map (λ (x : Access). x.event) (cond p (a ∷ cond q (b ∷ rest) rest) (cond q (b ∷ rest) rest)) ≡ map (λ (x : Access). x.event) (cond q (b ∷ cond p (a ∷ rest) rest) (cond p (a ∷ rest) rest))
    go true true is_a is_b = absurd (others (eqb-true a.region.thread u is_a ∙ sym (eqb-true b.region.thread u is_b)))
    go true false is_a is_b = refl
    go false true is_a is_b = refl
    go false false is_a is_b = refl

swap_two : (a b : Access) (as_ : List Access) → Swap a b → Reorders (a ∷ b ∷ as_) (b ∷ a ∷ as_)
swap_two a b as_ swap =
    let v = operation_of a.event in
    let w = operation_of b.event in
    record {
      runs = λ heap runs. (
        runs.2.0,
        sym (swap.apart.second heap) ∙ runs.2.1,
        (runs.0, swap.apart.first heap ∙ runs.1, subst (λ (h : List ℕ). Runs h as_) (sym (swap.apart.heaps heap)) runs.2.2),
      );
      heaps = λ heap. ap (heap_past as_) (sym (swap.apart.heaps heap));
      threads = λ u. swapped_threads u a b as_ swap.others;
    }

-- an access moves behind others that may change places with it
moves : (x : Access) (front rest : List Access) → ((k : ℕ) (a : Access) → slice_get front k ≡ Some a → Swap x a) → Reorders (x ∷ front ++ rest) (front ++ x ∷ rest)
moves x [] rest swaps = same_order (x ∷ rest)
moves x (a ∷ front) rest swaps =
    then_order (x ∷ a ∷ front ++ rest) (a ∷ x ∷ front ++ rest) (a ∷ front ++ x ∷ rest)
    (swap_two x a (front ++ rest) (swaps 0 a refl))
    (behind a (x ∷ front ++ rest) (front ++ x ∷ rest) (moves x front rest (λ k b is. swaps (suc k) b is)))

-- of each two of a list, the earlier and the later
abbrev pub Pairs : (Access → Access → Type 0) → List Access → Type 0
Pairs R [] = Unit {0}
Pairs R (x ∷ as_) = ((k : ℕ) (y : Access) → slice_get as_ k ≡ Some y → R x y) × Pairs R as_

-- an item of those that pass is one of all
pub filtered : (test : Access → Bool) (as_ : List Access) (k : ℕ) (y : Access) → slice_get (filter test as_) k ≡ Some y → (test y ≡ true) × ((j : ℕ) × (slice_get as_ j ≡ Some y))
filtered test [] k y is = absurd cc
filtered test (x ∷ as_) k y is = go (test x) refl k is (λ j at_j. filtered test as_ j y at_j)
  where
    go : (b : Bool) → test x ≡ b → (j : ℕ) → slice_get (cond b (x ∷ filter test as_) (filter test as_)) j ≡ Some y → ((m : ℕ) → slice_get (filter test as_) m ≡ Some y → (test y ≡ true) × ((n : ℕ) × (slice_get as_ n ≡ Some y)))
        → (test y ≡ true) × ((n : ℕ) × (slice_get (x ∷ as_) n ≡ Some y))
    go true passes zero is' more = (let same : x ≡ y = cc in ap test (sym same) ∙ passes, (zero, is'))
    go true passes (suc j) is' more = (let m = more j is' in (m.0, (suc m.1.0, m.1.1)))
    go false passes j is' more = (let m = more j is' in (m.0, (suc m.1.0, m.1.1)))

pub pairs_filter : (R : Access → Access → Type 0) (test : Access → Bool) (as_ : List Access) → Pairs (λ x y. test x ≡ true → test y ≡ true → R x y) as_ → Pairs R (filter test as_)
pairs_filter R test [] pairs = tt
pairs_filter R test (x ∷ as_) pairs = go (test x) refl (pairs_filter R test as_ pairs.1)
  where
    go : (b : Bool) → test x ≡ b → Pairs R (filter test as_) → Pairs R (cond b (x ∷ filter test as_) (filter test as_))
    go true passes more = (λ k y is. (let f = filtered test as_ k y is in pairs.0 f.1.0 y f.1.1 passes f.0), more)
    go false passes more = more

pub pairs_from : (R : Access → Access → Type 0) (as_ : List Access) → ((i j : ℕ) (x y : Access) → i < j → slice_get as_ i ≡ Some x → slice_get as_ j ≡ Some y → R x y) → Pairs R as_
pairs_from R [] each = tt
pairs_from R (x ∷ as_) each = (λ k y is. each 0 (suc k) x y (omega arith) refl is, pairs_from R as_ (λ i j a b lt is_a is_b. each (suc i) (suc j) a b (omega arith) is_a is_b))

-- those that pass a test come first, where each that does not may change places with each that does
pub parted : (test : Access → Bool) (as_ : List Access) → Pairs (λ x y. test x ≡ false → test y ≡ true → Swap x y) as_ → Reorders as_ (filter test as_ ++ filter (λ a. not (test a)) as_)
parted test [] pairs = same_order []
parted test (x ∷ as_) pairs = go (test x) refl (parted test as_ pairs.1)
  where
    rest : List Access
    rest = filter (λ a. not (test a)) as_

    go : (b : Bool) → test x ≡ b → Reorders as_ (filter test as_ ++ rest) → Reorders (x ∷ as_) (cond b (x ∷ filter test as_) (filter test as_) ++ cond (not b) (x ∷ rest) rest)
    go true passes more = behind x as_ (filter test as_ ++ rest) more
    go false passes more =
        then_order (x ∷ as_) (x ∷ filter test as_ ++ rest) (filter test as_ ++ x ∷ rest) (behind x as_ (filter test as_ ++ rest) more)
        (moves x (filter test as_) rest (λ k a is. (let f = filtered test as_ k a is in pairs.0 f.1.0 a f.1.1 passes f.0)))

-- those that pass two tests
pub filter_both : (p q : Access → Bool) (as_ : List Access) → filter p (filter q as_) ≡ filter (λ a. q a && p a) as_
filter_both p q [] = refl
filter_both p q (x ∷ as_) = go (q x) (p x) refl (filter_both p q as_)
  where
    go : (b c : Bool) → p x ≡ c → filter p (filter q as_) ≡ filter (λ a. q a && p a) as_ → filter p (cond b (x ∷ filter q as_) (filter q as_)) ≡ cond (b && c) (x ∷ filter (λ a. q a && p a) as_) (filter (λ a. q a && p a) as_)
    go true true is more = ap (λ (b : Bool). cond b (x ∷ filter p (filter q as_)) (filter p (filter q as_))) is ∙ ap (λ (l : List Access). x ∷ l) more
    go true false is more = ap (λ (b : Bool). cond b (x ∷ filter p (filter q as_)) (filter p (filter q as_))) is ∙ more
    go false true is more = more
    go false false is more = more

pub filter_same : (p q : Access → Bool) (as_ : List Access) → ((k : ℕ) (a : Access) → slice_get as_ k ≡ Some a → p a ≡ q a) → filter p as_ ≡ filter q as_
filter_same p q [] same = refl
filter_same p q (x ∷ as_) same =
    ap (λ (b : Bool). cond b (x ∷ filter p as_) (filter p as_)) (same 0 x refl)
    ∙ ap (λ (l : List Access). cond (q x) (x ∷ l) l) (filter_same p q as_ (λ k a is. same (suc k) a is))

pub filter_none : (p : Access → Bool) (as_ : List Access) → ((k : ℕ) (a : Access) → slice_get as_ k ≡ Some a → p a ≡ false) → filter p as_ ≡ []
filter_none p [] none = refl
filter_none p (x ∷ as_) none = ap (λ (b : Bool). cond b (x ∷ filter p as_) (filter p as_)) (none 0 x refl) ∙ filter_none p as_ (λ k a is. none (suc k) a is)

pub filter_all : (p : Access → Bool) (as_ : List Access) → ((k : ℕ) (a : Access) → slice_get as_ k ≡ Some a → p a ≡ true) → filter p as_ ≡ as_
filter_all p [] all = refl
filter_all p (x ∷ as_) all = ap (λ (b : Bool). cond b (x ∷ filter p as_) (filter p as_)) (all 0 x refl) ∙ ap (λ (l : List Access). x ∷ l) (filter_all p as_ (λ k a is. all (suc k) a is))
