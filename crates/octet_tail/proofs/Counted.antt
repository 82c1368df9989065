-- The marks of a thread, counted.
use Rattle.std.proofs.Common.{◌≡◌, ◌∙◌, ◌⊎◌, inl, inr, ℕ, ◌+◌, ◌-◌, ◌==◌, ◌&&◌, nat_le, nat_lt, Bool, true, false, cond, List, [], ◌∷◌, ◌++◌, length, sum_by, refl, sym, ap, subst, arith}
use Rattle.std.proofs.lemmas.Bool.{eqb-true, le-ltb, lt-ltb}
use Rattle.std.proofs.lemmas.Bool.Decides.{leb_tells}
use Rattle.std.proofs.lemmas.List.Sums.{sum_by-cons}
use Rattle.octet_model.specs.declared.log.Gapped.{Gapped}
use Rattle.octet_marks.specs.declared.piece.Block.{Block}
use Rattle.octet_marks.specs.declared.piece.Piece.{Piece}
use Rattle.octet_marks.specs.declared.piece.Piece.TheVariants as pieces
use Rattle.octet_marks.specs.Counts.{events_at, accesses_at}
use Rattle.octet_marks.specs.Standing.{accesses_in, events_in}
use Rattle.octet_tail.specs.declared.placed.Placed.{Placed}
use Rattle.octet_tail.specs.declared.places.Come.{Come}
use Rattle.octet_tail.specs.Fronts.{after}
use Rattle.octet_tail.specs.Merging.{of_thread}
use Rattle.octet_tail.specs.Places.{come_at}
use Rattle.octet_window.specs.declared.front.Front.{Front}
use Rattle.octet_window.specs.Fronts.{made_in}
use Rattle.octet_tail.specs.declared.fronts.Fronts.{Fronts}
use Rattle.octet_tail.specs.Between.{placed_at, placed_from, placed_of, placed_behind, come_in, come_to, marks_in, IsBetween}
use Rattle.octet_tail.specs.Marks.{own_of}

abbrev one : Bool → ℕ
one true = 1
one false = 0

-- ---- the marks of a thread
own_cons : (t : ℕ) (p : Placed) (marks : List Placed) → length (own_of t (p ∷ marks)) ≡ one (p.thread == t) + length (own_of t marks)
own_cons t p marks = go (p.thread == t)
  where
    go : (b : Bool) → length (cond b (p ∷ own_of t marks) (own_of t marks)) ≡ one b + length (own_of t marks)
    go true = omega arith
    go false = omega arith

own_join : (marks more : List Placed) (t : ℕ) → length (own_of t (marks ++ more)) ≡ length (own_of t marks) + length (own_of t more)
own_join [] more t = omega arith
own_join (p ∷ marks) more t = let first = own_cons t p (marks ++ more) in let other = own_cons t p marks in let rest = own_join marks more t in omega (arith, first, other, rest)

own_yes : (marks : List Gapped) (t thread : ℕ) (come : Come) → (thread == t) ≡ true → length (own_of t (placed_from marks thread come)) ≡ length marks
own_yes [] t thread come is = refl
own_yes (gapped ∷ marks) t thread come is =
    let p = placed_at thread come gapped in
    let first = own_cons t p (placed_from marks thread (come_to p)) in
    let yes = ap (λ (b : Bool). one b) is in
    let rest = own_yes marks t thread (come_to p) is in omega (arith, first, yes, rest)

own_no : (marks : List Gapped) (t thread : ℕ) (come : Come) → (thread == t) ≡ false → length (own_of t (placed_from marks thread come)) ≡ 0
own_no [] t thread come is = refl
own_no (gapped ∷ marks) t thread come is =
    let p = placed_at thread come gapped in
    let first = own_cons t p (placed_from marks thread (come_to p)) in
    let no = ap (λ (b : Bool). one b) is in
    let rest = own_no marks t thread (come_to p) is in omega (arith, first, no, rest)

own_block : (t : ℕ) (before : List Piece) (block : Block) (b : Bool) → (block.thread == t) ≡ b
    → events_at t (pieces.Block block) ≡ accesses_at t (pieces.Block block) + length (own_of t (placed_of before (pieces.Block block)))
own_block t before block true is =
    let events = ap (λ (b : Bool). cond b (events_in block) 0) is in
    let accesses = ap (λ (b : Bool). cond b (accesses_in block) 0) is in
    let own = own_yes block.marks t block.thread (come_in before block.thread) is in
    events ∙ (ap (λ (n : ℕ). accesses_in block + n) (sym own) ∙ ap (λ (n : ℕ). n + length (own_of t (placed_of before (pieces.Block block)))) (sym accesses))
own_block t before block false is =
    let events = ap (λ (b : Bool). cond b (events_in block) 0) is in
    let accesses = ap (λ (b : Bool). cond b (accesses_in block) 0) is in
    let own : length (own_of t (placed_of before (pieces.Block block))) ≡ 0 = own_no block.marks t block.thread (come_in before block.thread) is in
    omega (arith, events, accesses, own)

own_piece : (t : ℕ) (before : List Piece) (piece : Piece) → events_at t piece ≡ accesses_at t piece + length (own_of t (placed_of before piece))
own_piece t before (pieces.Head head) = omega arith
own_piece t before (pieces.Block block) = own_block t before block (block.thread == t) refl
own_piece t before (pieces.End end) = omega arith

-- what is no access of a thread is a mark
own_all : (all before : List Piece) (t : ℕ) → sum_by (events_at t) all ≡ sum_by (accesses_at t) all + length (own_of t (placed_behind all before))
own_all [] before t = omega arith
own_all (piece ∷ all) before t =
    let events = sum_by-cons (events_at t) piece all in
    let accesses = sum_by-cons (accesses_at t) piece all in
    let own = own_piece t before piece in
    let joined = own_join (placed_of before piece) (placed_behind all (before ++ piece ∷ [])) t in
    let rest = own_all all (before ++ piece ∷ []) t in omega (arith, events, accesses, own, joined, rest)

-- ---- those that a front has, and those after it
halves : (b x y : Bool) → (b ≡ true → ((x ≡ true) × (y ≡ false)) ⊎ ((x ≡ false) × (y ≡ true))) → one b ≡ one (b && x) + one (y && b)
halves true x y which = elim (which refl) [
  | inl e ↦ subst (λ (q : Bool). 1 ≡ one q + one (y && true)) (sym e.0) (subst (λ (q : Bool). 1 ≡ 1 + one (q && true)) (sym e.1) refl)
  | inr e ↦ subst (λ (q : Bool). 1 ≡ one q + one (y && true)) (sym e.0) (subst (λ (q : Bool). 1 ≡ 0 + one (q && true)) (sym e.1) refl)
]
halves false x true which = refl
halves false x false which = refl

which_half : (t : ℕ) (front : Front) (p : Placed) → (p.thread == t) ≡ true
    → ((nat_le p.events (made_in front t) ≡ true) × (nat_lt (made_in front p.thread) p.events ≡ false)) ⊎ ((nat_le p.events (made_in front t) ≡ false) × (nat_lt (made_in front p.thread) p.events ≡ true))
which_half t front p is =
    let same : made_in front p.thread ≡ made_in front t = ap (λ (n : ℕ). made_in front n) (eqb-true p.thread t is) in
    elim (leb_tells p.events (made_in front t)) [
      | inl e ↦ inl (e.0, le-ltb (made_in front p.thread) p.events (omega (arith, e.1, same)))
      | inr e ↦ inr (e.0, lt-ltb (made_in front p.thread) p.events (omega (arith, e.1, same)))
    ]

of_cons : (t : ℕ) (front : Front) (p : Placed) (marks : List Placed)
    → length (of_thread t front (p ∷ marks)) ≡ one ((p.thread == t) && nat_le p.events (made_in front t)) + length (of_thread t front marks)
of_cons t front p marks = go ((p.thread == t) && nat_le p.events (made_in front t))
  where
    go : (b : Bool) → length (cond b (p ∷ of_thread t front marks) (of_thread t front marks)) ≡ one b + length (of_thread t front marks)
    go true = omega arith
    go false = omega arith

after_cons : (t : ℕ) (front : Front) (p : Placed) (marks : List Placed)
    → length (own_of t (after front (p ∷ marks))) ≡ one (nat_lt (made_in front p.thread) p.events && (p.thread == t)) + length (own_of t (after front marks))
after_cons t front p marks = go (nat_lt (made_in front p.thread) p.events)
  where
    go : (l : Bool) → length (own_of t (cond l (p ∷ after front marks) (after front marks))) ≡ one (l && (p.thread == t)) + length (own_of t (after front marks))
    go true = own_cons t p (after front marks)
    go false = omega arith

split : (marks : List Placed) (t : ℕ) (front : Front) → length (own_of t marks) ≡ length (of_thread t front marks) + length (own_of t (after front marks))
split [] t front = omega arith
split (p ∷ marks) t front =
    let own = own_cons t p marks in
    let has = of_cons t front p marks in
    let later = after_cons t front p marks in
    let parts = halves (p.thread == t) (nat_le p.events (made_in front t)) (nat_lt (made_in front p.thread) p.events) (which_half t front p) in
    let rest = split marks t front in omega (arith, own, has, later, parts, rest)

-- the marks of a thread that the first front has
pub marks_before : (fronts : Fronts) (t : ℕ) (made : List ℕ) (last : ℕ) (all : List Piece) → IsBetween made last all fronts
    → (come_at fronts.places t).events - (come_at fronts.places t).accesses - length (own_of t fronts.marks) ≡ length (of_thread t fronts.before (marks_in all))
marks_before fronts t made last all between =
    let events = ap (λ (c : Come). c.events) (between.come t) in
    let accesses = ap (λ (c : Come). c.accesses) (between.come t) in
    let own = own_all all [] t in
    let parts = split (marks_in all) t fronts.before in
    let kept = ap (λ (l : List Placed). length (own_of t l)) between.marks_are in omega (arith, events, accesses, own, parts, kept)
