-- A mark or a piece that is read is the one that was written, and what was written is read again.
use Rattle.std.proofs.Common.{◌≡◌, ℕ, ◌+◌, ◌-◌, ◌^◌, ◌<◌, ◌≤◌, ◌&&◌, true, false, cond, not, eqb, leb, ltb, List, [], ◌∷◌, ◌++◌, length, Ok, refl, sym, ap, subst, ◌∙◌, append_assoc, arith}
use Rattle.std.specs.List.{flat_map}
use Rattle.std.proofs.lemmas.Bool.{eqb-true, eqb-false, leb-true, le-leb, lt-ltb, ltb-true}
use Rattle.octet_model.specs.declared.event.Mark.{Mark}
use Rattle.octet_model.specs.declared.event.Mark.TheVariants.{Join, Draw, Fence}
use Rattle.octet_model.specs.declared.log.Gapped.{Gapped}
use Rattle.octet_model.specs.Log.{is_mark}
use Rattle.octet_log.specs.declared.cause.LogCause.TheVariants.{BadMark, BadPiece, TooManyMarks}
use Rattle.octet_log.specs.Judging.{◌>>=◌, wanted, byte_at}
use Rattle.octet_log.specs.Inputs.{IsInput}
use Rattle.octet_log.specs.v2.Short.{short_bytes, short_at}
use Rattle.octet_log.specs.v2.Pieces.{short_mark_of, short_mark_bytes, marks_bytes}
use Rattle.octet_log.specs.v2.Decoding.{join_at, numbered_at, kind_at, short_mark_at, short_marks_at, piece_at}
use Rattle.octet_log.proofs.Valid.{and_first, and_second, and_both}
use Rattle.octet_log.proofs.Fields.{bind_ok, wanted_ok, ok_is, Takes, Takes-then, byte_takes}
use Rattle.octet_log.proofs.Each.{AllGood, each_takes, each_again}
use Rattle.octet_log.proofs.version2.Groups.{short_takes, short_again}

-- the kind of a mark, and its bytes behind the gap
abbrev pub kind_of : Mark → ℕ
kind_of (Join from upto) = 1
kind_of (Draw number) = 2
kind_of (Fence number) = 3

abbrev pub behind_gap : Mark → List ℕ
behind_gap (Join from upto) = from ∷ short_bytes upto
behind_gap (Draw number) = short_bytes number
behind_gap (Fence number) = short_bytes number

pub mark_parts : (gap : ℕ) (mark : Mark) → short_mark_of gap mark ≡ kind_of mark ∷ short_bytes gap ++ behind_gap mark
mark_parts gap (Join from upto) = refl
mark_parts gap (Draw number) = refl
mark_parts gap (Fence number) = refl

pub known_kind : (mark : Mark) → (leb 1 (kind_of mark) && leb (kind_of mark) 3) ≡ true
known_kind (Join from upto) = refl
known_kind (Draw number) = refl
known_kind (Fence number) = refl

-- a mark of a thread that was read from its bytes behind the gap
pub record IsKind (threads thread kind : ℕ) (bytes : List ℕ) (x : Mark × List ℕ) : Type 0 where
  pub takes : Takes bytes (behind_gap x.0) x.1
  pub kind_is : kind_of x.0 ≡ kind
  pub mark : is_mark threads thread x.0 ≡ true

join_takes : (total threads thread place : ℕ) (bytes : List ℕ) (x : Mark × List ℕ) → IsInput bytes → join_at total threads thread place bytes ≡ Ok x → IsKind threads thread 1 bytes x
join_takes total threads thread place bytes x is e =
    let a = bind_ok (byte_at total bytes) (λ named. wanted (ltb named.0 threads && not (eqb named.0 thread)) (BadMark place) >>= λ other. short_at total named.1 >>= λ upto. Ok (Join named.0 upto.0, upto.1)) x e in
    let w = wanted_ok (ltb a.0.0 threads && not (eqb a.0.0 thread)) (BadMark place) (λ _. short_at total a.0.1 >>= λ upto. Ok (Join a.0.0 upto.0, upto.1)) x a.2 in
    let b = bind_ok (short_at total a.0.1) (λ upto. Ok (Join a.0.0 upto.0, upto.1)) x w.1 in
    let t0 = byte_takes total bytes a.0.0 a.0.1 is a.1 in
    let t1 = short_takes total a.0.1 b.0 t0.rest_is b.1 in
    let both = Takes-then bytes (a.0.0 ∷ []) a.0.1 (short_bytes b.0.0) b.0.1 t0 t1.0 in
    subst (IsKind threads thread 1 bytes) (ok_is (Join a.0.0 b.0.0, b.0.1) x b.2)
    (record { takes = both; kind_is = refl; mark = and_both (ltb a.0.0 threads && not (eqb a.0.0 thread)) (ltb b.0.0 (2 ^ 64)) w.0 (lt-ltb b.0.0 (2 ^ 64) t1.1) })

-- a number of at least 1 that was read
record IsNumber (bytes : List ℕ) (make : ℕ → Mark) (x : Mark × List ℕ) : Type 0 where
  number : ℕ
  takes : Takes bytes (short_bytes number) x.1
  is : make number ≡ x.0
  large : leb 1 number ≡ true
  small : number < 2 ^ 64

numbered_takes : (total place : ℕ) (make : ℕ → Mark) (bytes : List ℕ) (x : Mark × List ℕ) → IsInput bytes → numbered_at total place make bytes ≡ Ok x → IsNumber bytes make x
numbered_takes total place make bytes x is e =
    let a = bind_ok (short_at total bytes) (λ number. wanted (leb 1 number.0) (BadMark place) >>= λ some_number. Ok (make number.0, number.1)) x e in
    let w = wanted_ok (leb 1 a.0.0) (BadMark place) (λ _. Ok (make a.0.0, a.0.1)) x a.2 in
    let t = short_takes total bytes a.0 is a.1 in
    subst (IsNumber bytes make) (ok_is (make a.0.0, a.0.1) x w.1) (record { number = a.0.0; takes = t.0; is = refl; large = w.0; small = t.1 })

draw_is : (threads thread : ℕ) (bytes : List ℕ) (x : Mark × List ℕ) → IsNumber bytes (λ n. Draw n) x → IsKind threads thread 2 bytes x
draw_is threads thread bytes x n =
    let good : IsKind threads thread 2 bytes (Draw n.number, x.1) = record { takes = n.takes; kind_is = refl; mark = and_both (leb 1 n.number) (ltb n.number (2 ^ 64)) n.large (lt-ltb n.number (2 ^ 64) n.small) } in
    subst (λ (m : Mark). IsKind threads thread 2 bytes (m, x.1)) n.is good

fence_is : (threads thread : ℕ) (bytes : List ℕ) (x : Mark × List ℕ) → IsNumber bytes (λ n. Fence n) x → IsKind threads thread 3 bytes x
fence_is threads thread bytes x n =
    let good : IsKind threads thread 3 bytes (Fence n.number, x.1) = record { takes = n.takes; kind_is = refl; mark = and_both (leb 1 n.number) (ltb n.number (2 ^ 64)) n.large (lt-ltb n.number (2 ^ 64) n.small) } in
    subst (λ (m : Mark). IsKind threads thread 3 bytes (m, x.1)) n.is good

kind_takes : (total threads thread place kind : ℕ) (bytes : List ℕ) (x : Mark × List ℕ) → IsInput bytes → 1 ≤ kind → kind ≤ 3 → kind_at total threads thread place kind bytes ≡ Ok x → IsKind threads thread kind bytes x
kind_takes total threads thread place kind bytes x is low high e =
    elim (eqb kind 1) as (λ v. eqb kind 1 ≡ v → cond v (join_at total threads thread place bytes) (cond (eqb kind 2) (numbered_at total place (λ n. Draw n) bytes) (numbered_at total place (λ n. Fence n) bytes)) ≡ Ok x → IsKind threads thread kind bytes x) [
      | true ↦ λ one h. rw (eqb-true kind 1 one) (join_takes total threads thread place bytes x is h)
      | false ↦ λ not_one h. elim (eqb kind 2) as (λ v. eqb kind 2 ≡ v → cond v (numbered_at total place (λ n. Draw n) bytes) (numbered_at total place (λ n. Fence n) bytes) ≡ Ok x → IsKind threads thread kind bytes x) [
        | true ↦ λ two h. rw (eqb-true kind 2 two) (draw_is threads thread bytes x (numbered_takes total place (λ n. Draw n) bytes x is h))
        | false ↦ λ not_two h.
            let other : ¬ (kind ≡ 1) = eqb-false kind 1 not_one in
            let another : ¬ (kind ≡ 2) = eqb-false kind 2 not_two in
            let three : kind ≡ 3 = omega (arith, low, high, other, another) in
            rw three (fence_is threads thread bytes x (numbered_takes total place (λ n. Fence n) bytes x is h))
      ] refl h
    ] refl e

-- a mark of a thread, with a gap of at most the limit
pub record GoodShort (threads thread : ℕ) (gapped : Gapped) : Type 0 where
  pub mark : is_mark threads thread gapped.mark ≡ true
  pub gap : gapped.gap ≤ 262144

pub short_mark_takes : (total threads thread : ℕ) (bytes : List ℕ) (x : Gapped × List ℕ) → IsInput bytes → short_mark_at total threads thread bytes ≡ Ok x → Takes bytes (short_mark_bytes x.0) x.1 × GoodShort threads thread x.0
unfolding short_mark_at
short_mark_takes total threads thread bytes x is e =
    let place = total - length bytes in
    let a = bind_ok (byte_at total bytes) (λ kind. wanted (leb 1 kind.0 && leb kind.0 3) (BadMark place) >>= λ known. short_at total kind.1 >>= λ gap. wanted (leb gap.0 262144) (BadMark place) >>= λ small. kind_at total threads thread place kind.0 gap.1 >>= λ mark. Ok (record { gap = gap.0; mark = mark.0 }, mark.1)) x e in
    let k = wanted_ok (leb 1 a.0.0 && leb a.0.0 3) (BadMark place) (λ _. short_at total a.0.1 >>= λ gap. wanted (leb gap.0 262144) (BadMark place) >>= λ small. kind_at total threads thread place a.0.0 gap.1 >>= λ mark. Ok (record { gap = gap.0; mark = mark.0 }, mark.1)) x a.2 in
    let g = bind_ok (short_at total a.0.1) (λ gap. wanted (leb gap.0 262144) (BadMark place) >>= λ small. kind_at total threads thread place a.0.0 gap.1 >>= λ mark. Ok (record { gap = gap.0; mark = mark.0 }, mark.1)) x k.1 in
    let s = wanted_ok (leb g.0.0 262144) (BadMark place) (λ _. kind_at total threads thread place a.0.0 g.0.1 >>= λ mark. Ok (record { gap = g.0.0; mark = mark.0 }, mark.1)) x g.2 in
    let m = bind_ok (kind_at total threads thread place a.0.0 g.0.1) (λ mark. Ok (record { gap = g.0.0; mark = mark.0 }, mark.1)) x s.1 in
    let t0 = byte_takes total bytes a.0.0 a.0.1 is a.1 in
    let t1 = (short_takes total a.0.1 g.0 t0.rest_is g.1).0 in
    let low : 1 ≤ a.0.0 = leb-true 1 a.0.0 (and_first (leb 1 a.0.0) (leb a.0.0 3) k.0) in
    let high : a.0.0 ≤ 3 = leb-true a.0.0 3 (and_second (leb 1 a.0.0) (leb a.0.0 3) k.0) in
    let kind = kind_takes total threads thread place a.0.0 g.0.1 m.0 t1.rest_is low high m.1 in
    let e12 = Takes-then a.0.1 (short_bytes g.0.0) g.0.1 (behind_gap m.0.0) m.0.1 t1 kind.takes in
    let e02 = Takes-then bytes (a.0.0 ∷ []) a.0.1 (short_bytes g.0.0 ++ behind_gap m.0.0) m.0.1 t0 e12 in
    let spelled : a.0.0 ∷ short_bytes g.0.0 ++ behind_gap m.0.0 ≡ short_mark_of g.0.0 m.0.0 = ap (λ (n : ℕ). n ∷ short_bytes g.0.0 ++ behind_gap m.0.0) (sym kind.kind_is) ∙ sym (mark_parts g.0.0 m.0.0) in
    let made : Gapped = record { gap = g.0.0; mark = m.0.0 } in
    subst (λ (y : Gapped × List ℕ). Takes bytes (short_mark_bytes y.0) y.1 × GoodShort threads thread y.0) (ok_is (made, m.0.1) x m.2)
    (subst (λ (t : List ℕ). Takes bytes t m.0.1) spelled e02, record { mark = kind.mark; gap = leb-true g.0.0 262144 s.0 })

kind_again : (total threads thread place : ℕ) (mark : Mark) (rest : List ℕ) → is_mark threads thread mark ≡ true → kind_at total threads thread place (kind_of mark) (behind_gap mark ++ rest) ≡ Ok (mark, rest)
kind_again total threads thread place (Join from upto) rest is =
    let named : (ltb from threads && not (eqb from thread)) ≡ true = and_first (ltb from threads && not (eqb from thread)) (ltb upto (2 ^ 64)) is in
    let small : upto < 2 ^ 64 = ltb-true upto (2 ^ 64) (and_second (ltb from threads && not (eqb from thread)) (ltb upto (2 ^ 64)) is) in
    rw (named, short_again total upto rest small) refl
kind_again total threads thread place (Draw number) rest is =
    let large : leb 1 number ≡ true = and_first (leb 1 number) (ltb number (2 ^ 64)) is in
    let small : number < 2 ^ 64 = ltb-true number (2 ^ 64) (and_second (leb 1 number) (ltb number (2 ^ 64)) is) in
    rw (short_again total number rest small, large) refl
kind_again total threads thread place (Fence number) rest is =
    let large : leb 1 number ≡ true = and_first (leb 1 number) (ltb number (2 ^ 64)) is in
    let small : number < 2 ^ 64 = ltb-true number (2 ^ 64) (and_second (leb 1 number) (ltb number (2 ^ 64)) is) in
    rw (short_again total number rest small, large) refl

pub short_mark_again : (total threads thread : ℕ) (gapped : Gapped) (rest : List ℕ) → GoodShort threads thread gapped → short_mark_at total threads thread (short_mark_bytes gapped ++ rest) ≡ Ok (gapped, rest)
unfolding short_mark_at
short_mark_again total threads thread gapped rest good =
    let after = behind_gap gapped.mark ++ rest in
    let regrouped : short_mark_bytes gapped ++ rest ≡ kind_of gapped.mark ∷ (short_bytes gapped.gap ++ after) =
    ap (λ (l : List ℕ). l ++ rest) (mark_parts gapped.gap gapped.mark) ∙ ap (λ (l : List ℕ). kind_of gapped.mark ∷ l) (append_assoc (short_bytes gapped.gap) (behind_gap gapped.mark) rest) in
    let place = total - length (kind_of gapped.mark ∷ (short_bytes gapped.gap ++ after)) in
    ap (short_mark_at total threads thread) regrouped
    ∙ rw (known_kind gapped.mark, short_again total gapped.gap after (omega (arith, good.gap)), le-leb gapped.gap 262144 good.gap, kind_again total threads thread place gapped.mark rest good.mark) refl

abbrev pub GoodShorts : ℕ → ℕ → List Gapped → Type 0
GoodShorts threads thread marks = AllGood {S = Unit {0}} (λ _. GoodShort threads thread) (λ state _. state) tt marks

pub short_marks_take : (total threads thread count : ℕ) (bytes : List ℕ) (x : List Gapped × List ℕ) → IsInput bytes → short_marks_at total threads thread count bytes ≡ Ok x → Takes bytes (flat_map short_mark_bytes x.0) x.1 × (length x.0 ≡ count) × GoodShorts threads thread x.0
short_marks_take total threads thread count bytes x is e =
    each_takes {S = Unit {0}} (λ _. short_mark_at total threads thread) (λ state _. state) short_mark_bytes (λ _. GoodShort threads thread) (λ _. short_mark_takes total threads thread) count tt bytes x is e

pub short_marks_again : (total threads thread : ℕ) (marks : List Gapped) (rest : List ℕ) → GoodShorts threads thread marks → short_marks_at total threads thread (length marks) (flat_map short_mark_bytes marks ++ rest) ≡ Ok (marks, rest)
short_marks_again total threads thread marks rest good =
    each_again {S = Unit {0}} (λ _. short_mark_at total threads thread) (λ state _. state) short_mark_bytes (λ _. GoodShort threads thread) (λ _ m r g. short_mark_again total threads thread m r g) tt marks rest good

-- a piece that may stand after that many marks
pub record GoodPiece (threads thread before : ℕ) (marks : List Gapped) : Type 0 where
  pub thread_is : thread < threads
  pub some_mark : 1 ≤ length marks
  pub few : before + length marks ≤ 4793490
  pub good : GoodShorts threads thread marks

pub piece_takes : (total threads place thread before : ℕ) (bytes : List ℕ) (x : List Gapped × List ℕ) → IsInput bytes → piece_at total threads place thread before bytes ≡ Ok x → Takes bytes (marks_bytes x.0) x.1 × GoodPiece threads thread before x.0
unfolding piece_at
piece_takes total threads place thread before bytes x is e =
    let k = wanted_ok (ltb thread threads) (BadPiece place) (λ _. short_at total bytes >>= λ count. wanted (leb 1 count.0) (BadPiece place) >>= λ some_mark. wanted (leb (before + count.0) 4793490) TooManyMarks >>= λ few. short_marks_at total threads thread count.0 count.1) x e in
    let c = bind_ok (short_at total bytes) (λ count. wanted (leb 1 count.0) (BadPiece place) >>= λ some_mark. wanted (leb (before + count.0) 4793490) TooManyMarks >>= λ few. short_marks_at total threads thread count.0 count.1) x k.1 in
    let s = wanted_ok (leb 1 c.0.0) (BadPiece place) (λ _. wanted (leb (before + c.0.0) 4793490) TooManyMarks >>= λ few. short_marks_at total threads thread c.0.0 c.0.1) x c.2 in
    let f = wanted_ok (leb (before + c.0.0) 4793490) TooManyMarks (λ _. short_marks_at total threads thread c.0.0 c.0.1) x s.1 in
    let t0 = (short_takes total bytes c.0 is c.1).0 in
    let t1 = short_marks_take total threads thread c.0.0 c.0.1 x t0.rest_is f.1 in
    let both = Takes-then bytes (short_bytes c.0.0) c.0.1 (flat_map short_mark_bytes x.0) x.1 t0 t1.0 in (
      subst (λ (n : ℕ). Takes bytes (short_bytes n ++ flat_map short_mark_bytes x.0) x.1) (sym t1.1) both,
      record {
        thread_is = ltb-true thread threads k.0;
        some_mark = rw t1.1 (leb-true 1 c.0.0 s.0);
        few = rw t1.1 (leb-true (before + c.0.0) 4793490 f.0);
        good = t1.2;
      },
    )

pub piece_again : (total threads place thread before : ℕ) (marks : List Gapped) (rest : List ℕ) → GoodPiece threads thread before marks → piece_at total threads place thread before (marks_bytes marks ++ rest) ≡ Ok (marks, rest)
unfolding piece_at
piece_again total threads place thread before marks rest good =
    let n = length marks in
    let regrouped : marks_bytes marks ++ rest ≡ short_bytes n ++ (flat_map short_mark_bytes marks ++ rest) = append_assoc (short_bytes n) (flat_map short_mark_bytes marks) rest in
    ap (piece_at total threads place thread before) regrouped
    ∙ rw (lt-ltb thread threads good.thread_is, short_again total n (flat_map short_mark_bytes marks ++ rest) (omega (arith, good.few)), le-leb 1 n good.some_mark, le-leb (before + n) 4793490 good.few) (short_marks_again total threads thread marks rest good.good)
