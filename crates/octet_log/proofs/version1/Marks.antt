-- A mark that is read is the mark that was written, and what was written is read again.
use Rattle.std.proofs.Common.{◌≡◌, ℕ, ◌+◌, ◌-◌, ◌*◌, ◌^◌, ◌<◌, ◌≤◌, ◌&&◌, true, false, cond, eqb, leb, List, [], ◌∷◌, ◌++◌, length, Option, Some, None, Ok, Err, refl, sym, ap, subst, ◌∙◌, arith}
use Rattle.std.specs.List.{flat_map, list_all}
use Rattle.std.specs.Int.{w32, w64, to_be_bytes}
use Rattle.std.specs.Prelude.{sum_by}
use Rattle.std.proofs.lemmas.List.Sums.{sum_by-cons}
use Rattle.std.proofs.lemmas.Bool.{eqb-true, leb-true, le-leb, ltb-true}
use Rattle.std.proofs.lemmas.List.{length-append}
use Rattle.std.proofs.lemmas.List.Concat.{flat_map-cons}
use Rattle.octet_model.specs.declared.event.Mark.{Mark}
use Rattle.octet_model.specs.declared.event.Mark.TheVariants.{Join, Draw, Fence}
use Rattle.octet_model.specs.declared.log.Gapped.{Gapped}
use Rattle.octet_model.specs.Log.{is_mark}
use Rattle.octet_model.specs.Texts.{mark_fields, bytes_of_mark, mark_bytes}
use Rattle.octet_log.specs.declared.cause.LogCause.TheVariants.{CutShort, BadMark}
use Rattle.octet_log.specs.Judging.{◌>>=◌, byte_at}
use Rattle.octet_log.specs.v1.Decoding.{number_at, spelled_mark, judged_mark, mark_at, marks_at}
use Rattle.octet_log.specs.Inputs.{IsInput}
use Rattle.octet_log.proofs.Valid.{and_first, and_second}
use Rattle.octet_log.proofs.Fields.{bind_ok, wanted_ok, ok_is, Takes, Takes-then, byte_takes, wide32, wide64, number_takes, number_again}
use Rattle.octet_log.proofs.Each.{AllGood, each_takes, each_again}

some_is : {A : Type 0} (x y : A) → Some x ≡ Some y → x ≡ y
some_is x y e = cc

some≢none : {A : Type 0} (x : A) → None ≡ Some x → ⊥
some≢none x e = cc

-- the mark that fields spell has these fields
pub spelled_is : (kind thread number gap : ℕ) (mark : Mark) → spelled_mark kind thread number ≡ Some mark → mark_fields kind gap thread number ≡ bytes_of_mark gap mark
spelled_is kind thread number gap mark e =
    elim (eqb kind 1) as (λ b. eqb kind 1 ≡ b → cond b (Some (Join thread number)) (cond (eqb kind 2 && eqb thread 0) (Some (Draw number)) (cond (eqb kind 3 && eqb thread 0) (Some (Fence number)) None)) ≡ Some mark → mark_fields kind gap thread number ≡ bytes_of_mark gap mark) [
      | true ↦ λ is h. rw (← some_is (Join thread number) mark h, eqb-true kind 1 is) refl
      | false ↦ λ _ h. elim (eqb kind 2 && eqb thread 0) as (λ b. (eqb kind 2 && eqb thread 0) ≡ b → cond b (Some (Draw number)) (cond (eqb kind 3 && eqb thread 0) (Some (Fence number)) None) ≡ Some mark → mark_fields kind gap thread number ≡ bytes_of_mark gap mark) [
        | true ↦ λ is h. rw (← some_is (Draw number) mark h, eqb-true kind 2 (and_first (eqb kind 2) (eqb thread 0) is), eqb-true thread 0 (and_second (eqb kind 2) (eqb thread 0) is)) refl
        | false ↦ λ _ h. elim (eqb kind 3 && eqb thread 0) as (λ b. (eqb kind 3 && eqb thread 0) ≡ b → cond b (Some (Fence number)) None ≡ Some mark → mark_fields kind gap thread number ≡ bytes_of_mark gap mark) [
          | true ↦ λ is h. rw (← some_is (Fence number) mark h, eqb-true kind 3 (and_first (eqb kind 3) (eqb thread 0) is), eqb-true thread 0 (and_second (eqb kind 3) (eqb thread 0) is)) refl
          | false ↦ λ _ h. absurd (some≢none mark h)
        ] refl h
      ] refl h
    ] refl e

-- a mark of a thread, whose gap is at most the accesses that are left
pub record GoodMark (threads thread left : ℕ) (gapped : Gapped) : Type 0 where
  pub gap : gapped.gap ≤ left
  pub mark : is_mark threads thread gapped.mark ≡ true

judged_ok : (place threads thread left gap : ℕ) (o : Option Mark) (g : Gapped) → judged_mark place threads thread left gap o ≡ Ok g → (g.gap ≡ gap) × (o ≡ Some g.mark) × GoodMark threads thread left g
judged_ok place threads thread left gap None g e = absurd cc
judged_ok place threads thread left gap (Some mark) g e =
    elim (leb gap left && is_mark threads thread mark) as (λ b. (leb gap left && is_mark threads thread mark) ≡ b → cond b (Ok (record { gap = gap; mark = mark })) (Err (BadMark place)) ≡ Ok g → (g.gap ≡ gap) × (Some mark ≡ Some g.mark) × GoodMark threads thread left g) [
      | true ↦ λ is h.
          let made : Gapped = record { gap = gap; mark = mark } in
          subst (λ (y : Gapped). (y.gap ≡ gap) × (Some mark ≡ Some y.mark) × GoodMark threads thread left y) (ok_is made g h)
          (refl, refl, record { gap = leb-true gap left (and_first _ _ is); mark = and_second (leb gap left) _ is })
      | false ↦ λ _ h. absurd cc
    ] refl e

judged_again : (place threads thread left : ℕ) (g : Gapped) → GoodMark threads thread left g → judged_mark place threads thread left g.gap (Some g.mark) ≡ Ok g
judged_again place threads thread left g good = rw (le-leb g.gap left good.gap, good.mark) refl

pub mark_takes : (total threads thread left : ℕ) (bytes : List ℕ) (x : Gapped × List ℕ) → IsInput bytes → mark_at total threads thread left bytes ≡ Ok x → Takes bytes (mark_bytes x.0) x.1 × GoodMark threads thread left x.0
unfolding mark_at
mark_takes total threads thread left bytes x is e =
    let place = total - length bytes in
    let whole = wanted_ok (leb 14 (length bytes)) (CutShort total) (λ _. byte_at total bytes >>= λ kind. number_at w32 total kind.1 >>= λ gap. byte_at total gap.1 >>= λ named. number_at w64 total named.1 >>= λ number. judged_mark place threads thread left gap.0 (spelled_mark kind.0 named.0 number.0) >>= λ mark. Ok (mark, number.1)) x e in
    let a = bind_ok (byte_at total bytes) (λ kind. number_at w32 total kind.1 >>= λ gap. byte_at total gap.1 >>= λ named. number_at w64 total named.1 >>= λ number. judged_mark place threads thread left gap.0 (spelled_mark kind.0 named.0 number.0) >>= λ mark. Ok (mark, number.1)) x whole.1 in
    let b = bind_ok (number_at w32 total a.0.1) (λ gap. byte_at total gap.1 >>= λ named. number_at w64 total named.1 >>= λ number. judged_mark place threads thread left gap.0 (spelled_mark a.0.0 named.0 number.0) >>= λ mark. Ok (mark, number.1)) x a.2 in
    let c = bind_ok (byte_at total b.0.1) (λ named. number_at w64 total named.1 >>= λ number. judged_mark place threads thread left b.0.0 (spelled_mark a.0.0 named.0 number.0) >>= λ mark. Ok (mark, number.1)) x b.2 in
    let d = bind_ok (number_at w64 total c.0.1) (λ number. judged_mark place threads thread left b.0.0 (spelled_mark a.0.0 c.0.0 number.0) >>= λ mark. Ok (mark, number.1)) x c.2 in
    let f = bind_ok (judged_mark place threads thread left b.0.0 (spelled_mark a.0.0 c.0.0 d.0.0)) (λ mark. Ok (mark, d.0.1)) x d.2 in
    let t0 = byte_takes total bytes a.0.0 a.0.1 is a.1 in
    let t1 = (number_takes w32 (2 ^ 32) wide32 total a.0.1 b.0.0 b.0.1 t0.rest_is b.1).0 in
    let t2 = byte_takes total b.0.1 c.0.0 c.0.1 t1.rest_is c.1 in
    let t3 = (number_takes w64 (2 ^ 64) wide64 total c.0.1 d.0.0 d.0.1 t2.rest_is d.1).0 in
    let e23 = Takes-then b.0.1 (c.0.0 ∷ []) c.0.1 (to_be_bytes w64 d.0.0) d.0.1 t2 t3 in
    let e13 = Takes-then a.0.1 (to_be_bytes w32 b.0.0) b.0.1 (c.0.0 ∷ to_be_bytes w64 d.0.0) d.0.1 t1 e23 in
    let e03 = Takes-then bytes (a.0.0 ∷ []) a.0.1 (to_be_bytes w32 b.0.0 ++ c.0.0 ∷ to_be_bytes w64 d.0.0) d.0.1 t0 e13 in
    let j = judged_ok place threads thread left b.0.0 (spelled_mark a.0.0 c.0.0 d.0.0) f.0 f.1 in
    let fields : mark_fields a.0.0 b.0.0 c.0.0 d.0.0 ≡ mark_bytes f.0 = spelled_is a.0.0 c.0.0 d.0.0 b.0.0 f.0.mark j.1 ∙ ap (λ n. bytes_of_mark n f.0.mark) (sym j.0) in
    let whole_mark : Takes bytes (mark_bytes f.0) d.0.1 = subst (λ (t : List ℕ). Takes bytes t d.0.1) fields e03 in
    subst (λ (y : Gapped × List ℕ). Takes bytes (mark_bytes y.0) y.1 × GoodMark threads thread left y.0) (ok_is (f.0, d.0.1) x f.2) (whole_mark, j.2)

fields_again : (total threads thread left kind gap named number : ℕ) (rest : List ℕ) → gap < 2 ^ 32 → number < 2 ^ 64
    → mark_at total threads thread left (mark_fields kind gap named number ++ rest) ≡ (judged_mark (total - length (mark_fields kind gap named number ++ rest)) threads thread left gap (spelled_mark kind named number) >>= λ mark. Ok (mark, rest))
unfolding mark_at
fields_again total threads thread left kind gap named number rest small fits =
    let whole : leb 14 (length (mark_fields kind gap named number ++ rest)) ≡ true = le-leb 14 _ (omega (arith, length-append (mark_fields kind gap named number) rest)) in
    rw (whole, number_again w32 (2 ^ 32) wide32 total gap (named ∷ to_be_bytes w64 number ++ rest) small, number_again w64 (2 ^ 64) wide64 total number rest fits) refl

pub mark_again_at : (total threads thread left gap : ℕ) (mark : Mark) (rest : List ℕ) → left < 2 ^ 32 → gap ≤ left → is_mark threads thread mark ≡ true → mark_at total threads thread left (bytes_of_mark gap mark ++ rest) ≡ Ok (record { gap = gap; mark = mark }, rest)
mark_again_at total threads thread left gap (Join from upto) rest small within is =
    fields_again total threads thread left 1 gap from upto rest (omega (arith, small, within)) (ltb-true _ _ (and_second _ _ is))
    ∙ ap (λ r. r >>= λ mark. Ok (mark, rest)) (judged_again (total - length (mark_fields 1 gap from upto ++ rest)) threads thread left (record { gap = gap; mark = Join from upto }) (record { gap = within; mark = is }))
mark_again_at total threads thread left gap (Draw number) rest small within is =
    fields_again total threads thread left 2 gap 0 number rest (omega (arith, small, within)) (ltb-true _ _ (and_second _ _ is))
    ∙ ap (λ r. r >>= λ mark. Ok (mark, rest)) (judged_again (total - length (mark_fields 2 gap 0 number ++ rest)) threads thread left (record { gap = gap; mark = Draw number }) (record { gap = within; mark = is }))
mark_again_at total threads thread left gap (Fence number) rest small within is =
    fields_again total threads thread left 3 gap 0 number rest (omega (arith, small, within)) (ltb-true _ _ (and_second _ _ is))
    ∙ ap (λ r. r >>= λ mark. Ok (mark, rest)) (judged_again (total - length (mark_fields 3 gap 0 number ++ rest)) threads thread left (record { gap = gap; mark = Fence number }) (record { gap = within; mark = is }))

-- a mark has 14 bytes
pub length-bytes_of_mark : (gap : ℕ) (mark : Mark) → length (bytes_of_mark gap mark) ≡ 14
length-bytes_of_mark gap (Join from upto) = refl
length-bytes_of_mark gap (Draw number) = refl
length-bytes_of_mark gap (Fence number) = refl

pub length-marks : (marks : List Gapped) → length (flat_map mark_bytes marks) ≡ 14 * length marks
length-marks [] = refl
length-marks (m ∷ ms) = rw flat_map-cons (omega (arith, length-append (mark_bytes m) (flat_map mark_bytes ms), length-bytes_of_mark m.gap m.mark, length-marks ms))

-- what is left of a thread's accesses after a mark
abbrev pub accesses_left : ℕ → Gapped → ℕ
accesses_left left mark = left - mark.gap

abbrev pub GoodMarks : ℕ → ℕ → ℕ → List Gapped → Type 0
GoodMarks threads thread left marks = AllGood (GoodMark threads thread) accesses_left left marks

pub marks_are : (threads thread left : ℕ) (marks : List Gapped) → GoodMarks threads thread left marks → (sum_by (λ m. m.gap) marks ≤ left) × (list_all (λ m. is_mark threads thread m.mark) marks ≡ true)
marks_are threads thread left [] good = (omega arith, refl)
marks_are threads thread left (m ∷ ms) good =
    let rest = marks_are threads thread (left - m.gap) ms good.1 in
    (rw (sum_by-cons (λ m. m.gap) m ms) (omega (arith, good.0.gap, rest.0)), rw good.0.mark rest.1)

pub are_marks : (threads thread left : ℕ) (marks : List Gapped) → sum_by (λ m. m.gap) marks ≤ left → list_all (λ m. is_mark threads thread m.mark) marks ≡ true → GoodMarks threads thread left marks
are_marks threads thread left [] sum all = tt
are_marks threads thread left (m ∷ ms) sum all =
    let more : m.gap + sum_by (λ m. m.gap) ms ≤ left = rw (sum_by-cons (λ m. m.gap) m ms) at sum in
    (record { gap = omega (arith, more); mark = and_first _ _ all }, are_marks threads thread (left - m.gap) ms (omega (arith, more)) (and_second _ _ all))

pub marks_take : (total threads thread accesses count : ℕ) (bytes : List ℕ) (x : List Gapped × List ℕ) → IsInput bytes → marks_at total threads thread accesses count bytes ≡ Ok x → Takes bytes (flat_map mark_bytes x.0) x.1 × (length x.0 ≡ count) × GoodMarks threads thread accesses x.0
marks_take total threads thread accesses count bytes x is e =
    each_takes (mark_at total threads thread) accesses_left mark_bytes (GoodMark threads thread) (mark_takes total threads thread) count accesses bytes x is e

-- a mark at a number of accesses of 32 bits
pub record GoodMark32 (threads thread left : ℕ) (gapped : Gapped) : Type 0 where
  pub good : GoodMark threads thread left gapped
  pub small : left < 2 ^ 32

pub all_small : (threads thread left : ℕ) (marks : List Gapped) → left < 2 ^ 32 → GoodMarks threads thread left marks → AllGood (GoodMark32 threads thread) accesses_left left marks
all_small threads thread left [] small good = tt
all_small threads thread left (m ∷ ms) small good = (record { good = good.0; small = small }, all_small threads thread (left - m.gap) ms (omega (arith, small)) good.1)

pub marks_again : (total threads thread accesses : ℕ) (marks : List Gapped) (rest : List ℕ) → accesses < 2 ^ 32 → GoodMarks threads thread accesses marks → marks_at total threads thread accesses (length marks) (flat_map mark_bytes marks ++ rest) ≡ Ok (marks, rest)
marks_again total threads thread accesses marks rest small good =
    each_again (mark_at total threads thread) accesses_left mark_bytes (GoodMark32 threads thread)
    (λ left m r g. mark_again_at total threads thread left m.gap m.mark r g.small g.good.gap g.good.mark) accesses marks rest (all_small threads thread accesses marks small good)
