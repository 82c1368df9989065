-- What was written is read again, whatever stands after it.
use Rattle.std.proofs.Common.{◌≡◌, ℕ, zero, suc, ◌+◌, ◌-◌, ◌*◌, ◌/◌, ◌%◌, ◌^◌, ◌<◌, ◌≤◌, true, false, cond, eqb, ltb, leb, List, [], ◌∷◌, ◌++◌, length, take, drop, Option, Some, None, refl, sym, ap, ◌∙◌, append_assoc, arith}
use Rattle.std.specs.Int.{Width, w32, w64, byte_len, from_be_bytes, to_be_bytes}
use Rattle.std.specs.List.{AllByRecursion, flat_map}
use Rattle.std.proofs.lemmas.Bool.{lt-ltb, le-ltb, le-leb, ltb-true, ltb-false, eq-eqb}
use Rattle.std.proofs.lemmas.List.{take_at, drop_at, length-append, append-nil}
use Rattle.std.proofs.lemmas.List.Concat.{flat_map-cons}
use Rattle.octet_model.specs.declared.event.Mark.{Mark}
use Rattle.octet_model.specs.declared.event.Mark.TheVariants.{Join, Draw, Fence}
use Rattle.octet_model.specs.declared.log.Gapped.{Gapped}
use Rattle.octet_log.specs.v2.Short.{groups, short_bytes}
use Rattle.octet_log.proofs.Fields.{IsWide, wide32, wide64}
use Rattle.octet_log.proofs.version2.Groups.{room, room_of_nine, room_more, groups_last, groups_more}
use Rattle.octet_marks.specs.declared.piece.Head.{Head}
use Rattle.octet_marks.specs.declared.piece.Block.{Block}
use Rattle.octet_marks.specs.declared.piece.End.{End}
use Rattle.octet_marks.proofs.Parts.{numbers_length}
use Rattle.octet_marks.specs.Fields.{◌>>=◌, bytes_at, number_at, groups_at, short_at}
use Rattle.octet_marks.specs.Marks.{source_of, number_of, mark_from, last_number, step_from, mark_bytes, marks_bytes, mark_after, mark_at, marks_at, marks_of}
use Rattle.octet_marks.specs.Bodies.{head_body, block_body, end_body, numbers_at, head_with, head_of, block_start, block_of, end_of}
use Rattle.octet_marks.specs.Spellings.{HasSource, IsSpelled, IsHead, IsBlock}

pub bytes_again : (count : ℕ) (field rest : List ℕ) → length field ≡ count → bytes_at count (field ++ rest) ≡ Some (field, rest)
bytes_again count field rest is =
    rw (le-ltb (length (field ++ rest)) count (omega (arith, length-append field rest)), take_at field rest count is, drop_at field rest count is) refl

pub number_again : (w : Width) (limit : ℕ) (wide : IsWide w limit) (number : ℕ) (rest : List ℕ) → number < limit → number_at w (to_be_bytes w number ++ rest) ≡ Some (number, rest)
number_again w limit wide number rest fits =
    ap (λ (found : Option (List ℕ × List ℕ)). found >>= λ field. Some (from_be_bytes w field.0, field.1)) (bytes_again (byte_len w) (to_be_bytes w number) rest (wide.len number))
    ∙ ap (λ (n : ℕ). Some (n, rest)) (wide.again number fits)

groups_again : (more number : ℕ) (rest : List ℕ) → number < room more → number < 2 ^ 64 → groups_at more (groups more number ++ rest) ≡ Some (number, rest)
unfolding groups_at groups room
groups_again zero number rest small fits = rw (lt-ltb number 128 small) refl
groups_again (suc more) number rest small fits =
    elim (ltb number 128) as (λ v. ltb number 128 ≡ v → groups_at (suc more) (groups (suc more) number ++ rest) ≡ Some (number, rest)) [
      | true ↦ λ is_last. ap (λ (l : List ℕ). groups_at (suc more) (l ++ rest)) (groups_last (suc more) number (ltb-true number 128 is_last)) ∙ rw is_last refl
      | false ↦ λ goes_on.
          let large : 128 ≤ number = ltb-false number 128 goes_on in
          let first : ltb (number % 128 + 128) 128 ≡ false = le-ltb (number % 128 + 128) 128 (omega arith) in
          let above : leb 1 (number / 128) ≡ true = le-leb 1 (number / 128) (omega (arith, large)) in
          let below : ltb (number / 128) (2 ^ 57) ≡ true = lt-ltb (number / 128) (2 ^ 57) (omega (arith, fits)) in
          let again : groups_at more (groups more (number / 128) ++ rest) ≡ Some (number / 128, rest) = groups_again more (number / 128) rest (room_more more number small) (omega (arith, fits)) in
          let whole : number % 128 + 128 - 128 + 128 * (number / 128) ≡ number = omega arith in
          ap (λ (l : List ℕ). groups_at (suc more) (l ++ rest)) (groups_more more number large)
          ∙ rw (first, again, above, below) (ap (λ (n : ℕ). Some (n, rest)) whole)
    ] refl

pub short_again : (number : ℕ) (rest : List ℕ) → number < 2 ^ 64 → short_at (short_bytes number ++ rest) ≡ Some (number, rest)
short_again number rest fits = groups_again 9 number rest (omega (arith, fits, room_of_nine)) fits

-- the numbers of marks that have bytes of their own fit into 64 bits
pub last_fits : (source before : ℕ) (marks : List Gapped) → before < 2 ^ 64 → AllByRecursion IsSpelled marks → last_number source before marks < 2 ^ 64
last_fits source before [] fits all = fits
last_fits source before (gapped ∷ marks) fits all =
    last_fits source (cond (eqb (source_of gapped.mark) source) (number_of gapped.mark) before) marks
    (elim (eqb (source_of gapped.mark) source) as (λ b. cond b (number_of gapped.mark) before < 2 ^ 64) [ true ↦ all.0.number | false ↦ fits ])
    all.1

stepped : (before number : ℕ) → before < 2 ^ 64 → number < 2 ^ 64 → (before + step_from before number) % 2 ^ 64 ≡ number
stepped before number small fits = omega arith

step_fits : (before number : ℕ) → step_from before number < 2 ^ 64
step_fits before number = omega arith

mark_is : (mark : Mark) → HasSource mark → mark_from (source_of mark) (number_of mark) ≡ Some mark
mark_is (Join from upto) is = rw (lt-ltb from 16 is) refl
mark_is (Draw number) is = refl
mark_is (Fence number) is = refl

pub mark_again : (earlier : List Gapped) (gapped : Gapped) (rest : List ℕ) → AllByRecursion IsSpelled earlier → IsSpelled gapped → mark_at earlier (mark_bytes earlier gapped ++ rest) ≡ Some (gapped, rest)
unfolding mark_at
mark_again earlier gapped rest all is =
    let source = source_of gapped.mark in
    let before = last_number source 0 earlier in
    let step = step_from before (number_of gapped.mark) in
    let small : before < 2 ^ 64 = last_fits source 0 earlier (omega arith) all in
    let regrouped : mark_bytes earlier gapped ++ rest ≡ source ∷ (short_bytes gapped.gap ++ (short_bytes step ++ rest)) = ap (λ (l : List ℕ). source ∷ l) (append_assoc (short_bytes gapped.gap) (short_bytes step) rest) in
    let after : mark_after earlier source gapped.gap step ≡ Some gapped =
    rw (stepped before (number_of gapped.mark) small is.number, mark_is gapped.mark is.source) refl in
    ap (mark_at earlier) regrouped
    ∙ rw (short_again gapped.gap (short_bytes step ++ rest) (omega (arith, is.gap)), lt-ltb gapped.gap (2 ^ 32) is.gap, short_again step rest (step_fits before (number_of gapped.mark)), after) refl

pub all_push : (marks : List Gapped) (gapped : Gapped) → AllByRecursion IsSpelled marks → IsSpelled gapped → AllByRecursion IsSpelled (marks ++ gapped ∷ [])
all_push [] gapped all is = (is, tt)
all_push (g ∷ marks) gapped all is = (all.0, all_push marks gapped all.1 is)

-- a mark has at least one byte
pub marks_long : (earlier marks : List Gapped) → length marks ≤ length (marks_bytes earlier marks)
marks_long earlier [] = omega arith
marks_long earlier (gapped ∷ marks) =
    omega (arith, length-append (mark_bytes earlier gapped) (marks_bytes (earlier ++ gapped ∷ []) marks), marks_long (earlier ++ gapped ∷ []) marks)

marks_again : (most : ℕ) (earlier marks : List Gapped) → length marks ≤ most → AllByRecursion IsSpelled earlier → AllByRecursion IsSpelled marks → marks_at most earlier (marks_bytes earlier marks) ≡ Some (earlier ++ marks)
unfolding marks_at
marks_again zero earlier [] few all are = ap (λ (l : List Gapped). Some l) (sym (append-nil earlier))
marks_again (suc most) earlier [] few all are = ap (λ (l : List Gapped). Some l) (sym (append-nil earlier))
marks_again zero earlier (gapped ∷ marks) few all are = absurd (omega (arith, few))
marks_again (suc most) earlier (gapped ∷ marks) few all are =
    ap (λ (found : Option (Gapped × List ℕ)). found >>= λ gapped. marks_at most (earlier ++ gapped.0 ∷ []) gapped.1) (mark_again earlier gapped (marks_bytes (earlier ++ gapped ∷ []) marks) all are.0)
    ∙ marks_again most (earlier ++ gapped ∷ []) marks (omega (arith, few)) (all_push earlier gapped all are.0) are.1
    ∙ ap (λ (l : List Gapped). Some l) (append_assoc earlier (gapped ∷ []) marks)

pub marks_of_again : (marks : List Gapped) → AllByRecursion IsSpelled marks → marks_of (marks_bytes [] marks) ≡ Some marks
marks_of_again marks are = marks_again (length (marks_bytes [] marks)) [] marks (marks_long [] marks) tt are

pub block_again : (block : Block) → IsBlock block → block_of (block_body block) ≡ Some block
unfolding block_of block_start
block_again block is =
    let marks = marks_bytes [] block.marks in
    let first = number_again w64 (2 ^ 64) wide64 block.first (to_be_bytes w32 block.gap ++ to_be_bytes w64 block.digest ++ marks) is.first in
    let gap = number_again w32 (2 ^ 32) wide32 block.gap (to_be_bytes w64 block.digest ++ marks) is.gap in
    let digest = number_again w64 (2 ^ 64) wide64 block.digest marks is.digest in
    rw (first, gap, digest, marks_of_again block.marks is.marks) refl

pub end_again : (end : End) → end.events < 2 ^ 64 → end_of (end_body end) ≡ Some end
unfolding end_of
end_again end fits =
    let made : ℕ → End = λ n. record { thread = end.thread; events = n } in
    let alone : to_be_bytes w64 end.events ++ [] ≡ to_be_bytes w64 end.events = append-nil (to_be_bytes w64 end.events) in
    let events : number_at w64 (to_be_bytes w64 end.events) ≡ Some (end.events, []) = ap (number_at w64) (sym alone) ∙ number_again w64 (2 ^ 64) wide64 end.events [] fits in
    ap (λ (found : Option (ℕ × List ℕ)). found >>= λ events. cond (eqb (length events.1) 0) (Some (made events.0)) None) events

pub numbers_again : (numbers : List ℕ) → AllByRecursion (λ number. number < 2 ^ 64) numbers → numbers_at (length numbers) (flat_map (to_be_bytes w64) numbers) ≡ numbers
unfolding numbers_at
numbers_again [] all = refl
numbers_again (number ∷ numbers) all =
    let field = to_be_bytes w64 number in
    let rest = flat_map (to_be_bytes w64) numbers in
    let first : from_be_bytes w64 (take 8 (field ++ rest)) ≡ number = ap (from_be_bytes w64) (take_at field rest 8 refl) ∙ wide64.again number all.0 in
    let others : numbers_at (length numbers) (drop 8 (field ++ rest)) ≡ numbers = ap (numbers_at (length numbers)) (drop_at field rest 8 refl) ∙ numbers_again numbers all.1 in
    ap (numbers_at (suc (length numbers))) (flat_map-cons (to_be_bytes w64) number numbers)
    ∙ (λ i. first i ∷ others i)

with_again : (head : Head) → IsHead head → head_with head.threads head.declared.bytes (flat_map (to_be_bytes w64) head.starts) ≡ Some head
unfolding head_with
with_again head is =
    let long = numbers_length head.starts in
    let count : length (flat_map (to_be_bytes w64) head.starts) / 8 ≡ length head.starts = omega (arith, long) in
    let whole : length (flat_map (to_be_bytes w64) head.starts) % 8 ≡ 0 = omega (arith, long) in
    rw (le-leb 1 head.threads is.some_thread, le-leb head.threads 16 is.few_threads, eq-eqb (length (flat_map (to_be_bytes w64) head.starts) % 8) 0 whole, count, le-leb (length head.starts) 65535 is.few_objects, numbers_again head.starts is.fit) refl

pub head_again : (head : Head) → IsHead head → head_of (head_body head) ≡ Some head
unfolding head_of
head_again head is =
    ap (λ (found : Option (List ℕ × List ℕ)). found >>= λ declared. head_with head.threads declared.0 declared.1) (bytes_again 32 head.declared.bytes (flat_map (to_be_bytes w64) head.starts) is.whole)
    ∙ with_again head is
