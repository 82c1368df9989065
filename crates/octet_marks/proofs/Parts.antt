-- Bodies read as loops do, and their lengths.
use Rattle.std.proofs.Common.{◌≡◌, ℕ, zero, suc, ◌+◌, ◌-◌, ◌*◌, ◌/◌, ◌%◌, ◌<◌, ◌≤◌, cond, ltb, true, false, List, [], ◌∷◌, ◌++◌, length, take, drop, Ok, Err, refl, sym, ap, ◌∙◌, append_assoc, arith}
use Rattle.std.specs.Prelude.{slice_get}
use Rattle.std.specs.List.{flat_map, list_all}
use Rattle.std.specs.Int.{from_be_bytes, to_be_bytes, w64}
use Rattle.std.proofs.lemmas.List.{length-append, append-nil}
use Rattle.std.proofs.lemmas.List.Concat.{flat_map-cons}
use Rattle.octet_model.specs.Log.{is_mark}
use Rattle.octet_model.specs.declared.log.Gapped.{Gapped}
use Rattle.octet_log.specs.v2.Short.{groups, short_bytes}
use Rattle.octet_marks.specs.declared.cause.MarksCause.TheVariants.{BadMark}
use Rattle.octet_marks.specs.declared.piece.Block.{Block}
use Rattle.octet_marks.specs.declared.piece.Head.{Head}
use Rattle.octet_marks.specs.declared.progress.Progress.{Progress}
use Rattle.octet_marks.specs.Bodies.{head_body, block_body, numbers_at}
use Rattle.octet_marks.specs.Marks.{source_of, number_of, last_number, step_from, mark_bytes, marks_bytes}
use Rattle.octet_marks.specs.Standing.{standing_at, advanced, block_after}

pub numbers_go : (read bytes : List ℕ) (count i : ℕ) (rest : List ℕ) → i < count → read ++ numbers_at (count - i) rest ≡ bytes → (read ++ from_be_bytes w64 (take 8 rest) ∷ []) ++ numbers_at (count - (i + 1)) (drop 8 rest) ≡ bytes
unfolding numbers_at
numbers_go read bytes count i rest more so_far =
    let k : count - i ≡ suc (count - (i + 1)) = omega arith in
    append_assoc read (from_be_bytes w64 (take 8 rest) ∷ []) (numbers_at (count - (i + 1)) (drop 8 rest))
    ∙ sym (ap (λ n. read ++ numbers_at n rest) k) ∙ so_far

pub numbers_end : (read bytes : List ℕ) (count i : ℕ) (rest : List ℕ) → count ≤ i → read ++ numbers_at (count - i) rest ≡ bytes → read ≡ bytes
unfolding numbers_at
numbers_end read bytes count i rest done so_far =
    let k : count - i ≡ 0 = omega arith in
    sym (ap (λ n. read ++ numbers_at n rest) k ∙ append-nil read) ∙ so_far

pub marks_fail : (threads : List Progress) (block : Block) (before : Progress) → standing_at (slice_get threads block.thread) block.first ≡ Ok before
    → list_all (λ m. is_mark (length threads) block.thread m.mark) block.marks ≡ false → block_after threads block ≡ Err BadMark
unfolding block_after
marks_fail threads block before stands bad = rw (stands, bad) refl

pub marks_pass : (threads : List Progress) (block : Block) (before : Progress) → standing_at (slice_get threads block.thread) block.first ≡ Ok before
    → list_all (λ m. is_mark (length threads) block.thread m.mark) block.marks ≡ true → block_after threads block ≡ advanced before block
unfolding block_after
marks_pass threads block before stands good = rw (stands, good) refl

-- a short number has at most ten bytes
few_groups : (more number : ℕ) → length (groups more number) ≤ suc more
unfolding groups
few_groups zero number = omega arith
few_groups (suc more) number =
    elim (ltb number 128) as (λ b. length (cond b (number ∷ []) ((number % 128 + 128) ∷ groups more (number / 128))) ≤ suc (suc more)) [
      | true ↦ omega arith
      | false ↦ let rest = few_groups more (number / 128) in omega (arith, rest)
    ]

short_mark : (earlier : List Gapped) (gapped : Gapped) → length (mark_bytes earlier gapped) ≤ 21
short_mark earlier gapped =
    let step = step_from (last_number (source_of gapped.mark) 0 earlier) (number_of gapped.mark) in
    omega (arith, length-append (short_bytes gapped.gap) (short_bytes step), few_groups 9 gapped.gap, few_groups 9 step)

-- marks have at most 21 bytes each
pub short_marks : (earlier marks : List Gapped) → length (marks_bytes earlier marks) ≤ 21 * length marks
short_marks earlier [] = omega arith
short_marks earlier (gapped ∷ more) =
    omega (arith, length-append (mark_bytes earlier gapped) (marks_bytes (earlier ++ gapped ∷ []) more), short_mark earlier gapped, short_marks (earlier ++ gapped ∷ []) more)

pub numbers_length : (numbers : List ℕ) → length (flat_map (to_be_bytes w64) numbers) ≡ 8 * length numbers
numbers_length [] = refl
numbers_length (number ∷ numbers) =
    ap (λ (l : List ℕ). length l) (flat_map-cons (to_be_bytes w64) number numbers) ∙ length-append (to_be_bytes w64 number) (flat_map (to_be_bytes w64) numbers) ∙ omega (arith, numbers_length numbers)

pub head_fits : (head : Head) → length head.declared.bytes ≡ 32 → length head.starts ≤ 65535 → length (head_body head) ≤ 1048576
head_fits head whole few = omega (arith, length-append head.declared.bytes (flat_map (to_be_bytes w64) head.starts), numbers_length head.starts)

pub block_fits : (block : Block) → length block.marks ≤ 40000 → length (block_body block) ≤ 1048576
block_fits block few = omega (arith, short_marks [] block.marks)
