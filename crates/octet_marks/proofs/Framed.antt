-- A frame that was written is read again, and so is the piece in it, whatever stands after it.
use Rattle.std.proofs.Common.{◌≡◌, ℕ, ◌+◌, ◌≤◌, ◌&&◌, true, false, cond, eqb, ltb, leb, List, ◌∷◌, ◌++◌, length, take, drop, Some, Ok, Err, refl, sym, ap, ◌∙◌, append_assoc, arith}
use Rattle.std.specs.Prelude.{codes, Result, slice_index, slice_set, replicate}
use Rattle.std.specs.Int.{w32, from_be_bytes, to_be_bytes}
use Rattle.std.specs.Str.{bytes_eq}
use Rattle.std.proofs.lemmas.Bool.{le-ltb, le-leb, eq-eqb}
use Rattle.std.proofs.lemmas.List.{take_at, drop_at, length-append}
use Rattle.std.proofs.lemmas.Slice.Eq.{bytes_eq-Decides}
use Rattle.octet_log.proofs.Fields.{wide32}
use Rattle.octet_marks.specs.declared.cause.MarksCause.{MarksCause}
use Rattle.octet_marks.specs.declared.cause.MarksCause.TheVariants.{BadLength, BadKind}
use Rattle.octet_marks.specs.declared.piece.Head.{Head}
use Rattle.octet_marks.specs.declared.piece.Block.{Block}
use Rattle.octet_marks.specs.declared.piece.End.{End}
use Rattle.octet_marks.specs.declared.piece.Piece.{Piece}
use Rattle.octet_marks.specs.declared.piece.Piece.TheVariants as pieces
use Rattle.octet_marks.specs.declared.progress.Progress.{Progress}
use Rattle.octet_marks.specs.Judging.{◌>>=◌, wanted}
use Rattle.octet_marks.specs.Bodies.{head_body, block_body, end_body, head_of, block_of, end_of}
use Rattle.octet_marks.specs.Frames.{checksum, front_bytes, frame_bytes, length_at, frame_at}
use Rattle.octet_marks.specs.Reading.{Read, fresh, piece_bytes, first_piece, block_piece, end_piece, later_piece, head_at, later_at, piece_at}
use Rattle.octet_marks.specs.Spellings.{IsPiece, threads_after}
use Rattle.octet_marks.specs.Standing.{block_after, end_after}
use Rattle.octet_marks.proofs.Again.{head_again, block_again, end_again}
use Rattle.octet_marks.proofs.Parts.{head_fits}

pub length_again : (body : ℕ) → body ≤ 1048576 → length_at (to_be_bytes w32 body ++ to_be_bytes w32 body) ≡ Ok body
unfolding length_at
length_again body few =
    let field = to_be_bytes w32 body in
    let once : from_be_bytes w32 (take 4 (field ++ field)) ≡ body = ap (from_be_bytes w32) (take_at field field 4 refl) ∙ wide32.again body (omega (arith, few)) in
    let again : from_be_bytes w32 (drop 4 (field ++ field)) ≡ body = ap (from_be_bytes w32) (drop_at field field 4 refl) ∙ wide32.again body (omega (arith, few)) in
    let same : (eqb (from_be_bytes w32 (take 4 (field ++ field))) (from_be_bytes w32 (drop 4 (field ++ field))) && leb (from_be_bytes w32 (take 4 (field ++ field))) 1048576) ≡ true =
    (λ i. eqb (once i) (again i) && leb (once i) 1048576) ∙ rw (eq-eqb body body refl, le-leb body 1048576 few) refl in
    (λ i. wanted (same i) BadLength >>= λ fits. Ok (once i))

-- what a frame is read as, by the tests that it passes
frame_by : (bytes : List ℕ) (body : ℕ) → ltb (length bytes) 9 ≡ false → length_at (drop 1 (take 9 bytes)) ≡ Ok body → ltb (length bytes) (9 + body + 8) ≡ false
    → bytes_eq (take 8 (drop (9 + body) bytes)) (checksum (take (9 + body) bytes)) ≡ true → frame_at bytes ≡ Ok (Some (slice_index bytes 0, drop 9 (take (9 + body) bytes), 9 + body + 8))
unfolding frame_at
frame_by bytes body started length-is whole same = rw (started, length-is, whole, same) refl

-- what a frame is read as, by its parts
frame_is : (sum rest : List ℕ) (kind : ℕ) (body : List ℕ) → sum ≡ checksum (front_bytes kind body) → length sum ≡ 8 → length body ≤ 1048576
    → frame_at (front_bytes kind body ++ (sum ++ rest)) ≡ Ok (Some (kind, body, 9 + length body + 8))
frame_is sum rest kind body sum-is sum-length few =
    let n = length body in
    let field = to_be_bytes w32 n in
    let header = kind ∷ (field ++ field) in
    let front = front_bytes kind body in
    let bytes = front ++ (sum ++ rest) in
    let front-is : header ++ body ≡ front = ap (λ (l : List ℕ). kind ∷ l) (append_assoc field field body) in
    let bytes-are : header ++ (body ++ (sum ++ rest)) ≡ bytes = sym (append_assoc header body (sum ++ rest)) ∙ ap (λ (l : List ℕ). l ++ (sum ++ rest)) front-is in
    let front-length : length front ≡ 9 + n = ap (λ (l : List ℕ). length l) (sym front-is) ∙ length-append header body in
    let long : length bytes ≡ 9 + n + (8 + length rest) = length-append front (sum ++ rest) ∙ omega (arith, front-length, length-append sum rest, sum-length) in
    let start : take 9 bytes ≡ header = ap (take 9) (sym bytes-are) ∙ take_at header (body ++ (sum ++ rest)) 9 refl in
    let length-is : length_at (drop 1 (take 9 bytes)) ≡ Ok n = ap (λ (l : List ℕ). length_at (drop 1 l)) start ∙ length_again n few in
    let taken : take (9 + n) bytes ≡ front = take_at front (sum ++ rest) (9 + n) front-length in
    let dropped : drop (9 + n) bytes ≡ sum ++ rest = drop_at front (sum ++ rest) (9 + n) front-length in
    let field-is : take 8 (drop (9 + n) bytes) ≡ checksum front = ap (take 8) dropped ∙ take_at sum rest 8 sum-length ∙ sum-is in
    let checked : checksum (take (9 + n) bytes) ≡ checksum front = ap checksum taken in
    let same : bytes_eq (take 8 (drop (9 + n) bytes)) (checksum (take (9 + n) bytes)) ≡ true = (bytes_eq-Decides (take 8 (drop (9 + n) bytes)) (checksum (take (9 + n) bytes))).1 (field-is ∙ sym checked) in
    let body-is : drop 9 (take (9 + n) bytes) ≡ body = ap (drop 9) (taken ∙ sym front-is) ∙ drop_at header body 9 refl in
    frame_by bytes n (le-ltb (length bytes) 9 (omega (arith, long))) length-is (le-ltb (length bytes) (9 + n + 8) (omega (arith, long))) same
    ∙ (λ i. Ok (Some (kind, body-is i, 9 + n + 8)))

checksum_length : (bytes : List ℕ) → length (checksum bytes) ≡ 8
checksum_length bytes = refl

pub frame_again : (kind : ℕ) (body rest : List ℕ) → length body ≤ 1048576 → frame_at (frame_bytes kind body ++ rest) ≡ Ok (Some (kind, body, 9 + length body + 8))
frame_again kind body rest few =
    ap frame_at (append_assoc (front_bytes kind body) (checksum (front_bytes kind body)) rest)
    ∙ frame_is (checksum (front_bytes kind body)) rest kind body refl (checksum_length (front_bytes kind body)) few

pub frame_length : (kind : ℕ) (body : List ℕ) → length (frame_bytes kind body) ≡ 9 + length body + 8
frame_length kind body =
    let field = to_be_bytes w32 (length body) in
    length-append (front_bytes kind body) (checksum (front_bytes kind body))
    ∙ omega (arith, length-append field (field ++ body), length-append field body)

-- the value of a reading that did not fail
pub bind_ok : {A B : Type 0} (r : Result A MarksCause) (f : A → Result B MarksCause) (y : B) → (r >>= f) ≡ Ok y → (x : A) × (r ≡ Ok x) × (f x ≡ Ok y)
bind_ok (Ok x) f y e = (x, refl, e)
bind_ok (Err d) f y e = absurd cc

pub later_of : (threads : List Progress) (body rest : List ℕ) (kind : ℕ) (read : Read) → length body ≤ 1048576 → later_piece threads kind body (9 + length body + 8) ≡ Ok read → later_at threads (frame_bytes kind body ++ rest) ≡ Ok (Some read)
unfolding later_at
later_of threads body rest kind read few is = rw (frame_again kind body rest few, is) refl

pub first_of : (body rest : List ℕ) (read : Read) → length body ≤ 1048576 → first_piece 0 body (9 + length body + 8) ≡ Ok read → head_at ((codes "OCTM" ++ 1 ∷ frame_bytes 0 body) ++ rest) ≡ Ok (Some read)
unfolding head_at
first_of body rest read few is =
    let bytes = (codes "OCTM" ++ 1 ∷ frame_bytes 0 body) ++ rest in
    let long : ltb (length bytes) 5 ≡ false = le-ltb (length bytes) 5 (omega arith) in
    rw (long, frame_again 0 body rest few, is) refl

block_read : (threads : List Progress) (block : Block) (size : ℕ) (after : Progress) → block_of (block_body block) ≡ Some block → block_after threads block ≡ Ok after → later_piece threads 1 (block_body block) size ≡ Ok (record { piece = pieces.Block block; threads = slice_set threads block.thread after; size = size })
unfolding later_piece block_piece
block_read threads block size after again is = rw (again, is) refl

end_read : (threads : List Progress) (end : End) (size : ℕ) (after : Progress) → end_of (end_body end) ≡ Some end → end_after threads end ≡ Ok after → later_piece threads 2 (end_body end) size ≡ Ok (record { piece = pieces.End end; threads = slice_set threads end.thread after; size = size })
unfolding later_piece end_piece
end_read threads end size after again is = rw (again, is) refl

head_read : (head : Head) (size : ℕ) → head_of (head_body head) ≡ Some head → first_piece 0 (head_body head) size ≡ Ok (record { piece = pieces.Head head; threads = replicate head.threads fresh; size = 5 + size })
unfolding first_piece
head_read head size again = rw again refl

-- a piece that may stand next is read, whatever stands after it
pub piece_again : (threads : List Progress) (piece : Piece) (after : List Progress) (rest : List ℕ) → IsPiece piece → threads_after threads piece ≡ Ok after
    → piece_at threads (piece_bytes piece ++ rest) ≡ Ok (Some (record { piece = piece; threads = after; size = length (piece_bytes piece) }))
piece_again threads (pieces.Head head) after rest is stands =
    elim (eqb (length threads) 0) as (λ b. cond b (Ok (replicate head.threads fresh)) (Err BadKind) ≡ Ok after
    → cond b (head_at (piece_bytes (pieces.Head head) ++ rest)) (later_at threads (piece_bytes (pieces.Head head) ++ rest)) ≡ Ok (Some (record { piece = pieces.Head head; threads = after; size = length (piece_bytes (pieces.Head head)) }))) [
      | true ↦ λ fresh-is.
          let body = head_body head in
          let few : length body ≤ 1048576 = head_fits head is.whole is.few_objects in
          let size : 5 + (9 + length body + 8) ≡ length (piece_bytes (pieces.Head head)) = omega (arith, frame_length 0 body) in
          let same : replicate head.threads fresh ≡ after = cc in
          first_of body rest (record { piece = pieces.Head head; threads = replicate head.threads fresh; size = 5 + (9 + length body + 8) }) few (head_read head (9 + length body + 8) (head_again head is))
          ∙ (λ i. Ok (Some (record { piece = pieces.Head head; threads = same i; size = size i })))
      | false ↦ λ fails. absurd cc
    ] stands
piece_again threads (pieces.Block block) after rest is stands =
    elim (eqb (length threads) 0) as (λ b. cond b (Err BadKind) (block_after threads block >>= λ progress. Ok (slice_set threads block.thread progress)) ≡ Ok after
    → cond b (head_at (piece_bytes (pieces.Block block) ++ rest)) (later_at threads (piece_bytes (pieces.Block block) ++ rest)) ≡ Ok (Some (record { piece = pieces.Block block; threads = after; size = length (piece_bytes (pieces.Block block)) }))) [
      | true ↦ λ fails. absurd cc
      | false ↦ λ stands.
          let body = block_body block in
          let p = bind_ok (block_after threads block) (λ progress. Ok (slice_set threads block.thread progress)) after stands in
          let same : slice_set threads block.thread p.0 ≡ after = cc in
          later_of threads body rest 1 (record { piece = pieces.Block block; threads = slice_set threads block.thread p.0; size = 9 + length body + 8 }) is.short (block_read threads block (9 + length body + 8) p.0 (block_again block is) p.1)
          ∙ (λ i. Ok (Some (record { piece = pieces.Block block; threads = same i; size = sym (frame_length 1 body) i })))
    ] stands
piece_again threads (pieces.End end) after rest is stands =
    elim (eqb (length threads) 0) as (λ b. cond b (Err BadKind) (end_after threads end >>= λ progress. Ok (slice_set threads end.thread progress)) ≡ Ok after
    → cond b (head_at (piece_bytes (pieces.End end) ++ rest)) (later_at threads (piece_bytes (pieces.End end) ++ rest)) ≡ Ok (Some (record { piece = pieces.End end; threads = after; size = length (piece_bytes (pieces.End end)) }))) [
      | true ↦ λ fails. absurd cc
      | false ↦ λ stands.
          let body = end_body end in
          let p = bind_ok (end_after threads end) (λ progress. Ok (slice_set threads end.thread progress)) after stands in
          let same : slice_set threads end.thread p.0 ≡ after = cc in
          later_of threads body rest 2 (record { piece = pieces.End end; threads = slice_set threads end.thread p.0; size = 9 + length body + 8 }) (omega arith) (end_read threads end (9 + length body + 8) p.0 (end_again end is) p.1)
          ∙ (λ i. Ok (Some (record { piece = pieces.End end; threads = same i; size = sym (frame_length 2 body) i })))
    ] stands
