-- A piece that is read was written so, and the front of one is cut.
use Rattle.std.proofs.Common.{◌≡◌, ℕ, suc, ◌+◌, ◌<◌, ◌≤◌, true, false, cond, eqb, ltb, List, [], ◌∷◌, ◌++◌, length, take, drop, Option, Some, None, Ok, Err, refl, sym, ap, subst, ◌∙◌, append_assoc, arith, inl, inr}
use Rattle.std.specs.Prelude.{codes, Result, slice_index, slice_set, replicate}
use Rattle.std.specs.Int.{w32, to_be_bytes}
use Rattle.std.specs.Str.{bytes_eq}
use Rattle.std.proofs.lemmas.Bool.{ltb-false, eqb-true, cases_lt, lt-ltb, le-ltb, eq-eqb}
use Rattle.std.proofs.lemmas.List.{drop-drop, take_at, take-append-le, length-append}
use Rattle.std.proofs.lemmas.Slice.Eq.{bytes_eq-Decides}
use Rattle.octet_log.specs.Inputs.{AreBytes}
use Rattle.octet_log.proofs.Fields.{AreBytes-drop}
use Rattle.octet_marks.specs.declared.cause.MarksCause.{MarksCause}
use Rattle.octet_marks.specs.declared.cause.MarksCause.TheVariants.{NoMagic, BadVersion, BadKind}
use Rattle.octet_marks.specs.declared.piece.Head.{Head}
use Rattle.octet_marks.specs.declared.piece.Block.{Block}
use Rattle.octet_marks.specs.declared.piece.End.{End}
use Rattle.octet_marks.specs.declared.piece.Piece.{Piece}
use Rattle.octet_marks.specs.declared.piece.Piece.TheVariants as pieces
use Rattle.octet_marks.specs.declared.progress.Progress.{Progress}
use Rattle.octet_marks.specs.Laws.{IsReadFrom}
use Rattle.octet_marks.specs.Judging.{◌>>=◌, wanted}
use Rattle.octet_marks.specs.Bodies.{head_body, block_body, end_body, head_of, block_of, end_of}
use Rattle.octet_marks.specs.Frames.{checksum, front_bytes, frame_bytes, length_at, frame_at}
use Rattle.octet_marks.specs.Reading.{Read, fresh, spelled, piece_bytes, first_piece, block_piece, end_piece, later_piece, in_frame, head_at, later_at, piece_at}
use Rattle.octet_marks.specs.Spellings.{IsPiece, threads_after}
use Rattle.octet_marks.specs.Standing.{block_after, end_after}
use Rattle.octet_marks.proofs.Framed.{bind_ok, length_again, frame_length}
use Rattle.octet_marks.proofs.Parts.{head_fits}
use Rattle.octet_marks.proofs.Takes.{some_is}
use Rattle.octet_marks.proofs.Whole.{wanted_ok, done, ok_is, block_takes, end_takes, head_takes, IsFrameOf, frame_takes}

spelled_ok : {A : Type 0} (o : Option A) (x : A) → spelled o ≡ Ok x → o ≡ Some x
spelled_ok None x e = absurd cc
spelled_ok (Some y) x e = ap (λ z. Some z) (ok_is y x e)

abbrev pub read_block : List Progress → Block → Progress → ℕ → Read
read_block threads block after size = record { piece = pieces.Block block; threads = slice_set threads block.thread after; size = size }

abbrev pub read_end : List Progress → End → Progress → ℕ → Read
read_end threads end after size = record { piece = pieces.End end; threads = slice_set threads end.thread after; size = size }

abbrev pub read_head : Head → ℕ → Read
read_head head size = record { piece = pieces.Head head; threads = replicate head.threads fresh; size = 5 + size }

block_stands : (threads : List Progress) (block : Block) (after : Progress) → eqb (length threads) 0 ≡ false → block_after threads block ≡ Ok after → threads_after threads (pieces.Block block) ≡ Ok (slice_set threads block.thread after)
block_stands threads block after known is = rw (known, is) refl

end_stands : (threads : List Progress) (end : End) (after : Progress) → eqb (length threads) 0 ≡ false → end_after threads end ≡ Ok after → threads_after threads (pieces.End end) ≡ Ok (slice_set threads end.thread after)
end_stands threads end after known is = rw (known, is) refl

block_read : (threads : List Progress) (bytes body : List ℕ) (size : ℕ) (read : Read) → eqb (length threads) 0 ≡ false → IsFrameOf bytes (1, body, size) → block_piece threads body size ≡ Ok read → IsReadFrom threads bytes read
unfolding block_piece
block_read threads bytes body size read known frame e =
    let p = bind_ok (spelled (block_of body)) (λ block. block_after threads block >>= λ after. Ok (read_block threads block after size)) read e in
    let a = bind_ok (block_after threads p.0) (λ after. Ok (read_block threads p.0 after size)) read p.2 in
    let of = block_takes body p.0 frame.are (spelled_ok (block_of body) p.0 p.1) in
    subst (IsReadFrom threads bytes) (ok_is (read_block threads p.0 a.0 size) read a.2)
    (record {
      is = record { first = of.first; gap = of.gap; digest = of.digest; marks = of.marks; short = subst (λ (l : List ℕ). length l ≤ 1048576) of.parts frame.short };
      stands = block_stands threads p.0 a.0 known a.1;
      size = frame.size ∙ ap (λ (l : List ℕ). length (frame_bytes 1 l)) of.parts;
      parts = frame.parts ∙ ap (λ (l : List ℕ). frame_bytes 1 l ++ drop size bytes) of.parts;
    })

end_read : (threads : List Progress) (bytes body : List ℕ) (size : ℕ) (read : Read) → eqb (length threads) 0 ≡ false → IsFrameOf bytes (2, body, size) → end_piece threads body size ≡ Ok read → IsReadFrom threads bytes read
unfolding end_piece
end_read threads bytes body size read known frame e =
    let p = bind_ok (spelled (end_of body)) (λ end. end_after threads end >>= λ after. Ok (read_end threads end after size)) read e in
    let a = bind_ok (end_after threads p.0) (λ after. Ok (read_end threads p.0 after size)) read p.2 in
    let of = end_takes body p.0 frame.are (spelled_ok (end_of body) p.0 p.1) in
    subst (IsReadFrom threads bytes) (ok_is (read_end threads p.0 a.0 size) read a.2)
    (record {
      is = of.1;
      stands = end_stands threads p.0 a.0 known a.1;
      size = frame.size ∙ ap (λ (l : List ℕ). length (frame_bytes 2 l)) of.0;
      parts = frame.parts ∙ ap (λ (l : List ℕ). frame_bytes 2 l ++ drop size bytes) of.0;
    })

later_read : (threads : List Progress) (bytes : List ℕ) (kind : ℕ) (body : List ℕ) (size : ℕ) (read : Read) → eqb (length threads) 0 ≡ false → IsFrameOf bytes (kind, body, size) → later_piece threads kind body size ≡ Ok read → IsReadFrom threads bytes read
unfolding later_piece
later_read threads bytes kind body size read known frame e =
    elim (eqb kind 1) as (λ v. eqb kind 1 ≡ v → cond v (block_piece threads body size) (cond (eqb kind 2) (end_piece threads body size) (Err BadKind)) ≡ Ok read → IsReadFrom threads bytes read) [
      | true ↦ λ one h. block_read threads bytes body size read known (subst (λ (k : ℕ). IsFrameOf bytes (k, body, size)) (eqb-true kind 1 one) frame) h
      | false ↦ λ other h. elim (eqb kind 2) as (λ v. eqb kind 2 ≡ v → cond v (end_piece threads body size) (Err BadKind) ≡ Ok read → IsReadFrom threads bytes read) [
        | true ↦ λ two h. end_read threads bytes body size read known (subst (λ (k : ℕ). IsFrameOf bytes (k, body, size)) (eqb-true kind 2 two) frame) h
        | false ↦ λ none h. absurd cc
      ] refl h
    ] refl e

-- what a frame that was read gives
pub in_frame_ok : (piece : ℕ → List ℕ → ℕ → Result Read MarksCause) (frame : Option (ℕ × List ℕ × ℕ)) (read : Read) → in_frame piece frame ≡ Ok (Some read)
    → (found : ℕ × List ℕ × ℕ) × (frame ≡ Some found) × (piece found.0 found.1 found.2 ≡ Ok read)
in_frame_ok piece None read e = absurd cc
in_frame_ok piece (Some found) read e =
    let b = bind_ok (piece found.0 found.1 found.2) (λ x. Ok (Some x)) (Some read) e in
    (found, refl, b.1 ∙ ap (λ (x : Read). Ok x) (some_is b.0 read (ok_is (Some b.0) (Some read) b.2)))

pub later_takes : (threads : List Progress) (bytes : List ℕ) (read : Read) → eqb (length threads) 0 ≡ false → AreBytes bytes → later_at threads bytes ≡ Ok (Some read) → IsReadFrom threads bytes read
unfolding later_at
later_takes threads bytes read known are e =
    let b = bind_ok (frame_at bytes) (in_frame (later_piece threads)) (Some read) e in
    let f = in_frame_ok (later_piece threads) b.0 read b.2 in
    later_read threads bytes f.0.0 f.0.1 f.0.2 read known (frame_takes bytes f.0 are (b.1 ∙ ap (λ o. done o) f.1)) f.2

-- the magic and the version stand at the front
start_is : (bytes : List ℕ) → 5 ≤ length bytes → take 4 bytes ≡ codes "OCTM" → slice_index (drop 4 bytes) 0 ≡ 1 → bytes ≡ codes "OCTM" ++ 1 ∷ drop 5 bytes
start_is [] long magic version = absurd (omega (arith, long))
start_is (a ∷ []) long magic version = absurd (omega (arith, long))
start_is (a ∷ b ∷ []) long magic version = absurd (omega (arith, long))
start_is (a ∷ b ∷ c ∷ []) long magic version = absurd (omega (arith, long))
start_is (a ∷ b ∷ c ∷ d ∷ []) long magic version = absurd (omega (arith, long))
start_is (a ∷ b ∷ c ∷ d ∷ e ∷ rest) long magic version = λ i. magic i ++ version i ∷ rest

first_read : (threads : List Progress) (bytes body : List ℕ) (kind size : ℕ) (read : Read) → eqb (length threads) 0 ≡ true → bytes ≡ codes "OCTM" ++ 1 ∷ drop 5 bytes → IsFrameOf (drop 5 bytes) (kind, body, size) → first_piece kind body size ≡ Ok read → IsReadFrom threads bytes read
unfolding first_piece
first_read threads bytes body kind size read none start frame e =
    let k = wanted_ok (eqb kind 0) BadKind (λ known. spelled (head_of body) >>= λ head. Ok (read_head head size)) read e in
    let p = bind_ok (spelled (head_of body)) (λ head. Ok (read_head head size)) read k.1 in
    let of = head_takes body p.0 frame.are (spelled_ok (head_of body) p.0 p.1) in
    let zero-kind : kind ≡ 0 = eqb-true kind 0 k.0 in
    let sized : size ≡ length (frame_bytes 0 (head_body p.0)) = frame.size ∙ (λ i. length (frame_bytes (zero-kind i) (of.0 i))) in
    let behind : drop 5 bytes ≡ frame_bytes 0 (head_body p.0) ++ drop (5 + size) bytes = frame.parts ∙ (λ i. frame_bytes (zero-kind i) (of.0 i) ++ drop-drop size 5 bytes i) in
    subst (IsReadFrom threads bytes) (ok_is (read_head p.0 size) read p.2)
    (record {
      is = of.1;
      stands = rw none refl;
      size = omega (arith, sized);
      parts = start ∙ ap (λ (l : List ℕ). codes "OCTM" ++ 1 ∷ l) behind;
    })

pub head_read : (threads : List Progress) (bytes : List ℕ) (read : Read) → eqb (length threads) 0 ≡ true → AreBytes bytes → head_at bytes ≡ Ok (Some read) → IsReadFrom threads bytes read
unfolding head_at
head_read threads bytes read none are e =
    elim (ltb (length bytes) 5) as (λ v. ltb (length bytes) 5 ≡ v → cond v (Ok None) (wanted (bytes_eq (take 4 bytes) (codes "OCTM")) NoMagic >>= λ magic. wanted (eqb (slice_index (drop 4 bytes) 0) 1) BadVersion >>= λ version. frame_at (drop 5 bytes) >>= in_frame first_piece) ≡ Ok (Some read) → IsReadFrom threads bytes read) [
      | true ↦ λ cut h. absurd cc
      | false ↦ λ long h.
          let m = wanted_ok (bytes_eq (take 4 bytes) (codes "OCTM")) NoMagic (λ magic. wanted (eqb (slice_index (drop 4 bytes) 0) 1) BadVersion >>= λ version. frame_at (drop 5 bytes) >>= in_frame first_piece) (Some read) h in
          let v = wanted_ok (eqb (slice_index (drop 4 bytes) 0) 1) BadVersion (λ version. frame_at (drop 5 bytes) >>= in_frame first_piece) (Some read) m.1 in
          let b = bind_ok (frame_at (drop 5 bytes)) (in_frame first_piece) (Some read) v.1 in
          let f = in_frame_ok first_piece b.0 read b.2 in
          let start = start_is bytes (ltb-false (length bytes) 5 long) ((bytes_eq-Decides (take 4 bytes) (codes "OCTM")).0 m.0) (eqb-true (slice_index (drop 4 bytes) 0) 1 v.0) in
          first_read threads bytes f.0.1 f.0.0 f.0.2 read none start (frame_takes (drop 5 bytes) f.0 (AreBytes-drop 5 bytes are) (b.1 ∙ ap (λ o. done o) f.1)) f.2
    ] refl e

pub piece_takes : (threads : List Progress) (bytes : List ℕ) (read : Read) → AreBytes bytes → piece_at threads bytes ≡ Ok (Some read) → IsReadFrom threads bytes read
piece_takes threads bytes read are e =
    elim (eqb (length threads) 0) as (λ v. eqb (length threads) 0 ≡ v → cond v (head_at bytes) (later_at threads bytes) ≡ Ok (Some read) → IsReadFrom threads bytes read) [
      | true ↦ λ none h. head_read threads bytes read none are h
      | false ↦ λ some h. later_takes threads bytes read some are h
    ] refl e

-- a frame that is cut is read as nothing
short_frame : (front : List ℕ) → length front < 9 → frame_at front ≡ Ok None
unfolding frame_at
short_frame front short = rw (lt-ltb (length front) 9 short) refl

cut_frame : (front : List ℕ) (body : ℕ) → 9 ≤ length front → length_at (drop 1 (take 9 front)) ≡ Ok body → length front < 9 + body + 8 → frame_at front ≡ Ok None
unfolding frame_at
cut_frame front body begun length-is short = rw (le-ltb (length front) 9 begun, length-is, lt-ltb (length front) (9 + body + 8) short) refl

pub frame_cut : (kind : ℕ) (body front : List ℕ) (next : ℕ) (rest : List ℕ) → length body ≤ 1048576 → frame_bytes kind body ≡ front ++ next ∷ rest → frame_at front ≡ Ok None
frame_cut kind body front next rest few e =
    elim (cases_lt (length front) 9) [
      | inl short ↦ short_frame front short
      | inr begun ↦
          let n = length body in
          let field = to_be_bytes w32 n in
          let header = kind ∷ (field ++ field) in
          let sum = checksum (front_bytes kind body) in
          let whole : header ++ (body ++ sum) ≡ frame_bytes kind body = ap (λ (l : List ℕ). kind ∷ l) (append_assoc field field (body ++ sum) ∙ ap (λ (l : List ℕ). field ++ l) (sym (append_assoc field body sum)) ∙ sym (append_assoc field (field ++ body) sum)) in
          let start : take 9 front ≡ header = sym (take-append-le 9 front (next ∷ rest) begun) ∙ ap (take 9) (sym e ∙ sym whole) ∙ take_at header (body ++ sum) 9 refl in
          let length-is : length_at (drop 1 (take 9 front)) ≡ Ok n = ap (λ (l : List ℕ). length_at (drop 1 l)) start ∙ length_again n few in
          let long : length front + suc (length rest) ≡ 9 + n + 8 = sym (length-append front (next ∷ rest)) ∙ ap (λ (l : List ℕ). length l) (sym e) ∙ frame_length kind body in
          cut_frame front n begun length-is (omega (arith, long))
    ]

later_cut : (threads : List Progress) (kind : ℕ) (body front : List ℕ) (next : ℕ) (rest : List ℕ) → length body ≤ 1048576 → frame_bytes kind body ≡ front ++ next ∷ rest → later_at threads front ≡ Ok None
unfolding later_at
later_cut threads kind body front next rest few e = rw (frame_cut kind body front next rest few e) refl

head_cut : (body front : List ℕ) (next : ℕ) (rest : List ℕ) → length body ≤ 1048576 → codes "OCTM" ++ 1 ∷ frame_bytes 0 body ≡ front ++ next ∷ rest → head_at front ≡ Ok None
unfolding head_at
head_cut body [] next rest few e = refl
head_cut body (a ∷ []) next rest few e = refl
head_cut body (a ∷ b ∷ []) next rest few e = refl
head_cut body (a ∷ b ∷ c ∷ []) next rest few e = refl
head_cut body (a ∷ b ∷ c ∷ d ∷ []) next rest few e = refl
head_cut body (a ∷ b ∷ c ∷ d ∷ v ∷ front) next rest few e =
    let all = a ∷ b ∷ c ∷ d ∷ v ∷ front in
    let long : ltb (length all) 5 ≡ false = le-ltb (length all) 5 (omega arith) in
    let magic : take 4 all ≡ codes "OCTM" = sym (ap (λ (l : List ℕ). take 4 l) e) in
    let version : slice_index (drop 4 all) 0 ≡ 1 = sym (ap (λ (l : List ℕ). slice_index (drop 4 l) 0) e) in
    let behind : frame_bytes 0 body ≡ front ++ next ∷ rest = ap (λ (l : List ℕ). drop 5 l) e in
    rw (long, (bytes_eq-Decides (take 4 all) (codes "OCTM")).1 magic, eq-eqb (slice_index (drop 4 all) 0) 1 version, frame_cut 0 body front next rest few behind) refl

pub piece_cut : (threads : List Progress) (piece : Piece) (after : List Progress) (front : List ℕ) (next : ℕ) (rest : List ℕ) → IsPiece piece → threads_after threads piece ≡ Ok after → piece_bytes piece ≡ front ++ next ∷ rest → piece_at threads front ≡ Ok None
piece_cut threads (pieces.Head head) after front next rest is stands e =
    elim (eqb (length threads) 0) as (λ v. cond v (Ok (replicate head.threads fresh)) (Err BadKind) ≡ Ok after → cond v (head_at front) (later_at threads front) ≡ Ok None) [
      | true ↦ λ h. head_cut (head_body head) front next rest (head_fits head is.whole is.few_objects) e
      | false ↦ λ h. absurd cc
    ] stands
piece_cut threads (pieces.Block block) after front next rest is stands e =
    elim (eqb (length threads) 0) as (λ v. cond v (Err BadKind) (block_after threads block >>= λ progress. Ok (slice_set threads block.thread progress)) ≡ Ok after → cond v (head_at front) (later_at threads front) ≡ Ok None) [
      | true ↦ λ h. absurd cc
      | false ↦ λ h. later_cut threads 1 (block_body block) front next rest is.short e
    ] stands
piece_cut threads (pieces.End end) after front next rest is stands e =
    elim (eqb (length threads) 0) as (λ v. cond v (Err BadKind) (end_after threads end >>= λ progress. Ok (slice_set threads end.thread progress)) ≡ Ok after → cond v (head_at front) (later_at threads front) ≡ Ok None) [
      | true ↦ λ h. absurd cc
      | false ↦ λ h. later_cut threads 2 (end_body end) front next rest (omega arith) e
    ] stands
