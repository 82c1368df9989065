-- More bytes change nothing of what is read or refused, and a piece that is read has some of the bytes.
use Rattle.std.proofs.Common.{◌≡◌, ◌≢◌, ℕ, zero, suc, ◌+◌, ◌<◌, ◌≤◌, Bool, true, false, cond, eqb, ltb, List, [], ◌∷◌, ◌++◌, length, take, drop, Option, Some, None, Ok, Err, refl, sym, ap, subst, ◌∙◌, arith, inl, inr}
use Rattle.std.specs.Prelude.{codes, Result, slice_index}
use Rattle.std.specs.Str.{bytes_eq}
use Rattle.std.proofs.lemmas.Bool.{cases_lt, lt-ltb, le-ltb}
use Rattle.std.proofs.lemmas.List.{take-append-le, length-append, length-drop}
use Rattle.octet_marks.specs.declared.cause.MarksCause.{MarksCause}
use Rattle.octet_marks.specs.declared.cause.MarksCause.TheVariants.{NoMagic, BadVersion, BadKind, BadChecksum}
use Rattle.octet_marks.specs.declared.progress.Progress.{Progress}
use Rattle.octet_marks.specs.Judging.{◌>>=◌, wanted}
use Rattle.octet_marks.specs.Bodies.{head_of, block_of, end_of}
use Rattle.octet_marks.specs.Frames.{checksum, length_at, frame_at}
use Rattle.octet_marks.specs.Reading.{Read, spelled, first_piece, block_piece, end_piece, later_piece, in_frame, head_at, later_at, piece_at}
use Rattle.octet_marks.specs.Standing.{block_after, end_after}
use Rattle.octet_marks.proofs.Framed.{bind_ok}
use Rattle.octet_marks.proofs.Pieces.{in_frame_ok, read_block, read_end, read_head}
use Rattle.octet_marks.proofs.Takes.{some_is}
use Rattle.octet_marks.proofs.Whole.{wanted_ok, done, ok_is}

abbrev Frame : Type 0
Frame = ℕ × List ℕ × ℕ

-- the rest of a list after some of the first part
pub drop_front : (n : ℕ) (bytes more : List ℕ) → n ≤ length bytes → drop n (bytes ++ more) ≡ drop n bytes ++ more
drop_front zero bytes more within = refl
drop_front (suc n) [] more within = absurd (omega (arith, within))
drop_front (suc n) (byte ∷ bytes) more within = drop_front n bytes more (omega (arith, within))

-- a frame that is whole
abbrev whole_frame : List ℕ → ℕ → Result (Option Frame) MarksCause
whole_frame bytes body =
    wanted (bytes_eq (take 8 (drop (9 + body) bytes)) (checksum (take (9 + body) bytes))) BadChecksum >>= λ same. Ok (Some (slice_index bytes 0, drop 9 (take (9 + body) bytes), 9 + body + 8))

whole_more : (bytes more : List ℕ) (body : ℕ) → 9 + body + 8 ≤ length bytes → whole_frame (bytes ++ more) body ≡ whole_frame bytes body
whole_more [] more body within = absurd (omega (arith, within))
whole_more (byte ∷ bytes) more body within =
    let all = byte ∷ bytes in
    let front : take (9 + body) (all ++ more) ≡ take (9 + body) all = take-append-le (9 + body) all more (omega (arith, within)) in
    let sum : take 8 (drop (9 + body) (all ++ more)) ≡ take 8 (drop (9 + body) all) =
    ap (take 8) (drop_front (9 + body) all more (omega (arith, within))) ∙ take-append-le 8 (drop (9 + body) all) more (omega (arith, within, length-drop (9 + body) all)) in
    λ i. wanted (bytes_eq (sum i) (checksum (front i))) BadChecksum >>= λ same. Ok (Some (byte, drop 9 (front i), 9 + body + 8))

abbrev after_length : List ℕ → ℕ → Result (Option Frame) MarksCause
after_length bytes body = cond (ltb (length bytes) (9 + body + 8)) (Ok None) (whole_frame bytes body)

frame_begun : (bytes : List ℕ) → 9 ≤ length bytes → frame_at bytes ≡ (length_at (drop 1 (take 9 bytes)) >>= after_length bytes)
unfolding frame_at
frame_begun bytes begun = rw (le-ltb (length bytes) 9 begun) refl

frame_short : (bytes : List ℕ) → length bytes < 9 → frame_at bytes ≡ Ok None
unfolding frame_at
frame_short bytes short = rw (lt-ltb (length bytes) 9 short) refl

longer : (bytes more : List ℕ) (n : ℕ) → n ≤ length bytes → n ≤ length (bytes ++ more)
longer bytes more n within = omega (arith, within, length-append bytes more)

after_more : (bytes more : List ℕ) (judged : Result ℕ MarksCause) → (judged >>= after_length bytes) ≢ Ok None → (judged >>= after_length (bytes ++ more)) ≡ (judged >>= after_length bytes)
after_more bytes more (Err cause) decided = refl
after_more bytes more (Ok body) decided = elim (cases_lt (length bytes) (9 + body + 8)) [
  | inl short ↦ absurd (decided (rw (lt-ltb (length bytes) (9 + body + 8) short) refl))
  | inr long ↦ rw (le-ltb (length bytes) (9 + body + 8) long, le-ltb (length (bytes ++ more)) (9 + body + 8) (longer bytes more (9 + body + 8) long)) (whole_more bytes more body long)
]

frame_more : (bytes more : List ℕ) → frame_at bytes ≢ Ok None → frame_at (bytes ++ more) ≡ frame_at bytes
frame_more bytes more decided = elim (cases_lt (length bytes) 9) [
  | inl short ↦ absurd (decided (frame_short bytes short))
  | inr begun ↦
      let judged = length_at (drop 1 (take 9 bytes)) in
      let same : length_at (drop 1 (take 9 (bytes ++ more))) ≡ judged = ap (λ (l : List ℕ). length_at (drop 1 l)) (take-append-le 9 bytes more begun) in
      frame_begun (bytes ++ more) (longer bytes more 9 begun)
      ∙ ap (λ (r : Result ℕ MarksCause). r >>= after_length (bytes ++ more)) same
      ∙ after_more bytes more judged (λ none. decided (frame_begun bytes begun ∙ none))
      ∙ sym (frame_begun bytes begun)
]

-- what a frame gives, where it is whole or refused
given : (read : ℕ → List ℕ → ℕ → Result Read MarksCause) (bytes more : List ℕ) → (frame_at bytes >>= in_frame read) ≢ Ok None → (frame_at (bytes ++ more) >>= in_frame read) ≡ (frame_at bytes >>= in_frame read)
given read bytes more decided =
    ap (λ (r : Result (Option Frame) MarksCause). r >>= in_frame read) (frame_more bytes more (λ none. decided (ap (λ (r : Result (Option Frame) MarksCause). r >>= in_frame read) none)))

later_more : (threads : List Progress) (bytes more : List ℕ) → later_at threads bytes ≢ Ok None → later_at threads (bytes ++ more) ≡ later_at threads bytes
unfolding later_at
later_more threads bytes more decided = given (later_piece threads) bytes more decided

picked : (magic version : Bool) (one other : Result (Option Read) MarksCause) → (one ≢ Ok None → other ≡ one) → (wanted magic NoMagic >>= λ m. wanted version BadVersion >>= λ v. one) ≢ Ok None
    → (wanted magic NoMagic >>= λ m. wanted version BadVersion >>= λ v. other) ≡ (wanted magic NoMagic >>= λ m. wanted version BadVersion >>= λ v. one)
picked false version one other same decided = refl
picked true false one other same decided = refl
picked true true one other same decided = same decided

head_more : (bytes more : List ℕ) → head_at bytes ≢ Ok None → head_at (bytes ++ more) ≡ head_at bytes
unfolding head_at
head_more [] more decided = absurd (decided refl)
head_more (a ∷ []) more decided = absurd (decided refl)
head_more (a ∷ b ∷ []) more decided = absurd (decided refl)
head_more (a ∷ b ∷ c ∷ []) more decided = absurd (decided refl)
head_more (a ∷ b ∷ c ∷ d ∷ []) more decided = absurd (decided refl)
head_more (a ∷ b ∷ c ∷ d ∷ v ∷ bytes) more decided =
    let all = a ∷ b ∷ c ∷ d ∷ v ∷ bytes in
    let long : ltb (length all) 5 ≡ false = le-ltb (length all) 5 (omega arith) in
    let long_more : ltb (length (all ++ more)) 5 ≡ false = le-ltb (length (all ++ more)) 5 (longer all more 5 (omega arith)) in
    rw (long, long_more)
    (picked (bytes_eq (a ∷ b ∷ c ∷ d ∷ []) (codes "OCTM")) (eqb v 1) (frame_at bytes >>= in_frame first_piece) (frame_at (bytes ++ more) >>= in_frame first_piece) (given first_piece bytes more) (λ none. decided (rw long none)))

-- more bytes change nothing of a piece that is read, or refused
pub piece_more : (threads : List Progress) (bytes more : List ℕ) → piece_at threads bytes ≢ Ok None → piece_at threads (bytes ++ more) ≡ piece_at threads bytes
piece_more threads bytes more =
    elim (eqb (length threads) 0) as (λ b. cond b (head_at bytes) (later_at threads bytes) ≢ Ok None → cond b (head_at (bytes ++ more)) (later_at threads (bytes ++ more)) ≡ cond b (head_at bytes) (later_at threads bytes)) [
      | true ↦ head_more bytes more
      | false ↦ later_more threads bytes more
    ]

-- a piece has some of the bytes
abbrev IsSized : List ℕ → ℕ → Type 0
IsSized bytes size = (0 < size) × (size ≤ length bytes)

after_sized : (bytes : List ℕ) (body : ℕ) (frame : Frame) → after_length bytes body ≡ Ok (Some frame) → IsSized bytes frame.2
after_sized bytes body frame is = elim (cases_lt (length bytes) (9 + body + 8)) [
  | inl short ↦ (let never : done {A = Option Frame} None ≡ Ok (Some frame) = rw (lt-ltb (length bytes) (9 + body + 8) short) at is in absurd cc)
  | inr long ↦
      let whole : whole_frame bytes body ≡ Ok (Some frame) = rw (le-ltb (length bytes) (9 + body + 8) long) at is in
      let w = wanted_ok (bytes_eq (take 8 (drop (9 + body) bytes)) (checksum (take (9 + body) bytes))) BadChecksum (λ same. Ok (Some (slice_index bytes 0, drop 9 (take (9 + body) bytes), 9 + body + 8))) (Some frame) whole in
      let same : (slice_index bytes 0, drop 9 (take (9 + body) bytes), 9 + body + 8) ≡ frame = some_is (slice_index bytes 0, drop 9 (take (9 + body) bytes), 9 + body + 8) frame (ok_is (Some (slice_index bytes 0, drop 9 (take (9 + body) bytes), 9 + body + 8)) (Some frame) w.1) in
      subst (λ (f : Frame). IsSized bytes f.2) same (omega arith, long)
]

frame_sized : (bytes : List ℕ) (frame : Frame) → frame_at bytes ≡ Ok (Some frame) → IsSized bytes frame.2
frame_sized bytes frame is = elim (cases_lt (length bytes) 9) [
  | inl short ↦ (let never : done {A = Option Frame} None ≡ Ok (Some frame) = sym (frame_short bytes short) ∙ is in absurd cc)
  | inr begun ↦
      let b = bind_ok (length_at (drop 1 (take 9 bytes))) (after_length bytes) (Some frame) (sym (frame_begun bytes begun) ∙ is) in
      after_sized bytes b.0 frame b.2
]

block_sized : (threads : List Progress) (body : List ℕ) (size : ℕ) (read : Read) → block_piece threads body size ≡ Ok read → read.size ≡ size
unfolding block_piece
block_sized threads body size read e =
    let p = bind_ok (spelled (block_of body)) (λ block. block_after threads block >>= λ after. Ok (read_block threads block after size)) read e in
    let a = bind_ok (block_after threads p.0) (λ after. Ok (read_block threads p.0 after size)) read p.2 in
    ap (λ (r : Read). r.size) (sym (ok_is (read_block threads p.0 a.0 size) read a.2))

end_sized : (threads : List Progress) (body : List ℕ) (size : ℕ) (read : Read) → end_piece threads body size ≡ Ok read → read.size ≡ size
unfolding end_piece
end_sized threads body size read e =
    let p = bind_ok (spelled (end_of body)) (λ end. end_after threads end >>= λ after. Ok (read_end threads end after size)) read e in
    let a = bind_ok (end_after threads p.0) (λ after. Ok (read_end threads p.0 after size)) read p.2 in
    ap (λ (r : Read). r.size) (sym (ok_is (read_end threads p.0 a.0 size) read a.2))

later_sized : (threads : List Progress) (kind : ℕ) (body : List ℕ) (size : ℕ) (read : Read) → later_piece threads kind body size ≡ Ok read → read.size ≡ size
unfolding later_piece
later_sized threads kind body size read =
    elim (eqb kind 1) as (λ v. cond v (block_piece threads body size) (cond (eqb kind 2) (end_piece threads body size) (Err BadKind)) ≡ Ok read → read.size ≡ size) [
      | true ↦ λ h. block_sized threads body size read h
      | false ↦ elim (eqb kind 2) as (λ v. cond v (end_piece threads body size) (Err BadKind) ≡ Ok read → read.size ≡ size) [
        | true ↦ λ h. end_sized threads body size read h
        | false ↦ λ h. absurd cc
      ]
    ]

first_sized : (kind : ℕ) (body : List ℕ) (size : ℕ) (read : Read) → first_piece kind body size ≡ Ok read → read.size ≡ 5 + size
unfolding first_piece
first_sized kind body size read e =
    let k = wanted_ok (eqb kind 0) BadKind (λ known. spelled (head_of body) >>= λ head. Ok (read_head head size)) read e in
    let p = bind_ok (spelled (head_of body)) (λ head. Ok (read_head head size)) read k.1 in
    ap (λ (r : Read). r.size) (sym (ok_is (read_head p.0 size) read p.2))

later_has : (threads : List Progress) (bytes : List ℕ) (read : Read) → later_at threads bytes ≡ Ok (Some read) → IsSized bytes read.size
unfolding later_at
later_has threads bytes read e =
    let b = bind_ok (frame_at bytes) (in_frame (later_piece threads)) (Some read) e in
    let f = in_frame_ok (later_piece threads) b.0 read b.2 in
    subst (IsSized bytes) (sym (later_sized threads f.0.0 f.0.1 f.0.2 read f.2)) (frame_sized bytes f.0 (b.1 ∙ ap (λ o. done o) f.1))

head_has : (bytes : List ℕ) (read : Read) → head_at bytes ≡ Ok (Some read) → IsSized bytes read.size
unfolding head_at
head_has bytes read e = elim (cases_lt (length bytes) 5) [
  | inl short ↦ (let never : done {A = Option Read} None ≡ Ok (Some read) = rw (lt-ltb (length bytes) 5 short) at e in absurd cc)
  | inr long ↦
      let h = rw (le-ltb (length bytes) 5 long) at e in
      let m = wanted_ok (bytes_eq (take 4 bytes) (codes "OCTM")) NoMagic (λ magic. wanted (eqb (slice_index (drop 4 bytes) 0) 1) BadVersion >>= λ version. frame_at (drop 5 bytes) >>= in_frame first_piece) (Some read) h in
      let v = wanted_ok (eqb (slice_index (drop 4 bytes) 0) 1) BadVersion (λ version. frame_at (drop 5 bytes) >>= in_frame first_piece) (Some read) m.1 in
      let b = bind_ok (frame_at (drop 5 bytes)) (in_frame first_piece) (Some read) v.1 in
      let f = in_frame_ok first_piece b.0 read b.2 in
      let size = first_sized f.0.0 f.0.1 f.0.2 read f.2 in
      let frame = frame_sized (drop 5 bytes) f.0 (b.1 ∙ ap (λ o. done o) f.1) in
      (omega (arith, size), omega (arith, size, frame.1, length-drop 5 bytes, long))
]

pub piece_has : (threads : List Progress) (bytes : List ℕ) (read : Read) → piece_at threads bytes ≡ Ok (Some read) → (0 < read.size) × (read.size ≤ length bytes)
piece_has threads bytes read =
    elim (eqb (length threads) 0) as (λ b. cond b (head_at bytes) (later_at threads bytes) ≡ Ok (Some read) → (0 < read.size) × (read.size ≤ length bytes)) [
      | true ↦ head_has bytes read
      | false ↦ later_has threads bytes read
    ]
