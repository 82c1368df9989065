-- Bodies, frames and pieces that are read were written so.
use Rattle.std.proofs.Common.{◌≡◌, ℕ, zero, suc, ◌+◌, ◌*◌, ◌/◌, ◌%◌, ◌^◌, ◌<◌, ◌≤◌, ◌&&◌, Bool, true, false, cond, eqb, ltb, leb, List, [], ◌∷◌, ◌++◌, length, take, drop, Option, Some, None, Ok, refl, sym, ap, subst, ◌∙◌, append_assoc, arith}
use Rattle.std.specs.Prelude.{Result, slice_index}
use Rattle.std.specs.Int.{w32, w64, from_be_bytes, to_be_bytes}
use Rattle.std.specs.List.{AllByRecursion, flat_map}
use Rattle.std.specs.Str.{bytes_eq}
use Rattle.std.proofs.lemmas.Bool.{ltb-false, leb-true, eqb-true}
use Rattle.std.proofs.lemmas.List.{take-append-drop, take-take, drop-drop, length-take, length-drop, nil_from_length, append-nil}
use Rattle.std.proofs.lemmas.List.Concat.{flat_map-cons}
use Rattle.std.proofs.lemmas.Slice.Eq.{bytes_eq-Decides}
use Rattle.octet_log.specs.Inputs.{AreBytes}
use Rattle.octet_log.proofs.Fields.{wide32, wide64, AreBytes-drop, AreBytes-take}
use Rattle.octet_log.proofs.Valid.{and_first, and_second}
use Rattle.octet_marks.specs.declared.cause.MarksCause.{MarksCause}
use Rattle.octet_marks.specs.declared.cause.MarksCause.TheVariants.{BadLength, BadChecksum}
use Rattle.octet_marks.specs.declared.piece.Head.{Head}
use Rattle.octet_marks.specs.declared.piece.Block.{Block}
use Rattle.octet_marks.specs.declared.piece.End.{End}
use Rattle.octet_marks.specs.Fields as fields
use Rattle.octet_marks.specs.Fields.{byte_at, bytes_at, number_at}
use Rattle.octet_marks.specs.Judging.{◌>>=◌, wanted}
use Rattle.octet_marks.specs.Marks.{marks_of}
use Rattle.octet_marks.specs.Bodies.{head_body, block_body, end_body, numbers_at, head_with, head_of, block_start, block_of, with_marks, end_of}
use Rattle.octet_marks.specs.Frames.{checksum, front_bytes, frame_bytes, length_at, frame_at}
use Rattle.octet_marks.specs.Spellings.{IsSpelled, IsHead}
use Rattle.octet_marks.proofs.Framed.{bind_ok, frame_length}
use Rattle.octet_marks.proofs.Takes.{some_of, some_is, some_or, byte_takes, bytes_take, number_takes, marks_of_take}

-- a block that was read from a body
pub record IsBlockOf (body : List ℕ) (block : Block) : Type 0 where
  pub parts : body ≡ block_body block
  pub first : block.first < 2 ^ 64
  pub gap : block.gap < 2 ^ 32
  pub digest : block.digest < 2 ^ 64
  pub marks : AllByRecursion IsSpelled block.marks

-- a block without its marks that was read from the front of a body
record IsStartOf (body : List ℕ) (x : Block × List ℕ) : Type 0 where
  parts : body ≡ x.0.thread ∷ (to_be_bytes w64 x.0.first ++ (to_be_bytes w32 x.0.gap ++ (to_be_bytes w64 x.0.digest ++ x.1)))
  rest : AreBytes x.1
  first : x.0.first < 2 ^ 64
  gap : x.0.gap < 2 ^ 32
  digest : x.0.digest < 2 ^ 64

abbrev started : ℕ → ℕ → ℕ → ℕ → Block
started thread first gap digest = record { thread = thread; first = first; marks = []; gap = gap; digest = digest }

start_takes : (body : List ℕ) (x : Block × List ℕ) → AreBytes body → block_start body ≡ Some x → IsStartOf body x
unfolding block_start
start_takes body x are e =
    let t = some_of (byte_at body) (λ thread. fields.◌>>=◌ (number_at w64 thread.1) (λ first. fields.◌>>=◌ (number_at w32 first.1) (λ gap. fields.◌>>=◌ (number_at w64 gap.1) (λ digest. Some (started thread.0 first.0 gap.0 digest.0, digest.1))))) x e in
    let f = some_of (number_at w64 t.0.1) (λ first. fields.◌>>=◌ (number_at w32 first.1) (λ gap. fields.◌>>=◌ (number_at w64 gap.1) (λ digest. Some (started t.0.0 first.0 gap.0 digest.0, digest.1)))) x t.2 in
    let g = some_of (number_at w32 f.0.1) (λ gap. fields.◌>>=◌ (number_at w64 gap.1) (λ digest. Some (started t.0.0 f.0.0 gap.0 digest.0, digest.1))) x f.2 in
    let d = some_of (number_at w64 g.0.1) (λ digest. Some (started t.0.0 f.0.0 g.0.0 digest.0, digest.1)) x g.2 in
    let tt0 = byte_takes body t.0 are t.1 in
    let tf = number_takes w64 (2 ^ 64) wide64 t.0.1 f.0 tt0.rest_is f.1 in
    let tg = number_takes w32 (2 ^ 32) wide32 f.0.1 g.0 tf.0.rest_is g.1 in
    let td = number_takes w64 (2 ^ 64) wide64 g.0.1 d.0 tg.0.rest_is d.1 in
    subst (IsStartOf body) (some_is (started t.0.0 f.0.0 g.0.0 d.0.0, d.0.1) x d.2)
    (record {
      parts = tt0.parts ∙ ap (λ (l : List ℕ). t.0.0 ∷ l) (tf.0.parts ∙ ap (λ (l : List ℕ). to_be_bytes w64 f.0.0 ++ l) (tg.0.parts ∙ ap (λ (l : List ℕ). to_be_bytes w32 g.0.0 ++ l) td.0.parts));
      rest = td.0.rest_is;
      first = tf.1;
      gap = tg.1;
      digest = td.1;
    })

pub block_takes : (body : List ℕ) (block : Block) → AreBytes body → block_of body ≡ Some block → IsBlockOf body block
unfolding block_of
block_takes body block are e =
    let s = some_of (block_start body) (λ start. fields.◌>>=◌ (marks_of start.1) (λ marks. Some (with_marks start.0 marks))) block e in
    let m = some_of (marks_of s.0.1) (λ marks. Some (with_marks s.0.0 marks)) block s.2 in
    let start = start_takes body s.0 are s.1 in
    let marks = marks_of_take s.0.1 m.0 start.rest m.1 in
    let front = λ (l : List ℕ). s.0.0.thread ∷ (to_be_bytes w64 s.0.0.first ++ (to_be_bytes w32 s.0.0.gap ++ (to_be_bytes w64 s.0.0.digest ++ l))) in
    subst (IsBlockOf body) (some_is (with_marks s.0.0 m.0) block m.2)
    (record { parts = start.parts ∙ ap front marks.0; first = start.first; gap = start.gap; digest = start.digest; marks = marks.1 })

abbrev made_end : ℕ → ℕ → End
made_end thread events = record { thread = thread; events = events }

pub end_takes : (body : List ℕ) (end : End) → AreBytes body → end_of body ≡ Some end → (body ≡ end_body end) × (end.events < 2 ^ 64)
unfolding end_of
end_takes body end are e =
    let t = some_of (byte_at body) (λ thread. fields.◌>>=◌ (number_at w64 thread.1) (λ events. cond (eqb (length events.1) 0) (Some (made_end thread.0 events.0)) None)) end e in
    let n = some_of (number_at w64 t.0.1) (λ events. cond (eqb (length events.1) 0) (Some (made_end t.0.0 events.0)) None) end t.2 in
    let w = some_or (eqb (length n.0.1) 0) (made_end t.0.0 n.0.0) end n.2 in
    let tt0 = byte_takes body t.0 are t.1 in
    let tn = number_takes w64 (2 ^ 64) wide64 t.0.1 n.0 tt0.rest_is n.1 in
    let none : n.0.1 ≡ [] = nil_from_length n.0.1 (eqb-true (length n.0.1) 0 w.0) in
    let field : t.0.1 ≡ to_be_bytes w64 n.0.0 = tn.0.parts ∙ ap (λ (l : List ℕ). to_be_bytes w64 n.0.0 ++ l) none ∙ append-nil (to_be_bytes w64 n.0.0) in
    subst (λ (y : End). (body ≡ end_body y) × (y.events < 2 ^ 64)) w.1 (tt0.parts ∙ ap (λ (l : List ℕ). t.0.0 ∷ l) field, tn.1)

pub numbers_take : (count : ℕ) (bytes : List ℕ) → AreBytes bytes → length bytes ≡ 8 * count
    → (bytes ≡ flat_map (to_be_bytes w64) (numbers_at count bytes)) × AllByRecursion (λ number. number < 2 ^ 64) (numbers_at count bytes) × (length (numbers_at count bytes) ≡ count)
unfolding numbers_at
numbers_take zero bytes are long = (nil_from_length bytes (omega (arith, long)), tt, refl)
numbers_take (suc count) bytes are long =
    let field = take 8 bytes in
    let more = numbers_take count (drop 8 bytes) (AreBytes-drop 8 bytes are) (omega (arith, length-drop 8 bytes, long)) in
    let back : to_be_bytes w64 (from_be_bytes w64 field) ≡ field = wide64.back field (omega (arith, length-take 8 bytes, long)) (AreBytes-take 8 bytes are) in
    let number = from_be_bytes w64 field in
    let whole : bytes ≡ to_be_bytes w64 number ++ flat_map (to_be_bytes w64) (numbers_at count (drop 8 bytes)) = sym (take-append-drop 8 bytes) ∙ (λ i. sym back i ++ more.0 i) in
    (whole ∙ sym (flat_map-cons (to_be_bytes w64) number (numbers_at count (drop 8 bytes))), (wide64.below field (AreBytes-take 8 bytes are), more.1), ap suc more.2)

abbrev made_head : ℕ → List ℕ → List ℕ → Head
made_head threads declared starts = record { threads = threads; starts = starts; declared = record { bytes = declared } }

with_takes : (threads : ℕ) (declared bytes : List ℕ) (head : Head) → AreBytes bytes → length declared ≡ 32 → head_with threads declared bytes ≡ Some head → (threads ∷ (declared ++ bytes) ≡ head_body head) × IsHead head
unfolding head_with
with_takes threads declared bytes head are whole e =
    let n = length bytes / 8 in
    let w = some_or (leb 1 threads && leb threads 16 && eqb (length bytes % 8) 0 && leb n 65535) (made_head threads declared (numbers_at n bytes)) head e in
    let a = leb 1 threads in
    let b = leb threads 16 in
    let d = eqb (length bytes % 8) 0 in
    let three : (a && b && d) ≡ true = and_first (a && b && d) (leb n 65535) w.0 in
    let two : (a && b) ≡ true = and_first (a && b) d three in
    let some_thread : 1 ≤ threads = leb-true 1 threads (and_first a b two) in
    let few_threads : threads ≤ 16 = leb-true threads 16 (and_second a b two) in
    let even : length bytes % 8 ≡ 0 = eqb-true (length bytes % 8) 0 (and_second (a && b) d three) in
    let few : n ≤ 65535 = leb-true n 65535 (and_second (a && b && d) (leb n 65535) w.0) in
    let numbers = numbers_take n bytes are (omega (arith, even)) in
    subst (λ (y : Head). (threads ∷ (declared ++ bytes) ≡ head_body y) × IsHead y) w.1
    (ap (λ (l : List ℕ). threads ∷ (declared ++ l)) numbers.0, record { some_thread = some_thread; few_threads = few_threads; whole = whole; few_objects = omega (arith, numbers.2, few); fit = numbers.1 })

pub head_takes : (body : List ℕ) (head : Head) → AreBytes body → head_of body ≡ Some head → (body ≡ head_body head) × IsHead head
unfolding head_of
head_takes body head are e =
    let t = some_of (byte_at body) (λ threads. fields.◌>>=◌ (bytes_at 32 threads.1) (λ declared. head_with threads.0 declared.0 declared.1)) head e in
    let d = some_of (bytes_at 32 t.0.1) (λ declared. head_with t.0.0 declared.0 declared.1) head t.2 in
    let tt0 = byte_takes body t.0 are t.1 in
    let td = bytes_take 32 t.0.1 d.0 tt0.rest_is d.1 in
    let w = with_takes t.0.0 d.0.0 d.0.1 head td.0.rest_is td.1 d.2 in
    (tt0.parts ∙ ap (λ (l : List ℕ). t.0.0 ∷ l) td.0.parts ∙ w.0, w.1)

pub wanted_ok : {B : Type 0} (b : Bool) (cause : MarksCause) (f : Unit {0} → Result B MarksCause) (y : B) → (wanted b cause >>= f) ≡ Ok y → (b ≡ true) × (f tt ≡ Ok y)
wanted_ok true cause f y e = (refl, e)
wanted_ok false cause f y e = absurd cc

abbrev pub done : {A : Type 0} → A → Result A MarksCause
done x = Ok x

pub ok_is : {A : Type 0} (x y : A) → done x ≡ done y → x ≡ y
ok_is x y e = cc

-- the length that a field of eight bytes says
length_takes : (field : List ℕ) (body : ℕ) → AreBytes field → length field ≡ 8 → length_at field ≡ Ok body → (field ≡ to_be_bytes w32 body ++ to_be_bytes w32 body) × (body ≤ 1048576)
unfolding length_at
length_takes field body are long e =
    let once = from_be_bytes w32 (take 4 field) in
    let again = from_be_bytes w32 (drop 4 field) in
    let w = wanted_ok (eqb once again && leb once 1048576) BadLength (λ fits. Ok once) body e in
    let same : once ≡ again = eqb-true once again (and_first (eqb once again) (leb once 1048576) w.0) in
    let few : once ≤ 1048576 = leb-true once 1048576 (and_second (eqb once again) (leb once 1048576) w.0) in
    let is : once ≡ body = ok_is once body w.1 in
    let first : to_be_bytes w32 once ≡ take 4 field = wide32.back (take 4 field) (omega (arith, length-take 4 field, long)) (AreBytes-take 4 field are) in
    let second : to_be_bytes w32 again ≡ drop 4 field = wide32.back (drop 4 field) (omega (arith, length-drop 4 field, long)) (AreBytes-drop 4 field are) in
    let spelled : to_be_bytes w32 body ++ to_be_bytes w32 body ≡ field =
    (λ i. to_be_bytes w32 (sym is i) ++ to_be_bytes w32 ((sym is ∙ same) i)) ∙ (λ i. first i ++ second i) ∙ take-append-drop 4 field in
    (sym spelled, subst (λ (n : ℕ). n ≤ 1048576) is few)

-- a frame that was read
pub record IsFrameOf (bytes : List ℕ) (frame : ℕ × List ℕ × ℕ) : Type 0 where
  pub parts : bytes ≡ frame_bytes frame.0 frame.1 ++ drop frame.2 bytes
  pub size : frame.2 ≡ length (frame_bytes frame.0 frame.1)
  pub short : length frame.1 ≤ 1048576
  pub are : AreBytes frame.1

-- the parts of a frame whose checksum holds
checked_takes : (byte : ℕ) (bytes : List ℕ) (body : ℕ) → AreBytes (byte ∷ bytes) → 9 + body + 8 ≤ length (byte ∷ bytes) → take 8 bytes ≡ to_be_bytes w32 body ++ to_be_bytes w32 body → body ≤ 1048576
    → take 8 (drop (9 + body) (byte ∷ bytes)) ≡ checksum (take (9 + body) (byte ∷ bytes)) → IsFrameOf (byte ∷ bytes) (byte, drop 9 (take (9 + body) (byte ∷ bytes)), 9 + body + 8)
checked_takes byte bytes body are long field few sum =
    let all = byte ∷ bytes in
    let front = take (9 + body) all in
    let inner = drop 9 front in
    let n = to_be_bytes w32 body in
    let inner-length : length inner ≡ body = omega (arith, length-drop 9 front, length-take (9 + body) all, long) in
    let start : take 9 front ≡ byte ∷ (n ++ n) = take-take 9 (9 + body) all (omega arith) ∙ ap (λ (l : List ℕ). byte ∷ l) field in
    let front-is : front ≡ front_bytes byte inner =
    sym (take-append-drop 9 front) ∙ ap (λ (l : List ℕ). l ++ inner) start ∙ ap (λ (l : List ℕ). byte ∷ l) (append_assoc n n inner)
    ∙ (λ i. byte ∷ (to_be_bytes w32 (sym inner-length i) ++ (to_be_bytes w32 (sym inner-length i) ++ inner))) in
    let behind : drop (9 + body) all ≡ checksum front ++ drop (9 + body + 8) all =
    sym (take-append-drop 8 (drop (9 + body) all)) ∙ (λ i. sum i ++ drop-drop 8 (9 + body) all i) in
    let whole : all ≡ front ++ (checksum front ++ drop (9 + body + 8) all) = sym (take-append-drop (9 + body) all) ∙ ap (λ (l : List ℕ). front ++ l) behind in
    record {
      parts = whole ∙ sym (append_assoc front (checksum front) (drop (9 + body + 8) all)) ∙ (λ i. (front-is i ++ checksum (front-is i)) ++ drop (9 + body + 8) all);
      size = sym (frame_length byte inner ∙ (λ i. 9 + inner-length i + 8));
      short = omega (arith, inner-length, few);
      are = AreBytes-drop 9 front (AreBytes-take (9 + body) all are);
    }

abbrev framed : List ℕ → ℕ → Option (ℕ × List ℕ × ℕ)
framed bytes body = Some (slice_index bytes 0, drop 9 (take (9 + body) bytes), 9 + body + 8)

pub frame_takes : (bytes : List ℕ) (frame : ℕ × List ℕ × ℕ) → AreBytes bytes → frame_at bytes ≡ Ok (Some frame) → IsFrameOf bytes frame
unfolding frame_at
frame_takes bytes frame are e =
    elim (ltb (length bytes) 9) as (λ v. ltb (length bytes) 9 ≡ v → cond v (Ok None) (length_at (drop 1 (take 9 bytes)) >>= λ body. cond (ltb (length bytes) (9 + body + 8)) (Ok None) (wanted (bytes_eq (take 8 (drop (9 + body) bytes)) (checksum (take (9 + body) bytes))) BadChecksum >>= λ same. Ok (framed bytes body))) ≡ Ok (Some frame) → IsFrameOf bytes frame) [
      | true ↦ λ cut h. absurd (none≢some frame (ok_is None (Some frame) h))
      | false ↦ λ begun h. whole (ltb-false (length bytes) 9 begun) (bind_ok (length_at (drop 1 (take 9 bytes))) (λ body. cond (ltb (length bytes) (9 + body + 8)) (Ok None) (wanted (bytes_eq (take 8 (drop (9 + body) bytes)) (checksum (take (9 + body) bytes))) BadChecksum >>= λ same. Ok (framed bytes body))) (Some frame) h)
    ] refl e
  where
    none≢some : (x : ℕ × List ℕ × ℕ) → None ≡ Some x → ⊥
    none≢some x e = cc

    closed : (body : ℕ) (all : List ℕ) → AreBytes all → 9 ≤ length all → 9 + body + 8 ≤ length all → length_at (drop 1 (take 9 all)) ≡ Ok body → bytes_eq (take 8 (drop (9 + body) all)) (checksum (take (9 + body) all)) ≡ true
        → IsFrameOf all (slice_index all 0, drop 9 (take (9 + body) all), 9 + body + 8)
    closed body [] are begun long length-is same = absurd (omega (arith, begun))
    closed body (byte ∷ more) are begun long length-is same =
        let field = length_takes (take 8 more) body (AreBytes-take 8 more (λ i. are (suc i))) (omega (arith, length-take 8 more, begun)) length-is in
        checked_takes byte more body are long field.0 field.1 ((bytes_eq-Decides (take 8 (drop (9 + body) (byte ∷ more))) (checksum (take (9 + body) (byte ∷ more)))).0 same)

    whole : 9 ≤ length bytes → (body : ℕ) × (length_at (drop 1 (take 9 bytes)) ≡ Ok body) × (cond (ltb (length bytes) (9 + body + 8)) (Ok None) (wanted (bytes_eq (take 8 (drop (9 + body) bytes)) (checksum (take (9 + body) bytes))) BadChecksum >>= λ same. Ok (framed bytes body)) ≡ Ok (Some frame)) → IsFrameOf bytes frame
    whole begun b =
        elim (ltb (length bytes) (9 + b.0 + 8)) as (λ v. ltb (length bytes) (9 + b.0 + 8) ≡ v → cond v (Ok None) (wanted (bytes_eq (take 8 (drop (9 + b.0) bytes)) (checksum (take (9 + b.0) bytes))) BadChecksum >>= λ same. Ok (framed bytes b.0)) ≡ Ok (Some frame) → IsFrameOf bytes frame) [
          | true ↦ λ cut h. absurd (none≢some frame (ok_is None (Some frame) h))
          | false ↦ λ long h.
              let w = wanted_ok (bytes_eq (take 8 (drop (9 + b.0) bytes)) (checksum (take (9 + b.0) bytes))) BadChecksum (λ same. Ok (framed bytes b.0)) (Some frame) h in
              let is : (slice_index bytes 0, drop 9 (take (9 + b.0) bytes), 9 + b.0 + 8) ≡ frame = some_is (slice_index bytes 0, drop 9 (take (9 + b.0) bytes), 9 + b.0 + 8) frame (ok_is (framed bytes b.0) (Some frame) w.1) in
              subst (IsFrameOf bytes) is (closed b.0 bytes are begun (ltb-false (length bytes) (9 + b.0 + 8) long) b.1 w.0)
        ] refl b.2
