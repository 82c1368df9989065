-- Whole files: one after the other, their pieces are read.
use Rattle.std.proofs.Common.{◌≡◌, ◌≢◌, ℕ, ◌+◌, ◌^◌, ◌<◌, ◌≤◌, ◌&&◌, true, false, eqb, ltb, leb, List, [], ◌∷◌, ◌++◌, length, take, drop, Some, None, Ok, Err, refl, sym, ap, subst, ◌∙◌, append_assoc, arith, inl, inr}
use Rattle.std.specs.List.{flat_map}
use Rattle.std.specs.Int.{w32, from_be_bytes, to_be_bytes}
use Rattle.std.specs.Str.{bytes_eq}
use Rattle.std.proofs.lemmas.Bool.{le-ltb, ne_eqb}
use Rattle.std.proofs.lemmas.List.{take_at, drop_at, length-append}
use Rattle.std.proofs.lemmas.List.Concat.{flat_map-cons}
use Rattle.std.proofs.lemmas.Slice.Eq.{bytes_eq-Decides}
use Rattle.octet_log.proofs.Cuts.{split, nothing≢more}
use Rattle.octet_log.proofs.Fields.{wide32}
use Rattle.octet_marks.specs.declared.cause.MarksCause.TheVariants.{BadLength, BadChecksum}
use Rattle.octet_marks.specs.declared.piece.Piece.{Piece}
use Rattle.octet_marks.specs.declared.progress.Progress.{Progress}
use Rattle.octet_marks.specs.Judging.{◌>>=◌, wanted}
use Rattle.octet_marks.specs.Frames.{checksum, front_bytes, length_at, frame_at}
use Rattle.octet_marks.specs.Reading.{Read, piece_bytes, piece_at}
use Rattle.octet_marks.specs.Laws.{IsReadUpTo}
use Rattle.octet_marks.specs.Spellings.{Leads}
use Rattle.octet_marks.proofs.Framed.{piece_again, length_again}
use Rattle.octet_marks.proofs.Pieces.{piece_cut}
use Rattle.octet_marks.proofs.Takes.{some_is}
use Rattle.octet_marks.proofs.Whole.{ok_is}

regroup : (piece : Piece) (more : List Piece) (rest : List ℕ) → flat_map piece_bytes (piece ∷ more) ++ rest ≡ piece_bytes piece ++ (flat_map piece_bytes more ++ rest)
regroup piece more rest = ap (λ (l : List ℕ). l ++ rest) (flat_map-cons piece_bytes piece more) ∙ append_assoc (piece_bytes piece) (flat_map piece_bytes more) rest

nothing_read : (threads : List Progress) (rest left : List ℕ) (read : Read) → piece_at threads rest ≡ Ok None → rest ≡ left → piece_at threads left ≡ Ok (Some read) → ⊥
nothing_read threads rest left read none same some = none≢some read (ok_is None (Some read) (sym none ∙ ap (piece_at threads) same ∙ some))
  where
    none≢some : (x : Read) → None ≡ Some x → ⊥
    none≢some x e = cc

pub one_file : (one other : List Piece) (threads after second : List Progress) (rest left : List ℕ) → Leads threads one after → Leads threads other second
    → piece_at after rest ≡ Ok None → piece_at second left ≡ Ok None → flat_map piece_bytes one ++ rest ≡ flat_map piece_bytes other ++ left → (one ≡ other) × (rest ≡ left)
one_file [] [] threads after second rest left leads leads' none none' e = (refl, e)
one_file [] (piece ∷ other) threads after second rest left leads leads' none none' e =
    absurd (nothing_read threads rest (piece_bytes piece ++ (flat_map piece_bytes other ++ left)) _ (subst (λ (t : List Progress). piece_at t rest ≡ Ok None) (sym leads) none) (e ∙ regroup piece other left)
    (piece_again threads piece leads'.0 (flat_map piece_bytes other ++ left) leads'.1 leads'.2))
one_file (piece ∷ one) [] threads after second rest left leads leads' none none' e =
    absurd (nothing_read threads left (piece_bytes piece ++ (flat_map piece_bytes one ++ rest)) _ (subst (λ (t : List Progress). piece_at t left ≡ Ok None) (sym leads') none') (sym e ∙ regroup piece one rest)
    (piece_again threads piece leads.0 (flat_map piece_bytes one ++ rest) leads.1 leads.2))
one_file (p ∷ one) (q ∷ other) threads after second rest left leads leads' none none' e =
    let behind = flat_map piece_bytes one ++ rest in
    let behind' = flat_map piece_bytes other ++ left in
    let read : Read = record { piece = p; threads = leads.0; size = length (piece_bytes p) } in
    let read' : Read = record { piece = q; threads = leads'.0; size = length (piece_bytes q) } in
    let parts : piece_bytes p ++ behind ≡ piece_bytes q ++ behind' = sym (regroup p one rest) ∙ e ∙ regroup q other left in
    let same : read ≡ read' = some_is read read' (ok_is (Some read) (Some read')
    (sym (piece_again threads p leads.0 behind leads.1 leads.2) ∙ ap (piece_at threads) parts ∙ piece_again threads q leads'.0 behind' leads'.1 leads'.2)) in
    let piece-is : p ≡ q = ap (λ (r : Read). r.piece) same in
    let threads-are : leads.0 ≡ leads'.0 = ap (λ (r : Read). r.threads) same in
    let behind-is : behind ≡ behind' =
    sym (drop_at (piece_bytes p) behind (length (piece_bytes p)) refl) ∙ ap (drop (length (piece_bytes p))) (parts ∙ ap (λ (x : Piece). piece_bytes x ++ behind') (sym piece-is))
    ∙ drop_at (piece_bytes p) behind' (length (piece_bytes p)) refl in
    let more = one_file one other leads.0 after second rest left leads.3 (subst (λ (t : List Progress). Leads t other second) (sym threads-are) leads'.3) none none' behind-is in
    ((λ i. piece-is i ∷ more.0 i), more.1)

pub cut_file : (threads : List Progress) (all : List Piece) (end : List Progress) (front : List ℕ) (next : ℕ) (rest : List ℕ) → Leads threads all end
    → flat_map piece_bytes all ≡ front ++ next ∷ rest → IsReadUpTo threads all front
cut_file threads [] end front next rest leads e = absurd (nothing≢more front next rest e)
cut_file threads (piece ∷ all) end front next rest leads e =
    elim (split (piece_bytes piece) (flat_map piece_bytes all) front next rest (sym (flat_map-cons piece_bytes piece all) ∙ e)) [
      | inl p ↦ record {
        read = [];
        more = piece ∷ all;
        after = threads;
        left = front;
        first = refl;
        leads = refl;
        parts = refl;
        cut = piece_cut threads piece leads.0 front next p.0 leads.1 leads.2 p.1;
      }
      | inr p ↦
          let more = cut_file leads.0 all end p.0 next rest leads.3 p.2 in
          record {
            read = piece ∷ more.read;
            more = more.more;
            after = more.after;
            left = more.left;
            first = ap (λ (l : List Piece). piece ∷ l) more.first;
            leads = (leads.0, leads.1, leads.2, more.leads);
            parts = p.1 ∙ ap (λ (l : List ℕ). piece_bytes piece ++ l) more.parts ∙ sym (regroup piece more.read more.left);
            cut = more.cut;
          }
    ]

-- a frame whose lengths are refused
length_fails : (bytes field : List ℕ) → 9 ≤ length bytes → drop 1 (take 9 bytes) ≡ field → length_at field ≡ Err BadLength → frame_at bytes ≡ Err BadLength
unfolding frame_at
length_fails bytes field begun field-is fails = rw (le-ltb (length bytes) 9 begun, field-is, fails) refl

lengths_differ : (once again : ℕ) → once < 2 ^ 32 → again < 2 ^ 32 → once ≢ again → length_at (to_be_bytes w32 once ++ to_be_bytes w32 again) ≡ Err BadLength
unfolding length_at
lengths_differ once again small small' other =
    let one = to_be_bytes w32 once in
    let two = to_be_bytes w32 again in
    let first : from_be_bytes w32 (take 4 (one ++ two)) ≡ once = ap (from_be_bytes w32) (take_at one two 4 refl) ∙ wide32.again once small in
    let second : from_be_bytes w32 (drop 4 (one ++ two)) ≡ again = ap (from_be_bytes w32) (drop_at one two 4 refl) ∙ wide32.again again small' in
    let test : (eqb (from_be_bytes w32 (take 4 (one ++ two))) (from_be_bytes w32 (drop 4 (one ++ two))) && leb (from_be_bytes w32 (take 4 (one ++ two))) 1048576) ≡ false =
    (λ i. eqb (first i) (second i) && leb (first i) 1048576) ∙ rw (ne_eqb once again other) refl in
    ap (λ b. wanted b BadLength >>= λ fits. Ok (from_be_bytes w32 (take 4 (one ++ two)))) test

pub other_length : (kind once again : ℕ) (rest : List ℕ) → once < 2 ^ 32 → again < 2 ^ 32 → once ≢ again → frame_at (kind ∷ (to_be_bytes w32 once ++ (to_be_bytes w32 again ++ rest))) ≡ Err BadLength
other_length kind once again rest small small' other =
    let one = to_be_bytes w32 once in
    let two = to_be_bytes w32 again in
    let bytes = kind ∷ (one ++ (two ++ rest)) in
    let parts : (kind ∷ (one ++ two)) ++ rest ≡ bytes = ap (λ (l : List ℕ). kind ∷ l) (append_assoc one two rest) in
    let field-is : drop 1 (take 9 bytes) ≡ one ++ two = ap (λ (l : List ℕ). drop 1 (take 9 l)) (sym parts) ∙ ap (drop 1) (take_at (kind ∷ (one ++ two)) rest 9 refl) in
    let long : 9 ≤ length bytes = omega (arith, length-append one (two ++ rest), length-append two rest) in
    length_fails bytes (one ++ two) long field-is (lengths_differ once again small small' other)

-- a frame whose checksum is refused
sum_fails : (bytes : List ℕ) (body : ℕ) → ltb (length bytes) 9 ≡ false → length_at (drop 1 (take 9 bytes)) ≡ Ok body → ltb (length bytes) (9 + body + 8) ≡ false
    → bytes_eq (take 8 (drop (9 + body) bytes)) (checksum (take (9 + body) bytes)) ≡ false → frame_at bytes ≡ Err BadChecksum
unfolding frame_at
sum_fails bytes body begun length-is whole other = rw (begun, length-is, whole, other) refl

pub other_checksum : (kind : ℕ) (body sum rest : List ℕ) → length body ≤ 1048576 → length sum ≡ 8 → sum ≢ checksum (front_bytes kind body) → frame_at (front_bytes kind body ++ (sum ++ rest)) ≡ Err BadChecksum
other_checksum kind body sum rest few sum-length other =
    let n = length body in
    let field = to_be_bytes w32 n in
    let header = kind ∷ (field ++ field) in
    let front = front_bytes kind body in
    let bytes = front ++ (sum ++ rest) in
    let front-is : header ++ body ≡ front = ap (λ (l : List ℕ). kind ∷ l) (append_assoc field field body) in
    let bytes-are : header ++ (body ++ (sum ++ rest)) ≡ bytes = sym (append_assoc header body (sum ++ rest)) ∙ ap (λ (l : List ℕ). l ++ (sum ++ rest)) front-is in
    let front-length : length front ≡ 9 + n = ap (λ (l : List ℕ). length l) (sym front-is) ∙ length-append header body in
    let long : length bytes ≡ 9 + n + (8 + length rest) = length-append front (sum ++ rest) ∙ omega (arith, front-length, length-append sum rest, sum-length) in
    let start : take 9 bytes ≡ header = ap (take 9) (sym bytes-are) ∙ take_at header (body ++ (sum ++ rest)) 9 refl in
    let length-is : length_at (drop 1 (take 9 bytes)) ≡ Ok n = ap (λ (l : List ℕ). length_at (drop 1 l)) start ∙ length_again n few in
    let taken : take (9 + n) bytes ≡ front = take_at front (sum ++ rest) (9 + n) front-length in
    let field-is : take 8 (drop (9 + n) bytes) ≡ sum = ap (take 8) (drop_at front (sum ++ rest) (9 + n) front-length) ∙ take_at sum rest 8 sum-length in
    let differs : bytes_eq sum (checksum front) ≡ false = not_equal sum (checksum front) other in
    sum_fails bytes n (le-ltb (length bytes) 9 (omega (arith, long))) length-is (le-ltb (length bytes) (9 + n + 8) (omega (arith, long))) ((λ i. bytes_eq (field-is i) (checksum (taken i))) ∙ differs)
  where
    not_equal : (a b : List ℕ) → a ≢ b → bytes_eq a b ≡ false
    not_equal a b other = elim (bytes_eq a b) as (λ v. bytes_eq a b ≡ v → v ≡ false) [ true ↦ λ is. absurd (other ((bytes_eq-Decides a b).0 is)) | false ↦ λ is. refl ] refl
