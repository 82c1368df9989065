-- Pieces that are read one after the other.
use Rattle.std.proofs.Common.{◌≡◌, ◌≢◌, ◌∙◌, ◌⊎◌, ◌++◌, ◌<◌, ◌≤◌, ◌+◌, ◌-◌, ◌^◌, ℕ, zero, suc, List, [], ◌∷◌, length, drop, min, append_assoc, append-nil, Option, None, Some, Result, Ok, Err, inl, inr, ap, sym, refl, subst, arith}
use Rattle.std.proofs.lemmas.Grind.{flat_map-append}
use Rattle.std.proofs.lemmas.List.{length-drop}
use Rattle.octet_marks.specs.declared.cause.MarksCause.{MarksCause}
use Rattle.octet_marks.specs.declared.piece.Piece.{Piece}
use Rattle.octet_marks.specs.Files.{Unread, unfed, fed_with, after_read, IsNext}
use Rattle.octet_marks.specs.Reading.{Read, head_at, piece_at}
use Rattle.octet_marks.proofs.lemmas.More.{drop_front, piece_more, piece_has}
use Rattle.octet_marks.specs.Texts.{piece_text}
use Rattle.octet_commands.specs.Marks.{ReadsTo, pieces_text}

abbrev pub found : Read → Result (Option Read) MarksCause
found read = Ok (Some read)

found_is : (one other : Read) → found one ≡ found other → one ≡ other
found_is one other is = cc

-- some pieces, and then others
pub then_reads : (first : List Piece) (a b c : Unread) (more : List Piece) → ReadsTo a first b → ReadsTo b more c → ReadsTo a (first ++ more) c
then_reads [] a b c more is rest = subst (λ (x : Unread). ReadsTo x more c) is rest
then_reads (piece ∷ first) a b c more (mid, next, reads) rest = (mid, next, then_reads first mid b c more reads rest)

pub one_more : (first : List Piece) (a b c : Unread) (piece : Piece) → ReadsTo a first b → IsNext b piece c → ReadsTo a (first ++ piece ∷ []) c
one_more first a b c piece reads next = then_reads first a b c (piece ∷ []) reads (c, next, refl)

-- more bytes change nothing of what was read
next_more : (more : List ℕ) (a b : Unread) (piece : Piece) → IsNext a piece b → IsNext (fed_with more a) piece (fed_with more b)
next_more more a b piece next = record {
  read = next.read;
  is = piece_more a.threads a.bytes more (λ none. (let both : found next.read ≡ Ok None = sym next.is ∙ none in cc)) ∙ next.is;
  piece_is = next.piece_is;
  after_is = ap (fed_with more) next.after_is ∙ (λ i. record { threads = next.read.threads; place = min (a.place + next.read.size) (2 ^ 64 - 1); bytes = sym (drop_front next.read.size a.bytes more (piece_has a.threads a.bytes next.read next.is).1) i });
}

pub reads_more : (more : List ℕ) (a b : Unread) (pieces : List Piece) → ReadsTo a pieces b → ReadsTo (fed_with more a) pieces (fed_with more b)
reads_more more a b [] is = ap (fed_with more) is
reads_more more a b (piece ∷ pieces) (mid, next, reads) = (fed_with more mid, next_more more a mid piece next, reads_more more mid b pieces reads)

-- no piece comes next
abbrev pub HasNone : Unread → Type 0
HasNone stands = (read : Read) → piece_at stands.threads stands.bytes ≢ found read

-- what comes next is cut, or refused
abbrev pub Stands : Unread → Type 0
Stands stands = (piece_at stands.threads stands.bytes ≡ Ok None) ⊎ ((cause : MarksCause) × (piece_at stands.threads stands.bytes ≡ Err cause))

pub has_none : (stands : Unread) → Stands stands → HasNone stands
has_none stands (inl cut) read is = let both : Ok None ≡ found read = sym cut ∙ is in cc
has_none stands (inr (cause, bad)) read is = let both : Err cause ≡ found read = sym bad ∙ is in cc

-- pieces are read in one way
same_next : (a b c : Unread) (one other : Piece) → IsNext a one b → IsNext a other c → (one ≡ other) × (b ≡ c)
same_next a b c one other next next' =
    let read = found_is next.read next'.read (sym next.is ∙ next'.is) in
    (sym next.piece_is ∙ ap (λ (r : Read). r.piece) read ∙ next'.piece_is, next.after_is ∙ ap (after_read a) read ∙ sym next'.after_is)

pub one_reading : (one other : List Piece) (a b c : Unread) → ReadsTo a one b → HasNone b → ReadsTo a other c → HasNone c → (one ≡ other) × (b ≡ c)
one_reading [] [] a b c is none is' none' = (refl, is ∙ sym is')
one_reading [] (piece ∷ other) a b c is none (mid, next, reads) none' = absurd (subst HasNone is none next.read next.is)
one_reading (piece ∷ one) [] a b c (mid, next, reads) none is' none' = absurd (subst HasNone is' none' next.read next.is)
one_reading (x ∷ one) (y ∷ other) a b c (mid, next, reads) none (mid', next', reads') none' =
    let same = same_next a mid mid' x y next next' in
    let rest = one_reading one other mid b c reads none (subst (λ (m : Unread). ReadsTo m other c) (sym same.1) reads') none' in
    (λ i. same.0 i ∷ rest.0 i, rest.1)

-- and up to where what comes next is cut, or refused
reads_by : (most : ℕ) (a : Unread) → length a.bytes ≤ most → (at : Result (Option Read) MarksCause) → piece_at a.threads a.bytes ≡ at → (pieces : List Piece) × (b : Unread) × ReadsTo a pieces b × Stands b
reads_by most a within (Ok None) is = ([], a, refl, inl is)
reads_by most a within (Err cause) is = ([], a, refl, inr (cause, is))
reads_by zero a within (Ok (Some read)) is = let has = piece_has a.threads a.bytes read is in absurd (omega (arith, has.0, has.1, within))
reads_by (suc most) a within (Ok (Some read)) is =
    let next : Unread = after_read a read in
    let has = piece_has a.threads a.bytes read is in
    let rest = reads_by most next (omega (arith, has.0, has.1, within, length-drop read.size a.bytes)) (piece_at next.threads next.bytes) refl in
    (read.piece ∷ rest.0, rest.1, (next, record { read = read; is = is; piece_is = refl; after_is = refl }, rest.2), rest.3)

pub reads_on : (a : Unread) → (pieces : List Piece) × (b : Unread) × ReadsTo a pieces b × Stands b
reads_on a = reads_by (length a.bytes) a (omega arith) (piece_at a.threads a.bytes) refl

-- of no bytes nothing is read
pub none_at : piece_at [] [] ≡ Ok None
unfolding head_at
none_at = refl

pub nothing_read : (pieces : List Piece) (stands : Unread) → ReadsTo unfed pieces stands → (pieces ≡ []) × (stands ≡ unfed)
nothing_read [] stands is = (refl, is)
nothing_read (piece ∷ pieces) stands (mid, next, reads) = let both : Ok None ≡ found next.read = sym none_at ∙ next.is in absurd cc

-- a piece that is read leaves fewer bytes
pub fewer_bytes : (a b : Unread) (piece : Piece) → IsNext a piece b → length b.bytes < length a.bytes
fewer_bytes a b piece next =
    let has = piece_has a.threads a.bytes next.read next.is in
    let left : length b.bytes ≡ length (drop next.read.size a.bytes) = ap (λ (u : Unread). length u.bytes) next.after_is in
    omega (arith, left, length-drop next.read.size a.bytes, has.0, has.1)

-- the text of one more piece
pub text_more : (first : List Piece) (piece : Piece) (start text text' : List ℕ) → text ≡ start ++ pieces_text first → text' ≡ text ++ piece_text piece → text' ≡ start ++ pieces_text (first ++ piece ∷ [])
text_more first piece start text text' is more =
    more ∙ ap (λ (t : List ℕ). t ++ piece_text piece) is ∙ append_assoc start (pieces_text first) (piece_text piece)
    ∙ ap (λ (t : List ℕ). start ++ t) (ap (λ (t : List ℕ). pieces_text first ++ t) (sym (append-nil (piece_text piece))) ∙ sym (flat_map-append piece_text first (piece ∷ [])))
