-- However a reader is fed, what it has read and what is left are what it was fed.
use Rattle.std.proofs.Common.{◌≡◌, ℕ, ◌+◌, ◌-◌, ◌^◌, min, List, [], ◌∷◌, ◌++◌, length, drop, Ok, refl, sym, ap, subst, ◌∙◌, append_assoc, arith, zero-add}
use Rattle.std.specs.List.{flat_map}
use Rattle.std.proofs.lemmas.List.{drop_at, length-append, append-nil}
use Rattle.std.proofs.lemmas.List.Concat.{flat_map-cons}
use Rattle.octet_log.specs.Inputs.{AreBytes}
use Rattle.octet_log.proofs.Fields.{AreBytes-drop}
use Rattle.octet_marks.specs.declared.piece.Piece.{Piece}
use Rattle.octet_marks.specs.declared.progress.Progress.{Progress}
use Rattle.octet_marks.specs.Files.{Unread, fed_with, after_read, IsNext, HasRead}
use Rattle.octet_marks.specs.Reading.{piece_bytes}
use Rattle.octet_marks.specs.Spellings.{IsPiece, threads_after, Leads}
use Rattle.octet_marks.proofs.Pieces.{piece_takes}

leads_push : (threads : List Progress) (all : List Piece) (mid : List Progress) (piece : Piece) (next : List Progress) → Leads threads all mid → IsPiece piece → threads_after mid piece ≡ Ok next → Leads threads (all ++ piece ∷ []) next
leads_push threads [] mid piece next leads is stands = (next, is, ap (λ (t : List Progress). threads_after t piece) leads ∙ stands, refl)
leads_push threads (x ∷ all) mid piece next leads is stands = (leads.0, leads.1, leads.2, leads_push leads.0 all mid piece next leads.3 is stands)

bytes_push : (all : List Piece) (piece : Piece) (rest : List ℕ) → flat_map piece_bytes (all ++ piece ∷ []) ++ rest ≡ flat_map piece_bytes all ++ (piece_bytes piece ++ rest)
bytes_push [] piece rest = ap (λ (l : List ℕ). l ++ rest) (flat_map-cons piece_bytes piece [] ∙ append-nil (piece_bytes piece))
bytes_push (x ∷ all) piece rest =
    ap (λ (l : List ℕ). l ++ rest) (flat_map-cons piece_bytes x (all ++ piece ∷ [])) ∙ append_assoc (piece_bytes x) (flat_map piece_bytes (all ++ piece ∷ [])) rest
    ∙ ap (λ (l : List ℕ). piece_bytes x ++ l) (bytes_push all piece rest)
    ∙ sym (append_assoc (piece_bytes x) (flat_map piece_bytes all) (piece_bytes piece ++ rest)) ∙ ap (λ (l : List ℕ). l ++ (piece_bytes piece ++ rest)) (sym (flat_map-cons piece_bytes x all))

length_push : (all : List Piece) (piece : Piece) → length (flat_map piece_bytes (all ++ piece ∷ [])) ≡ length (flat_map piece_bytes all) + length (piece_bytes piece)
length_push [] piece = ap (λ (l : List ℕ). length l) (flat_map-cons piece_bytes piece [] ∙ append-nil (piece_bytes piece)) ∙ sym (zero-add (length (piece_bytes piece)))
length_push (x ∷ all) piece =
    ap (λ (l : List ℕ). length l) (flat_map-cons piece_bytes x (all ++ piece ∷ [])) ∙ length-append (piece_bytes x) (flat_map piece_bytes (all ++ piece ∷ []))
    ∙ omega (arith, length_push all piece, ap (λ (l : List ℕ). length l) (flat_map-cons piece_bytes x all), length-append (piece_bytes x) (flat_map piece_bytes all))

pub fed_behind : (fed bytes : List ℕ) (all : List Piece) (unread : Unread) → HasRead fed all unread → HasRead (fed ++ bytes) all (fed_with bytes unread)
fed_behind fed bytes all unread has = record {
  leads = has.leads;
  parts = ap (λ (l : List ℕ). l ++ bytes) has.parts ∙ append_assoc (flat_map piece_bytes all) unread.bytes bytes;
  place = has.place;
}

place_after : (place count size : ℕ) → place ≡ min count (2 ^ 64 - 1) → min (place + size) (2 ^ 64 - 1) ≡ min (count + size) (2 ^ 64 - 1)
place_after place count size is = omega (arith, is)

pub next_behind : (fed : List ℕ) (all : List Piece) (before : Unread) (piece : Piece) (after : Unread) → AreBytes fed → HasRead fed all before → IsNext before piece after → HasRead fed (all ++ piece ∷ []) after
next_behind fed all before piece after are has next =
    let front = flat_map piece_bytes all in
    let left-are : AreBytes before.bytes = subst AreBytes (ap (drop (length front)) has.parts ∙ drop_at front before.bytes (length front) refl) (AreBytes-drop (length front) fed are) in
    let taken = piece_takes before.threads before.bytes next.read left-are next.is in
    let made : HasRead fed (all ++ next.read.piece ∷ []) (after_read before next.read) = record {
      leads = leads_push [] all before.threads next.read.piece next.read.threads has.leads taken.is taken.stands;
      parts = has.parts ∙ ap (λ (l : List ℕ). front ++ l) taken.parts ∙ sym (bytes_push all next.read.piece (drop next.read.size before.bytes));
      place = place_after before.place (length front) next.read.size has.place
          ∙ ap (λ n. min n (2 ^ 64 - 1)) (ap (λ n. length front + n) taken.size ∙ sym (length_push all next.read.piece));
    } in
    subst (λ (p : Piece). HasRead fed (all ++ p ∷ []) after) next.piece_is (subst (HasRead fed (all ++ next.read.piece ∷ [])) (sym next.after_is) made)
