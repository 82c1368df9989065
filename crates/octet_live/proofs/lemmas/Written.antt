-- Marks that are added are those of a log.
use Rattle.std.proofs.Common.{◌≡◌, ◌∙◌, ℕ, zero, suc, ◌+◌, ◌<◌, ◌≤◌, inl, inr, List, [], ◌∷◌, ◌++◌, length, drop, Option, None, Some, refl, sym, ap, subst, append-nil, arith}
use Rattle.std.proofs.lemmas.Bool.{cases_eq}
use Rattle.std.proofs.Math.Seq.{drop-append_seam}
use Rattle.octet_base.specs.Desk.{DeskState}
use Rattle.octet_base.specs.declared.fault.DeskFault.{DeskFault}
use Rattle.octet_model.specs.declared.log.Gapped.{Gapped}
use Rattle.octet_model.specs.declared.log.ThreadLog.{ThreadLog}
use Rattle.octet_log.specs.v2.Pieces.{Piece, ArePieces, HaveMarks, marks_of}
use Rattle.octet_live.specs.Laws.{marks_at}
use Rattle.octet_live.specs.Written.{IsWritten, Writes}
use Rattle.octet_live.specs.Drained.{AreOf}
use Rattle.octet_live.proofs.lemmas.Adding.{stays_refused, own_are, others_none, marks_of-append, one_marks, are_both}

have_from : (thread : ℕ) (pieces : List Piece) (logs : List ThreadLog) → ((u : ℕ) → u < length logs → marks_of (thread + u) pieces ≡ marks_at logs u) → HaveMarks thread pieces logs
have_from thread pieces [] each = tt
have_from thread pieces (log ∷ logs) each = (
  subst (λ (t : ℕ). marks_of t pieces ≡ log.marks) (omega arith) (each 0 (omega arith)),
  have_from (suc thread) pieces logs (λ u less. let step : thread + suc u ≡ suc thread + u = omega arith in subst (λ (t : ℕ). marks_of t pieces ≡ marks_at logs u) step (each (suc u) (omega (arith, less)))),
)

-- a piece with these marks, where there are any
abbrev piece_with : ℕ → List Gapped → List Piece
piece_with thread [] = []
piece_with thread (m ∷ marks) = record { thread = thread; marks = m ∷ marks } ∷ []

-- and one for each of so many threads, from a number on
abbrev pieces_with : ℕ → ℕ → (ℕ → List Gapped) → List Piece
pieces_with first zero marks = []
pieces_with first (suc n) marks = piece_with first (marks first) ++ pieces_with (suc first) n marks

own_piece : (thread : ℕ) (marks : List Gapped) → AreOf thread (piece_with thread marks)
own_piece thread [] = tt
own_piece thread (m ∷ marks) = ((refl, omega arith), tt)

own_marks : (thread : ℕ) (marks : List Gapped) → marks_of thread (piece_with thread marks) ≡ marks
own_marks thread [] = refl
own_marks thread (m ∷ marks) = one_marks thread (m ∷ marks)

are_with : (threads first n : ℕ) (marks : ℕ → List Gapped) → first + n ≤ threads → ArePieces threads (pieces_with first n marks)
are_with threads first zero marks within = tt
are_with threads first (suc n) marks within =
    are_both threads (piece_with first (marks first)) (pieces_with (suc first) n marks) (own_are threads first (piece_with first (marks first)) (omega (arith, within)) (own_piece first (marks first))) (are_with threads (suc first) n marks (omega (arith, within)))

none_before : (first n : ℕ) (marks : ℕ → List Gapped) (thread : ℕ) → thread < first → marks_of thread (pieces_with first n marks) ≡ []
none_before first zero marks thread before = refl
none_before first (suc n) marks thread before =
    marks_of-append thread (piece_with first (marks first)) (pieces_with (suc first) n marks)
    ∙ (λ i. others_none first thread (piece_with first (marks first)) (λ e. absurd (omega (arith, e, before))) (own_piece first (marks first)) i ++ none_before (suc first) n marks thread (omega (arith, before)) i)

marks_with : (first n : ℕ) (marks : ℕ → List Gapped) (thread : ℕ) → first ≤ thread → thread < first + n → marks_of thread (pieces_with first n marks) ≡ marks thread
marks_with first zero marks thread least most = absurd (omega (arith, least, most))
marks_with first (suc n) marks thread least most =
    let one = piece_with first (marks first) in
    let more = pieces_with (suc first) n marks in
    elim (cases_eq thread first) [
      | inl same ↦ subst (λ (t : ℕ). marks_of t (one ++ more) ≡ marks t) (sym same)
          (marks_of-append first one more ∙ ((λ i. own_marks first (marks first) i ++ none_before (suc first) n marks first (omega arith) i) ∙ append-nil (marks first)))
      | inr differ ↦ marks_of-append thread one more ∙ (λ i. others_none first thread one differ (own_piece first (marks first)) i ++ marks_with (suc first) n marks thread (omega (arith, least, differ)) (omega (arith, most)) i)
    ]

module _ (threads : ℕ) (own : ℕ → List Gapped) (logs : List ThreadLog) (as_many : length logs ≡ threads) (are_own : (u : ℕ) → u < threads → marks_at logs u ≡ own u) where
  -- where none was refused, the pieces have all marks
  whole_written : (before after : DeskState) → Writes threads own before None after → IsWritten logs before None after
  whole_written before after writes = record {
    pieces = writes.pieces;
    are = subst (λ (n : ℕ). ArePieces n writes.pieces) (sym as_many) writes.are;
    have = have_from 0 writes.pieces logs (λ u less. let front = writes.each u (omega (arith, less, as_many)) in
        subst (λ (t : ℕ). marks_of t writes.pieces ≡ marks_at logs u) (omega arith) (sym (are_own u (omega (arith, less, as_many)) ∙ (front.front ∙ (ap (λ (l : List Gapped). marks_of u writes.pieces ++ l) (front.whole refl) ∙ append-nil (marks_of u writes.pieces))))));
    adds = writes.adds;
  }

  -- where one was, others that were never added have the rest
  part_written : (before after : DeskState) (fault : DeskFault) → Writes threads own before (Some fault) after → IsWritten logs before (Some fault) after
  part_written before after fault writes =
      let ps = writes.pieces in
      let rest : ℕ → List Gapped = λ u. drop (length (marks_of u ps)) (own u) in
      let qs = pieces_with 0 threads rest in record {
        pieces = ps ++ qs;
        are = subst (λ (n : ℕ). ArePieces n (ps ++ qs)) (sym as_many) (are_both threads ps qs writes.are (are_with threads 0 threads rest (omega arith)));
        have = have_from 0 (ps ++ qs) logs (λ u less. let there : u < threads = omega (arith, less, as_many) in
            let front = writes.each u there in
            let last : marks_of u qs ≡ front.rest = marks_with 0 threads rest u (omega arith) (omega (arith, there))
            ∙ (ap (λ (l : List Gapped). drop (length (marks_of u ps)) l) front.front ∙ drop-append_seam (marks_of u ps) front.rest) in
            subst (λ (t : ℕ). marks_of t (ps ++ qs) ≡ marks_at logs u) (omega arith) (marks_of-append u ps qs ∙ (ap (λ (l : List Gapped). marks_of u ps ++ l) last ∙ sym (are_own u there ∙ front.front))));
        adds = stays_refused ps qs before after fault writes.adds;
      }

  pub written : (kept : Option DeskFault) (before after : DeskState) → Writes threads own before kept after → IsWritten logs before kept after
  written None before after writes = whole_written before after writes
  written (Some fault) before after writes = part_written before after fault writes

-- nothing is added of a log without marks
pub nothing_written : (logs : List ThreadLog) (state : DeskState) → ((u : ℕ) → u < length logs → marks_at logs u ≡ []) → IsWritten logs state None state
nothing_written logs state none_at = record { pieces = []; are = tt; have = have_from 0 [] logs (λ u less. sym (none_at u less)); adds = (refl, refl) }
