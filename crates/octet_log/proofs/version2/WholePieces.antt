-- One piece for each thread that has marks is a spelling of the log's marks.
use Rattle.std.proofs.Common.{◌≡◌, ℕ, suc, ◌+◌, ◌<◌, ◌≤◌, true, false, cond, eqb, List, [], ◌∷◌, ◌++◌, length, refl, sym, ap, subst, ◌∙◌, append_assoc, arith}
use Rattle.std.proofs.lemmas.Bool.{eqb-true, eqb-false, ne_eqb}
use Rattle.std.proofs.lemmas.List.{append-nil, nil_from_length}
use Rattle.octet_model.specs.declared.log.Gapped.{Gapped}
use Rattle.octet_model.specs.declared.log.ThreadLog.{ThreadLog}
use Rattle.octet_log.specs.v2.Pieces.{Piece, ArePieces, marks_of, HaveMarks, whole_pieces}

-- the piece of a thread, where it has marks
abbrev piece_of : ℕ → ThreadLog → List Piece
piece_of thread log = cond (eqb (length log.marks) 0) [] (record { thread = thread; marks = log.marks } ∷ [])

are_both : (threads : ℕ) (a b : List Piece) → ArePieces threads a → ArePieces threads b → ArePieces threads (a ++ b)
are_both threads [] b x y = y
are_both threads (p ∷ a) b x y = (x.0, are_both threads a b x.1 y)

is_piece : (threads thread : ℕ) (log : ThreadLog) → thread < threads → ArePieces threads (piece_of thread log)
is_piece threads thread log small =
    elim (eqb (length log.marks) 0) as (λ v. eqb (length log.marks) 0 ≡ v → ArePieces threads (cond v [] (record { thread = thread; marks = log.marks } ∷ []))) [
      | true ↦ λ is. tt
      | false ↦ λ is. let more : ¬ (length log.marks ≡ 0) = eqb-false (length log.marks) 0 is in (record { thread = small; some_mark = omega (arith, more) }, tt)
    ] refl

pub are_whole : (threads first : ℕ) (logs : List ThreadLog) → first + length logs ≤ threads → ArePieces threads (whole_pieces first logs)
are_whole threads first [] small = tt
are_whole threads first (log ∷ logs) small =
    are_both threads (piece_of first log) (whole_pieces (suc first) logs) (is_piece threads first log (omega (arith, small))) (are_whole threads (suc first) logs (omega (arith, small)))

pub marks_of-append : (thread : ℕ) (a b : List Piece) → marks_of thread (a ++ b) ≡ marks_of thread a ++ marks_of thread b
marks_of-append thread [] b = refl
marks_of-append thread (p ∷ a) b =
    ap (λ (m : List Gapped). cond (eqb thread p.thread) p.marks [] ++ m) (marks_of-append thread a b)
    ∙ sym (append_assoc (cond (eqb thread p.thread) p.marks []) (marks_of thread a) (marks_of thread b))

own_marks : (thread : ℕ) (log : ThreadLog) → marks_of thread (piece_of thread log) ≡ log.marks
own_marks thread log =
    elim (eqb (length log.marks) 0) as (λ v. eqb (length log.marks) 0 ≡ v → marks_of thread (cond v [] (record { thread = thread; marks = log.marks } ∷ [])) ≡ log.marks) [
      | true ↦ λ is. sym (nil_from_length log.marks (eqb-true (length log.marks) 0 is))
      | false ↦ λ is. rw (eqb_same thread) (append-nil log.marks)
    ] refl
  where
    eqb_same : (n : ℕ) → eqb n n ≡ true
    eqb_same n = grind arith

other_marks : (thread other : ℕ) (log : ThreadLog) → other < thread → marks_of thread (piece_of other log) ≡ []
other_marks thread other log before =
    elim (eqb (length log.marks) 0) as (λ v. marks_of thread (cond v [] (record { thread = other; marks = log.marks } ∷ [])) ≡ []) [
      | true ↦ refl
      | false ↦ rw (ne_eqb thread other (λ e. absurd (omega (arith, e, before)))) refl
    ]

-- pieces without a mark of the threads from a number on
abbrev AreBefore : ℕ → List Piece → Type 0
AreBefore first pieces = (thread : ℕ) → first ≤ thread → marks_of thread pieces ≡ []

-- the first of the threads has no piece behind its own
behind : (first thread : ℕ) (logs : List ThreadLog) → thread < first → marks_of thread (whole_pieces first logs) ≡ []
behind first thread [] before = refl
behind first thread (log ∷ logs) before =
    marks_of-append thread (piece_of first log) (whole_pieces (suc first) logs)
    ∙ (λ i. none i ++ behind (suc first) thread logs (omega (arith, before)) i)
  where
    none : marks_of thread (piece_of first log) ≡ []
    none = elim (eqb (length log.marks) 0) as (λ v. marks_of thread (cond v [] (record { thread = first; marks = log.marks } ∷ [])) ≡ []) [
      | true ↦ refl
      | false ↦ rw (ne_eqb thread first (λ e. absurd (omega (arith, e, before)))) refl
    ]

have_from : (first : ℕ) (front : List Piece) (logs : List ThreadLog) → AreBefore first front → HaveMarks first (front ++ whole_pieces first logs) logs
have_from first front [] before = tt
have_from first front (log ∷ logs) before =
    let own = piece_of first log in
    let rest = whole_pieces (suc first) logs in
    let mine : marks_of first (front ++ (own ++ rest)) ≡ log.marks =
    marks_of-append first front (own ++ rest) ∙ (λ i. before first (omega arith) i ++ marks_of-append first own rest i)
    ∙ (λ i. own_marks first log i ++ behind (suc first) first logs (omega arith) i) ∙ append-nil log.marks in
    let after : AreBefore (suc first) (front ++ own) = λ thread above. marks_of-append thread front own ∙ (λ i. before thread (omega (arith, above)) i ++ other_marks thread first log (omega (arith, above)) i) in
    (mine, subst (λ (pieces : List Piece). HaveMarks (suc first) pieces logs) (append_assoc front own rest) (have_from (suc first) (front ++ own) logs after))

pub have_whole : (logs : List ThreadLog) → HaveMarks 0 (whole_pieces 0 logs) logs
have_whole logs = have_from 0 [] logs (λ thread above. refl)
