-- Pieces and the tail that are read are those that were written, and what was written is read again.
use Rattle.std.proofs.Common.{◌≡◌, ℕ, zero, suc, ◌+◌, ◌-◌, ◌<◌, ◌≤◌, true, false, cond, eqb, leb, List, [], ◌∷◌, ◌++◌, length, Ok, refl, sym, ap, subst, ◌∙◌, append_assoc, arith}
use Rattle.std.specs.Prelude.{sum_by}
use Rattle.std.specs.List.{flat_map}
use Rattle.std.proofs.lemmas.Bool.{eqb-true, eqb-false, ne_eqb, leb-true, le-leb}
use Rattle.std.proofs.lemmas.List.{append-nil, length-append}
use Rattle.std.proofs.lemmas.List.Sums.{sum_by-cons}
use Rattle.std.proofs.lemmas.List.Concat.{flat_map-cons}
use Rattle.octet_model.specs.declared.log.Gapped.{Gapped}
use Rattle.octet_model.specs.declared.log.ThreadLog.{ThreadLog}
use Rattle.octet_log.specs.declared.cause.LogCause.TheVariants.{TooManyAccesses, GapsOver}
use Rattle.octet_log.specs.Judging.{◌>>=◌, wanted, byte_at}
use Rattle.octet_log.specs.Inputs.{IsInput}
use Rattle.octet_log.specs.v2.Short.{short_bytes, short_at}
use Rattle.octet_log.specs.v2.Pieces.{marks_bytes, Piece, piece_bytes, ArePieces, marks_of, marks_in}
use Rattle.octet_log.specs.v2.Decoding.{piece_at, added, pieces_at, accesses_at, tail_at}
use Rattle.octet_log.proofs.Fields.{bind_ok, wanted_ok, ok_is, Takes, Takes-then, byte_takes}
use Rattle.octet_log.proofs.version2.Groups.{short_takes, short_again}
use Rattle.octet_log.proofs.version2.Marks.{GoodPiece, piece_takes, piece_again}

-- the marks of all pieces, each behind those that its thread has
abbrev pub all_added : List Piece → List ThreadLog → List ThreadLog
all_added [] logs = logs
all_added (piece ∷ pieces) logs = all_added pieces (added 0 piece.thread piece.marks logs)

-- pieces that may stand after that many marks
abbrev pub GoodPieces : ℕ → ℕ → List Piece → Type 0
GoodPieces threads before [] = Unit {0}
GoodPieces threads before (piece ∷ pieces) = GoodPiece threads piece.thread before piece.marks × GoodPieces threads (before + length piece.marks) pieces

-- pieces that were read, up to the byte that ends them
pub record ArePiecesOf (threads before : ℕ) (logs : List ThreadLog) (bytes : List ℕ) (x : List ThreadLog × List ℕ) : Type 0 where
  pub pieces : List Piece
  pub takes : Takes bytes (flat_map piece_bytes pieces ++ 255 ∷ []) x.1
  pub is : x.0 ≡ all_added pieces logs
  pub good : GoodPieces threads before pieces

one_more : (threads before : ℕ) (logs : List ThreadLog) (bytes rest : List ℕ) (thread : ℕ) (marks : List Gapped) (x : List ThreadLog × List ℕ)
    → Takes bytes (thread ∷ marks_bytes marks) rest → GoodPiece threads thread before marks → ArePiecesOf threads (before + length marks) (added 0 thread marks logs) rest x → ArePiecesOf threads before logs bytes x
one_more threads before logs bytes rest thread marks x takes good more =
    let piece : Piece = record { thread = thread; marks = marks } in
    let both = Takes-then bytes (piece_bytes piece) rest (flat_map piece_bytes more.pieces ++ 255 ∷ []) x.1 takes more.takes in
    let regrouped : piece_bytes piece ++ (flat_map piece_bytes more.pieces ++ 255 ∷ []) ≡ flat_map piece_bytes (piece ∷ more.pieces) ++ 255 ∷ [] =
    sym (ap (λ (l : List ℕ). l ++ 255 ∷ []) (flat_map-cons piece_bytes piece more.pieces) ∙ append_assoc (piece_bytes piece) (flat_map piece_bytes more.pieces) (255 ∷ [])) in
    record { pieces = piece ∷ more.pieces; takes = subst (λ (t : List ℕ). Takes bytes t x.1) regrouped both; is = more.is; good = (good, more.good) }

pub pieces_take : (most total threads before : ℕ) (logs : List ThreadLog) (bytes : List ℕ) (x : List ThreadLog × List ℕ) → IsInput bytes → pieces_at most total threads before logs bytes ≡ Ok x → ArePiecesOf threads before logs bytes x
unfolding pieces_at
pieces_take zero total threads before logs bytes x is e = absurd cc
pieces_take (suc most) total threads before logs bytes x is e =
    let place = total - length bytes in
    let b = bind_ok (byte_at total bytes) (λ thread. cond (eqb thread.0 255) (Ok (logs, thread.1)) (piece_at total threads place thread.0 before thread.1 >>= λ marks. pieces_at most total threads (before + length marks.0) (added 0 thread.0 marks.0 logs) marks.1)) x e in
    let t = byte_takes total bytes b.0.0 b.0.1 is b.1 in
    elim (eqb b.0.0 255) as (λ v. eqb b.0.0 255 ≡ v → cond v (Ok (logs, b.0.1)) (piece_at total threads place b.0.0 before b.0.1 >>= λ marks. pieces_at most total threads (before + length marks.0) (added 0 b.0.0 marks.0 logs) marks.1) ≡ Ok x → ArePiecesOf threads before logs bytes x) [
      | true ↦ λ last h.
          subst (ArePiecesOf threads before logs bytes) (ok_is (logs, b.0.1) x h)
          (record { pieces = []; takes = subst (λ (n : ℕ). Takes bytes (n ∷ []) b.0.1) (eqb-true b.0.0 255 last) t; is = refl; good = tt })
      | false ↦ λ goes h.
          let p = bind_ok (piece_at total threads place b.0.0 before b.0.1) (λ marks. pieces_at most total threads (before + length marks.0) (added 0 b.0.0 marks.0 logs) marks.1) x h in
          let one = piece_takes total threads place b.0.0 before b.0.1 p.0 t.rest_is p.1 in
          let both = Takes-then bytes (b.0.0 ∷ []) b.0.1 (marks_bytes p.0.0) p.0.1 t one.0 in
          one_more threads before logs bytes p.0.1 b.0.0 p.0.0 x both one.1
          (pieces_take most total threads (before + length p.0.0) (added 0 b.0.0 p.0.0 logs) p.0.1 x one.0.rest_is p.2)
    ] refl b.2

pub one_again : (most total threads before : ℕ) (logs : List ThreadLog) (thread : ℕ) (marks : List Gapped) (rest : List ℕ) → threads ≤ 16 → GoodPiece threads thread before marks
    → pieces_at (suc most) total threads before logs ((thread ∷ marks_bytes marks) ++ rest) ≡ pieces_at most total threads (before + length marks) (added 0 thread marks logs) rest
unfolding pieces_at
one_again most total threads before logs thread marks rest few good =
    let goes : eqb thread 255 ≡ false = ne_eqb thread 255 (λ e. absurd (omega (arith, e, good.thread_is, few))) in
    rw (goes, piece_again total threads (total - length ((thread ∷ marks_bytes marks) ++ rest)) thread before marks rest good) refl

end_again : (most total threads before : ℕ) (logs : List ThreadLog) (rest : List ℕ) → pieces_at (suc most) total threads before logs (255 ∷ rest) ≡ Ok (logs, rest)
unfolding pieces_at
end_again most total threads before logs rest = refl

pub pieces_again : (pieces : List Piece) (most total threads before : ℕ) (logs : List ThreadLog) (rest : List ℕ) → length pieces < most → threads ≤ 16 → GoodPieces threads before pieces
    → pieces_at most total threads before logs (flat_map piece_bytes pieces ++ 255 ∷ rest) ≡ Ok (all_added pieces logs, rest)
pieces_again pieces zero total threads before logs rest short few good = absurd (omega (arith, short))
pieces_again [] (suc most) total threads before logs rest short few good = end_again most total threads before logs rest
pieces_again (piece ∷ pieces) (suc most) total threads before logs rest short few good =
    let after = flat_map piece_bytes pieces ++ 255 ∷ rest in
    let regrouped : flat_map piece_bytes (piece ∷ pieces) ++ 255 ∷ rest ≡ piece_bytes piece ++ after = ap (λ (l : List ℕ). l ++ 255 ∷ rest) (flat_map-cons piece_bytes piece pieces) ∙ append_assoc (piece_bytes piece) (flat_map piece_bytes pieces) (255 ∷ rest) in
    ap (pieces_at (suc most) total threads before logs) regrouped
    ∙ one_again most total threads before logs piece.thread piece.marks after few good.0
    ∙ pieces_again pieces most total threads (before + length piece.marks) (added 0 piece.thread piece.marks logs) rest (omega (arith, short)) few good.1

-- the same threads with their accesses, after that many before: the same marks, whose gaps are within the accesses
abbrev pub HaveAccesses : ℕ → List ThreadLog → List ThreadLog → Type 0
HaveAccesses before [] [] = Unit {0}
HaveAccesses before [] (y ∷ ys) = ⊥
HaveAccesses before (log ∷ logs) [] = ⊥
HaveAccesses before (log ∷ logs) (y ∷ ys) = (y.marks ≡ log.marks) × (before + y.accesses ≤ 262144) × (sum_by (λ m. m.gap) y.marks ≤ y.accesses) × HaveAccesses (before + y.accesses) logs ys

abbrev pub accesses_bytes : List ThreadLog → List ℕ
accesses_bytes logs = flat_map (λ log. short_bytes log.accesses) logs

-- the accesses of a thread that were read
record AreAccesses (before : ℕ) (log : ThreadLog) (bytes : List ℕ) (x : ThreadLog × List ℕ) : Type 0 where
  takes : Takes bytes (short_bytes x.0.accesses) x.1
  marks : x.0.marks ≡ log.marks
  sum : before + x.0.accesses ≤ 262144
  gaps : sum_by (λ m. m.gap) x.0.marks ≤ x.0.accesses

accesses_take : (total thread before : ℕ) (log : ThreadLog) (bytes : List ℕ) (x : ThreadLog × List ℕ) → IsInput bytes → accesses_at total thread before log bytes ≡ Ok x → AreAccesses before log bytes x
unfolding accesses_at
accesses_take total thread before log bytes x is e =
    let gaps = sum_by (λ m. m.gap) log.marks in
    let a = bind_ok (short_at total bytes) (λ accesses. wanted (leb (before + accesses.0) 262144) TooManyAccesses >>= λ allowed. wanted (leb gaps accesses.0) (GapsOver thread) >>= λ within. Ok (record { accesses = accesses.0; marks = log.marks }, accesses.1)) x e in
    let w = wanted_ok (leb (before + a.0.0) 262144) TooManyAccesses (λ _. wanted (leb gaps a.0.0) (GapsOver thread) >>= λ within. Ok (record { accesses = a.0.0; marks = log.marks }, a.0.1)) x a.2 in
    let g = wanted_ok (leb gaps a.0.0) (GapsOver thread) (λ _. Ok (record { accesses = a.0.0; marks = log.marks }, a.0.1)) x w.1 in
    let made : ThreadLog = record { accesses = a.0.0; marks = log.marks } in
    subst (AreAccesses before log bytes) (ok_is (made, a.0.1) x g.1)
    (record { takes = (short_takes total bytes a.0 is a.1).0; marks = refl; sum = leb-true (before + a.0.0) 262144 w.0; gaps = leb-true gaps a.0.0 g.0 })

pub tail_takes : (total thread before : ℕ) (logs : List ThreadLog) (bytes : List ℕ) (x : List ThreadLog × List ℕ) → IsInput bytes → tail_at total thread before logs bytes ≡ Ok x → Takes bytes (accesses_bytes x.0) x.1 × HaveAccesses before logs x.0
unfolding tail_at
tail_takes total thread before [] bytes x is e =
    subst (λ (y : List ThreadLog × List ℕ). Takes bytes (accesses_bytes y.0) y.1 × HaveAccesses before [] y.0) (ok_is ([], bytes) x e) (record { parts = refl; rest_is = is }, tt)
tail_takes total thread before (log ∷ logs) bytes x is e =
    let a = bind_ok (accesses_at total thread before log bytes) (λ first. tail_at total (suc thread) (before + first.0.accesses) logs first.1 >>= λ others. Ok (first.0 ∷ others.0, others.1)) x e in
    let o = bind_ok (tail_at total (suc thread) (before + a.0.0.accesses) logs a.0.1) (λ others. Ok (a.0.0 ∷ others.0, others.1)) x a.2 in
    let first = accesses_take total thread before log bytes a.0 is a.1 in
    let rest = tail_takes total (suc thread) (before + a.0.0.accesses) logs a.0.1 o.0 first.takes.rest_is o.1 in
    let both = Takes-then bytes (short_bytes a.0.0.accesses) a.0.1 (accesses_bytes o.0.0) o.0.1 first.takes rest.0 in
    let made : List ThreadLog × List ℕ = (a.0.0 ∷ o.0.0, o.0.1) in
    subst (λ (y : List ThreadLog × List ℕ). Takes bytes (accesses_bytes y.0) y.1 × HaveAccesses before (log ∷ logs) y.0) (ok_is made x o.2)
    (rw flat_map-cons both, (first.marks, first.sum, first.gaps, rest.1))

pub accesses_again : (total thread before : ℕ) (log y : ThreadLog) (rest : List ℕ) → y.marks ≡ log.marks → before + y.accesses ≤ 262144 → sum_by (λ m. m.gap) y.marks ≤ y.accesses → accesses_at total thread before log (short_bytes y.accesses ++ rest) ≡ Ok (y, rest)
unfolding accesses_at
accesses_again total thread before log y rest marks sum gaps =
    let within : leb (sum_by (λ m. m.gap) log.marks) y.accesses ≡ true = rw (← marks) (le-leb (sum_by (λ m. m.gap) y.marks) y.accesses gaps) in
    rw (short_again total y.accesses rest (omega (arith, sum)), le-leb (before + y.accesses) 262144 sum, within) (λ i. Ok (record { accesses = y.accesses; marks = sym marks i }, rest))

pub tail_again : (total thread before : ℕ) (logs ys : List ThreadLog) (rest : List ℕ) → HaveAccesses before logs ys → tail_at total thread before logs (accesses_bytes ys ++ rest) ≡ Ok (ys, rest)
unfolding tail_at
tail_again total thread before [] [] rest have = refl
tail_again total thread before [] (y ∷ ys) rest have = absurd have
tail_again total thread before (log ∷ logs) [] rest have = absurd have
tail_again total thread before (log ∷ logs) (y ∷ ys) rest have =
    let after = accesses_bytes ys ++ rest in
    let regrouped : accesses_bytes (y ∷ ys) ++ rest ≡ short_bytes y.accesses ++ after = ap (λ (l : List ℕ). l ++ rest) (flat_map-cons (λ (l : ThreadLog). short_bytes l.accesses) y ys) ∙ append_assoc (short_bytes y.accesses) (accesses_bytes ys) rest in
    ap (tail_at total thread before (log ∷ logs)) regrouped
    ∙ rw (accesses_again total thread before log y after have.0 have.1 have.2, tail_again total (suc thread) (before + y.accesses) logs ys rest have.3) refl

-- the logs with the marks that pieces have of their threads
abbrev pub with_pieces : ℕ → List Piece → List ThreadLog → List ThreadLog
with_pieces first pieces [] = []
with_pieces first pieces (log ∷ logs) = record { accesses = log.accesses; marks = log.marks ++ marks_of first pieces } ∷ with_pieces (suc first) pieces logs

with_none : (first : ℕ) (logs : List ThreadLog) → with_pieces first [] logs ≡ logs
with_none first [] = refl
with_none first (log ∷ logs) = λ i. record { accesses = log.accesses; marks = append-nil log.marks i } ∷ with_none (suc first) logs i

with_more : (first : ℕ) (piece : Piece) (pieces : List Piece) (logs : List ThreadLog) → with_pieces first pieces (added first piece.thread piece.marks logs) ≡ with_pieces first (piece ∷ pieces) logs
unfolding added
with_more first piece pieces [] = refl
with_more first piece pieces (log ∷ logs) =
    λ i. record { accesses = log.accesses; marks = append_assoc log.marks (cond (eqb first piece.thread) piece.marks []) (marks_of first pieces) i } ∷ with_more (suc first) piece pieces logs i

pub all_added_is : (pieces : List Piece) (logs : List ThreadLog) → all_added pieces logs ≡ with_pieces 0 pieces logs
all_added_is [] logs = sym (with_none 0 logs)
all_added_is (piece ∷ pieces) logs = all_added_is pieces (added 0 piece.thread piece.marks logs) ∙ with_more 0 piece pieces logs

-- how many marks pieces have
abbrev pub marks_of_all : List Piece → ℕ
marks_of_all [] = 0
marks_of_all (piece ∷ pieces) = length piece.marks + marks_of_all pieces

added_none : (first thread : ℕ) (more : List Gapped) (logs : List ThreadLog) → thread < first → marks_in (added first thread more logs) ≡ marks_in logs
unfolding added
added_none first thread more [] before = refl
added_none first thread more (log ∷ logs) before =
    let rest = added (suc first) thread more logs in
    let mine : ThreadLog = record { accesses = log.accesses; marks = log.marks ++ cond (eqb first thread) more [] } in
    let other : eqb first thread ≡ false = ne_eqb first thread (λ e. absurd (omega (arith, e, before))) in
    let same : length mine.marks ≡ length log.marks = rw other (ap (λ (l : List Gapped). length l) (append-nil log.marks)) in
    sum_by-cons (λ (l : ThreadLog). length l.marks) mine rest ∙ omega (arith, same, added_none (suc first) thread more logs (omega (arith, before)), sum_by-cons (λ (l : ThreadLog). length l.marks) log logs)

added_count : (first thread : ℕ) (more : List Gapped) (logs : List ThreadLog) → first ≤ thread → thread < first + length logs → marks_in (added first thread more logs) ≡ marks_in logs + length more
unfolding added
added_count first thread more [] low high = absurd (omega (arith, low, high))
added_count first thread more (log ∷ logs) low high =
    elim (eqb first thread) as (λ v. eqb first thread ≡ v → marks_in (record { accesses = log.accesses; marks = log.marks ++ cond v more [] } ∷ added (suc first) thread more logs) ≡ marks_in (log ∷ logs) + length more) [
      | true ↦ λ here.
          let mine : ThreadLog = record { accesses = log.accesses; marks = log.marks ++ more } in
          let same : first ≡ thread = eqb-true first thread here in
          sum_by-cons (λ (l : ThreadLog). length l.marks) mine (added (suc first) thread more logs)
          ∙ omega (arith, length-append log.marks more, added_none (suc first) thread more logs (omega (arith, same)), sum_by-cons (λ (l : ThreadLog). length l.marks) log logs)
      | false ↦ λ there.
          let mine : ThreadLog = record { accesses = log.accesses; marks = log.marks ++ [] } in
          let other : ¬ (first ≡ thread) = eqb-false first thread there in
          sum_by-cons (λ (l : ThreadLog). length l.marks) mine (added (suc first) thread more logs)
          ∙ omega (arith, length-append log.marks [], added_count (suc first) thread more logs (omega (arith, low, other)) (omega (arith, high)), sum_by-cons (λ (l : ThreadLog). length l.marks) log logs)
    ] refl

length-added : (first thread : ℕ) (more : List Gapped) (logs : List ThreadLog) → length (added first thread more logs) ≡ length logs
unfolding added
length-added first thread more [] = refl
length-added first thread more (log ∷ logs) = ap suc (length-added (suc first) thread more logs)

pub all_added_count : (pieces : List Piece) (logs : List ThreadLog) → ArePieces (length logs) pieces → marks_in (all_added pieces logs) ≡ marks_in logs + marks_of_all pieces
all_added_count [] logs are = omega arith
all_added_count (piece ∷ pieces) logs are =
    let next = added 0 piece.thread piece.marks logs in
    let same : length next ≡ length logs = length-added 0 piece.thread piece.marks logs in
    omega (arith, all_added_count pieces next (subst (λ (n : ℕ). ArePieces n pieces) (sym same) are.1), added_count 0 piece.thread piece.marks logs (omega arith) (omega (arith, are.0.thread)))
