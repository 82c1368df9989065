-- The bytes of a log that was written in parts.
use Rattle.std.proofs.Common.{◌≡◌, ◌≢◌, ◌∙◌, ℕ, zero, suc, ◌+◌, ◌*◌, ◌<◌, ◌≤◌, inl, inr, true, cond, eqb, List, [], ◌∷◌, ◌++◌, map, length, length-append, Some, refl, sym, ap, arith, append_assoc, append-nil}
use Rattle.std.specs.List.{flat_map, sum_by}
use Rattle.std.specs.Int.{w32, to_be_bytes}
use Rattle.std.proofs.lemmas.Bool.{cases_eq, ne_eqb}
use Rattle.std.proofs.lemmas.List.Sums.{sum_by-cons, sum_by-append}
use Rattle.std.proofs.lemmas.List.Concat.{flat_map-cons}
use Rattle.octet_model.specs.declared.log.Gapped.{Gapped}
use Rattle.octet_model.specs.declared.log.Log.{Log}
use Rattle.octet_model.specs.declared.log.ThreadLog.{ThreadLog}
use Rattle.octet_model.specs.declared.outcome.Outcome.{Outcome}
use Rattle.octet_model.specs.declared.script.Script.{Script}
use Rattle.octet_model.specs.Orders.{IsFaithful}
use Rattle.octet_model.specs.Texts.{mark_bytes, thread_bytes, log_bytes}
use Rattle.octet_model.specs.Validity.{IsValidLog}
use Rattle.octet_model.proofs.lemmas.LogLength.{marks_length, faithful_log_is_short}
use Rattle.octet_model.proofs.lemmas.Validity.{valid_log}
use Rattle.octet_log.specs.v2.Short.{short_bytes}
use Rattle.octet_log.specs.v2.Pieces.{Piece, IsPiece, ArePieces, HaveMarks, marks_of, marks_in, short_mark_bytes, piece_bytes, head_bytes, tail_bytes, pieced_bytes, SpellsPieces}
use Rattle.octet_commands.specs.Commands.{IsLogFile}
use Rattle.octet_top.proofs.writing.Parts.{log_parts}
use Rattle.octet_top.proofs.writing.Left.{joined}
use Rattle.octet_commands.proofs.lemmas.Lengths.{groups_small, marks_short, tail_short, gaps_in, gaps_within_log}

-- the parts are the log's bytes
pieces_joined : (pieces : List Piece) (tail : List ℕ) → joined (map piece_bytes pieces ++ tail ∷ []) ≡ flat_map piece_bytes pieces ++ tail
pieces_joined [] tail = append-nil tail
pieces_joined (p ∷ pieces) tail = ap (λ (l : List ℕ). piece_bytes p ++ l) (pieces_joined pieces tail) ∙ sym (append_assoc (piece_bytes p) (flat_map piece_bytes pieces) tail)

pub parts_joined : (digest : List ℕ) (pieces : List Piece) (logs : List ThreadLog) → joined (log_parts digest pieces logs) ≡ pieced_bytes digest pieces logs
parts_joined digest pieces logs = ap (λ (l : List ℕ). head_bytes (length logs) digest ++ l) (pieces_joined pieces (tail_bytes logs))

-- what a piece takes is no more than this of each of its marks
abbrev weight : Gapped → ℕ
weight m = 16 + m.gap

abbrev weigh : List Gapped → ℕ
weigh marks = sum_by weight marks

weigh-is : (marks : List Gapped) → weigh marks ≡ 16 * length marks + sum_by (λ m. m.gap) marks
weigh-is [] = refl
weigh-is (m ∷ marks) = omega (arith, sum_by-cons weight m marks, sum_by-cons (λ (g : Gapped). g.gap) m marks, weigh-is marks)

piece_light : (threads : ℕ) (piece : Piece) → IsPiece threads piece → length (piece_bytes piece) ≤ weigh piece.marks
piece_light threads piece is =
    omega (arith, is.some_mark, weigh-is piece.marks, length-append (short_bytes (length piece.marks)) (flat_map short_mark_bytes piece.marks), groups_small 9 (length piece.marks), marks_short piece.marks)

pieces_light : (threads : ℕ) (pieces : List Piece) → ArePieces threads pieces → length (flat_map piece_bytes pieces) ≤ sum_by (λ p. weigh p.marks) pieces
pieces_light threads [] are = omega arith
pieces_light threads (p ∷ pieces) are =
    omega (
      arith,
      ap (λ (l : List ℕ). length l) (flat_map-cons piece_bytes p pieces),
      length-append (piece_bytes p) (flat_map piece_bytes pieces),
      piece_light threads p are.0,
      pieces_light threads pieces are.1,
      sum_by-cons (λ (q : Piece). weigh q.marks) p pieces,
    )

-- the sum over so many threads from a number on
abbrev total : ℕ → ℕ → (ℕ → ℕ) → ℕ
total first zero f = 0
total first (suc n) f = f first + total (suc first) n f

total_none : (first n : ℕ) (f : ℕ → ℕ) → ((t : ℕ) → first ≤ t → f t ≡ 0) → total first n f ≡ 0
total_none first zero f none = refl
total_none first (suc n) f none = omega (arith, none first (omega arith), total_none (suc first) n f (λ t least. none t (omega (arith, least))))

total_both : (first n : ℕ) (f g h : ℕ → ℕ) → ((t : ℕ) → h t ≡ f t + g t) → total first n h ≡ total first n f + total first n g
total_both first zero f g h both = refl
total_both first (suc n) f g h both = omega (arith, both first, total_both (suc first) n f g h both)

-- of what one thread alone has
total_one : (first n thread k : ℕ) (f : ℕ → ℕ) → first ≤ thread → thread < first + n → f thread ≡ k → ((t : ℕ) → t ≢ thread → f t ≡ 0) → total first n f ≡ k
total_one first zero thread k f least most is others = absurd (omega (arith, least, most))
total_one first (suc n) thread k f least most is others = elim (cases_eq first thread) [
  | inl same ↦ omega (arith, ap f same, is, total_none (suc first) n f (λ t less. others t (λ e. absurd (omega (arith, e, less, same)))))
  | inr differ ↦ omega (arith, others first differ, total_one (suc first) n thread k f (omega (arith, least, differ)) (omega (arith, most)) is others)
]

-- the marks of the pieces are those of the threads
pieces_weigh : (n : ℕ) (pieces : List Piece) → ArePieces n pieces → total 0 n (λ t. weigh (marks_of t pieces)) ≡ sum_by (λ p. weigh p.marks) pieces
pieces_weigh n [] are = total_none 0 n (λ t. 0) (λ t least. refl)
pieces_weigh n (p ∷ pieces) are =
    let own : ℕ → ℕ = λ t. weigh (cond (eqb t p.thread) p.marks []) in
    let one : total 0 n own ≡ weigh p.marks =
    total_one 0 n p.thread (weigh p.marks) own (omega arith) (omega (arith, are.0.thread)) (rw (same_eqb p.thread) refl) (λ t differ. rw (ne_eqb t p.thread differ) refl) in
    omega (
      arith,
      total_both 0 n own (λ t. weigh (marks_of t pieces)) (λ t. weigh (marks_of t (p ∷ pieces))) (λ t. sum_by-append weight (cond (eqb t p.thread) p.marks []) (marks_of t pieces)),
      one,
      pieces_weigh n pieces are.1,
      sum_by-cons (λ (q : Piece). weigh q.marks) p pieces,
    )
  where
    same_eqb : (n : ℕ) → eqb n n ≡ true
    same_eqb n = grind arith

logs_weigh : (first : ℕ) (pieces : List Piece) (logs : List ThreadLog) → HaveMarks first pieces logs → total first (length logs) (λ t. weigh (marks_of t pieces)) ≡ sum_by (λ log. weigh log.marks) logs
logs_weigh first pieces [] have = refl
logs_weigh first pieces (log ∷ logs) have = omega (arith, ap weigh have.0, logs_weigh (suc first) pieces logs have.1, sum_by-cons (λ (l : ThreadLog). weigh l.marks) log logs)

weigh_all : (logs : List ThreadLog) → sum_by (λ log. weigh log.marks) logs ≡ 16 * marks_in logs + gaps_in logs
weigh_all [] = refl
weigh_all (log ∷ logs) =
    omega (
      arith,
      weigh-is log.marks,
      weigh_all logs,
      sum_by-cons (λ (l : ThreadLog). weigh l.marks) log logs,
      sum_by-cons (λ (l : ThreadLog). length l.marks) log logs,
      sum_by-cons (λ (l : ThreadLog). sum_by (λ (m : Gapped). m.gap) l.marks) log logs,
    )

threads_length : (logs : List ThreadLog) → 14 * marks_in logs ≤ length (flat_map thread_bytes logs)
threads_length [] = omega arith
threads_length (log ∷ logs) =
    omega (
      arith,
      length-append (thread_bytes log) (flat_map thread_bytes logs),
      length-append (to_be_bytes w32 log.accesses) (to_be_bytes w32 (length log.marks) ++ flat_map mark_bytes log.marks),
      length-append (to_be_bytes w32 (length log.marks)) (flat_map mark_bytes log.marks),
      marks_length log.marks,
      sum_by-cons (λ (l : ThreadLog). length l.marks) log logs,
      threads_length logs,
    )

few_marks : (logs : List ThreadLog) → 14 * marks_in logs ≤ length (log_bytes logs)
few_marks logs = omega (arith, threads_length logs)

-- so the file of a faithful recording is within its limit, whatever its pieces
pub live_file : (bytes digest : List ℕ) (script : Script) (log : Log) (outcome : Outcome) → IsFaithful script log.threads outcome → SpellsPieces bytes digest log.threads → IsLogFile bytes (Some digest) log.threads
live_file bytes digest script log outcome faithful spells =
    let logs = log.threads in
    let limits : IsValidLog logs = valid_log logs log.valid in
    let pieces = spells.pieces in
    let all : length (flat_map piece_bytes pieces) ≤ 16 * marks_in logs + gaps_in logs =
    omega (arith, pieces_light (length logs) pieces spells.are, pieces_weigh (length logs) pieces spells.are, logs_weigh 0 pieces logs spells.have, weigh_all logs) in
    record {
      spelled = spells;
      within_limit = omega (
        arith,
        ap (λ (l : List ℕ). length l) spells.parts,
        length-append (flat_map piece_bytes pieces) (tail_bytes logs),
        length-append digest (flat_map piece_bytes pieces ++ tail_bytes logs),
        all,
        tail_short logs,
        gaps_within_log log,
        limits.most_threads,
        limits.accesses_of_all,
        spells.whole,
        few_marks logs,
        faithful_log_is_short script logs outcome faithful log.valid,
      );
    }
