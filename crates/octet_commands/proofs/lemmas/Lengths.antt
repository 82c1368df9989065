-- A log in version 2 is within the limit of a log's file.
use Rattle.std.proofs.Common.{◌≡◌, ℕ, zero, suc, ◌+◌, ◌*◌, ◌/◌, ◌%◌, ◌^◌, ◌≤◌, ◌&&◌, Bool, true, false, cond, ltb, leb, eqb, List, [], ◌∷◌, ◌++◌, length, length-append, None, Some, refl, ap, subst, ◌∙◌, arith}
use Rattle.std.specs.List.{flat_map, sum_by, list_all}
use Rattle.sha2.specs.Sha256.{sha256}
use Rattle.std.proofs.lemmas.Bool.{leb-true, ltb-false}
use Rattle.std.proofs.lemmas.List.Sums.{sum_by-cons}
use Rattle.std.proofs.lemmas.List.Concat.{flat_map-cons, flat_map-append}
use Rattle.octet_model.specs.declared.event.Mark.{Mark}
use Rattle.octet_model.specs.declared.event.Mark.TheVariants.{Join, Draw, Fence}
use Rattle.octet_model.specs.declared.log.Gapped.{Gapped}
use Rattle.octet_model.specs.declared.log.Log.{Log}
use Rattle.octet_model.specs.declared.log.ThreadLog.{ThreadLog}
use Rattle.octet_model.specs.declared.limits.TheConstants.{MAX_ACCESSES, MAX_LOG_FILE, MAX_THREADS}
use Rattle.octet_model.specs.Log.{is_mark, is_thread_log, are_thread_logs, is_log}
use Rattle.octet_model.specs.Texts.{log_bytes}
use Rattle.octet_model.specs.Validity.{IsValidLog}
use Rattle.octet_model.proofs.lemmas.Validity.{valid_log}
use Rattle.octet_log.specs.declared.limits.TheConstants.{MAX_MARKS}
use Rattle.octet_log.specs.v2.Short.{groups, short_bytes}
use Rattle.octet_log.specs.v2.Pieces.{Piece, short_mark_of, short_mark_bytes, piece_bytes, tail_bytes, marks_in, whole_pieces, pieced_bytes}
use Rattle.octet_log.specs.Spellings.{IsSpelling}
use Rattle.octet_log.proofs.lemmas.Sizes.{few_marks}
use Rattle.octet_commands.specs.Commands.{IsLogFile, second_bytes}

-- a short number has at most ten bytes, and a small one few
groups_few : (more number : ℕ) → length (groups more number) ≤ suc more
unfolding groups
groups_few zero number = omega arith
groups_few (suc more) number = elim (ltb number 128) as (λ b. length (cond b (number ∷ []) ((number % 128 + 128) ∷ groups more (number / 128))) ≤ suc (suc more)) [
  | true ↦ omega arith
  | false ↦ omega (arith, groups_few more (number / 128))
]

pub groups_small : (more number : ℕ) → length (groups more number) ≤ 1 + number
unfolding groups
groups_small zero number = omega arith
groups_small (suc more) number = elim (ltb number 128) as (λ b. ltb number 128 ≡ b → length (cond b (number ∷ []) ((number % 128 + 128) ∷ groups more (number / 128))) ≤ 1 + number) [
  | true ↦ λ is. omega arith
  | false ↦ λ is. omega (arith, ltb-false number 128 is, groups_small more (number / 128))
] refl

short_few : (number : ℕ) → length (short_bytes number) ≤ 10
short_few number = groups_few 9 number

-- a mark has at most thirteen bytes and its gap's
mark_short : (gapped : Gapped) → length (short_mark_bytes gapped) ≤ 13 + gapped.gap
mark_short gapped = of_mark gapped.mark
  where
    of_mark : (mark : Mark) → length (short_mark_of gapped.gap mark) ≤ 13 + gapped.gap
    of_mark (Join from upto) = omega (arith, length-append (short_bytes gapped.gap) (from ∷ short_bytes upto), groups_small 9 gapped.gap, short_few upto)
    of_mark (Draw number) = omega (arith, length-append (short_bytes gapped.gap) (short_bytes number), groups_small 9 gapped.gap, short_few number)
    of_mark (Fence number) = omega (arith, length-append (short_bytes gapped.gap) (short_bytes number), groups_small 9 gapped.gap, short_few number)

pub marks_short : (marks : List Gapped) → length (flat_map short_mark_bytes marks) ≤ 13 * length marks + sum_by (λ m. m.gap) marks
marks_short [] = omega arith
marks_short (m ∷ marks) =
    omega (
      arith,
      ap (λ (l : List ℕ). length l) (flat_map-cons short_mark_bytes m marks),
      length-append (short_mark_bytes m) (flat_map short_mark_bytes marks),
      mark_short m,
      marks_short marks,
      sum_by-cons (λ (g : Gapped). g.gap) m marks,
    )

-- all gaps of all threads
abbrev pub gaps_in : List ThreadLog → ℕ
gaps_in logs = sum_by (λ log. sum_by (λ m. m.gap) log.marks) logs

-- the pieces have at most eleven bytes a thread beside their marks
piece_short : (thread : ℕ) (log : ThreadLog) → length (flat_map piece_bytes (cond (eqb (length log.marks) 0) [] (record { thread = thread; marks = log.marks } ∷ []))) ≤ 11 + (13 * length log.marks + sum_by (λ m. m.gap) log.marks)
piece_short thread log =
    elim (eqb (length log.marks) 0) as (λ b. length (flat_map piece_bytes (cond b [] (record { thread = thread; marks = log.marks } ∷ []))) ≤ 11 + (13 * length log.marks + sum_by (λ m. m.gap) log.marks)) [
      | true ↦ omega arith
      | false ↦ omega (
        arith,
        length-append (piece_bytes (record { thread = thread; marks = log.marks })) [],
        length-append (short_bytes (length log.marks)) (flat_map short_mark_bytes log.marks),
        short_few (length log.marks),
        marks_short log.marks,
      )
    ]

pieces_short : (first : ℕ) (logs : List ThreadLog) → length (flat_map piece_bytes (whole_pieces first logs)) ≤ 11 * length logs + (13 * marks_in logs + gaps_in logs)
pieces_short first [] = omega arith
pieces_short first (log ∷ logs) =
    let own : List Piece = cond (eqb (length log.marks) 0) [] (record { thread = first; marks = log.marks } ∷ []) in
    omega (
      arith,
      ap (λ (l : List ℕ). length l) (flat_map-append piece_bytes own (whole_pieces (suc first) logs)),
      length-append (flat_map piece_bytes own) (flat_map piece_bytes (whole_pieces (suc first) logs)),
      piece_short first log,
      pieces_short (suc first) logs,
      sum_by-cons (λ (l : ThreadLog). length l.marks) log logs,
      sum_by-cons (λ (l : ThreadLog). sum_by (λ (m : Gapped). m.gap) l.marks) log logs,
    )

pub tail_short : (logs : List ThreadLog) → length (tail_bytes logs) ≤ 1 + 10 * length logs
tail_short logs = omega (arith, by logs)
  where
    by : (logs : List ThreadLog) → length (flat_map (λ (log : ThreadLog). short_bytes log.accesses) logs) ≤ 10 * length logs
    by [] = omega arith
    by (log ∷ logs) =
        omega (
          arith,
          ap (λ (l : List ℕ). length l) (flat_map-cons (λ (log : ThreadLog). short_bytes log.accesses) log logs),
          length-append (short_bytes log.accesses) (flat_map (λ (log : ThreadLog). short_bytes log.accesses) logs),
          short_few log.accesses,
          by logs,
        )

-- of a valid log the gaps are at most the accesses
both_hold : (a b : Bool) → a && b ≡ true → (a ≡ true) × (b ≡ true)
both_hold true b is = (refl, is)
both_hold false b is = absurd cc

gaps_within : (threads first : ℕ) (logs : List ThreadLog) → are_thread_logs threads first logs ≡ true → gaps_in logs ≤ sum_by (λ log. log.accesses) logs
gaps_within threads first [] valid = omega arith
gaps_within threads first (log ∷ logs) valid =
    let each = both_hold (is_thread_log threads first log) (are_thread_logs threads (suc first) logs) valid in
    let few : Bool = ltb (length log.marks) (2 ^ 31) in
    let fit : Bool = leb (sum_by (λ (m : Gapped). m.gap) log.marks) log.accesses in
    let own = both_hold few fit (both_hold (few && fit) (list_all (λ (m : Gapped). is_mark threads first m.mark) log.marks) each.0).0 in
    omega (
      arith,
      leb-true (sum_by (λ (m : Gapped). m.gap) log.marks) log.accesses own.1,
      gaps_within threads (suc first) logs each.1,
      sum_by-cons (λ (l : ThreadLog). l.accesses) log logs,
      sum_by-cons (λ (l : ThreadLog). sum_by (λ (m : Gapped). m.gap) l.marks) log logs,
    )

pub gaps_within_log : (log : Log) → gaps_in log.threads ≤ sum_by (λ log. log.accesses) log.threads
gaps_within_log log =
    let logs = log.threads in
    gaps_within (length logs) 0 logs (both_hold (leb 1 (length logs) && leb (length logs) MAX_THREADS && leb (sum_by (λ (l : ThreadLog). l.accesses) logs) MAX_ACCESSES) (are_thread_logs (length logs) 0 logs) log.valid).1

pub second_is_short : (digest : List ℕ) (logs : List ThreadLog) → length digest ≡ 32 → is_log logs ≡ true → marks_in logs ≤ MAX_MARKS → length (pieced_bytes digest (whole_pieces 0 logs) logs) ≤ MAX_LOG_FILE
second_is_short digest logs whole valid few =
    let limits : IsValidLog logs = valid_log logs valid in
    let each : are_thread_logs (length logs) 0 logs ≡ true = (both_hold (leb 1 (length logs) && leb (length logs) MAX_THREADS && leb (sum_by (λ (log : ThreadLog). log.accesses) logs) MAX_ACCESSES) (are_thread_logs (length logs) 0 logs) valid).1 in
    omega (
      arith,
      length-append (flat_map piece_bytes (whole_pieces 0 logs)) (tail_bytes logs),
      length-append digest (flat_map piece_bytes (whole_pieces 0 logs) ++ tail_bytes logs),
      pieces_short 0 logs,
      tail_short logs,
      gaps_within (length logs) 0 logs each,
      limits.most_threads,
      limits.accesses_of_all,
      whole,
      few,
    )

-- a log within that limit in version 1 has no more marks than version 2 allows: each has fourteen bytes there
pub first_has_few : (logs : List ThreadLog) → length (log_bytes logs) ≤ MAX_LOG_FILE → marks_in logs ≤ MAX_MARKS
first_has_few logs short = few_marks (log_bytes logs) None logs short refl

-- a log that is written in version 2, with the digest of a text
module _ (text digest : List ℕ) (log : Log) (bytes : List ℕ) (of_text : digest ≡ sha256 text) (few : marks_in log.threads ≤ MAX_MARKS) (whole : bytes ≡ pieced_bytes digest (whole_pieces 0 log.threads) log.threads) (spells : IsSpelling bytes (Some digest) log.threads) where
  pub is_second : bytes ≡ second_bytes text log.threads
  is_second = whole ∙ ap (λ (d : List ℕ). pieced_bytes d (whole_pieces 0 log.threads) log.threads) of_text

  pub second_written : IsLogFile bytes (Some (sha256 text)) log.threads
  second_written = record {
    spelled = subst (λ (d : List ℕ). IsSpelling bytes (Some d) log.threads) of_text spells;
    within_limit = omega (arith, ap (λ (l : List ℕ). length l) whole, second_is_short digest log.threads spells.whole log.valid few);
  }

  pub second_file : IsLogFile (second_bytes text log.threads) (Some (sha256 text)) log.threads
  second_file = subst (λ (b : List ℕ). IsLogFile b (Some (sha256 text)) log.threads) is_second second_written

-- a log that is written in version 1, after its run
pub first_file : (log : Log) (bytes : List ℕ) → length (log_bytes log.threads) ≤ MAX_LOG_FILE → bytes ≡ log_bytes log.threads → IsLogFile bytes None log.threads
first_file log bytes short is = record { spelled = is; within_limit = omega (arith, ap (λ (l : List ℕ). length l) is, short) }
