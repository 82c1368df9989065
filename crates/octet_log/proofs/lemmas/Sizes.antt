-- A log of version 1 within the limit of a file has no more marks than version 2 allows.
use Rattle.std.proofs.Common.{◌≡◌, ℕ, ◌+◌, ◌*◌, ◌≤◌, List, [], ◌∷◌, ◌++◌, length, Option, Some, None, refl, ap, ◌∙◌, arith}
use Rattle.std.specs.List.{flat_map}
use Rattle.std.specs.Int.{w32, to_be_bytes}
use Rattle.std.proofs.lemmas.List.{length-append}
use Rattle.std.proofs.lemmas.List.Sums.{sum_by-cons}
use Rattle.std.proofs.lemmas.List.Concat.{flat_map-cons}
use Rattle.octet_model.specs.declared.log.ThreadLog.{ThreadLog}
use Rattle.octet_model.specs.Texts.{mark_bytes, thread_bytes}
use Rattle.octet_log.specs.v2.Pieces.{marks_in}
use Rattle.octet_log.specs.Spellings.{IsSpelling}
use Rattle.octet_log.proofs.Fields.{wide32}
use Rattle.octet_log.proofs.version1.Marks.{length-marks}

length-thread : (log : ThreadLog) → length (thread_bytes log) ≡ 8 + 14 * length log.marks
length-thread log =
    length-append (to_be_bytes w32 log.accesses ++ to_be_bytes w32 (length log.marks)) (flat_map mark_bytes log.marks)
    ∙ omega (arith, length-append (to_be_bytes w32 log.accesses) (to_be_bytes w32 (length log.marks)), wide32.len log.accesses, wide32.len (length log.marks), length-marks log.marks)

length-threads : (logs : List ThreadLog) → length (flat_map thread_bytes logs) ≡ 8 * length logs + 14 * marks_in logs
length-threads [] = refl
length-threads (log ∷ logs) =
    ap (λ (l : List ℕ). length l) (flat_map-cons thread_bytes log logs) ∙ length-append (thread_bytes log) (flat_map thread_bytes logs)
    ∙ omega (arith, length-thread log, length-threads logs, sum_by-cons (λ (l : ThreadLog). length l.marks) log logs)

pub few_marks : (bytes : List ℕ) (digest : Option (List ℕ)) (logs : List ThreadLog) → length bytes ≤ 67108864 → IsSpelling bytes digest logs → marks_in logs ≤ 4793490
few_marks bytes None logs short spells =
    let whole : length bytes ≡ 6 + length (flat_map thread_bytes logs) = ap (λ (l : List ℕ). length l) spells ∙ omega arith in
    omega (arith, whole, length-threads logs, short)
few_marks bytes (Some digest) logs short spells = spells.few
