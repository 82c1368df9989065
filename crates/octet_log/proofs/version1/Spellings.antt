-- Bytes of version 1 and the log that they spell.
use Rattle.std.proofs.Common.{◌≡◌, ℕ, true, eqb, List, [], ◌++◌, length, ◌-◌, Ok, sym, ap, ◌∙◌}
use Rattle.std.proofs.lemmas.Bool.{eqb-true}
use Rattle.std.proofs.lemmas.List.{append-nil, nil_from_length}
use Rattle.octet_model.specs.declared.log.ThreadLog.{ThreadLog}
use Rattle.octet_model.specs.Log.{is_log}
use Rattle.octet_model.specs.Texts.{log_bytes}
use Rattle.octet_log.specs.declared.cause.LogCause.TheVariants.{Trailing}
use Rattle.octet_log.specs.v1.Decoding.{decoded}
use Rattle.octet_log.proofs.Fields.{wanted_ok, ok_is}
use Rattle.octet_log.proofs.version1.Whole.{decoded_again}

-- a log's spelling is decoded as that log
pub spelling_decoded : (logs : List ThreadLog) → is_log logs ≡ true → decoded (log_bytes logs) ≡ Ok logs
spelling_decoded logs valid = ap decoded (sym (append-nil (log_bytes logs))) ∙ decoded_again logs [] valid

pub one_log : (one other : List ThreadLog) → is_log one ≡ true → is_log other ≡ true → log_bytes one ≡ log_bytes other → one ≡ other
one_log one other valid other_valid same = ok_is one other (sym (spelling_decoded one valid) ∙ ap decoded same ∙ spelling_decoded other other_valid)

-- no log's spelling goes on in another's
pub goes_nowhere : (one other : List ThreadLog) (rest : List ℕ) → is_log one ≡ true → is_log other ≡ true → log_bytes other ≡ log_bytes one ++ rest → rest ≡ []
goes_nowhere one other rest valid other_valid same =
    let judged = sym (decoded_again one rest valid) ∙ ap decoded (sym same) ∙ spelling_decoded other other_valid in
    nil_from_length rest (eqb-true _ _ (wanted_ok (eqb (length rest) 0) (Trailing (length (log_bytes one ++ rest) - length rest)) (λ _. Ok one) other judged).0)
