-- Bytes of either version and the log that they spell, for the proofs above.
use Rattle.std.proofs.Common.{◌≡◌, ℕ, true, eqb, List, [], ◌++◌, length, ◌-◌, Option, Ok, sym, ap, ◌∙◌}
use Rattle.std.proofs.lemmas.Bool.{eqb-true}
use Rattle.std.proofs.lemmas.List.{nil_from_length}
use Rattle.octet_model.specs.declared.log.ThreadLog.{ThreadLog}
use Rattle.octet_model.specs.Log.{is_log}
use Rattle.octet_log.specs.declared.cause.LogCause.TheVariants.{Trailing}
use Rattle.octet_log.specs.Spellings.{IsSpelling}
use Rattle.octet_log.specs.Loading.{Reading, loaded}
use Rattle.octet_log.proofs.Fields.{wanted_ok, ok_is}
use Rattle.octet_log.proofs.Spelled.{loaded_again, spelling_loaded}

-- a spelling of a log is judged to be that log, with its digest
pub spelling_read : (bytes : List ℕ) (digest : Option (List ℕ)) (logs : List ThreadLog) → is_log logs ≡ true → IsSpelling bytes digest logs → loaded bytes ≡ Ok (record { logs = logs; digest = digest })
spelling_read = spelling_loaded

pub one_reading : (bytes : List ℕ) (one other : List ThreadLog) (digest second : Option (List ℕ)) → is_log one ≡ true → is_log other ≡ true → IsSpelling bytes digest one → IsSpelling bytes second other → (one ≡ other) × (digest ≡ second)
one_reading bytes one other digest second valid other_valid spells other_spells =
    let first : Reading = record { logs = one; digest = digest } in
    let last : Reading = record { logs = other; digest = second } in
    let same : first ≡ last = ok_is first last (sym (spelling_loaded bytes digest one valid spells) ∙ spelling_loaded bytes second other other_valid other_spells) in
    (ap (λ (r : Reading). r.logs) same, ap (λ (r : Reading). r.digest) same)

-- no spelling goes on in another
pub spelling_ends : (front rest : List ℕ) (one other : List ThreadLog) (digest second : Option (List ℕ)) → is_log one ≡ true → is_log other ≡ true → IsSpelling front digest one → IsSpelling (front ++ rest) second other → rest ≡ []
spelling_ends front rest one other digest second valid other_valid spells other_spells =
    let judged = sym (loaded_again front rest digest one valid spells) ∙ spelling_loaded (front ++ rest) second other other_valid other_spells in
    nil_from_length rest (eqb-true (length rest) 0 (wanted_ok (eqb (length rest) 0) (Trailing (length (front ++ rest) - length rest)) (λ _. Ok (record { logs = one; digest = digest })) (record { logs = other; digest = second }) judged).0)
