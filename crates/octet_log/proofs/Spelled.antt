-- Bytes of either version that are judged to be a log spell it, and each spelling is judged so.
use Rattle.std.proofs.Common.{◌≡◌, ℕ, ◌-◌, Bool, true, false, cond, eqb, List, [], ◌++◌, length, take, drop, Option, Some, None, Result, Ok, refl, sym, ap, subst, ◌∙◌}
use Rattle.std.specs.Str.{bytes_eq}
use Rattle.std.proofs.lemmas.List.{append-nil, take-append-drop}
use Rattle.std.proofs.lemmas.Slice.Eq.{bytes_eq-Decides}
use Rattle.octet_model.specs.declared.log.ThreadLog.{ThreadLog}
use Rattle.octet_model.specs.Log.{is_log}
use Rattle.octet_model.specs.Texts.{log_bytes}
use Rattle.octet_log.specs.declared.cause.LogCause.{LogCause}
use Rattle.octet_log.specs.declared.cause.LogCause.TheVariants.{Trailing}
use Rattle.octet_log.specs.declared.cause.LogFault.{LogFault}
use Rattle.octet_log.specs.Judging.{◌>>=◌, wanted, Gives}
use Rattle.octet_log.specs.v1.Decoding.{decoded}
use Rattle.octet_log.specs.Inputs.{IsInput}
use Rattle.octet_log.specs.v2.Pieces.{pieced_bytes, SpellsPieces}
use Rattle.octet_log.specs.Spellings.{IsSpelling}
use Rattle.octet_log.specs.v2.Decoding.{second_at}
use Rattle.octet_log.specs.Loading.{second_word, Reading, loaded, LoadsSpelling}
use Rattle.octet_log.proofs.Fields.{bind_ok, ok_is, IsInput-drop}
use Rattle.octet_log.proofs.version1.Whole.{decoded_takes, decoded_again}
use Rattle.octet_log.proofs.version2.Whole.{IsSecond, second_takes, is_pieced, second_again}

-- what was read is spelled so, and valid
pub record IsLoaded (bytes : List ℕ) (reading : Reading) : Type 0 where
  pub spells : IsSpelling bytes reading.digest reading.logs
  pub valid : is_log reading.logs ≡ true

second_loaded : (bytes : List ℕ) (x : List ThreadLog × List ℕ) → take 5 bytes ≡ second_word → IsSecond (drop 5 bytes) x → IsLoaded bytes (record { logs = x.0; digest = Some x.1 })
second_loaded bytes x word s =
    record {
      spells = record {
        pieces = s.pieces;
        whole = s.whole;
        are = s.are;
        have = s.have;
        few = s.few;
        parts = sym (take-append-drop 5 bytes) ∙ ap (λ (l : List ℕ). l ++ drop 5 bytes) word ∙ ap (λ (l : List ℕ). second_word ++ l) s.parts;
      };
      valid = s.valid;
    }

pub loaded_takes : (bytes : List ℕ) (reading : Reading) → IsInput bytes → loaded bytes ≡ Ok reading → IsLoaded bytes reading
unfolding loaded
loaded_takes bytes reading is e =
    elim (bytes_eq (take 5 bytes) second_word) as (λ v. bytes_eq (take 5 bytes) second_word ≡ v → cond v (second_at (length bytes) (drop 5 bytes) >>= λ read. Ok (record { logs = read.0; digest = Some read.1 })) (decoded bytes >>= λ logs. Ok (record { logs = logs; digest = None })) ≡ Ok reading → IsLoaded bytes reading) [
      | true ↦ λ second h.
          let r = bind_ok (second_at (length bytes) (drop 5 bytes)) (λ read. Ok (record { logs = read.0; digest = Some read.1 })) reading h in
          let word : take 5 bytes ≡ second_word = (bytes_eq-Decides (take 5 bytes) second_word).0 second in
          let made : Reading = record { logs = r.0.0; digest = Some r.0.1 } in
          subst (IsLoaded bytes) (ok_is made reading r.2) (second_loaded bytes r.0 word (second_takes (length bytes) (drop 5 bytes) r.0 (IsInput-drop 5 bytes is) r.1))
      | false ↦ λ first h.
          let r = bind_ok (decoded bytes) (λ logs. Ok (record { logs = logs; digest = None })) reading h in
          let took = decoded_takes bytes r.0 is r.1 in
          let made : Reading = record { logs = r.0; digest = None } in
          subst (IsLoaded bytes) (ok_is made reading r.2) (record { spells = took.0; valid = took.1 })
    ] refl e

then_made : {A B : Type 0} (b : Bool) (cause : LogCause) (x : A) (f : A → B) → ((wanted b cause >>= λ ended. Ok x) >>= λ y. Ok (f y)) ≡ (wanted b cause >>= λ ended. Ok (f x))
then_made true cause x f = refl
then_made false cause x f = refl

first_again : (logs : List ThreadLog) (rest : List ℕ) → is_log logs ≡ true → loaded (log_bytes logs ++ rest) ≡ (wanted (eqb (length rest) 0) (Trailing (length (log_bytes logs ++ rest) - length rest)) >>= λ ended. Ok (record { logs = logs; digest = None }))
unfolding loaded
first_again logs rest valid =
    ap (λ (r : Result (List ThreadLog) LogCause). r >>= λ logs. Ok (record { logs = logs; digest = None })) (decoded_again logs rest valid)
    ∙ then_made (eqb (length rest) 0) (Trailing (length (log_bytes logs ++ rest) - length rest)) logs (λ (l : List ThreadLog). record { logs = l; digest = None })

pieced_again : (digest : List ℕ) (logs : List ThreadLog) (bytes rest : List ℕ) (s : SpellsPieces bytes digest logs) → is_log logs ≡ true
    → loaded (pieced_bytes digest s.pieces logs ++ rest) ≡ (wanted (eqb (length rest) 0) (Trailing (length (pieced_bytes digest s.pieces logs ++ rest) - length rest)) >>= λ ended. Ok (record { logs = logs; digest = Some digest }))
unfolding loaded
pieced_again digest logs bytes rest s valid =
    let total = length (pieced_bytes digest s.pieces logs ++ rest) in
    ap (λ (r : Result (List ThreadLog × List ℕ) LogCause). r >>= λ read. Ok (record { logs = read.0; digest = Some read.1 })) (second_again total digest s.pieces logs rest s.whole (is_pieced s.pieces logs s.are s.have s.few valid))
    ∙ then_made (eqb (length rest) 0) (Trailing (total - length rest)) (logs, digest) (λ (p : List ThreadLog × List ℕ). record { logs = p.0; digest = Some p.1 })

-- what stands behind a spelling is judged as trailing
pub loaded_again : (bytes rest : List ℕ) (digest : Option (List ℕ)) (logs : List ThreadLog) → is_log logs ≡ true → IsSpelling bytes digest logs
    → loaded (bytes ++ rest) ≡ (wanted (eqb (length rest) 0) (Trailing (length (bytes ++ rest) - length rest)) >>= λ ended. Ok (record { logs = logs; digest = digest }))
loaded_again bytes rest None logs valid spells =
    subst (λ (b : List ℕ). loaded (b ++ rest) ≡ (wanted (eqb (length rest) 0) (Trailing (length (b ++ rest) - length rest)) >>= λ ended. Ok (record { logs = logs; digest = None }))) (sym spells) (first_again logs rest valid)
loaded_again bytes rest (Some digest) logs valid spells =
    subst (λ (b : List ℕ). loaded (b ++ rest) ≡ (wanted (eqb (length rest) 0) (Trailing (length (b ++ rest) - length rest)) >>= λ ended. Ok (record { logs = logs; digest = Some digest }))) (sym spells.parts) (pieced_again digest logs bytes rest spells valid)

pub spelling_loaded : (bytes : List ℕ) (digest : Option (List ℕ)) (logs : List ThreadLog) → is_log logs ≡ true → IsSpelling bytes digest logs → loaded bytes ≡ Ok (record { logs = logs; digest = digest })
spelling_loaded bytes digest logs valid spells = ap loaded (sym (append-nil bytes)) ∙ loaded_again bytes [] digest logs valid spells

-- a reading that gives what is judged gives the log that is spelled
pub loads_spelling : {X : Type 0} (view : X → Reading) (bytes : List ℕ) (r : Result X LogFault) → Gives view r (loaded bytes) → LoadsSpelling view bytes r
loads_spelling view bytes r given logs digest valid spells = subst (λ (judged : Result Reading LogCause). Gives view r judged) (spelling_loaded bytes digest logs valid spells) given
