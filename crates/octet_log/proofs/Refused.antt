-- The refusals of bytes of either version.
use Rattle.std.proofs.Common.{◌≡◌, ◌≢◌, ◌⊎◌, ℕ, ◌+◌, ◌-◌, ◌<◌, true, false, List, [], ◌∷◌, ◌++◌, length, take, Option, Ok, Err, refl, sym, ap, subst, ◌∙◌, arith, inl, inr}
use Rattle.std.specs.Prelude.{codes}
use Rattle.std.specs.Str.{bytes_eq}
use Rattle.std.proofs.lemmas.Bool.{ne_eqb}
use Rattle.std.proofs.lemmas.Slice.Eq.{bytes_eq-Decides}
use Rattle.octet_model.specs.declared.log.ThreadLog.{ThreadLog}
use Rattle.octet_model.specs.Log.{is_log}
use Rattle.octet_log.specs.declared.cause.LogCause.{LogCause}
use Rattle.octet_log.specs.declared.cause.LogCause.TheVariants.{NoMagic, BadVersion, BadThreads, Trailing}
use Rattle.octet_log.specs.Judging.{◌>>=◌, wanted}
use Rattle.octet_log.specs.v1.Decoding.{decoded}
use Rattle.octet_log.specs.Spellings.{IsSpelling}
use Rattle.octet_log.specs.v2.Decoding.{second_at}
use Rattle.octet_log.specs.Loading.{second_word, loaded}
use Rattle.octet_log.proofs.Valid.{not_allowed}
use Rattle.octet_log.proofs.version1.Refused.{lacks_magic, other_version, bad_threads}
use Rattle.octet_log.proofs.Spelled.{loaded_again}
use Rattle.octet_log.proofs.version2.Refused.{place}

-- bytes of another beginning are judged as version 1
not_second : (bytes : List ℕ) → take 5 bytes ≢ second_word → bytes_eq (take 5 bytes) second_word ≡ false
not_second bytes other =
    elim (bytes_eq (take 5 bytes) second_word) as (λ b. bytes_eq (take 5 bytes) second_word ≡ b → b ≡ false) [
      | true ↦ λ is. absurd (other ((bytes_eq-Decides (take 5 bytes) second_word).0 is))
      | false ↦ λ is. refl
    ] refl

pub first_fails : (bytes : List ℕ) (cause : LogCause) → take 5 bytes ≢ second_word → decoded bytes ≡ Err cause → loaded bytes ≡ Err cause
unfolding loaded
first_fails bytes cause other fails = rw (not_second bytes other, fails) refl

four_of_five : (bytes : List ℕ) → take 4 (take 5 bytes) ≡ take 4 bytes
four_of_five [] = refl
four_of_five (a ∷ []) = refl
four_of_five (a ∷ b ∷ []) = refl
four_of_five (a ∷ b ∷ c ∷ []) = refl
four_of_five (a ∷ b ∷ c ∷ d ∷ []) = refl
four_of_five (a ∷ b ∷ c ∷ d ∷ e ∷ rest) = refl

pub lack_magic : (bytes : List ℕ) → take 4 bytes ≢ codes "OCTL" → loaded bytes ≡ Err NoMagic
lack_magic bytes other = first_fails bytes NoMagic (λ same. other (sym (four_of_five bytes) ∙ ap (λ (l : List ℕ). take 4 l) same)) (lacks_magic bytes other)

other_word : (version : ℕ) (rest : List ℕ) → version ≢ 2 → take 5 (codes "OCTL" ++ version ∷ rest) ≢ second_word
other_word version rest other = λ same. other cc

pub no_version : (version : ℕ) (rest : List ℕ) → version ≢ 1 → version ≢ 2 → loaded (codes "OCTL" ++ version ∷ rest) ≡ Err BadVersion
no_version version rest one two = first_fails (codes "OCTL" ++ version ∷ rest) BadVersion (other_word version rest two) (other_version version rest one)

second_threads : (threads : ℕ) (rest : List ℕ) → (threads ≡ 0) ⊎ (16 < threads) → loaded (codes "OCTL" ++ 2 ∷ threads ∷ rest) ≡ Err BadThreads
unfolding loaded second_at
second_threads threads rest bad = rw (not_allowed threads bad) refl

pub no_threads : (version threads : ℕ) (rest : List ℕ) → (version ≡ 1) ⊎ (version ≡ 2) → (threads ≡ 0) ⊎ (16 < threads) → loaded (codes "OCTL" ++ version ∷ threads ∷ rest) ≡ Err BadThreads
no_threads version threads rest (inl one) bad =
    first_fails (codes "OCTL" ++ version ∷ threads ∷ rest) BadThreads (other_word version (threads ∷ rest) (λ e. absurd (omega (arith, e, one))))
    (subst (λ (v : ℕ). decoded (codes "OCTL" ++ v ∷ threads ∷ rest) ≡ Err BadThreads) (sym one) (bad_threads threads rest bad))
no_threads version threads rest (inr two) bad = subst (λ (v : ℕ). loaded (codes "OCTL" ++ v ∷ threads ∷ rest) ≡ Err BadThreads) (sym two) (second_threads threads rest bad)

pub trailing_byte : (bytes : List ℕ) (digest : Option (List ℕ)) (logs : List ThreadLog) (next : ℕ) (rest : List ℕ) → is_log logs ≡ true → IsSpelling bytes digest logs → loaded (bytes ++ next ∷ rest) ≡ Err (Trailing (length bytes))
trailing_byte bytes digest logs next rest valid spells =
    loaded_again bytes (next ∷ rest) digest logs valid spells
    ∙ ap (λ b. wanted b (Trailing (length (bytes ++ next ∷ rest) - length (next ∷ rest))) >>= λ ended. Ok (record { logs = logs; digest = digest })) (ne_eqb (length (next ∷ rest)) 0 (λ e. absurd (omega (arith, e))))
    ∙ ap (λ (n : ℕ). Err (Trailing n)) (place bytes (next ∷ rest))
