-- Bytes that spell no short number are refused as that, or as cut.
use Rattle.std.proofs.Common.{◌≡◌, ◌⊎◌, ℕ, zero, suc, ◌+◌, ◌-◌, ◌*◌, ◌%◌, ◌^◌, ◌<◌, ◌≤◌, ◌&&◌, Bool, true, false, cond, ltb, leb, List, [], ◌∷◌, ◌++◌, length, Result, Ok, Err, refl, ap, ◌∙◌, arith, inl, inr}
use Rattle.std.proofs.lemmas.Bool.{lt-ltb, le-ltb, leb-true, ltb-true}
use Rattle.octet_log.specs.declared.cause.LogCause.{LogCause}
use Rattle.octet_log.specs.declared.cause.LogCause.TheVariants.{BadNumber, CutShort}
use Rattle.octet_log.specs.v2.Short.{number_of_groups, EndsAtLast, IsShortest, groups_at, short_at}
use Rattle.octet_log.specs.v2.Refusals.{GoesOn, SpellsNoShort}
use Rattle.octet_log.proofs.Valid.{and_first, and_second}

-- what ends is read as its number, which is shortest and small; or it is bad
abbrev IsJudged : ℕ → List ℕ → List ℕ → Result (ℕ × List ℕ) LogCause → Type 0
IsJudged place field rest read = (read ≡ Err (BadNumber place)) ⊎ ((read ≡ Ok (number_of_groups field, rest)) × IsShortest field × (number_of_groups field < 2 ^ 64))

last_alone : (more total place last : ℕ) (rest : List ℕ) → last < 128 → groups_at more total place (last ∷ rest) ≡ Ok (last % 128 + 128 * 0, rest)
unfolding groups_at
last_alone zero total place last rest small = rw (lt-ltb last 128 small) (ap (λ (n : ℕ). Ok (n, rest)) (omega (arith, small)))
last_alone (suc more) total place last rest small = rw (lt-ltb last 128 small) (ap (λ (n : ℕ). Ok (n, rest)) (omega (arith, small)))

still_shortest : (byte next : ℕ) (more : List ℕ) → EndsAtLast (next ∷ more) → 1 ≤ number_of_groups (next ∷ more) → IsShortest (next ∷ more) → IsShortest (byte ∷ next ∷ more)
still_shortest byte next [] ends some_higher shortest = λ e. absurd (omega (arith, e, some_higher))
still_shortest byte next (after ∷ more) ends some_higher shortest = shortest

step_bad : (more total place byte : ℕ) (rest : List ℕ) → 128 ≤ byte → groups_at more total place rest ≡ Err (BadNumber place) → groups_at (suc more) total place (byte ∷ rest) ≡ Err (BadNumber place)
unfolding groups_at
step_bad more total place byte rest large bad = rw (le-ltb byte 128 large, bad) refl

step_cut : (more total place byte : ℕ) (rest : List ℕ) → 128 ≤ byte → groups_at more total place rest ≡ Err (CutShort total) → groups_at (suc more) total place (byte ∷ rest) ≡ Err (CutShort total)
unfolding groups_at
step_cut more total place byte rest large cut = rw (le-ltb byte 128 large, cut) refl

step_read : (more total place byte higher : ℕ) (rest after : List ℕ) (fits : Bool) → 128 ≤ byte → groups_at more total place rest ≡ Ok (higher, after) → (leb 1 higher && ltb higher (2 ^ 57)) ≡ fits
    → groups_at (suc more) total place (byte ∷ rest) ≡ cond fits (Ok (byte - 128 + 128 * higher, after)) (Err (BadNumber place))
unfolding groups_at
step_read more total place byte higher rest after true large read fits = rw (le-ltb byte 128 large, read, fits) refl
step_read more total place byte higher rest after false large read fits = rw (le-ltb byte 128 large, read, fits) refl

judged : (field : List ℕ) (more total place : ℕ) (rest : List ℕ) → EndsAtLast field → length field ≤ suc more → IsJudged place field rest (groups_at more total place (field ++ rest))
judged [] more total place rest ends short = absurd ends
judged (last ∷ []) more total place rest ends short = inr (last_alone more total place last rest ends, tt, omega (arith, ends))
judged (byte ∷ next ∷ field) zero total place rest ends short = absurd (omega (arith, short))
judged (byte ∷ next ∷ field) (suc more) total place rest ends short =
    let higher = number_of_groups (next ∷ field) in
    elim (judged (next ∷ field) more total place rest ends.2 (omega (arith, short))) [
      | inl bad ↦ inl (step_bad more total place byte ((next ∷ field) ++ rest) ends.0 bad)
      | inr (read, shortest, small) ↦ elim (leb 1 higher && ltb higher (2 ^ 57)) as (λ v. (leb 1 higher && ltb higher (2 ^ 57)) ≡ v → IsJudged place (byte ∷ next ∷ field) rest (groups_at (suc more) total place ((byte ∷ next ∷ field) ++ rest))) [
        | true ↦ λ fits.
            let some_higher : 1 ≤ higher = leb-true 1 higher (and_first (leb 1 higher) (ltb higher (2 ^ 57)) fits) in
            let below : higher < 2 ^ 57 = ltb-true higher (2 ^ 57) (and_second (leb 1 higher) (ltb higher (2 ^ 57)) fits) in
            let same : byte - 128 + 128 * higher ≡ byte % 128 + 128 * higher = omega (arith, ends.0, ends.1) in
            inr (step_read more total place byte higher ((next ∷ field) ++ rest) rest true ends.0 read fits ∙ ap (λ (n : ℕ). Ok (n, rest)) same, still_shortest byte next field ends.2 some_higher shortest, omega (arith, below))
        | false ↦ λ fits. inl (step_read more total place byte higher ((next ∷ field) ++ rest) rest false ends.0 read fits)
      ] refl
    ]

never_ends : (field : List ℕ) (more total place : ℕ) (rest : List ℕ) → length field ≡ suc more → GoesOn field → groups_at more total place (field ++ rest) ≡ Err (BadNumber place)
unfolding groups_at
never_ends [] more total place rest ten on = absurd (omega (arith, ten))
never_ends (byte ∷ []) zero total place rest ten on = rw (le-ltb byte 128 on.0) refl
never_ends (byte ∷ next ∷ field) zero total place rest ten on = absurd (omega (arith, ten))
never_ends (byte ∷ field) (suc more) total place rest ten on = step_bad more total place byte (field ++ rest) on.0 (never_ends field more total place rest (omega (arith, ten)) on.1)

ends_early : (field : List ℕ) (more total place : ℕ) → length field < suc more → GoesOn field → groups_at more total place field ≡ Err (CutShort total)
unfolding groups_at
ends_early [] zero total place short on = refl
ends_early [] (suc more) total place short on = refl
ends_early (byte ∷ field) zero total place short on = absurd (omega (arith, short))
ends_early (byte ∷ field) (suc more) total place short on = step_cut more total place byte field on.0 (ends_early field more total place (omega (arith, short)) on.1)

pub no_short_is_bad : (total : ℕ) (field rest : List ℕ) → SpellsNoShort field → short_at total (field ++ rest) ≡ Err (BadNumber (total - length (field ++ rest)))
no_short_is_bad total field rest (inl (ends, short, bad)) =
    elim (judged field 9 total (total - length (field ++ rest)) rest ends short) [
      | inl refused ↦ refused
      | inr (read, shortest, small) ↦ elim bad [ inl not_shortest ↦ absurd (not_shortest shortest) | inr large ↦ absurd (omega (arith, large, small)) ]
    ]
no_short_is_bad total field rest (inr (ten, on)) = never_ends field 9 total (total - length (field ++ rest)) rest ten on

pub short_is_cut : (total : ℕ) (field : List ℕ) → length field < 10 → GoesOn field → short_at total field ≡ Err (CutShort total)
short_is_cut total field short on = ends_early field 9 total (total - length field) short on
