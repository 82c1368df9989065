-- Short numbers: a number below 2 ^ 64 in groups of 7 bits, the lowest first, one group to a byte.
-- Bit 7 is set in every byte but the last, which is 0 only where it stands alone.
use Rattle.std.specs.Prelude.{◌≡◌, ◌≢◌, ℕ, zero, suc, ◌+◌, ◌*◌, ◌/◌, ◌%◌, ◌^◌, ◌-◌, ◌<◌, ◌≤◌, ◌&&◌, List, [], ◌∷◌, length, Result, Ok, nat_lt, nat_le, if◌then◌else◌}
use Rattle.octet_log.specs.declared.cause.LogCause.{LogCause}
use Rattle.octet_log.specs.declared.cause.LogCause.TheVariants.{BadNumber}
use Rattle.octet_log.specs.Judging.{◌>>=◌, wanted, byte_at}

-- the number whose groups the bytes have, the lowest first
abbrev pub number_of_groups : List ℕ → ℕ
number_of_groups [] = 0
number_of_groups (byte ∷ more) = byte % 128 + 128 * number_of_groups more

-- bit 7 is set in every byte but the last
abbrev pub EndsAtLast : List ℕ → Type 0
EndsAtLast [] = ⊥
EndsAtLast (last ∷ []) = last < 128
EndsAtLast (byte ∷ next ∷ more) = (128 ≤ byte) × (byte < 256) × EndsAtLast (next ∷ more)

-- the last byte is not 0, unless it stands alone
abbrev pub IsShortest : List ℕ → Type 0
IsShortest [] = ⊥
IsShortest (last ∷ []) = Unit {0}
IsShortest (byte ∷ next ∷ []) = next ≢ 0
IsShortest (byte ∷ next ∷ after ∷ more) = IsShortest (next ∷ after ∷ more)

-- the bytes spell the number
pub record SpellsShort (bytes : List ℕ) (number : ℕ) : Type 0 where
  pub ends : EndsAtLast bytes
  pub shortest : IsShortest bytes
  pub groups : number_of_groups bytes ≡ number
  pub fits : number < 2 ^ 64

-- the bytes of a number in at most `more` groups and one
unfoldable pub groups : ℕ → ℕ → List ℕ
groups zero number = number ∷ []
groups (suc more) number = if nat_lt number 128 then number ∷ [] else (number % 128 + 128) ∷ groups more (number / 128)

-- the bytes of a number below 2 ^ 64, of which there are at most ten
abbrev pub short_bytes : ℕ → List ℕ
short_bytes number = groups 9 number

-- a number in at most `more` groups and one, and the bytes after it. A number is refused at its place
-- where it is not shortest or not below 2 ^ 64
unfoldable pub groups_at : ℕ → ℕ → ℕ → List ℕ → Result (ℕ × List ℕ) LogCause
groups_at zero total place bytes = do
  byte ← byte_at total bytes
  last ← wanted (nat_lt byte.0 128) (BadNumber place)
  Ok byte
groups_at (suc more) total place bytes = do
  byte ← byte_at total bytes
  if nat_lt byte.0 128 then Ok byte else do
    higher ← groups_at more total place byte.1
    fits ← wanted (nat_le 1 higher.0 && nat_lt higher.0 (2 ^ 57)) (BadNumber place)
    Ok (byte.0 - 128 + 128 * higher.0, higher.1)

-- a short number, and the bytes after it. The length of the whole input is `total`
abbrev pub short_at : ℕ → List ℕ → Result (ℕ × List ℕ) LogCause
short_at total bytes = groups_at 9 total (total - length bytes) bytes
