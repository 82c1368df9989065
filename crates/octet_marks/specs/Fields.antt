-- A field at the front of some bytes, if they have one, and the bytes after it.
use Rattle.std.specs.Prelude.{ℕ, zero, suc, ◌+◌, ◌-◌, ◌*◌, ◌^◌, ◌&&◌, List, [], ◌∷◌, length, take, drop, Option, Some, None, Bool, true, false, nat_lt, nat_le, if◌then◌else◌}
use Rattle.std.specs.Int.{Width, byte_len, from_be_bytes}

-- the second reading with what the first gave, if it gave anything
infixl 10 ◌>>=◌
abbrev pub ◌>>=◌ : {A B : Type 0} → Option A → (A → Option B) → Option B
(Some x) >>= f = f x
None >>= f = None

-- nothing to read, where the test holds; else there is none
abbrev pub passed : Bool → Option (Unit {0})
passed true = Some tt
passed false = None

-- the first byte
abbrev pub byte_at : List ℕ → Option (ℕ × List ℕ)
byte_at [] = None
byte_at (byte ∷ rest) = Some (byte, rest)

-- the first `count` bytes
abbrev pub bytes_at : ℕ → List ℕ → Option (List ℕ × List ℕ)
bytes_at count bytes = if nat_lt (length bytes) count then None else Some (take count bytes, drop count bytes)

-- a number of four or eight bytes, the highest first
abbrev pub number_at : Width → List ℕ → Option (ℕ × List ℕ)
number_at w bytes = do
  field ← bytes_at (byte_len w) bytes
  Some (from_be_bytes w field.0, field.1)

-- a number in at most `more` groups of 7 bits and one, the lowest first. It is shortest and below 2 ^ 64
unfoldable pub groups_at : ℕ → List ℕ → Option (ℕ × List ℕ)
groups_at zero bytes = do
  byte ← byte_at bytes
  if nat_lt byte.0 128 then Some byte else None
groups_at (suc more) bytes = do
  byte ← byte_at bytes
  if nat_lt byte.0 128 then Some byte else do
    higher ← groups_at more byte.1
    if nat_le 1 higher.0 && nat_lt higher.0 (2 ^ 57) then Some (byte.0 - 128 + 128 * higher.0, higher.1) else None

-- a short number
abbrev pub short_at : List ℕ → Option (ℕ × List ℕ)
short_at bytes = groups_at 9 bytes
