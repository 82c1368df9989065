-- The laws of a short number: it has one spelling, and is read again.
use Rattle.std.specs.Prelude.{◌≡◌, ℕ, ◌<◌, ◌^◌, ◌↔◌, List, ◌++◌, Ok}
use Rattle.octet_log.specs.v2.Short.{SpellsShort, short_bytes, short_at}

-- the bytes of a number below 2 ^ 64 spell it, and no other bytes do
abbrev pub ShortHasOneSpelling : Type 0
ShortHasOneSpelling = (bytes : List ℕ) (number : ℕ) → number < 2 ^ 64 → SpellsShort bytes number ↔ (bytes ≡ short_bytes number)

-- a number is read from its bytes, whatever stands after them
abbrev pub ShortIsReadAgain : Type 0
ShortIsReadAgain = (total number : ℕ) (rest : List ℕ) → number < 2 ^ 64 → short_at total (short_bytes number ++ rest) ≡ Ok (number, rest)
