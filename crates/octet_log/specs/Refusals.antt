-- The refusals of bytes of either version: a bad beginning, a front of a spelling, a byte after one.
use Rattle.std.specs.Prelude.{◌≡◌, ◌≢◌, ◌⊎◌, ℕ, ◌+◌, ◌<◌, List, ◌∷◌, ◌++◌, codes, length, take, Option, Err, IsTrue}
use Rattle.octet_model.specs.declared.log.ThreadLog.{ThreadLog}
use Rattle.octet_model.specs.declared.limits.TheConstants.{MAX_THREADS}
use Rattle.octet_model.specs.Log.{is_log}
use Rattle.octet_log.specs.declared.cause.LogCause.TheVariants.{NoMagic, BadVersion, BadThreads, Trailing}
use Rattle.octet_log.specs.Inputs.{cut_cause}
use Rattle.octet_log.specs.Spellings.{IsSpelling}
use Rattle.octet_log.specs.Loading.{loaded}

-- an input that does not begin with OCTL has no magic
abbrev pub BytesLackMagic : Type 0
BytesLackMagic = (bytes : List ℕ) → take 4 bytes ≢ codes "OCTL" → loaded bytes ≡ Err NoMagic

-- a version other than 1 and 2 is bad
abbrev pub NoVersionIsBad : Type 0
NoVersionIsBad = (version : ℕ) (rest : List ℕ) → version ≢ 1 → version ≢ 2 → loaded (codes "OCTL" ++ version ∷ rest) ≡ Err BadVersion

-- a number of threads that is 0 or above the limit is bad, in either version
abbrev pub NoThreadsAreBad : Type 0
NoThreadsAreBad = (version threads : ℕ) (rest : List ℕ) → (version ≡ 1) ⊎ (version ≡ 2) → (threads ≡ 0) ⊎ (MAX_THREADS < threads) → loaded (codes "OCTL" ++ version ∷ threads ∷ rest) ≡ Err BadThreads

-- a byte after a spelling is trailing at its place, in either version
abbrev pub ByteAfterSpellingIsTrailing : Type 0
ByteAfterSpellingIsTrailing = (bytes : List ℕ) (digest : Option (List ℕ)) (logs : List ThreadLog) (next : ℕ) (rest : List ℕ) → IsTrue (is_log logs) → IsSpelling bytes digest logs → loaded (bytes ++ next ∷ rest) ≡ Err (Trailing (length bytes))

-- a spelling without some of its last bytes has no magic, or is cut where it ends
abbrev pub FrontOfSpellingIsCut : Type 0
FrontOfSpellingIsCut = (front : List ℕ) (next : ℕ) (rest : List ℕ) (digest : Option (List ℕ)) (logs : List ThreadLog) → IsTrue (is_log logs) → IsSpelling (front ++ next ∷ rest) digest logs → loaded front ≡ Err (cut_cause front)
