-- Bytes judged from the front, field by field: what a field gives, or the cause to refuse it.
-- A call gives what is judged, unless memory runs out.
use Rattle.std.specs.Prelude.{◌≡◌, ℕ, zero, suc, ◌+◌, List, [], ◌∷◌, Bool, true, false, Result, Ok, Err, ◌++◌}
use Rattle.octet_log.specs.declared.cause.LogCause.{LogCause}
use Rattle.octet_log.specs.declared.cause.LogCause.TheVariants.{CutShort}
use Rattle.octet_log.specs.declared.cause.LogFault.{LogFault}
use Rattle.octet_log.specs.declared.cause.LogFault.TheVariants as faults

-- the second reading with what the first gave, unless the first is refused
infixl 10 ◌>>=◌
abbrev pub ◌>>=◌ : {A B : Type 0} → Result A LogCause → (A → Result B LogCause) → Result B LogCause
(Ok x) >>= f = f x
(Err e) >>= f = Err e

-- the refusal for the cause, where the test does not hold
abbrev pub wanted : Bool → LogCause → Result (Unit {0}) LogCause
wanted true cause = Ok tt
wanted false cause = Err cause

-- a field of one byte, and the bytes after it. The length of the whole input is `total`
abbrev pub byte_at : ℕ → List ℕ → Result (ℕ × List ℕ) LogCause
byte_at total [] = Err (CutShort total)
byte_at total (byte ∷ rest) = Ok (byte, rest)

-- a list of `count` things, each read after the one before it, with a state that each one changes
unfoldable pub each_at : {A S : Type 0} → ℕ → (S → List ℕ → Result (A × List ℕ) LogCause) → (S → A → S) → S → List ℕ → Result (List A × List ℕ) LogCause
each_at zero read next state bytes = Ok ([], bytes)
each_at (suc count) read next state bytes = do
  first ← read state bytes
  others ← each_at count read next (next state first.0) first.1
  Ok (first.0 ∷ others.0, others.1)

-- a fault is the cause that decoding has, or out of memory
abbrev pub Fails : {Y : Type 0} → LogFault → Result Y LogCause → Type 0
Fails faults.OutOfMemory judged = Unit {0}
Fails (faults.Refused cause) judged = judged ≡ Err cause

-- the call returned what is decoded, as `view` sees its result, unless memory ran out
abbrev pub Gives : {X Y : Type 0} → (X → Y) → Result X LogFault → Result Y LogCause → Type 0
Gives view (Ok x) judged = judged ≡ Ok (view x)
Gives view (Err fault) judged = Fails fault judged

-- what is read, with the items read before put in front
abbrev pub with_front : {A : Type 0} → List A → Result (List A × List ℕ) LogCause → Result (List A × List ℕ) LogCause
with_front front read = read >>= λ x. Ok (front ++ x.0, x.1)
