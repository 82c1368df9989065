-- Bytes judged from the front: what they give, or the cause to refuse them. A call gives what is judged,
-- unless memory runs out.
use Rattle.std.specs.Prelude.{◌≡◌, Bool, true, false, Result, Ok, Err}
use Rattle.octet_marks.specs.declared.cause.MarksCause.{MarksCause}
use Rattle.octet_marks.specs.declared.cause.ReadFault.{ReadFault}
use Rattle.octet_marks.specs.declared.cause.ReadFault.TheVariants as faults

-- the second reading with what the first gave, unless the first is refused
infixl 10 ◌>>=◌
abbrev pub ◌>>=◌ : {A B : Type 0} → Result A MarksCause → (A → Result B MarksCause) → Result B MarksCause
(Ok x) >>= f = f x
(Err e) >>= f = Err e

-- the refusal for the cause, where the test does not hold
abbrev pub wanted : Bool → MarksCause → Result (Unit {0}) MarksCause
wanted true cause = Ok tt
wanted false cause = Err cause

-- a fault is the cause that judging has, or out of memory
abbrev pub Fails : {Y : Type 0} → ReadFault → Result Y MarksCause → Type 0
Fails faults.OutOfMemory judged = Unit {0}
Fails (faults.Refused cause) judged = judged ≡ Err cause

-- the call returned what is judged, as `view` sees its result, unless memory ran out
abbrev pub Gives : {X Y : Type 0} → (X → Y) → Result X ReadFault → Result Y MarksCause → Type 0
Gives view (Ok x) judged = judged ≡ Ok (view x)
Gives view (Err fault) judged = Fails fault judged
