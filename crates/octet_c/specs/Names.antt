-- What C names by numbers.
use Rattle.std.specs.Prelude.{ℕ, List, [], ◌∷◌, Option, slice_get}
use Rattle.std.specs.Option.{option_map}
use Rattle.octet_recorder.specs.declared.access.Access.{Access}
use Rattle.octet_recorder.specs.declared.access.Access.TheVariants.{Read, Write, Update}
use Rattle.octet_rule.specs.declared.change.Change.{Change}
use Rattle.octet_rule.specs.declared.change.Change.TheVariants.{Add, Sub, Swap, CompareExchange, And, Or, Xor, Max, Min}

-- the accesses of the modes
abbrev pub accesses : ℕ → ℕ → List Access
accesses object value = Read object ∷ Write object value ∷ []

-- the access of a mode
abbrev pub access_named : ℕ → ℕ → ℕ → Option Access
access_named mode object value = slice_get (accesses object value) mode

-- the changes, in the order of their numbers
abbrev pub changes : ℕ → ℕ → List Change
changes operand expected = Add operand ∷ Sub operand ∷ Swap operand ∷ CompareExchange expected operand ∷ And operand ∷ Or operand ∷ Xor operand ∷ Max operand ∷ Min operand ∷ []

-- an update by the change of a number
abbrev pub update_named : ℕ → ℕ → ℕ → ℕ → Option Access
update_named number object operand expected = option_map (λ change. Update object change) (slice_get (changes operand expected) number)
