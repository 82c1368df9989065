-- Lists whose members stand in a row of numbers.
use Rattle.std.specs.Prelude.{ℕ, ◌+◌, List, [], ◌∷◌}

-- `Holds` is true of each member with its number, where the first member has this number
abbrev pub AreInRow : {T : Type 0} → (ℕ → T → Type 0) → ℕ → List T → Type 0
AreInRow Holds number [] = Unit {0}
AreInRow Holds number (member ∷ members) = Holds number member × AreInRow Holds (number + 1) members
