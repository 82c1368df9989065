-- Rows of equally many numbers, in one list of numbers.
use Rattle.octet_outcomes.specs.declared.slots.Found.{Found}
use Rattle.octet_outcomes.specs.declared.slots.Found.TheVariants.{At}
use Rattle.std.specs.Prelude.{◌≡◌, ℕ, zero, suc, ◌<◌, ◌⊎◌, List, [], ◌∷◌, ◌++◌, length, take, drop, get_or}

-- the first so many rows of this width
abbrev pub rows_in : {A : Type 0} → ℕ → ℕ → List A → List (List A)
rows_in width zero numbers = []
rows_in width (suc count) numbers = take width numbers ∷ rows_in width count (drop width numbers)

-- rows, and how many numbers each has
pub record RowsState (A : Type 0) : Type 0 where
  pub width : ℕ
  pub rows : List (List A)

-- the list is as before, or has this item at its end too
abbrev pub Grows : {A : Type 0} → List A → A → List A → Type 0
Grows before item after = (after ≡ before) ⊎ (after ≡ before ++ item ∷ [])

-- the row is one of those, at this place, and no other row came
pub record Keeps {A : Type 0} (before : RowsState A) (row : List A) (place : ℕ) (after : RowsState A) : Type 0 where
  pub there : place < length after.rows
  pub is : get_or after.rows place [] ≡ row
  pub grows : Grows before.rows row after.rows
  pub same_width : after.width ≡ before.width

-- where a row was found, it is
abbrev pub IsFoundAt : {A : Type 0} → List (List A) → List A → Found → Type 0
IsFoundAt rows row (At place) = (place < length rows) × (get_or rows place [] ≡ row)
IsFoundAt rows row _ = Unit {0}
