-- The cells are read one by one.
use Rattle.std.proofs.Common.{◌≡◌, ℕ, zero, suc, ◌+◌, ◌*◌, ◌≤◌, List, [], ◌∷◌, ◌++◌, length, get_or, take, sym, refl, ap, ◌∙◌, arith}
use mathlib.Core.Option.{some, some-injective, some-ne-none}
use lib.ListN.{get_elem?}
use Rattle.octet_seats.specs.Cells.{cells_in}
use Rattle.octet_seats.proofs.lemmas.Rows.{take_more, take_whole}

at_place : (ws : List ℕ) (place x : ℕ) → get_elem? ws place ≡ some x → get_or ws place 0 ≡ x
at_place [] place x e = absurd (some-ne-none x (sym e))
at_place (w ∷ ws) zero x e = some-injective w x e
at_place (w ∷ ws) (suc place) x e = at_place ws place x e

one_on : (n : ℕ) → suc n ≡ n + 1
one_on n = omega arith

pub read_more : (ws values : List ℕ) (first cells x : ℕ) → get_elem? ws (first + 8 * cells) ≡ some x → values ≡ cells_in ws first cells → values ++ x ∷ [] ≡ cells_in ws first (cells + 1)
read_more ws values first cells x at is = (λ i. is i ++ sym (at_place ws (first + 8 * cells) x at) i ∷ []) ∙ ap (cells_in ws first) (one_on cells)

-- where each cell lies at its place, they are all
module _ (ws cells : List ℕ) (first : ℕ) (lie : (cell : ℕ) → get_or ws (first + 8 * cell) 0 ≡ get_or cells cell 0) where
  cells_at : (many : ℕ) → many ≤ length cells → cells_in ws first many ≡ take many cells
  cells_at zero h = refl
  cells_at (suc many) h = (λ i. cells_at many (omega arith) i ++ lie many i ∷ []) ∙ take_more cells many (omega arith)

  pub all_cells : cells_in ws first (length cells) ≡ cells
  all_cells = cells_at (length cells) (omega arith) ∙ take_whole cells
