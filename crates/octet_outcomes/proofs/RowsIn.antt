-- Rows in one list of numbers.
use Rattle.std.proofs.Common.{◌≡◌, ℕ, zero, suc, ◌+◌, ◌*◌, ◌-◌, ◌<◌, ◌≤◌, List, [], ◌∷◌, ◌++◌, length, take, drop, get_or, refl, sym, ap, ap₂, subst, inr, ◌∙◌, arith, length-append, length-drop}
use Rattle.std.proofs.lemmas.Grind.{common_steps}
use Rattle.std.proofs.lemmas.List.{drop-drop, take-append-le, drop-append-le}
use Rattle.std.proofs.Math.Seq.{take-length}
use Rattle.std.specs.List.{slice_range}
use Rattle.octet_outcomes.specs.Rows.{rows_in, RowsState, Keeps}

pub rows_len : {A : Type 0} (width count : ℕ) (numbers : List A) → length (rows_in width count numbers) ≡ count
rows_len width zero numbers = refl
rows_len width (suc count) numbers = ap suc (rows_len width count (drop width numbers))

pub within : (width count place : ℕ) → place < count → place * width + width ≤ count * width
within width count place lt = grind arith

part : {A : Type 0} (numbers : List A) (from to skip width : ℕ) → from ≡ skip → to ≡ skip + width → slice_range numbers from to ≡ take width (drop skip numbers)
part numbers from to skip width a b = let n : to - from ≡ width = omega arith in ap₂ (λ (i j : ℕ). take i (drop j numbers)) n a

pub row_at : {A : Type 0} (width count : ℕ) (numbers : List A) (place : ℕ) → place < count → get_or (rows_in width count numbers) place [] ≡ slice_range numbers (place * width) (place * width + width)
row_at width zero numbers place lt = absurd (omega arith)
row_at width (suc count) numbers zero lt = sym (part numbers (0 * width) (0 * width + width) 0 width (omega arith) (omega arith))
row_at width (suc count) numbers (suc place) lt =
    row_at width count (drop width numbers) place (omega arith)
    ∙ part (drop width numbers) (place * width) (place * width + width) (place * width) width refl refl
    ∙ ap (take width) (drop-drop (place * width) width numbers)
    ∙ sym (part numbers (suc place * width) (suc place * width + width) (width + place * width) width (omega arith) (omega arith))

none : {A : Type 0} (numbers row : List A) → length numbers ≡ 0 → take (length row) (numbers ++ row) ≡ row
none [] row empty = take-length row
none (x ∷ xs) row empty = absurd (omega arith)

rows_more : {A : Type 0} (width count : ℕ) (numbers row : List A) → length numbers ≡ count * width → length row ≡ width → rows_in width (suc count) (numbers ++ row) ≡ rows_in width count numbers ++ row ∷ []
rows_more {A = A} width zero numbers row few is = ap (λ (r : List A). r ∷ []) (ap (λ (n : ℕ). take n (numbers ++ row)) (sym is) ∙ none numbers row (omega arith))
rows_more {A = A} width (suc count) numbers row few is =
    let le : width ≤ length numbers = omega arith in
    let left : length (drop width numbers) ≡ count * width = omega (arith, length-drop width numbers) in
    ap₂ (λ (r : List A) (rs : List (List A)). r ∷ rs) (take-append-le width numbers row le)
    (ap (rows_in width (suc count)) (drop-append-le width numbers row le) ∙ rows_more width count (drop width numbers) row left is)

-- what is seen of a table
module _ {A : Type 0} (width count : ℕ) (numbers : List A) (s : RowsState A) (view : record { width = width; rows = rows_in width count numbers } ≡ s) where
  pub same_width : width ≡ s.width
  same_width = ap (λ (t : RowsState A). t.width) view

  same_rows : rows_in width count numbers ≡ s.rows
  same_rows = ap (λ (t : RowsState A). t.rows) view

  pub many_in : count ≡ length s.rows
  many_in = sym (rows_len width count numbers) ∙ ap length same_rows

  pub fits_in : (place : ℕ) → length numbers ≡ count * width → place < length s.rows → place * width + width ≤ length numbers
  fits_in place few there = omega (arith, within width count place (omega (arith, there, many_in)), few)

  pub row_in : (among row : List A) (place : ℕ) → among ≡ numbers → place < length s.rows → row ≡ slice_range among (place * width) (place * width + width) → row ≡ get_or s.rows place []
  row_in among row place same there is =
      is
      ∙ ap (λ (l : List A). slice_range l (place * width) (place * width + width)) same
      ∙ sym (row_at width count numbers place (omega (arith, there, many_in)))
      ∙ ap (λ (rs : List (List A)). get_or rs place []) same_rows

  -- one more row at the end
  pub added_row : (more : ℕ) (row longer : List A) → more ≡ suc count → longer ≡ numbers ++ row → length numbers ≡ count * width → length row ≡ s.width
      → ◌≡◌ {A = RowsState A} (record { width = width; rows = rows_in width more longer }) (record { width = s.width; rows = s.rows ++ row ∷ [] })
  added_row more row longer one is few fits =
      ap₂ (λ (w : ℕ) (rs : List (List A)). record { width = w; rows = rs }) same_width
      (ap₂ (rows_in width) one is ∙ rows_more width count numbers row few (fits ∙ sym same_width) ∙ ap (λ (rs : List (List A)). rs ++ row ∷ []) same_rows)

-- so it is kept there
pub keeps_more : {A : Type 0} (inner before after : RowsState A) (row : List A) (place : ℕ) → inner ≡ before → place ≡ length inner.rows → after ≡ record { width = inner.width; rows = inner.rows ++ row ∷ [] } → Keeps before row place after
keeps_more {A = A} inner before after row place view at is =
    let rows : after.rows ≡ inner.rows ++ row ∷ [] = ap (λ (s : RowsState A). s.rows) is in
    subst (λ (b : RowsState A). Keeps b row place after) view (record {
      there = omega (arith, at, ap length rows, length-append inner.rows (row ∷ []));
      is = ap (λ (rs : List (List A)). get_or rs place []) rows ∙ at_end inner.rows row place at;
      grows = inr rows;
      same_width = ap (λ (s : RowsState A). s.width) is;
    })
  where
    at_end : (rows : List (List A)) (row : List A) (n : ℕ) → n ≡ length rows → get_or (rows ++ row ∷ []) n [] ≡ row
    at_end rows row n is = grind (arith, common_steps)
