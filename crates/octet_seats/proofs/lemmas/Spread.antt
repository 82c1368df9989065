-- Words that lie eight apart: where each lies, and one more of them.
use Rattle.std.proofs.Common.{◌≡◌, ℕ, zero, suc, ◌+◌, ◌*◌, ◌<◌, List, [], ◌∷◌, ◌++◌, map, length, get_or, set, take, replicate, refl, ap, ◌∙◌, arith, zero-add, append_assoc, length-append}
use Rattle.std.proofs.lemmas.List.{length-replicate}
use Rattle.octet_seats.specs.Cells.{spread}
use Rattle.octet_seats.proofs.lemmas.Rows.{take_more}

-- eight words further on
eight_more : (i : ℕ) → 8 * suc i ≡ suc (suc (suc (suc (suc (suc (suc (suc (8 * i))))))))
eight_more i = omega arith

pub get_spread : (ws : List ℕ) (i : ℕ) → get_or (spread ws) (8 * i) 0 ≡ get_or ws i 0
get_spread [] i = refl
get_spread (w ∷ ws) zero = refl
get_spread (w ∷ ws) (suc i) = ap (λ (n : ℕ). get_or (spread (w ∷ ws)) n 0) (eight_more i) ∙ get_spread ws i

pub set_spread : (ws : List ℕ) (i v : ℕ) → set (spread ws) (8 * i) v ≡ spread (set ws i v)
set_spread [] i v = refl
set_spread (w ∷ ws) zero v = refl
set_spread (w ∷ ws) (suc i) v = ap (λ (n : ℕ). set (spread (w ∷ ws)) n v) (eight_more i)
    ∙ ap (λ l. w ∷ 0 ∷ 0 ∷ 0 ∷ 0 ∷ 0 ∷ 0 ∷ 0 ∷ l) (set_spread ws i v)

pub length_spread : (ws : List ℕ) → length (spread ws) ≡ 8 * length ws
length_spread [] = refl
length_spread (w ∷ ws) = let e = length_spread ws in omega arith

module _ {A : Type 0} (f : A → ℕ) (d : A) where
  -- within the first of two lists
  pub set_first : (xs : List A) (ys : List ℕ) (i : ℕ) (x : A) → i < length xs → set (map f xs ++ ys) i (f x) ≡ map f (set xs i x) ++ ys
  set_first [] ys i x h = absurd (omega arith)
  set_first (y ∷ xs) ys zero x h = refl
  set_first (y ∷ xs) ys (suc i) x h = ap (λ l. f y ∷ l) (set_first xs ys i x (omega arith))

  pub get_first : (xs : List A) (ys : List ℕ) (i : ℕ) → i < length xs → get_or (map f xs ++ ys) i 0 ≡ f (get_or xs i d)
  get_first [] ys i h = absurd (omega arith)
  get_first (y ∷ xs) ys zero h = refl
  get_first (y ∷ xs) ys (suc i) h = get_first xs ys i (omega arith)

  -- past it
  pub set_second : (xs : List A) (ys : List ℕ) (i v : ℕ) → set (map f xs ++ ys) (length xs + i) v ≡ map f xs ++ set ys i v
  set_second [] ys i v = ap (λ (n : ℕ). set ys n v) (zero-add i)
  set_second (y ∷ xs) ys i v = let e : suc (length xs) + i ≡ suc (length xs + i) = omega arith in
      ap (λ (n : ℕ). set (f y ∷ (map f xs ++ ys)) n v) e ∙ ap (λ l. f y ∷ l) (set_second xs ys i v)

  pub get_second : (xs : List A) (ys : List ℕ) (i : ℕ) → get_or (map f xs ++ ys) (length xs + i) 0 ≡ get_or ys i 0
  get_second [] ys i = ap (λ (n : ℕ). get_or ys n 0) (zero-add i)
  get_second (y ∷ xs) ys i = let same : suc (length xs) + i ≡ suc (length xs + i) = omega arith in
      ap (λ (n : ℕ). get_or (f y ∷ (map f xs ++ ys)) n 0) same ∙ get_second xs ys i

-- as many words as are laid out
pub as_many_words : (ws cells : List ℕ) (zeros : ℕ) → ws ≡ spread (replicate zeros 0 ++ cells) → length ws ≡ 8 * (zeros + length cells)
as_many_words ws cells zeros is =
    ap (λ (l : List ℕ). length l) is ∙ length_spread (replicate zeros 0 ++ cells)
    ∙ omega (arith, length-append (replicate {A = ℕ} zeros 0) cells, length-replicate {A = ℕ} zeros 0)

-- one word more
spread_more : (ws : List ℕ) (w : ℕ) → spread ws ++ (w ∷ 0 ∷ 0 ∷ 0 ∷ 0 ∷ 0 ∷ 0 ∷ 0 ∷ []) ≡ spread (ws ++ w ∷ [])
spread_more [] w = refl
spread_more (v ∷ ws) w = ap (λ l. v ∷ 0 ∷ 0 ∷ 0 ∷ 0 ∷ 0 ∷ 0 ∷ 0 ∷ l) (spread_more ws w)

zero_more : (n : ℕ) → ◌≡◌ {A = List ℕ} (replicate n 0 ++ 0 ∷ []) (replicate (suc n) 0)
zero_more zero = refl
zero_more (suc n) = ap (λ (l : List ℕ). 0 ∷ l) (zero_more n)

one_on : (n : ℕ) → suc n ≡ n + 1
one_on n = omega arith

pub zeros_more : (ws : List ℕ) (n : ℕ) → ws ≡ spread (replicate n 0) → ws ++ spread (0 ∷ []) ≡ spread (replicate (n + 1) 0)
zeros_more ws n is = ap (λ (l : List ℕ). l ++ spread (0 ∷ [])) is ∙ spread_more (replicate n 0) 0 ∙ ap spread (zero_more n) ∙ ap (λ (m : ℕ). spread (replicate m 0)) (one_on n)

pub cell_more : (ws cells : List ℕ) (zeros object cell : ℕ) → object < length cells → cell ≡ get_or cells object 0 → ws ≡ spread (replicate zeros 0 ++ take object cells)
    → ws ++ spread (cell ∷ []) ≡ spread (replicate zeros 0 ++ take (object + 1) cells)
cell_more ws cells zeros object cell h e is =
    ap (λ (l : List ℕ). l ++ spread (cell ∷ [])) is ∙ spread_more (replicate zeros 0 ++ take object cells) cell
    ∙ ap spread (append_assoc (replicate zeros 0) (take object cells) (cell ∷ [])
    ∙ ap (λ (l : List ℕ). replicate zeros 0 ++ l) (ap (λ (n : ℕ). take object cells ++ n ∷ []) e ∙ take_more cells object h ∙ ap (λ (n : ℕ). take n cells) (one_on object)))

-- a list whose members have the same numbers, but for one that keeps its own
pub same_numbers : {A : Type 0} (f : A → ℕ) (d : A) (xs : List A) (t : ℕ) (x : A) → f x ≡ f (get_or xs t d) → map f (set xs t x) ≡ map f xs
same_numbers {A} f d [] t x e = refl
same_numbers {A} f d (y ∷ xs) zero x e = ap (λ (n : ℕ). n ∷ map f xs) e
same_numbers {A} f d (y ∷ xs) (suc t) x e = ap (λ l. f y ∷ l) (same_numbers f d xs t x e)
