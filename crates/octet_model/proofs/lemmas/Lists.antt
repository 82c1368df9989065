-- Facts of lists in two parts, and of two lists place by place.
use Rattle.std.proofs.Common.{◌≡◌, ◌<◌, ℕ, zero, suc, List, [], ◌∷◌, ◌++◌, length, take, drop, Some, slice_get, slice_index_or, refl, ap, arith}
use Rattle.std.specs.List.{AllZip}

-- what is in the first part is in the whole
pub slice_get-append : {A : Type 0} (xs ys : List A) (k : ℕ) (x : A) → slice_get xs k ≡ Some x → slice_get (xs ++ ys) k ≡ Some x
slice_get-append [] ys k x h = absurd cc
slice_get-append (y ∷ xs) ys zero x h = h
slice_get-append (y ∷ xs) ys (suc k) x h = slice_get-append xs ys k x h

-- the item after a list
pub slice_get_last : {A : Type 0} (xs : List A) (y : A) → slice_get (xs ++ y ∷ []) (length xs) ≡ Some y
slice_get_last [] y = refl
slice_get_last (x ∷ xs) y = slice_get_last xs y

-- the first item of the second part
pub slice_get_split : {A : Type 0} (pre post : List A) → slice_get (pre ++ post) (length pre) ≡ slice_get post 0
slice_get_split [] post = refl
slice_get_split (e ∷ pre) post = slice_get_split pre post

-- a list about one of its items
pub slice_get_parts : {A : Type 0} (xs : List A) (k : ℕ) (x : A) → slice_get xs k ≡ Some x → xs ≡ take k xs ++ x ∷ drop (suc k) xs
slice_get_parts [] k x h = absurd cc
slice_get_parts (y ∷ xs) zero x h = cc
slice_get_parts (y ∷ xs) (suc k) x h = ap (λ l. y ∷ l) (slice_get_parts xs k x h)

-- two lists that are as long, and agree at each place
pub zip_of_each : {A : Type 0} (R : A → A → Type 0) (xs ys : List A) → length ys ≡ length xs → ((i : ℕ) (x : A) → i < length xs → R (slice_index_or xs i x) (slice_index_or ys i x)) → AllZip R xs ys
zip_of_each R [] [] long each = tt
zip_of_each R [] (y ∷ ys) long each = absurd (omega (arith, long))
zip_of_each R (x ∷ xs) [] long each = absurd (omega (arith, long))
zip_of_each R (x ∷ xs) (y ∷ ys) long each = (each 0 x (omega arith), zip_of_each R xs ys (omega (arith, long)) (λ i z within. each (suc i) z (omega (arith, within))))
