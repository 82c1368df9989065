-- What was put under seals is found there.
use Rattle.std.proofs.Common.{◌≡◌, ◌∙◌, ℕ, zero, suc, ◌<◌, List, [], ◌∷◌, ◌++◌, drop, length, map, All, slice_index_or, Option, Some, refl, sym, ap, subst, IfSome, arith}
use Rattle.std.specs.declared.alloc.Global.{Global}
use Rattle.once_cell.specs.declared.race.note.Note.{Note}
use Rattle.once_cell.specs.Once.{cell_name, Agrees}
use Rattle.std.specs.Prelude.{Any}
use Rattle.octet_host.specs.Sealed.{IsSealed, AreFound, ShareOne}
use Rattle.octet_host.proofs.lemmas.Rows.{each_more}

module _ {X : Type 0} (seals : List (Global × ℕ)) (number : ℕ) where
  agreed : (value other : X) (known found : Option X) → known ≡ Some value → found ≡ Some other → IfSome found (Agrees known) → value ≡ other
  agreed value other known found k f agrees = subst (λ (o : Option X). IfSome o (λ y. y ≡ other)) k (subst (λ (o : Option X). IfSome o (Agrees known)) f agrees)

  -- two notes of one seal are of one value
  pub one_value : (value other : X) (note found : Note X) → IsSealed seals number value note → IsSealed seals number other found → (found.cell ≡ note.cell → IfSome found.known (Agrees note.known)) → value ≡ other
  one_value value other note found mine theirs agrees =
      agreed value other note.known found.known mine.known theirs.known
      (agrees (theirs.cell ∙ (ap cell_name (sym (theirs.at mine.seal) ∙ mine.at mine.seal) ∙ sym mine.cell)))

-- the first of what is left of a list stands where it was
pub drop_first : {X : Type 0} (n : ℕ) (xs ys : List X) (x : X) → drop n xs ≡ x ∷ ys → (d : X) → slice_index_or xs n d ≡ x
drop_first zero xs ys x is d = ap (λ zs. slice_index_or zs 0 d) is
drop_first (suc n) [] ys x is d = absurd cc
drop_first (suc n) (z ∷ zs) ys x is d = drop_first n zs ys x is d

-- and the others are left after it
pub drop_rest : {X : Type 0} (n : ℕ) (xs ys : List X) (x : X) → drop n xs ≡ x ∷ ys → drop (suc n) xs ≡ ys
drop_rest zero [] ys x is = absurd cc
drop_rest zero (z ∷ zs) ys x is = ap (drop 1) is
drop_rest (suc n) [] ys x is = absurd cc
drop_rest (suc n) (z ∷ zs) ys x is = drop_rest n zs ys x is

module _ {X Y : Type 0} (part : X → Y) (seals : List (Global × ℕ)) (notes rest : List (Note X)) (found : List Y) (note theirs : Note X) (value : X) (left : drop (length found) notes ≡ note ∷ rest)
    (sealed : IsSealed seals (length found) value theirs) (agrees : theirs.cell ≡ note.cell → IfSome theirs.known (Agrees note.known)) (before : AreFound part seals notes found) where
  -- with one more that agrees with its note
  pub found_more : AreFound part seals notes (found ++ part value ∷ [])
  found_more place none other nothing lt mine =
      each_more (λ n (y : Y). (o : X) (d : Note X) → IsSealed seals n o (slice_index_or notes n d) → y ≡ part o) found (part value) (λ t d l o e is. before t d o e l is)
      (λ o d is. ap part (sym (one_value seals (length found) o value note theirs (subst (IsSealed seals (length found) o) (drop_first (length found) notes rest note left d) is) sealed agrees))) place none lt other nothing mine

-- lists are the same whose elements are
pub same_lists : {Y T : Type 0} (part : T → Y) (ys : List Y) (ts : List T) → length ys ≡ length ts → ((k : ℕ) (none : Y) (nobody : T) → k < length ts → slice_index_or ys k none ≡ part (slice_index_or ts k nobody)) → ys ≡ map part ts
same_lists part [] [] long each = refl
same_lists part [] (t ∷ ts) long each = absurd (omega (arith, long))
same_lists part (y ∷ ys) [] long each = absurd (omega (arith, long))
same_lists part (y ∷ ys) (t ∷ ts) long each =
    ap (λ z. z ∷ ys) (each 0 y t (omega arith)) ∙ ap (λ zs. part t ∷ zs) (same_lists part ys ts (omega (arith, long)) (λ k none nobody lt. each (suc k) none nobody (omega (arith, lt))))

module _ {X Y T : Type 0} (part : X → Y) (seals : List (Global × ℕ)) (notes : List (Note X)) (found : List Y) (own : T → X) (threads : List T) where
  by_notes : (ns : List (Note X)) → ns ≡ notes → AreFound part seals notes found → length found ≡ length threads → length notes ≡ length threads
      → ((place : ℕ) (nobody : T) (nothing : Note X) → place < length threads → IsSealed seals place (own (slice_index_or threads place nobody)) (slice_index_or notes place nothing)) → found ≡ map (λ it. part (own it)) threads
  by_notes [] is are long count noted = same_lists (λ it. part (own it)) found threads long (λ k none nobody lt. absurd (omega (arith, lt, count, ap length is)))
  by_notes (nothing ∷ others) is are long count noted =
      same_lists (λ it. part (own it)) found threads long (λ k none nobody lt. are k none (own (slice_index_or threads k nobody)) nothing (omega (arith, lt, long)) (noted k nobody nothing lt))

  -- where the notes are of these threads, what is found is what they have left
  pub found_theirs : AreFound part seals notes found → length found ≡ length threads → length notes ≡ length threads
      → ((place : ℕ) (nobody : T) (nothing : Note X) → place < length threads → IsSealed seals place (own (slice_index_or threads place nobody)) (slice_index_or notes place nothing)) → found ≡ map (λ it. part (own it)) threads
  found_theirs = by_notes notes refl

module _ {T S : Type 0} (share : T → S) (threads : List T) (whole : S) where
  -- where one of them shares this, and they all share one thing, they share this
  pub all_share : Any (λ it. share it ≡ whole) threads → ShareOne share threads → All (λ it. share it ≡ whole) threads
  all_share (k, it, lt, at, is) (one, each) = λ j d l. each j d l ∙ sym (subst (λ t. share t ≡ one) at (each k it lt)) ∙ is

-- what holds of what one of them shares holds of what each shares, where they all share one thing
pub all_of_any : {T S : Type 0} (share : T → S) (P : S → Type 0) (threads : List T) → Any (λ it. P (share it)) threads → ShareOne share threads → All (λ it. P (share it)) threads
all_of_any share P threads (k, it, lt, at, is) (one, each) = λ j d l. subst P (subst (λ t. share t ≡ one) at (each k it lt) ∙ sym (each j d l)) is
