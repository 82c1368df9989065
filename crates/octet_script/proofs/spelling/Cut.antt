-- Lines and words, cut where the code cuts them.
use Rattle.std.proofs.Common.{◌≡◌, ℕ, zero, suc, ◌+◌, ◌<◌, ◌≤◌, Bool, true, false, not, cond, List, [], ◌∷◌, map, length, get_or, take, drop, Some, None, refl, ap, sym, ◌∙◌, arith, length-drop, drop-cons}
use Rattle.std.specs.List.{slice_split, onto_first, position, position_or_len, filter, prefix_len}
use Rattle.std.proofs.lemmas.List.{length-map, drop_all, get_or-drop}
use Rattle.std.proofs.lemmas.List.Splits.{slice_split_first}
use Rattle.std.proofs.lemmas.List.Sums.{passes_at_first}
use Rattle.std.proofs.lemmas.Bool.{false≢true}
use Rattle.std.proofs.lemmas.Bool.Decides.{nat_tests}
use Rattle.octet_script.specs.Words.{words, is_blank, is_filled}

prefix-map : {X Y : Type 0} (p : Y → Bool) (f : X → Y) (xs : List X) → prefix_len p (map f xs) ≡ prefix_len (λ x. p (f x)) xs
prefix-map p f [] = refl
prefix-map p f (x ∷ xs) = ap (λ n. cond (p (f x)) (1 + n) 0) (prefix-map p f xs)

pub position_of_map : {X Y : Type 0} (p : Y → Bool) (f : X → Y) (xs : List X) → position p (map f xs) ≡ position (λ x. p (f x)) xs
position_of_map p f xs = rw (prefix-map (λ y. not (p y)) f xs, length-map xs f) refl

chosen_some : (b : Bool) (n i : ℕ) → cond b (Some n) None ≡ Some i → (b ≡ true) × (n ≡ i)
chosen_some true n i e = (refl, cc)
chosen_some false n i e = cc

chosen_none : (b : Bool) (n : ℕ) → cond b (Some n) None ≡ None → b ≡ false
chosen_none true n e = cc
chosen_none false n e = refl

pub position_some : {X : Type 0} (p : X → Bool) (xs : List X) (i : ℕ) → position p xs ≡ Some i → (position_or_len p xs ≡ i) × (i < length xs)
position_some p xs i e =
    let both = chosen_some _ (position_or_len p xs) i e in
    (both.1, grind (arith, nat_tests))

pub position_none : {X : Type 0} (p : X → Bool) (xs : List X) → position p xs ≡ None → length xs ≤ position_or_len p xs
position_none p xs e =
    let failed = chosen_none _ (position_or_len p xs) e in
    grind (arith, nat_tests)

pub filled : (xs : List ℕ) → 0 < length xs → is_filled xs ≡ true
filled [] some = absurd (omega arith)
filled (x ∷ xs) some = refl

filled_take : (n : ℕ) (xs : List ℕ) → 0 < n → 0 < length xs → is_filled (take n xs) ≡ true
filled_take n [] pos some = absurd (omega arith)
filled_take zero (x ∷ xs) pos some = absurd (omega arith)
filled_take (suc n) (x ∷ xs) pos some = refl

-- where nothing passes, there is one part
split_step : {X : Type 0} (p : X → Bool) (x : X) (xs : List X) (q : Bool) → p x ≡ q → (length xs ≤ position_or_len p xs → slice_split p xs ≡ xs ∷ []) → suc (length xs) ≤ cond (not q) (1 + position_or_len p xs) 0 → slice_split p (x ∷ xs) ≡ (x ∷ xs) ∷ []
split_step p x xs true e ih h = absurd (omega arith)
split_step p x xs false e ih h = rw e (ap (onto_first x) (ih (omega arith)))

pub split_none : {X : Type 0} (p : X → Bool) (xs : List X) → length xs ≤ position_or_len p xs → slice_split p xs ≡ xs ∷ []
split_none p [] h = refl
split_none p (x ∷ xs) h = split_step p x xs (p x) refl (split_none p xs) h

-- a blank in front is passed over
words_blank : (b : ℕ) (text : List ℕ) → is_blank b ≡ true → words (b ∷ text) ≡ words text
words_blank b text blank = rw blank refl

skip_step : (b : ℕ) (text : List ℕ) (n : ℕ) (q : Bool) → is_blank b ≡ q → words text ≡ words (drop n text) → words (b ∷ text) ≡ words (drop (cond (not (not q)) (1 + n) 0) (b ∷ text))
skip_step b text n true e ih =
    let one : suc n ≡ 1 + n = omega arith in
    words_blank b text e ∙ ih ∙ ap (λ k. words (drop k (b ∷ text))) one
skip_step b text n false e ih = refl

words_skip : (text : List ℕ) → words text ≡ words (drop (position_or_len (λ b. not (is_blank b)) text) text)
words_skip [] = refl
words_skip (b ∷ text) = skip_step b text (position_or_len (λ b. not (is_blank b)) text) (is_blank b) refl (words_skip text)

pub no_word : (text : List ℕ) → position (λ b. not (is_blank b)) text ≡ None → words text ≡ []
no_word text none = words_skip text ∙ ap words (drop_all _ text (position_none (λ b. not (is_blank b)) text none))

filled_first : (text : List ℕ) (start : ℕ) → position (λ b. not (is_blank b)) text ≡ Some start → (words text ≡ words (drop start text)) × (0 < length (drop start text)) × (not (is_blank (get_or (drop start text) 0 0)) ≡ true)
filled_first text start is =
    let found = position_some (λ b. not (is_blank b)) text start is in
    let same : words text ≡ words (drop start text) = words_skip text ∙ ap (λ k. words (drop k text)) found.0 in
    let passes = passes_at_first (λ b. not (is_blank b)) text 0 (omega (arith, found.0, found.1)) in
    let there : get_or (drop start text) 0 0 ≡ get_or text (position_or_len (λ b. not (is_blank b)) text) 0 = get_or-drop start text 0 0 ∙ ap (λ k. get_or text k 0) (omega (arith, found.0)) in
    (same, omega (arith, length-drop start text, found.1), ap (λ b. not (is_blank b)) there ∙ passes)

not_both : (q : Bool) → not q ≡ true → q ≡ true → ⊥
not_both true a b = false≢true a
not_both false a b = false≢true b

pub one_word : (text rest : List ℕ) (start : ℕ) → position (λ b. not (is_blank b)) text ≡ Some start → rest ≡ drop start text → position is_blank rest ≡ None → words text ≡ rest ∷ []
one_word text rest start is rest_is none =
    let first = filled_first text start is in
    let parts = split_none is_blank rest (position_none is_blank rest none) in
    let some = filled rest (omega (arith, ap length rest_is, first.1)) in
    first.0 ∙ ap words (sym rest_is) ∙ rw parts (rw some refl)

-- the end of the first word isn't its start
end_behind : (rest : List ℕ) (end : ℕ) → not (is_blank (get_or rest 0 0)) ≡ true → is_blank (get_or rest end 0) ≡ true → 0 < end
end_behind rest zero first last = absurd (not_both (is_blank (get_or rest 0 0)) first last)
end_behind rest (suc end) first last = omega arith

split_word : (rest : List ℕ) (end : ℕ) → not (is_blank (get_or rest 0 0)) ≡ true → position is_blank rest ≡ Some end → words rest ≡ take end rest ∷ words (drop end rest)
split_word rest end first found =
    let here = position_some is_blank rest end found in
    let passes = passes_at_first is_blank rest 0 (omega (arith, here.0, here.1)) in
    let blank : is_blank (get_or rest end 0) ≡ true = ap (λ k. is_blank (get_or rest k 0)) (sym here.0) ∙ passes in
    let parts = slice_split_first is_blank rest 0 (omega (arith, here.0, here.1)) in
    let cut : slice_split is_blank rest ≡ take end rest ∷ slice_split is_blank (drop (end + 1) rest) = parts ∙ ap (λ k. take k rest ∷ slice_split is_blank (drop (k + 1) rest)) here.0 in
    let some = filled_take end rest (end_behind rest end first blank) (omega (arith, here.1)) in
    let next : suc end ≡ end + 1 = omega arith in
    let behind : words (drop end rest) ≡ words (drop (end + 1) rest) = ap words (drop-cons rest end 0 here.1) ∙ words_blank (get_or rest end 0) (drop (suc end) rest) blank ∙ ap (λ k. words (drop k rest)) next in
    ap (filter is_filled) cut ∙ rw some refl ∙ ap (λ ws. take end rest ∷ ws) (sym behind)

pub word_then : (text rest word after : List ℕ) (start end : ℕ) → position (λ b. not (is_blank b)) text ≡ Some start → rest ≡ drop start text → position is_blank rest ≡ Some end → word ≡ take end rest → after ≡ drop end rest → words text ≡ word ∷ words after
word_then text rest word after start end is rest_is found word_is after_is =
    let first = filled_first text start is in
    let split = split_word rest end (ap (λ r. not (is_blank (get_or r 0 0))) rest_is ∙ first.2) found in
    let both : word ∷ words after ≡ take end rest ∷ words (drop end rest) = cc in
    first.0 ∙ ap words (sym rest_is) ∙ split ∙ sym both

-- a word is at least one byte
pub word_shorter : (text rest after : List ℕ) (start end : ℕ) → position (λ b. not (is_blank b)) text ≡ Some start → rest ≡ drop start text → position is_blank rest ≡ Some end → after ≡ drop end rest → length after < length text
word_shorter text rest after start end is rest_is found after_is =
    let first = filled_first text start is in
    let here = position_some is_blank rest end found in
    let passes = passes_at_first is_blank rest 0 (omega (arith, here.0, here.1)) in
    let blank : is_blank (get_or rest end 0) ≡ true = ap (λ k. is_blank (get_or rest k 0)) (sym here.0) ∙ passes in
    let behind = end_behind rest end (ap (λ r. not (is_blank (get_or r 0 0))) rest_is ∙ first.2) blank in
    omega (arith, ap length after_is, length-drop end rest, ap length rest_is, length-drop start text, here.1, behind)
