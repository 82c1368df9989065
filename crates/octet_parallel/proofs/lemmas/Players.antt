-- Players that are the same as before, and those that have all played to their ends.
use Rattle.std.proofs.Common.{ℕ, suc, ◌<◌, ◌≡◌, ◌++◌, All, List, [], ◌∷◌, length, take, sym, refl, ◌∙◌, subst, arith}
use Rattle.std.specs.List.{AllZip}
use Rattle.std.proofs.Math.ListN.{drop}
use Rattle.std.proofs.lemmas.List.{take_at}
use Rattle.std.proofs.lemmas.List.Elements.{AllZip-get_or, length_all_zip}
use Rattle.octet_parallel.specs.declared.field.Field.{Field}
use Rattle.octet_parallel.specs.declared.player.Player.{Player}
use Rattle.octet_parallel.specs.Calls.{EachUnbegun, EachEnded}
use Rattle.octet_parallel.specs.Judging.{HasPlayed, IsSamePlayer}

-- players are the same as they are, and as those that are the same as they
pub all_same : (players : List Player) → AllZip IsSamePlayer players players
all_same [] = tt
all_same (p ∷ players) = (refl, all_same players)

pub still_same : (xs ys zs : List Player) → AllZip IsSamePlayer xs ys → AllZip IsSamePlayer ys zs → AllZip IsSamePlayer xs zs
still_same [] [] [] h k = tt
still_same [] [] (z ∷ zs) h k = absurd k
still_same [] (y ∷ ys) zs h k = absurd h
still_same (x ∷ xs) [] zs h k = absurd h
still_same (x ∷ xs) (y ∷ ys) [] h k = absurd k
still_same (x ∷ xs) (y ∷ ys) (z ∷ zs) h k = (k.0 ∙ h.0, still_same xs ys zs h.1 k.1)

-- what holds of all holds of the first, and of the others
pub all_first : {A : Type 0} (P : A → Type 0) (x : A) (xs : List A) → All P (x ∷ xs) → P x
all_first P x xs h = h 0 x (omega arith)

pub all_others : {A : Type 0} (P : A → Type 0) (x : A) (xs : List A) → All P (x ∷ xs) → All P xs
all_others P x xs h k d inside = h (suc k) d (omega arith)

-- players that have played to their ends, and are the same
pub each_ended : (field : Field) (xs ys : List Player) → EachUnbegun field xs → AllZip IsSamePlayer xs ys → All (HasPlayed field) ys → EachEnded field ys
each_ended field xs ys begun same played number none h =
    let here : number < length xs = omega (arith, h, length_all_zip IsSamePlayer xs ys same) in
    let mine = played number none h in
    (mine.own, AllZip-get_or IsSamePlayer xs ys number none none same here ∙ (begun number none here).1.0, mine.ended)

-- the players of a new field that were handed to those that play them, and handed back when all had played
pub handed_back : (field : Field) (new made ran back : List Player) (many : ℕ) → EachUnbegun field new → made ≡ new → length made ≡ many → AllZip IsSamePlayer made ran → All (HasPlayed field) ran
    → back ≡ take many (ran ++ drop (length ran) made) → EachEnded field back
handed_back field new made ran back many begun are_new long zip played is =
    let as_many : length ran ≡ many = sym (length_all_zip IsSamePlayer made ran zip) ∙ long in
    subst (EachEnded field) (sym (is ∙ take_at ran (drop (length ran) made) many as_many)) (each_ended field made ran (subst (EachUnbegun field) (sym are_new) begun) zip played)
