-- Words and a number that are written one after the other.
use Rattle.std.proofs.Common.{◌≡◌, ℕ, List, ◌++◌, Result, Ok, Err, OnOk, ◌∙◌, append_assoc}

pub placed : {E : Type 0} (r : Result (Unit {0}) E) (new old words place : List ℕ) → OnOk r (new ≡ old ++ words ++ place) → OnOk r (new ≡ old ++ (words ++ place))
placed (Ok x) new old words place written = written ∙ append_assoc old words place
placed (Err e) new old words place written = tt
