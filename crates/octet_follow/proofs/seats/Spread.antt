-- Where the words of a state lie among all.
use Rattle.std.proofs.Common.{◌≡◌, ℕ, suc, ◌+◌, ◌<◌, List, ◌∷◌, ◌++◌, map, length, get_or, set, ap, ◌∙◌, add-zero, sym}
use Rattle.octet_seats.specs.Cells.{spread}
use Rattle.octet_seats.proofs.lemmas.Spread.{get_spread, set_spread, set_first, get_first, set_second, get_second, same_numbers}
use Rattle.octet_follow.specs.State.{FollowerState, CourseState, follower_of, unbegun, progress, words, progress_place, draws_place, cell_place}

-- the progress word of a follower
pub get_progress : (s : CourseState) (t : ℕ) → t < length s.followers → get_or (words s) (progress_place t) 0 ≡ progress (follower_of s t)
get_progress s t h = get_spread (map progress s.followers ++ s.draws ∷ s.cells) t ∙ get_first progress unbegun s.followers (s.draws ∷ s.cells) t h

pub set_progress : (s : CourseState) (t : ℕ) (p : FollowerState) → t < length s.followers → set (words s) (progress_place t) (progress p) ≡ spread (map progress (set s.followers t p) ++ s.draws ∷ s.cells)
set_progress s t p h = set_spread (map progress s.followers ++ s.draws ∷ s.cells) t (progress p) ∙ ap spread (set_first progress unbegun s.followers (s.draws ∷ s.cells) t p h)

-- the number of draws
pub get_draws : (s : CourseState) → get_or (words s) (draws_place (length s.followers)) 0 ≡ s.draws
get_draws s = get_spread (map progress s.followers ++ s.draws ∷ s.cells) (length s.followers)
    ∙ (ap (λ (n : ℕ). get_or (map progress s.followers ++ s.draws ∷ s.cells) n 0) (sym (add-zero (length s.followers))) ∙ get_second progress unbegun s.followers (s.draws ∷ s.cells) 0)

pub set_draws : (s : CourseState) (v : ℕ) → set (words s) (draws_place (length s.followers)) v ≡ spread (map progress s.followers ++ v ∷ s.cells)
set_draws s v = set_spread (map progress s.followers ++ s.draws ∷ s.cells) (length s.followers) v
    ∙ ap spread (ap (λ (n : ℕ). set (map progress s.followers ++ s.draws ∷ s.cells) n v) (sym (add-zero (length s.followers))) ∙ set_second progress unbegun s.followers (s.draws ∷ s.cells) 0 v)

-- the cell of an object
pub get_cell : (s : CourseState) (object : ℕ) → get_or (words s) (cell_place (length s.followers) object) 0 ≡ get_or s.cells object 0
get_cell s object = get_spread (map progress s.followers ++ s.draws ∷ s.cells) (length s.followers + suc object) ∙ get_second progress unbegun s.followers (s.draws ∷ s.cells) (suc object)

pub set_cell : (s : CourseState) (object v : ℕ) → set (words s) (cell_place (length s.followers) object) v ≡ spread (map progress s.followers ++ s.draws ∷ set s.cells object v)
set_cell s object v = set_spread (map progress s.followers ++ s.draws ∷ s.cells) (length s.followers + suc object) v ∙ ap spread (set_second progress unbegun s.followers (s.draws ∷ s.cells) (suc object) v)

-- a follower whose progress word stays
pub same_progress : (ps : List FollowerState) (t : ℕ) (p : FollowerState) → progress p ≡ progress (get_or ps t unbegun) → map progress (set ps t p) ≡ map progress ps
same_progress = same_numbers progress unbegun
