-- Where the words of a state lie among all.
use Rattle.std.proofs.Common.{◌≡◌, ℕ, ◌+◌, ◌<◌, List, ◌++◌, map, length, get_or, set, ap, ◌∙◌}
use Rattle.octet_seats.specs.Cells.{spread}
use Rattle.octet_seats.proofs.lemmas.Spread.{get_spread, set_spread, set_first, get_first, set_second, get_second, same_numbers}
use Rattle.octet_parallel.specs.State.{PlayerState, FieldState, player_of, unbegun, progress, words, progress_place, cell_place}

-- the progress word of a player
pub get_progress : (s : FieldState) (t : ℕ) → t < length s.players → get_or (words s) (progress_place t) 0 ≡ progress (player_of s t)
get_progress s t h = get_spread (map progress s.players ++ s.cells) t ∙ get_first progress unbegun s.players s.cells t h

pub set_progress : (s : FieldState) (t : ℕ) (p : PlayerState) → t < length s.players → set (words s) (progress_place t) (progress p) ≡ spread (map progress (set s.players t p) ++ s.cells)
set_progress s t p h = set_spread (map progress s.players ++ s.cells) t (progress p) ∙ ap spread (set_first progress unbegun s.players s.cells t p h)

-- the cell of an object
pub get_cell : (s : FieldState) (object : ℕ) → get_or (words s) (cell_place (length s.players) object) 0 ≡ get_or s.cells object 0
get_cell s object = get_spread (map progress s.players ++ s.cells) (length s.players + object) ∙ get_second progress unbegun s.players s.cells object

pub set_cell : (s : FieldState) (object v : ℕ) → set (words s) (cell_place (length s.players) object) v ≡ spread (map progress s.players ++ set s.cells object v)
set_cell s object v = set_spread (map progress s.players ++ s.cells) (length s.players + object) v ∙ ap spread (set_second progress unbegun s.players s.cells object v)

-- a player whose progress word stays
pub same_progress : (ps : List PlayerState) (t : ℕ) (p : PlayerState) → progress p ≡ progress (get_or ps t unbegun) → map progress (set ps t p) ≡ map progress ps
same_progress = same_numbers progress unbegun
