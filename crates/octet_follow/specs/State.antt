-- The state of a course: the words that followers share, and how far each follower is.
use Rattle.std.specs.Prelude.{ℕ, suc, ◌+◌, ◌*◌, List, [], ◌∷◌, ◌++◌, map, replicate, get_or}
use Rattle.octet_model.specs.declared.event.Event.{Event}
use Rattle.octet_model.specs.Machine.{Journals, PlainState}
use Rattle.octet_seats.specs.Cells.{spread}

-- the state of a follower: its journal, and the number of its events that its progress word shows.
-- It keeps whose progress word it looked at last and the number found there, and the number of draws found last
pub record FollowerState : Type 0 where
  pub journal : List Event
  pub shown : ℕ
  pub whom : ℕ
  pub found : ℕ
  pub seen : ℕ

-- the state of a course: the starting values, whose events were made in their order, the followers,
-- the number of draws, and the values of the cells
pub record CourseState : Type 0 where
  pub starts : List ℕ
  pub play : List ℕ
  pub followers : List FollowerState
  pub draws : ℕ
  pub cells : List ℕ

-- the follower before its first event
abbrev pub unbegun : FollowerState
unbegun = record { journal = []; shown = 0; whom = 0; found = 0; seen = 0 }

-- the follower of a number in this state
abbrev pub follower_of : CourseState → ℕ → FollowerState
follower_of s follower = get_or s.followers follower unbegun

-- the progress word of a follower
abbrev pub progress : FollowerState → ℕ
progress p = p.shown

-- the words of a course: a progress word for each follower, the number of draws, and a cell for each object
abbrev pub words : CourseState → List ℕ
words s = spread (map progress s.followers ++ s.draws ∷ s.cells)

-- the place of a follower's progress word
abbrev pub progress_place : ℕ → ℕ
progress_place follower = 8 * follower

-- the place of the number of draws
abbrev pub draws_place : ℕ → ℕ
draws_place followers = 8 * followers

-- the place of an object's cell
abbrev pub cell_place : ℕ → ℕ → ℕ
cell_place followers object = 8 * (followers + suc object)

-- the journals of all followers
abbrev pub journals_of : CourseState → Journals
journals_of s = map (λ p. p.journal) s.followers

-- the state as one of the plain machine
abbrev pub plain : CourseState → PlainState
plain s = record { heap = s.cells; journals = journals_of s; draws = s.draws }

-- the state before the first step
abbrev pub opening : List ℕ → ℕ → CourseState
opening starts followers = record { starts = starts; play = []; followers = replicate followers unbegun; draws = 0; cells = starts }
