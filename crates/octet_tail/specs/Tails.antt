-- The last accesses of a thread.
use Rattle.std.specs.Prelude.{◌≡◌, ◌⊎◌, ℕ, ◌<◌, ◌≤◌, List, [], ◌++◌, length, IfSome}
use Rattle.std.specs.Vec.{vec_capacity}
use Rattle.octet_model.specs.declared.event.Event.{Event}
use Rattle.octet_tail.specs.declared.tail.Made.{Made}
use Rattle.octet_tail.specs.declared.tail.Tail.{Tail}

-- the accesses that are kept
abbrev pub kept_in : Tail → List Event
kept_in tail = tail.older.items ++ tail.newer.items

-- how many there is room for
abbrev pub room_of : Tail → ℕ
room_of tail = vec_capacity tail.older

-- of these accesses the last ones are kept: as many as there is room for, or all
pub record IsTail (accesses : List Event) (tail : Tail) : Type 0 where
  pub gone : List Event
  pub all : accesses ≡ gone ++ kept_in tail
  pub enough : (gone ≡ []) ⊎ (room_of tail ≤ length tail.older.items)
  pub rooms : vec_capacity tail.newer ≡ room_of tail
  pub some : 0 < room_of tail

-- of these accesses these are the last ones, so many
pub record IsLast (accesses : List Event) (many : ℕ) (last : List Event) : Type 0 where
  pub earlier : List Event
  pub all : accesses ≡ earlier ++ last
  pub count : length last ≡ many

-- so many are these accesses, and the last ones are noted, if any are
pub record HasMade (accesses : List Event) (made : Made) : Type 0 where
  pub count : made.accesses ≡ length accesses
  pub noted : IfSome made.tail (IsTail accesses)
