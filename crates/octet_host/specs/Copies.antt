-- What is copied to a host.
use Rattle.std.specs.Prelude.{List, ◌++◌, length, take, drop}

-- room for items, once as many of a list are copied to it as there is room for
abbrev pub copied : {X : Type 0} → List X → List X → List X
copied all room = take (length room) all ++ drop (length all) room
