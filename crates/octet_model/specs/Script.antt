-- Which fuels, objects and threads make a valid script, as a test that computes.
use Rattle.std.specs.Prelude.{ℕ, zero, suc, ◌*◌, ◌^◌, ◌&&◌, List, [], ◌∷◌, length, Bool, true, false, nat_le, nat_lt, not, map}
use Rattle.std.specs.List.{list_all, list_any}
use Rattle.std.specs.Str.{bytes_eq}
use Rattle.octet_model.specs.declared.command.Command.{Command}
use Rattle.octet_model.specs.declared.command.Command.TheVariants.{Set, Copy, Add, Sub, Mul, Xor, Less, Same, Read, Write, Bump, Loop, Branch, Close, Safe, Pause, Region}
use Rattle.octet_model.specs.declared.limits.TheConstants.{MAX_FUEL, MAX_OBJECTS, MAX_THREADS, REGISTERS}
use Rattle.octet_model.specs.declared.object.Object.{Object}

-- the test whether a register is there
abbrev pub is_register : ℕ → Bool
is_register register = nat_lt register REGISTERS

-- the test whether a command is in range: its registers and its object are there, its number has 64 bits
abbrev pub is_command : ℕ → Command → Bool
is_command objects (Set to number) = is_register to && nat_lt number (2 ^ 64)
is_command objects (Copy to from) = is_register to && is_register from
is_command objects (Add to left right) = is_register to && is_register left && is_register right
is_command objects (Sub to left right) = is_register to && is_register left && is_register right
is_command objects (Mul to left right) = is_register to && is_register left && is_register right
is_command objects (Xor to left right) = is_register to && is_register left && is_register right
is_command objects (Less to left right) = is_register to && is_register left && is_register right
is_command objects (Same to left right) = is_register to && is_register left && is_register right
is_command objects (Read to object) = is_register to && nat_lt object objects
is_command objects (Write object from) = is_register from && nat_lt object objects
is_command objects (Bump object from) = is_register from && nat_lt object objects
is_command objects (Loop test) = is_register test
is_command objects (Branch test) = is_register test
is_command objects Close = true
is_command objects Safe = true
is_command objects Pause = true
is_command objects Region = true

-- the test whether each closer ends an opener and each opener is ended,
-- where so many openers are open before the commands
abbrev pub is_nested : ℕ → List Command → Bool
is_nested zero [] = true
is_nested (suc depth) [] = false
is_nested depth (Loop test ∷ rest) = is_nested (suc depth) rest
is_nested depth (Branch test ∷ rest) = is_nested (suc depth) rest
is_nested zero (Close ∷ rest) = false
is_nested (suc depth) (Close ∷ rest) = is_nested depth rest
is_nested depth (_ ∷ rest) = is_nested depth rest

-- the test whether no name stands twice
abbrev pub are_distinct : List (List ℕ) → Bool
are_distinct [] = true
are_distinct (n ∷ ns) = not (list_any (bytes_eq n) ns) && are_distinct ns

-- the test whether the commands of a thread are in range and nested
abbrev pub is_thread : ℕ → List Command → Bool
is_thread objects commands = list_all (is_command objects) commands && is_nested 0 commands

-- the test whether fuel, objects and threads make a valid script
abbrev pub is_script : ℕ → List Object → List (List Command) → Bool
is_script fuel objects threads =
    nat_le 1 fuel && nat_le fuel MAX_FUEL
    && nat_le (length objects) MAX_OBJECTS && are_distinct (map (λ o. o.name) objects)
    && nat_le 1 (length threads) && nat_le (length threads) MAX_THREADS
    && nat_le (length threads * fuel) MAX_FUEL
    && list_all (is_thread (length objects)) threads
