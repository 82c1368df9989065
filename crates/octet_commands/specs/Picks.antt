-- Picks: hexadecimal digits, each of which gives a thread a turn.
use Rattle.std.specs.Prelude.{ℕ, Bool, ◌&&◌, nat_le, List, length}
use Rattle.std.specs.List.{list_all}
use Rattle.std.specs.Char.{is_ascii_hexdigit}
use Rattle.octet_model.specs.declared.limits.TheConstants.{MAX_PICKS}

-- the test for picks: 1 to 65,536 hexadecimal digits, in either case
abbrev pub are_picks : List ℕ → Bool
are_picks word = nat_le 1 (length word) && nat_le (length word) MAX_PICKS && list_all is_ascii_hexdigit word
