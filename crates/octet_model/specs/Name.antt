-- Which texts are names of objects.
use Rattle.std.specs.Prelude.{ℕ, ◌||◌, ◌&&◌, ◌==◌, List, [], ◌∷◌, length, Bool, false, IsTrue, nat_le}
use Rattle.std.specs.List.{list_all}
use Rattle.octet_model.specs.declared.limits.TheConstants.{MAX_NAME}

-- the test for an ASCII letter or _
abbrev pub is_name_start : ℕ → Bool
is_name_start c = (nat_le 65 c && nat_le c 90) || (nat_le 97 c && nat_le c 122) || (c == 95)

-- the test for an ASCII letter, a digit or _
abbrev pub is_name_byte : ℕ → Bool
is_name_byte c = is_name_start c || (nat_le 48 c && nat_le c 57)

-- the test for a name: a letter or _, then letters, digits and _, no longer than a name may be
abbrev pub is_name : List ℕ → Bool
is_name [] = false
is_name (c ∷ cs) = nat_le (length (c ∷ cs)) MAX_NAME && is_name_start c && list_all is_name_byte cs

-- the text is a name of an object
abbrev pub IsName : List ℕ → Type 0
IsName text = IsTrue (is_name text)
