-- Words of five and of six letters.
use Rattle.std.proofs.Common.{◌≡◌, ℕ, List, [], ◌∷◌, length, get_or, Some, refl, ap, arith}
use Rattle.octet_script.specs.declared.keyword.Keyword.TheVariants.{Object, Thread, Command as CommandWord}
use Rattle.octet_script.specs.declared.keyword.Verb.TheVariants.{While, Pause, Region}
use Rattle.octet_script.specs.Parsing.{keyword}

six_bytes : (w : List ℕ) → length w ≡ 6 → w ≡ get_or w 0 0 ∷ get_or w 1 0 ∷ get_or w 2 0 ∷ get_or w 3 0 ∷ get_or w 4 0 ∷ get_or w 5 0 ∷ []
six_bytes (a ∷ b ∷ c ∷ d ∷ e ∷ f ∷ []) h = refl
six_bytes [] h = absurd (omega arith)
six_bytes (a ∷ []) h = absurd (omega arith)
six_bytes (a ∷ b ∷ []) h = absurd (omega arith)
six_bytes (a ∷ b ∷ c ∷ []) h = absurd (omega arith)
six_bytes (a ∷ b ∷ c ∷ d ∷ []) h = absurd (omega arith)
six_bytes (a ∷ b ∷ c ∷ d ∷ e ∷ []) h = absurd (omega arith)
six_bytes (a ∷ b ∷ c ∷ d ∷ e ∷ f ∷ g ∷ w) h = absurd (omega arith)

six : (w : List ℕ) (a b c d e f : ℕ) → length w ≡ 6 → get_or w 0 0 ≡ a → get_or w 1 0 ≡ b → get_or w 2 0 ≡ c → get_or w 3 0 ≡ d → get_or w 4 0 ≡ e → get_or w 5 0 ≡ f → w ≡ a ∷ b ∷ c ∷ d ∷ e ∷ f ∷ []
six w a b c d e f h is_a is_b is_c is_d is_e is_f =
    let all = six_bytes w h in
    cc

pub is_object : (w : List ℕ) → length w ≡ 6 → get_or w 0 0 ≡ 111 → get_or w 1 0 ≡ 98 → get_or w 2 0 ≡ 106 → get_or w 3 0 ≡ 101 → get_or w 4 0 ≡ 99 → get_or w 5 0 ≡ 116 → keyword w ≡ Some Object
is_object w h a b c d e f = ap keyword (six w 111 98 106 101 99 116 h a b c d e f)

pub is_thread : (w : List ℕ) → length w ≡ 6 → get_or w 0 0 ≡ 116 → get_or w 1 0 ≡ 104 → get_or w 2 0 ≡ 114 → get_or w 3 0 ≡ 101 → get_or w 4 0 ≡ 97 → get_or w 5 0 ≡ 100 → keyword w ≡ Some Thread
is_thread w h a b c d e f = ap keyword (six w 116 104 114 101 97 100 h a b c d e f)

five_bytes : (w : List ℕ) → length w ≡ 5 → w ≡ get_or w 0 0 ∷ get_or w 1 0 ∷ get_or w 2 0 ∷ get_or w 3 0 ∷ get_or w 4 0 ∷ []
five_bytes (a ∷ b ∷ c ∷ d ∷ e ∷ []) h = refl
five_bytes [] h = absurd (omega arith)
five_bytes (a ∷ []) h = absurd (omega arith)
five_bytes (a ∷ b ∷ []) h = absurd (omega arith)
five_bytes (a ∷ b ∷ c ∷ []) h = absurd (omega arith)
five_bytes (a ∷ b ∷ c ∷ d ∷ []) h = absurd (omega arith)
five_bytes (a ∷ b ∷ c ∷ d ∷ e ∷ f ∷ w) h = absurd (omega arith)

five : (w : List ℕ) (a b c d e : ℕ) → length w ≡ 5 → get_or w 0 0 ≡ a → get_or w 1 0 ≡ b → get_or w 2 0 ≡ c → get_or w 3 0 ≡ d → get_or w 4 0 ≡ e → w ≡ a ∷ b ∷ c ∷ d ∷ e ∷ []
five w a b c d e h is_a is_b is_c is_d is_e =
    let all = five_bytes w h in
    cc

pub is_while : (w : List ℕ) → length w ≡ 5 → get_or w 0 0 ≡ 119 → get_or w 1 0 ≡ 104 → get_or w 2 0 ≡ 105 → get_or w 3 0 ≡ 108 → get_or w 4 0 ≡ 101 → keyword w ≡ Some (CommandWord While)
is_while w h a b c d e = ap keyword (five w 119 104 105 108 101 h a b c d e)

pub is_pause : (w : List ℕ) → length w ≡ 5 → get_or w 0 0 ≡ 112 → get_or w 1 0 ≡ 97 → get_or w 2 0 ≡ 117 → get_or w 3 0 ≡ 115 → get_or w 4 0 ≡ 101 → keyword w ≡ Some (CommandWord Pause)
is_pause w h a b c d e = ap keyword (five w 112 97 117 115 101 h a b c d e)

pub is_region : (w : List ℕ) → length w ≡ 6 → get_or w 0 0 ≡ 114 → get_or w 1 0 ≡ 101 → get_or w 2 0 ≡ 103 → get_or w 3 0 ≡ 105 → get_or w 4 0 ≡ 111 → get_or w 5 0 ≡ 110 → keyword w ≡ Some (CommandWord Region)
is_region w h a b c d e f = ap keyword (six w 114 101 103 105 111 110 h a b c d e f)
