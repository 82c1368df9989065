-- The words as they are laid out at first.
use Rattle.std.proofs.Common.{◌≡◌, ℕ, zero, suc, ◌+◌, ◌<◌, List, [], ◌∷◌, ◌++◌, map, length, replicate, refl, ap, ◌∙◌, arith}
use Rattle.std.proofs.lemmas.List.{length-replicate}
use Rattle.atomic_table.specs.Table as table
use Rattle.octet_seats.specs.Cells.{spread}
use Rattle.octet_seats.proofs.lemmas.Seats.{first_seat}
use Rattle.octet_follow.specs.State.{unbegun, progress, words, opening}
use Rattle.octet_follow.specs.Views.{facts_of}
use Rattle.octet_follow.specs.Rule.{IsSeenBy, HasLeft, IsUnmade, IsRuled, first_view}
use Rattle.octet_follow.proofs.steps.Lawful.{opening_is_sound, none_found}

module _ (starts : List ℕ) (followers : ℕ) (more : 0 < followers) where
  -- the rule holds at first
  pub opens : (ws : List ℕ) → ws ≡ words (opening starts followers) → IsRuled starts followers (table.opening ws [] (first_view starts followers))
  opens ws is = let s = opening starts followers in let sound = opening_is_sound starts followers in let many : length s.followers ≡ followers = length-replicate followers unbegun in record {
    state = s;
    lie = is;
    sound = sound;
    begins = refl;
    many = many;
    seats = first_seat facts_of (λ y. IsSeenBy y s) (HasLeft s) (IsUnmade s) (length s.followers) (first_view starts followers) refl
        (record { sound = sound; starts = refl; many = many; inside = omega arith; stands = none_found followers 0 })
        (omega arith) (λ t h. none_found followers t);
  }

-- the progress words and the number of draws, all 0
no_progress : (n : ℕ) (starts : List ℕ) → replicate (suc n) 0 ++ starts ≡ map progress (replicate n unbegun) ++ 0 ∷ starts
no_progress zero starts = refl
no_progress (suc n) starts = ap (λ l. 0 ∷ l) (no_progress n starts)

one_on : (n : ℕ) → n + 1 ≡ suc n
one_on n = omega arith

pub words_at_first : (starts : List ℕ) (followers : ℕ) → spread (replicate (followers + 1) 0 ++ starts) ≡ words (opening starts followers)
words_at_first starts followers = ap spread (ap (λ (n : ℕ). replicate n 0 ++ starts) (one_on followers) ∙ no_progress followers starts)
