-- The words as they are laid out at first.
use Rattle.std.proofs.Common.{◌≡◌, ℕ, zero, suc, ◌<◌, List, [], ◌∷◌, ◌++◌, map, length, replicate, refl, ap, arith}
use Rattle.std.proofs.lemmas.List.{length-replicate, length-map}
use Rattle.atomic_table.specs.Table as table
use Rattle.octet_model.specs.declared.script.Script.{Script}
use Rattle.octet_model.specs.declared.log.Log.{Log}
use Rattle.octet_model.specs.Orders.{starting_heap}
use Rattle.octet_clock.specs.Untied.{IsUntied}
use Rattle.octet_seats.specs.Cells.{spread}
use Rattle.octet_parallel.specs.State.{unbegun, progress, words, opening}
use Rattle.octet_seats.proofs.lemmas.Seats.{first_seat}
use Rattle.octet_parallel.specs.Views.{facts_of}
use Rattle.octet_parallel.specs.Rule.{Follows, HasLeft, IsUnmade, IsRuled, first_view}
use Rattle.octet_parallel.proofs.steps.Lawful.{opening_is_sound, none_found}

module _ (script : Script) (log : Log) (agree : length script.threads ≡ length log.threads) (untied : IsUntied log.threads) (more : 0 < length log.threads) where
  -- the rule holds at first, after a run of no step
  pub opens : (ws : List ℕ) → ws ≡ words (opening script log) → IsRuled script log (table.opening ws [] (first_view script log))
  opens ws is = let s = opening script log in let sound = opening_is_sound script log agree untied in let many : length s.players ≡ length log.threads = length-replicate (length log.threads) unbegun in record {
    agree = agree;
    untied = untied;
    run = [];
    is_run = tt;
    lie = is;
    seats = first_seat facts_of (Follows script log []) (HasLeft script log []) (IsUnmade script log []) (length log.threads) (first_view script log) refl
        (record { seen = record { sound = sound; script = refl; log = refl; inside = omega arith; stands = none_found (length log.threads) 0 }; trail = refl })
        more (λ t h. record { stands = none_found (length log.threads) t; trail = refl });
  }

no_progress : (n : ℕ) → map progress (replicate n unbegun) ≡ replicate n 0
no_progress zero = refl
no_progress (suc n) = ap (λ l. 0 ∷ l) (no_progress n)

pub words_at_first : (script : Script) (log : Log) → words (opening script log) ≡ spread (replicate (length log.threads) 0 ++ starting_heap script)
words_at_first script log = ap (λ l. spread (l ++ starting_heap script)) (no_progress (length log.threads))

pub many_starts : (script : Script) → length (starting_heap script) ≡ length script.objects
many_starts script = length-map script.objects (λ object. object.start)
