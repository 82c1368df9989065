-- What the numbers of a place can name.
use Rattle.std.specs.Prelude.{◌<◌, ◌≤◌, ◌^◌, length}
use Rattle.std.specs.List.{All}
use Rattle.octet_model.specs.declared.limits.TheConstants.{MAX_THREADS}
use Rattle.octet_model.specs.Machine.{Journals}

-- the journals are no more than a script may have threads, each of fewer than 2 ^ 32 events
pub record FitInPlaces (journals : Journals) : Type 0 where
  pub threads : length journals ≤ MAX_THREADS
  pub events : All (λ journal. length journal < 2 ^ 32) journals
