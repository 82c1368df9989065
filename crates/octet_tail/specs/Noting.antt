-- Marks are given to both finders.
use Rattle.std.specs.Prelude.{◌≡◌, ◌⊎◌, ℕ, ◌+◌, ◌^◌, ◌≤◌, List, [], ◌∷◌, ◌++◌, get_or}
use Rattle.octet_model.specs.declared.log.Gapped.{Gapped}
use Rattle.octet_tail.specs.declared.finder.FrontFinder.{FrontFinder}
use Rattle.octet_tail.specs.declared.placed.Placed.{Placed}
use Rattle.octet_tail.specs.declared.places.Come.{Come}
use Rattle.octet_tail.specs.Fronts.{asked_of, IsFinder}
use Rattle.octet_tail.specs.declared.finders.Finders.{Finders}
use Rattle.octet_tail.specs.Between.{placed_at, come_to}

-- a finder was given these marks besides
abbrev pub Takes : List Placed → FrontFinder → FrontFinder → Type 0
Takes more before after = (marks : List Placed) → IsFinder marks before → IsFinder (marks ++ more) after

-- both were, and are asked for the same
pub record TakesOn (more : List Placed) (before after : Finders) : Type 0 where
  pub first : Takes more before.before after.before
  pub second : Takes more before.behind after.behind
  pub first_asked : asked_of after.before ≡ asked_of before.before
  pub second_asked : asked_of after.behind ≡ asked_of before.behind

-- how far a thread has come with all these marks
abbrev pub come_with : List Gapped → ℕ → Come → Come
come_with [] thread come = come
come_with (gapped ∷ marks) thread come = come_with marks thread (come_to (placed_at thread come gapped))

-- a thread that has come so far has too many events to be counted, with what is asked for
abbrev pub IsUncounted : Finders → ℕ → Come → Type 0
IsUncounted finders thread come =
    (2 ^ 64 ≤ come.accesses) ⊎ (2 ^ 64 ≤ come.events + get_or (asked_of finders.before) thread 0) ⊎ (2 ^ 64 ≤ come.events + get_or (asked_of finders.behind) thread 0)
