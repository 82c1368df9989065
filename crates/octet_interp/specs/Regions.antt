-- How many `region` commands a thread runs.
use Rattle.std.specs.Prelude.{ℕ, zero, suc, ◌+◌, Bool, true, false, List, [], ◌∷◌, Some, None, slice_get}
use Rattle.octet_model.specs.declared.command.Command.{Command}
use Rattle.octet_model.specs.declared.command.Command.TheVariants.{Region}
use Rattle.octet_model.specs.declared.event.Event.{Event}
use Rattle.octet_model.specs.declared.event.Event.TheVariants.{Read, Write, Update, Marked}
use Rattle.octet_model.specs.Thread.{Configuration, stepped, is_access, past_demanded}

-- the number that a command counts as a region: a `region` command is one
abbrev pub region_count : Command → ℕ
region_count Region = 1
region_count _ = 0

-- the number of `region` commands run before the command that stops the run, or as far as there is fuel
abbrev pub regions_to : (Command → Bool) → List Command → ℕ → Configuration → ℕ
regions_to stops commands zero c = 0
regions_to stops commands (suc fuel) c =
    elim (slice_get commands c.place) [
      | None ↦ 0
      | Some command ↦ elim (stops command) [ true ↦ 0 | false ↦ region_count command + regions_to stops commands fuel (stepped commands c command) ]
    ]

-- the number of `region` commands that a thread runs from here on, up to the access or end that it demands
abbrev pub regions_ahead : List Command → Configuration → ℕ
regions_ahead commands c = regions_to is_access commands c.fuel c

-- the number of `region` commands that a thread runs from a configuration, by a journal,
-- up to the access or the end that it demands after the journal
abbrev pub regions_before : List Command → Configuration → List Event → ℕ
regions_before commands c [] = regions_ahead commands c
regions_before commands c (Read object value ∷ journal) = regions_ahead commands c + regions_before commands (past_demanded commands c value) journal
regions_before commands c (Write object value ∷ journal) = regions_ahead commands c + regions_before commands (past_demanded commands c value) journal
regions_before commands c (Update object before after ∷ journal) = regions_ahead commands c + regions_before commands (past_demanded commands c after) journal
regions_before commands c (Marked mark ∷ journal) = regions_before commands c journal
