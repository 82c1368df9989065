-- What lets a player take a step, by its view.
use Rattle.std.specs.Prelude.{◌≡◌, ◌≢◌, ℕ, ◌≤◌}
use Rattle.octet_model.specs.declared.event.Mark.{Mark}
use Rattle.octet_model.specs.Machine.{Wants, MakeMark}
use Rattle.octet_parallel.specs.declared.fate.Fate.{Fate}
use Rattle.octet_parallel.specs.declared.fate.Fate.TheVariants.{Playing, Amiss, Stopped}
use Rattle.octet_parallel.specs.Needs.{Needs}
use Rattle.octet_parallel.specs.State.{found_of, stop_number}
use Rattle.octet_parallel.specs.Steps.{IsAmissBy, IsFree}
use Rattle.octet_parallel.specs.Views.{PlayerView, next_in}

-- the player plays, and owes nothing
abbrev pub IsFreeIn : PlayerView → Type 0
IsFreeIn v = IsFree v.player

-- the player has found what the mark needs of others
abbrev pub HasFound : PlayerView → Mark → Type 0
HasFound v mark = (whom events : ℕ) → Needs v.log.threads mark whom events → whom ≢ v.number → (events ≤ found_of v.player whom) × (found_of v.player whom ≢ stop_number)

-- the player may make the mark
abbrev pub MayMark : PlayerView → Mark → Type 0
MayMark v mark = IsFreeIn v × (next_in v ≡ Wants (MakeMark mark)) × HasFound v mark

-- the reason why the player stops: it is amiss, or it has found the stop number
abbrev pub StopsIn : PlayerView → Fate → Type 0
StopsIn v Playing = ⊥
StopsIn v Amiss = IsAmissBy v.script v.log.threads v.number v.player.journal
StopsIn v (Stopped whom) = found_of v.player whom ≡ stop_number
