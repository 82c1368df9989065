-- What a hunt looks for.
use Rattle.std.specs.Prelude.{ℕ, ◌≡◌, ◌≢◌, ◌<◌, true, List, get_or}
use Rattle.std.specs.List.{list_all}
use Rattle.octet_model.specs.declared.outcome.Recorded.{Recorded}
use Rattle.octet_model.specs.declared.script.Script.{Script}
use Rattle.octet_model.specs.Orders.{is_done, IsFaithful}
use Rattle.octet_regions.specs.declared.region.Hop.{Hop}
use Rattle.octet_regions.specs.declared.serial.Serial.TheVariants as serial
use Rattle.octet_regions.specs.Accesses.{accesses_of}
use Rattle.octet_regions.specs.Choice.{IsSerial}
use Rattle.octet_regions.specs.Runs.{Shows}
use Rattle.octet_hunt.specs.declared.aim.Aim.{Aim}
use Rattle.octet_hunt.specs.declared.aim.Aim.TheVariants.{OtherValue, Cycle}

-- a faithful recording of a run whose threads are all done, and which leaves another value than this one in the object
pub record EndsOtherwise (script : Script) (object number : ℕ) (recorded : Recorded) : Type 0 where
  pub faithful : IsFaithful script recorded.log.threads recorded.outcome
  pub done : list_all is_done recorded.outcome.ends ≡ true
  pub other : get_or recorded.outcome.heap object 0 ≢ number

-- a faithful recording of a run whose regions have this cycle, as `regions` finds it
pub record HasCycle (script : Script) (recorded : Recorded) (hops : List Hop) : Type 0 where
  pub faithful : IsFaithful script recorded.log.threads recorded.outcome
  pub cycle : IsSerial (accesses_of script recorded.log.threads) (serial.Cycle hops)
  pub shows : Shows script recorded.log.threads (serial.Cycle hops)

-- the recording, with these hops, is what the hunt looks for
abbrev pub Meets : Script → Aim → Recorded → List Hop → Type 0
Meets script (OtherValue object number) recorded hops = EndsOtherwise script object number recorded
Meets script Cycle recorded hops = HasCycle script recorded hops

-- the object of the aim, if it has one, is one of so many
abbrev pub IsAimAt : ℕ → Aim → Type 0
IsAimAt objects (OtherValue object number) = object < objects
IsAimAt objects Cycle = Unit {0}
