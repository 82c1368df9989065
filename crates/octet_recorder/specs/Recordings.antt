-- What a recorder leaves when it is closed.
use Rattle.std.specs.Prelude.{◌≡◌, List, map}
use Rattle.octet_model.specs.declared.command.Command.{Command}
use Rattle.octet_model.specs.declared.outcome.End.{End}
use Rattle.octet_model.specs.declared.outcome.End.TheVariants.{Done}
use Rattle.octet_model.specs.declared.script.Script.{Script}
use Rattle.octet_model.specs.Journals.{log_of}
use Rattle.octet_model.specs.Machine.{Journals}
use Rattle.octet_model.specs.Orders.{values_read}
use Rattle.octet_heap.specs.Workers.{seat_of}
use Rattle.octet_heap.specs.declared.worker.Worker.{Worker}
use Rattle.octet_recorder.specs.declared.recording.Recording.{Recording}
use Rattle.octet_recorder.specs.declared.track.Track.{Track}

-- the workers of tracks
abbrev pub workers_in : List Track → List Worker
workers_in tracks = map (λ track. track.worker) tracks

-- the programs of tracks
abbrev pub programs_in : List Track → List (List Command)
programs_in tracks = map (λ track. track.commands.items) tracks

-- what the threads have made
abbrev pub journals_in : List Track → Journals
journals_in tracks = map (λ track. (seat_of track.worker).journal) tracks

-- how the threads end: no command is left
abbrev pub ends_in : List Track → List End
ends_in tracks = map (λ track. Done) tracks

-- the script with which the recorder began, but for its threads, which are the tracks' programs
pub record IsScriptOf (opening : Script) (tracks : List Track) (script : Script) : Type 0 where
  pub fuel : script.fuel ≡ opening.fuel
  pub objects : script.objects ≡ opening.objects
  pub threads : script.threads ≡ programs_in tracks

-- the script of the tracks, the log of what they have made, and the values that they have read
pub record IsRecordingOf (opening : Script) (tracks : List Track) (recording : Recording) : Type 0 where
  pub script : IsScriptOf opening tracks recording.script
  pub log : recording.log.threads ≡ log_of (journals_in tracks)
  pub reads : recording.outcome.reads ≡ map values_read (journals_in tracks)
  pub ends : recording.outcome.ends ≡ ends_in tracks
