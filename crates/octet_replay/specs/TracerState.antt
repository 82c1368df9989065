-- How far a replay has told the trace of its lowest order.
use Rattle.std.specs.Prelude.{◌≡◌, ℕ, suc, ◌≤◌, List, length, Option, Some, None, slice_get, slice_index}
use Rattle.octet_model.specs.declared.event.Event.{Event}
use Rattle.octet_model.specs.declared.event.Place.{Place}
use Rattle.octet_model.specs.declared.log.Log.{Log}
use Rattle.octet_model.specs.declared.script.Script.{Script}
use Rattle.octet_model.specs.Machine.{journal_of}
use Rattle.octet_model.specs.Orders.{lowest_order}
use Rattle.octet_model.specs.Traces.{trace_of}
use Rattle.octet_replay.specs.ReplayState.{ReplayState, plain_state}

-- the state of a tracer: a script, a log, and how many events of their trace were told
pub record TracerState : Type 0 where
  pub script : Script
  pub log : Log
  pub told : ℕ

-- the whole trace was told: no thread may step any more
abbrev pub HasToldAll : TracerState → Type 0
HasToldAll t = t.told ≡ length (trace_of t.script t.log.threads)

-- the tracer told the next event of the trace with its place.
-- It told nothing, and nothing changed, where no event is left
abbrev pub TellsNext : TracerState → Option (Place × Event) → TracerState → Type 0
TellsNext before (Some item) after = (slice_get (trace_of before.script before.log.threads) before.told ≡ Some item) × (after ≡ record before { told = suc before.told })
TellsNext before None after = HasToldAll before × (after ≡ before)

-- the replay has not gone past the lowest order, and these are the numbers of events that its threads made
pub record IsTracedTo (r : ReplayState) (made : List ℕ) : Type 0 where
  pub agree : length r.script.threads ≡ length r.log.threads
  pub within : r.steps ≤ length (lowest_order r.script r.log.threads)
  pub counts : (thread : ℕ) → slice_index made thread ≡ length (journal_of (plain_state r).journals thread)
