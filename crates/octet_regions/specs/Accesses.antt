-- The accesses of a script and a log, each with its region, in the order in which they are made.
use Rattle.std.specs.Prelude.{ℕ, List, [], ◌∷◌, ◌++◌}
use Rattle.octet_model.specs.declared.event.Event.{Event}
use Rattle.octet_model.specs.declared.event.Event.TheVariants.{Marked}
use Rattle.octet_model.specs.declared.script.Script.{Script}
use Rattle.octet_model.specs.declared.log.ThreadLog.{ThreadLog}
use Rattle.octet_model.specs.Thread.{starting_configuration}
use Rattle.octet_model.specs.Machine.{journal_of, PlainState, Next, Wants, Finished, NothingFits, event_made, next_of, step}
use Rattle.octet_model.specs.Orders.{commands_of, by_log, opening_state, lowest_order}
use Rattle.octet_interp.specs.Regions.{regions_before}
use Rattle.octet_regions.specs.declared.region.Region.{Region}
use Rattle.octet_regions.specs.declared.access.Access.{Access}

-- the region of a thread's next access: its thread, and the number of `region` commands run before the access
abbrev pub region_in : Script → PlainState → ℕ → Region
region_in script s thread = record {
  thread = thread;
  number = regions_before (commands_of script thread) (starting_configuration script.fuel) (journal_of s.journals thread);
}

-- the event as an access of its region, if it is an access
abbrev pub access_in : Region → Event → List Access
access_in region (Marked mark) = []
access_in region event = record { region = region; event = event } ∷ []

-- the access that a thread makes next
abbrev pub access_made : Script → PlainState → ℕ → Next → List Access
access_made script s thread (Wants operation) = access_in (region_in script s thread) (event_made operation s.heap)
access_made script s thread Finished = []
access_made script s thread NothingFits = []

-- the accesses of a front, in the order in which they are made
abbrev pub accesses_along : Script → List ThreadLog → PlainState → List ℕ → List Access
accesses_along script log s [] = []
accesses_along script log s (thread ∷ front) =
    access_made script s thread (next_of (by_log script log) s thread) ++ accesses_along script log (step (by_log script log) s thread) front

-- the accesses of the lowest order of a script and a log
abbrev pub accesses_of : Script → List ThreadLog → List Access
accesses_of script log = accesses_along script log (opening_state script) (lowest_order script log)
