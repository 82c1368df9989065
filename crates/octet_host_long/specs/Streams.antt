-- What a clause says of streams.
use Rattle.std.specs.Prelude.{◌≡◌, ◌≢◌, ℕ, ◌<◌, ◌≤◌, List, [], length, Result, Ok, Err}
use Rattle.std.specs.Arc.{arc_value}
use Rattle.octet_marks.specs.declared.piece.Head.{Head}
use Rattle.octet_blocks.specs.declared.fault.GatherFault.{GatherFault}
use Rattle.octet_blocks.specs.declared.fault.GatherFault.TheVariants.{OutOfMemory, Broken}
use Rattle.octet_blocks.specs.declared.writer.BlockWriter.{BlockWriter}
use Rattle.octet_blocks.specs.declared.writer.Gathered.TheVariants as gathered
use Rattle.octet_blocks.specs.Writing.{Gathers, IsGathered, PassesOn, FitsNoBlock}
use Rattle.octet_host.specs.Copies.{copied}
use Rattle.octet_host_long.specs.declared.inlet.Inlet.{Inlet}
use Rattle.octet_host_long.specs.declared.outlet.Outlet.{Outlet}
use Rattle.octet_host_long.specs.declared.outlet.Taken.{Taken}
use Rattle.octet_host_long.specs.declared.outlet.Taken.TheVariants as taken

-- the head that a stream's file has to begin with
abbrev pub head_of : Inlet → Head
head_of inlet = arc_value inlet.head

-- what is whole is copied, and passed on; or there is no room for all of it, and nothing is
abbrev pub PassesWhole : BlockWriter → List ℕ → Taken → List ℕ → BlockWriter → Type 0
PassesWhole whole room (taken.Copied long) out after =
    (long ≡ length whole.bytes.items) × (long ≤ length room) × (out ≡ copied whole.bytes.items room) × PassesOn whole after
PassesWhole whole room (taken.NoRoom long) out after = (long ≡ length whole.bytes.items) × (length room < long) × (out ≡ room) × (after ≡ whole)
PassesWhole whole room _ out after = ⊥

-- why nothing is whole
abbrev pub HasGatherFault : GatherFault → BlockWriter → Type 0
HasGatherFault OutOfMemory writer = Unit {0}
HasGatherFault Broken writer = FitsNoBlock writer writer.held

-- what the thread has handed on was gathered, up to something whole. That is passed on, if there is room
pub record TakesWhole (before : Outlet) (room : List ℕ) (given : Taken) (out : List ℕ) (after : Outlet) : Type 0 where
  pub whole : BlockWriter
  pub gathers : Gathers before.writer whole
  pub is : whole.bytes.items ≢ []
  pub passes : PassesWhole whole room given out after.writer

-- a stream is asked for what its thread has handed on
abbrev pub TakesFrom : Outlet → List ℕ → Result Taken GatherFault → List ℕ → Outlet → Type 0
TakesFrom before room (Ok taken.Waits) out after = Gathers before.writer after.writer × IsGathered before.writer gathered.Waits after.writer × (out ≡ room)
TakesFrom before room (Ok taken.Ended) out after = Gathers before.writer after.writer × IsGathered before.writer gathered.Ended after.writer × (out ≡ room)
TakesFrom before room (Ok given) out after = TakesWhole before room given out after
TakesFrom before room (Err fault) out after = Gathers before.writer after.writer × HasGatherFault fault after.writer × (out ≡ room)
