-- The laws of what a thread demands, as the public functions of laws.rt prove them.
use Rattle.std.specs.Prelude.{◌≡◌, ℕ, ◌+◌, List, [], ◌∷◌, ◌++◌}
use Rattle.octet_model.specs.declared.command.Command.{Command}
use Rattle.octet_model.specs.declared.event.Event.{Event}
use Rattle.octet_model.specs.declared.event.Event.TheVariants.{Read, Write, Update, Marked}
use Rattle.octet_model.specs.declared.event.Mark.{Mark}
use Rattle.octet_model.specs.Thread.{Configuration, settled, demanded, past_demanded, configuration_after, FitsFrom, FitsToEnd, ToRead, ToWrite, ToBump, ToEnd, added}
use Rattle.octet_interp.specs.declared.demand.Demand.{Demand}
use Rattle.octet_interp.specs.declared.demand.Demand.TheVariants.{Read, Write, Bump, Ended}
use Rattle.octet_interp.specs.Regions.{regions_ahead, regions_before}
use Rattle.octet_interp.specs.Demands.{ThreadState, next_demand, after_demand, given, TakesFuel}

-- an access or end that `next` answers is what the thread demands without safe points and pauses.
-- A safe point and a pause keep where the thread settles, and an end is told again
abbrev pub Agrees : Demand → ThreadState → ThreadState → Type 0
Agrees (Read object) before after =
    (demanded before.commands before.at ≡ ToRead object) × ((value : ℕ) → (given after value).at ≡ past_demanded before.commands before.at value)
Agrees (Write object value) before after =
    (demanded before.commands before.at ≡ ToWrite object value) × ((any : ℕ) → after.at ≡ past_demanded before.commands before.at any)
Agrees (Bump object amount) before after =
    (demanded before.commands before.at ≡ ToBump object amount) × ((any : ℕ) → after.at ≡ past_demanded before.commands before.at any)
Agrees (Ended end) before after = (demanded before.commands before.at ≡ ToEnd end) × (next_demand after ≡ Ended end)
Agrees _ before after = settled before.commands after.at ≡ settled before.commands before.at

-- the demands of a run, without safe points and pauses, are those of the thread
abbrev pub DemandsAreThoseOfTheThread : Type 0
DemandsAreThoseOfTheThread = (s : ThreadState) → Agrees (next_demand s) s (after_demand s)

-- each demand but the end takes fuel
abbrev pub DemandsTakeFuel : Type 0
DemandsTakeFuel = (s : ThreadState) → TakesFuel (next_demand s) s.at.fuel (after_demand s).at.fuel

-- configurations that settle alike demand alike, and are alike past it
abbrev pub DemandsFollowFromWhereItSettles : Type 0
DemandsFollowFromWhereItSettles = (commands : List Command) (c d : Configuration) → settled commands c ≡ settled commands d
    → (demanded commands c ≡ demanded commands d) × ((value : ℕ) → past_demanded commands c value ≡ past_demanded commands d value)

-- the journal fits the thread from this start. After it, the thread stands before the same access or end
pub record IsJournalOf (start : Configuration) (journal : List Event) (s : ThreadState) : Type 0 where
  pub fits : FitsFrom s.commands start journal
  pub settles : settled s.commands (configuration_after s.commands start journal) ≡ settled s.commands s.at

-- the journal with the event of the demand is one of the thread past the demand.
-- At the end, the journal fits the thread to its end
abbrev pub IsJournalPast : Configuration → List Event → Demand → ThreadState → Type 0
IsJournalPast start journal (Read object) after = (value : ℕ) → IsJournalOf start (journal ++ Read object value ∷ []) (given after value)
IsJournalPast start journal (Write object value) after = IsJournalOf start (journal ++ Write object value ∷ []) after
IsJournalPast start journal (Bump object amount) after = (before : ℕ) → IsJournalOf start (journal ++ Update object before (added amount before) ∷ []) after
IsJournalPast start journal (Ended end) after = FitsToEnd after.commands start journal × (demanded after.commands (configuration_after after.commands start journal) ≡ ToEnd end)
IsJournalPast start journal _ after = IsJournalOf start journal after

-- a journal keeps up with its thread when it gets the event of each demand
abbrev pub JournalsKeepUp : Type 0
JournalsKeepUp = (start : Configuration) (journal : List Event) (s : ThreadState) → IsJournalOf start journal s → IsJournalPast start journal (next_demand s) (after_demand s)

-- a journal keeps up with its thread when it gets a mark
abbrev pub JournalsTakeMarks : Type 0
JournalsTakeMarks = (start : Configuration) (journal : List Event) (s : ThreadState) (mark : Mark) → IsJournalOf start journal s → IsJournalOf start (journal ++ Marked mark ∷ []) s

-- the `region` commands that the thread ran, and those ahead of its next access,
-- are those before this access by the journal from this start
abbrev pub CountsRegions : Configuration → List Event → ThreadState → Type 0
CountsRegions start journal s = s.regions + regions_ahead s.commands s.at ≡ regions_before s.commands start journal

-- a thread that is asked for an access ran just the `region` commands before it by its journal.
-- The count goes on past the access
abbrev pub CountsPast : Configuration → List Event → Demand → ThreadState → Type 0
CountsPast start journal (Read object) after =
    (after.regions ≡ regions_before after.commands start journal) × ((value : ℕ) → CountsRegions start (journal ++ Read object value ∷ []) (given after value))
CountsPast start journal (Write object value) after =
    (after.regions ≡ regions_before after.commands start journal) × CountsRegions start (journal ++ Write object value ∷ []) after
CountsPast start journal (Bump object amount) after =
    (after.regions ≡ regions_before after.commands start journal) × ((before : ℕ) → CountsRegions start (journal ++ Update object before (added amount before) ∷ []) after)
CountsPast start journal (Ended end) after = after.regions ≡ regions_before after.commands start journal
CountsPast start journal _ after = CountsRegions start journal after

-- the regions of a thread are counted by its journal
abbrev pub RegionsAreCounted : Type 0
RegionsAreCounted = (start : Configuration) (journal : List Event) (s : ThreadState)
    → IsJournalOf start journal s → CountsRegions start journal s → CountsPast start journal (next_demand s) (after_demand s)

-- a mark changes nothing of the count of regions
abbrev pub MarksCountNoRegion : Type 0
MarksCountNoRegion = (start : Configuration) (journal : List Event) (s : ThreadState) (mark : Mark)
    → CountsRegions start journal s → CountsRegions start (journal ++ Marked mark ∷ []) s
