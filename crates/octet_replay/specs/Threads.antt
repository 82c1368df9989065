-- How far one thread is replayed.
use Rattle.std.specs.Prelude.{◌≡◌, ℕ, zero, suc, ◌+◌, ◌^◌, ◌<◌, ◌≤◌, true, false, List, [], ◌∷◌, ◌++◌, length, nat_lt, Option, Some, None, slice_get}
use Rattle.std.specs.Vec.{vec_len, vec_capacity}
use Rattle.octet_model.specs.declared.command.Command.{Command}
use Rattle.octet_model.specs.declared.event.Event.{Event}
use Rattle.octet_model.specs.declared.event.Event.TheVariants.{Read, Write, Update, Marked}
use Rattle.octet_model.specs.declared.log.ThreadLog.{ThreadLog}
use Rattle.octet_model.specs.Thread.{Configuration, configuration_after}
use Rattle.octet_model.specs.declared.event.Mark.TheVariants.{Join, Draw, Fence}
use Rattle.octet_model.specs.Machine.{Next, Wants, Finished, NothingFits, MakeMark, MakeRead, MakeWrite, MakeUpdate, event_made}
use Rattle.octet_model.specs.Journals.{access_count, mark_count, gap_after, due_mark, next_access, mark_first}
use Rattle.octet_model.specs.declared.outcome.End.{End}
use Rattle.octet_model.specs.Orders.{end_of, values_read}
use Rattle.octet_interp.specs.Demands.{given}
use Rattle.octet_interp.specs.Regions.{regions_before}
use Rattle.octet_replay.specs.declared.need.Need.{Need}
use Rattle.octet_replay.specs.declared.need.Need.TheVariants.{Free, Events, DrawsAre, DrawsReach, Never}
use Rattle.octet_replay.specs.declared.thread.ThreadReplay.{ThreadReplay}
use Rattle.octet_replay.specs.NextDemand.{demand_of, CountsAhead, IsDemandedNext, NamesObject}

-- the counts of the thread are those of the journal
pub record HasCounts (journal : List Event) (t : ThreadReplay) : Type 0 where
  pub counts_marks : t.marks ≡ mark_count journal
  pub counts_accesses : t.accesses ≡ access_count journal
  pub counts_gap : t.gap ≡ gap_after 0 journal

-- a thread of these commands and this log, replayed to the end of a journal. Its counts, its values read,
-- its next demand and the `region` commands run before are those of the journal
pub record IsReplayOf (commands : List Command) (start : Configuration) (objects : ℕ) (log : ThreadLog) (journal : List Event) (t : ThreadReplay) : Type 0 where
  pub counts : HasCounts journal t
  pub comes : IsDemandedNext commands (configuration_after commands start journal) t.up_next t.config
  pub runs : t.config.commands ≡ commands
  pub has : t.config.objects ≡ objects
  pub regions : t.config.regions ≡ regions_before commands start journal
  pub names : NamesObject objects t.up_next
  pub reads : t.reads.items ≡ values_read journal
  pub room : log.accesses ≤ vec_capacity t.reads
  pub few_accesses : t.accesses ≤ log.accesses
  pub few_marks : t.marks ≤ length log.marks

-- what is next for a thread by its log, from its counts and what it demands next
abbrev pub next_by_counts : ThreadLog → ThreadReplay → Next
next_by_counts log t =
    mark_first (due_mark (slice_get log.marks t.marks) t.gap)
    (next_access (demand_of t.up_next) (nat_lt t.accesses log.accesses) (nat_lt t.marks (length log.marks)))

-- the end of a thread that demands its end
abbrev pub end_told : ThreadReplay → End
end_told t = end_of (demand_of t.up_next)

-- the number of accesses that the thread has made
abbrev pub accesses_made : ThreadReplay → ℕ
accesses_made t = t.accesses

-- the values that the thread has read
abbrev pub values_of : ThreadReplay → List ℕ
values_of t = t.reads.items

-- the object that the thread's next demand names is one of so many objects
abbrev pub DemandsWithin : ℕ → ThreadReplay → Type 0
DemandsWithin objects t = NamesObject objects t.up_next

-- the need of a thread that is to step next like this
abbrev pub need_of : Next → Need
need_of (Wants (MakeMark (Join from upto))) = Events from upto
need_of (Wants (MakeMark (Draw zero))) = Never
need_of (Wants (MakeMark (Draw (suc number)))) = DrawsAre number
need_of (Wants (MakeMark (Fence number))) = DrawsReach number
need_of (Wants (MakeRead object)) = Free
need_of (Wants (MakeWrite object value)) = Free
need_of (Wants (MakeUpdate object change)) = Free
need_of Finished = Never
need_of NothingFits = Never

-- the event that the next operation makes on this heap, if an operation is next
abbrev pub next_event : Next → List ℕ → Option Event
next_event (Wants operation) heap = Some (event_made operation heap)
next_event _ heap = None

-- the thread stands before the event. A thread before a read waits for its value, any other does not
abbrev pub StandsFor : Event → ThreadReplay → Type 0
StandsFor (Read object value) t = t.config.waits ≡ true
StandsFor (Write object value) t = t.config.waits ≡ false
StandsFor (Update object old new) t = t.config.waits ≡ false
StandsFor (Marked mark) t = Unit {0}

-- the thread has room to count the event
abbrev pub HasRoomFor : Event → ThreadReplay → Type 0
HasRoomFor (Marked mark) t = suc t.marks < 2 ^ 64
HasRoomFor (Read object value) t = (suc t.accesses < 2 ^ 32) × (suc t.gap < 2 ^ 32) × (vec_len t.reads < vec_capacity t.reads)
HasRoomFor (Write object value) t = (suc t.accesses < 2 ^ 32) × (suc t.gap < 2 ^ 32)
HasRoomFor (Update object old new) t = (suc t.accesses < 2 ^ 32) × (suc t.gap < 2 ^ 32)

-- the object of a write or an update is one of so many objects
abbrev pub WritesWithin : ℕ → Event → Type 0
WritesWithin objects (Write object value) = object < objects
WritesWithin objects (Update object old new) = object < objects
WritesWithin objects _ = Unit {0}

-- the thread comes to what it demands past the access. A mark changes nothing of what it demands
abbrev pub IsPastEvent : Event → ThreadReplay → ThreadReplay → Type 0
IsPastEvent (Read object value) before after = IsDemandedNext before.config.commands (given before.config value).at after.up_next after.config
IsPastEvent (Write object value) before after = IsDemandedNext before.config.commands before.config.at after.up_next after.config
IsPastEvent (Update object old new) before after = IsDemandedNext before.config.commands before.config.at after.up_next after.config
IsPastEvent (Marked mark) before after = (after.up_next ≡ before.up_next) × (after.config ≡ before.config)

-- the thread counts the `region` commands past an access, up to the next one
abbrev pub CountsOn : Event → ThreadReplay → ThreadReplay → Type 0
CountsOn (Read object value) before after = CountsAhead (given before.config value) after.config
CountsOn (Write object value) before after = CountsAhead before.config after.config
CountsOn (Update object old new) before after = CountsAhead before.config after.config
CountsOn (Marked mark) before after = after.config.regions ≡ before.config.regions

-- a thread before an event and after it
pub record Grown (before : ThreadReplay) (event : Event) (after : ThreadReplay) : Type 0 where
  pub reads : after.reads.items ≡ before.reads.items ++ values_read (event ∷ [])
  pub room : vec_capacity after.reads ≡ vec_capacity before.reads
  pub marks : after.marks ≡ before.marks + mark_count (event ∷ [])
  pub accesses : after.accesses ≡ before.accesses + access_count (event ∷ [])
  pub gap : after.gap ≡ gap_after before.gap (event ∷ [])
  pub comes : IsPastEvent event before after
  pub regions : CountsOn event before after
  pub runs : after.config.commands ≡ before.config.commands
  pub has : after.config.objects ≡ before.config.objects
  pub names : NamesObject before.config.objects before.up_next → NamesObject before.config.objects after.up_next

-- a thread before an access is counted and after it
pub record Counted (before after : ThreadReplay) : Type 0 where
  pub reads : after.reads ≡ before.reads
  pub marks : after.marks ≡ before.marks
  pub accesses : after.accesses ≡ suc before.accesses
  pub gap : after.gap ≡ suc before.gap
  pub comes : IsDemandedNext before.config.commands before.config.at after.up_next after.config
  pub regions : CountsAhead before.config after.config
  pub runs : after.config.commands ≡ before.config.commands
  pub has : after.config.objects ≡ before.config.objects
  pub names : NamesObject before.config.objects after.up_next
