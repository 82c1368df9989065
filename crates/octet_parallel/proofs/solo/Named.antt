-- What a thread does, its commands name.
use Rattle.std.proofs.Common.{◌≡◌, ℕ, zero, suc, Bool, true, false, nat_lt, List, length, Option, Some, None, IsTrue, slice_get, slice_index, refl, subst}
use Rattle.octet_model.specs.declared.command.Command.{Command}
use Rattle.octet_model.specs.declared.command.Command.TheVariants.{Read, Write, Bump}
use Rattle.octet_model.specs.declared.event.Event.{Event}
use Rattle.octet_model.specs.declared.event.Event.TheVariants.{Read as ReadMade, Write as WriteMade, Update as UpdateMade, Marked}
use Rattle.octet_model.specs.declared.event.Mark.{Mark}
use Rattle.octet_model.specs.declared.log.ThreadLog.{ThreadLog}
use Rattle.octet_model.specs.declared.script.Script.{Script}
use Rattle.octet_model.specs.Thread.{Configuration, AccessOrEnd, ToRead, ToWrite, ToBump, ToEnd, demanded, demand_at, settled, configuration_after, starting_configuration}
use Rattle.octet_model.specs.Machine.{Operation, MakeMark, MakeRead, MakeWrite, MakeUpdate, Wants, event_made}
use Rattle.octet_model.specs.Journals.{access_count, mark_count, gap_after, due_mark, next_access, mark_first}
use Rattle.octet_model.specs.HappensBefore.{object_of, is_write}
use Rattle.octet_model.specs.Orders.{by_log, commands_of, thread_log_of}
use Rattle.octet_parallel.specs.Apart.{Names, Writes}

abbrev DemandNamed : List Command → AccessOrEnd → Type 0
DemandNamed commands (ToRead object) = Names commands object
DemandNamed commands (ToWrite object value) = Writes commands object
DemandNamed commands (ToBump object amount) = Writes commands object
DemandNamed commands (ToEnd end) = Unit {0}

abbrev pub OperationNamed : List Command → Operation → Type 0
OperationNamed commands (MakeMark mark) = Unit {0}
OperationNamed commands (MakeRead object) = Names commands object
OperationNamed commands (MakeWrite object value) = Writes commands object
OperationNamed commands (MakeUpdate object change) = Writes commands object

abbrev pub EventNamed : List Command → Event → Type 0
EventNamed commands (ReadMade object value) = Names commands object
EventNamed commands (WriteMade object value) = Writes commands object
EventNamed commands (UpdateMade object before after) = Writes commands object
EventNamed commands (Marked mark) = Unit {0}

demand_named : (commands : List Command) (d : Configuration) (o : Option Command) → slice_get commands d.place ≡ o → DemandNamed commands (demand_at o d)
demand_named commands d None is = tt
demand_named commands d (Some (Read to object)) is = go d.fuel
  where
    go : (fuel : ℕ) → DemandNamed commands (elim fuel [ zero ↦ demand_at (Some (Read to object)) (record d { fuel = 0 }) | suc left ↦ ToRead object ])
    go zero = tt
    go (suc left) = record { place = d.place; command = Read to object; access = record { object = object; writes = false }; stands = is; accesses = refl; named = refl }
demand_named commands d (Some (Write object from)) is = go d.fuel
  where
    go : (fuel : ℕ) → DemandNamed commands (elim fuel [ zero ↦ demand_at (Some (Write object from)) (record d { fuel = 0 }) | suc left ↦ ToWrite object (slice_index d.registers from) ])
    go zero = tt
    go (suc left) = record { names = record { place = d.place; command = Write object from; access = record { object = object; writes = true }; stands = is; accesses = refl; named = refl }; writer = refl }
demand_named commands d (Some (Bump object from)) is = go d.fuel
  where
    go : (fuel : ℕ) → DemandNamed commands (elim fuel [ zero ↦ demand_at (Some (Bump object from)) (record d { fuel = 0 }) | suc left ↦ ToBump object (slice_index d.registers from) ])
    go zero = tt
    go (suc left) = record { names = record { place = d.place; command = Bump object from; access = record { object = object; writes = true }; stands = is; accesses = refl; named = refl }; writer = refl }
demand_named commands d (Some other) is = tt

next_named : (commands : List Command) (due : Option Mark) (d : AccessOrEnd) (left marks : Bool) (o : Operation) → DemandNamed commands d → mark_first due (next_access d left marks) ≡ Wants o → OperationNamed commands o
next_named commands (Some mark) d left marks o named is = let one : MakeMark mark ≡ o = cc in subst (OperationNamed commands) one tt
next_named commands None (ToRead object) true marks o named is = let one : MakeRead object ≡ o = cc in subst (OperationNamed commands) one named
next_named commands None (ToRead object) false marks o named is = absurd cc
next_named commands None (ToWrite object value) true marks o named is = let one : MakeWrite object value ≡ o = cc in subst (OperationNamed commands) one named
next_named commands None (ToWrite object value) false marks o named is = absurd cc
next_named commands None (ToBump object amount) true marks o named is = named_bump o is
  where
    named_bump : (p : Operation) → next_access (ToBump object amount) true marks ≡ Wants p → OperationNamed commands p
    named_bump (MakeMark mark) same = absurd cc
    named_bump (MakeRead other) same = absurd cc
    named_bump (MakeWrite other value) same = absurd cc
    named_bump (MakeUpdate other change) same = let one : object ≡ other = cc in subst (Writes commands) one named
next_named commands None (ToBump object amount) false marks o named is = absurd cc
next_named commands None (ToEnd end) true marks o named is = absurd cc
next_named commands None (ToEnd end) false true o named is = absurd cc
next_named commands None (ToEnd end) false false o named is = absurd cc

-- what is next for a thread by its log, its commands name
pub wants_named : (script : Script) (log : List ThreadLog) (t : ℕ) (journal : List Event) (o : Operation) → by_log script log t journal ≡ Wants o → OperationNamed (commands_of script t) o
wants_named script log t journal o is =
    let commands = commands_of script t in
    let c = configuration_after commands (starting_configuration script.fuel) journal in
    let d = settled commands c in
    let own = thread_log_of log t in
    next_named commands (due_mark (slice_get own.marks (mark_count journal)) (gap_after 0 journal)) (demanded commands c)
    (nat_lt (access_count journal) own.accesses) (nat_lt (mark_count journal) (length own.marks)) o (demand_named commands d (slice_get commands d.place) refl) is

-- and so they name the event that it makes
pub made_named : (commands : List Command) (o : Operation) (heap : List ℕ) → OperationNamed commands o → EventNamed commands (event_made o heap)
made_named commands (MakeMark mark) heap named = tt
made_named commands (MakeRead object) heap named = named
made_named commands (MakeWrite object value) heap named = named
made_named commands (MakeUpdate object change) heap named = named

pub event_names : (commands : List Command) (e : Event) (object : ℕ) → EventNamed commands e → object_of e ≡ Some object → Names commands object
event_names commands (ReadMade of value) object named is = let one : of ≡ object = cc in subst (Names commands) one named
event_names commands (WriteMade of value) object named is = let one : of ≡ object = cc in (subst (Writes commands) one named).names
event_names commands (UpdateMade of before after) object named is = let one : of ≡ object = cc in (subst (Writes commands) one named).names
event_names commands (Marked mark) object named is = absurd cc

pub event_writes : (commands : List Command) (e : Event) (object : ℕ) → EventNamed commands e → object_of e ≡ Some object → IsTrue (is_write e) → Writes commands object
event_writes commands (ReadMade of value) object named is writes = absurd cc
event_writes commands (WriteMade of value) object named is writes = let one : of ≡ object = cc in subst (Writes commands) one named
event_writes commands (UpdateMade of before after) object named is writes = let one : of ≡ object = cc in subst (Writes commands) one named
event_writes commands (Marked mark) object named is writes = absurd cc
