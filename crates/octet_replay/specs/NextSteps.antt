-- What is next for a thread that is replayed.
use Rattle.std.specs.Prelude.{ℕ, ◌<◌}
use Rattle.octet_model.specs.Thread.{added}
use Rattle.octet_model.specs.Machine.{Next, Wants, Finished as IsThrough, NothingFits as FitsNothing, MakeMark, MakeRead, MakeWrite, MakeUpdate}
use Rattle.octet_replay.specs.declared.next_step.NextStep.{NextStep}
use Rattle.octet_replay.specs.declared.next_step.NextStep.TheVariants.{Mark, Read, Write, Bump, Finished, NothingFits}

-- what is next for a thread, in the words of the plain machine
abbrev pub as_next : NextStep → Next
as_next (Mark mark) = Wants (MakeMark mark)
as_next (Read object) = Wants (MakeRead object)
as_next (Write object value) = Wants (MakeWrite object value)
as_next (Bump object amount) = Wants (MakeUpdate object (added amount))
as_next Finished = IsThrough
as_next NothingFits = FitsNothing

-- the object that an access names is one of so many objects
abbrev pub AccessesWithin : ℕ → NextStep → Type 0
AccessesWithin objects (Read object) = object < objects
AccessesWithin objects (Write object value) = object < objects
AccessesWithin objects (Bump object amount) = object < objects
AccessesWithin objects _ = Unit {0}
