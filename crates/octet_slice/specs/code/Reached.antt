-- How much of each thread is gathered, and how it grows.
use Rattle.std.specs.Prelude.{ℕ, pred, ◌+◌, ◌-◌, max, List, [], ◌∷◌, length, map, replicate, slice_index_or, slice_set}
use Rattle.octet_model.specs.declared.event.Mark.{Mark}
use Rattle.octet_model.specs.declared.event.Mark.TheVariants.{Join, Draw, Fence}
use Rattle.octet_model.specs.declared.log.ThreadLog.{ThreadLog}
use Rattle.octet_slice.specs.declared.gathering.Reach.{Reach}
use Rattle.octet_slice.specs.declared.gathering.Gathering.{Gathering}
use Rattle.octet_slice.specs.declared.cursor.Cursor.{Cursor}

-- the reach of a thread of which nothing is gathered
abbrev pub no_reach : Reach
no_reach = record { count = 0; taken_in = record { marks = 0; events = 0 }; searched = record { marks = 0; events = 0 } }

-- the reach of a thread
abbrev pub reach_of : List Reach → ℕ → Reach
reach_of threads thread = slice_index_or threads thread no_reach

-- the number of a thread's first events that are gathered
abbrev pub count_of : List Reach → ℕ → ℕ
count_of threads thread = (reach_of threads thread).count

-- what is gathered of each thread, and the number up to which draws lie in the past
pub record Gathered : Type 0 where
  pub threads : List Reach
  pub draws : ℕ

-- what a gathering has gathered
abbrev pub gathered : Gathering → Gathered
gathered g = record { threads = g.threads.items; draws = g.draws }

-- what is gathered at first: nothing of any thread
abbrev pub nothing : ℕ → Gathered
nothing threads = record { threads = replicate threads no_reach; draws = 0 }

-- what is gathered, with this reach of a thread
abbrev pub with_reach : Gathered → ℕ → Reach → Gathered
with_reach g thread reach = record { threads = slice_set g.threads thread reach; draws = g.draws }

-- what is gathered, with at least this many first events of a thread
abbrev pub raised : Gathered → ℕ → ℕ → Gathered
raised g thread count = with_reach g thread (record (reach_of g.threads thread) { count = max (count_of g.threads thread) count })

-- what is gathered, with the events before a mark
abbrev pub raised_by : Gathered → Mark → Gathered
raised_by g (Join from upto) = raised g from upto
raised_by g (Draw number) = record g { draws = max g.draws (pred number) }
raised_by g (Fence number) = record g { draws = max g.draws number }

-- what is gathered, with this cursor for the marks of a thread taken in
abbrev pub with_taken_in : Gathered → ℕ → Cursor → Gathered
with_taken_in g thread cursor = with_reach g thread (record (reach_of g.threads thread) { taken_in = cursor })

-- what is gathered, with this cursor for the marks of a thread searched
abbrev pub with_searched : Gathered → ℕ → Cursor → Gathered
with_searched g thread cursor = with_reach g thread (record (reach_of g.threads thread) { searched = cursor })

-- the number of first events of each thread that are gathered
abbrev pub counts_in : List Reach → List ℕ
counts_in threads = map (λ reach. reach.count) threads

-- the number of marks of a thread still to be taken in and to be searched
abbrev pub left_of : ThreadLog → Reach → ℕ
left_of log reach = (length log.marks - reach.taken_in.marks) + (length log.marks - reach.searched.marks)

-- the number of marks of all threads still to be taken in and to be searched
abbrev pub left : List ThreadLog → List Reach → ℕ
left [] threads = 0
left (log ∷ logs) [] = 0
left (log ∷ logs) (reach ∷ threads) = left_of log reach + left logs threads
