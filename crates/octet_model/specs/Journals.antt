-- The log of journals, and what a log lets a thread do next.
use Rattle.std.specs.Prelude.{ℕ, suc, Bool, true, false, ◌==◌, nat_lt, if◌then◌else◌, List, [], ◌∷◌, length, map, Option, Some, None, slice_get}
use Rattle.octet_model.specs.declared.command.Command.{Command}
use Rattle.octet_model.specs.declared.event.Mark.{Mark}
use Rattle.octet_model.specs.declared.event.Event.{Event}
use Rattle.octet_model.specs.declared.event.Event.TheVariants.{Read, Write, Update, Marked}
use Rattle.octet_model.specs.declared.log.Gapped.{Gapped}
use Rattle.octet_model.specs.declared.log.ThreadLog.{ThreadLog}
use Rattle.octet_model.specs.Thread.{Configuration, AccessOrEnd, ToRead, ToWrite, ToBump, ToEnd, added, demanded, configuration_after}
use Rattle.octet_model.specs.Machine.{Journals, Next, Wants, Finished, NothingFits, MakeMark, MakeRead, MakeWrite, MakeUpdate}

-- the number of accesses of a journal
abbrev pub access_count : List Event → ℕ
access_count [] = 0
access_count (Read object value ∷ journal) = suc (access_count journal)
access_count (Write object value ∷ journal) = suc (access_count journal)
access_count (Update object before after ∷ journal) = suc (access_count journal)
access_count (Marked mark ∷ journal) = access_count journal

-- the number of marks of a journal
abbrev pub mark_count : List Event → ℕ
mark_count [] = 0
mark_count (Read object value ∷ journal) = mark_count journal
mark_count (Write object value ∷ journal) = mark_count journal
mark_count (Update object before after ∷ journal) = mark_count journal
mark_count (Marked mark ∷ journal) = suc (mark_count journal)

-- the number of accesses after the last mark of a journal.
-- Without a mark, it counts all accesses of the journal and those before it
abbrev pub gap_after : ℕ → List Event → ℕ
gap_after before [] = before
gap_after before (Read object value ∷ journal) = gap_after (suc before) journal
gap_after before (Write object value ∷ journal) = gap_after (suc before) journal
gap_after before (Update object old new ∷ journal) = gap_after (suc before) journal
gap_after before (Marked mark ∷ journal) = gap_after 0 journal

-- the marks of a journal with their gaps, where so many accesses stand before the journal
abbrev pub gapped_marks : ℕ → List Event → List Gapped
gapped_marks before [] = []
gapped_marks before (Read object value ∷ journal) = gapped_marks (suc before) journal
gapped_marks before (Write object value ∷ journal) = gapped_marks (suc before) journal
gapped_marks before (Update object old new ∷ journal) = gapped_marks (suc before) journal
gapped_marks before (Marked mark ∷ journal) = record { gap = before; mark = mark } ∷ gapped_marks 0 journal

-- the log of one journal: its number of accesses, and its marks with their gaps
abbrev pub log_of_journal : List Event → ThreadLog
log_of_journal journal = record { accesses = access_count journal; marks = gapped_marks 0 journal }

-- the log of all journals
abbrev pub log_of : Journals → List ThreadLog
log_of journals = map log_of_journal journals

-- the next mark, where its gap is exactly the number of accesses since the mark before it
abbrev pub due_mark : Option Gapped → ℕ → Option Mark
due_mark None gap = None
due_mark (Some next) gap = if next.gap == gap then Some next.mark else None

-- the access that a thread demands, where its log has an access left.
-- The thread is through where it demands its end and its log has no access and no mark left
abbrev pub next_access : AccessOrEnd → Bool → Bool → Next
next_access (ToRead object) true mark_left = Wants (MakeRead object)
next_access (ToWrite object value) true mark_left = Wants (MakeWrite object value)
next_access (ToBump object amount) true mark_left = Wants (MakeUpdate object (added amount))
next_access (ToEnd end) false false = Finished
next_access _ _ _ = NothingFits

-- the mark that is due, else what is next without it
abbrev pub mark_first : Option Mark → Next → Next
mark_first (Some mark) next = Wants (MakeMark mark)
mark_first None next = next

-- what a thread does next by its log: its next mark where that is due, else its next access
abbrev pub next_by_log : List Command → Configuration → ThreadLog → List Event → Next
next_by_log commands c log journal =
    mark_first (due_mark (slice_get log.marks (mark_count journal)) (gap_after 0 journal))
    (next_access (demanded commands (configuration_after commands c journal)) (nat_lt (access_count journal) log.accesses) (nat_lt (mark_count journal) (length log.marks)))
