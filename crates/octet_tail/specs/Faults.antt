-- Faults of what a search is made of, as its own.
use Rattle.octet_marks.specs.declared.cause.MarksFault.{MarksFault}
use Rattle.octet_marks.specs.declared.cause.MarksFault.TheVariants as marks
use Rattle.octet_tail.specs.declared.finder.Untaken.{Untaken}
use Rattle.octet_tail.specs.declared.finder.Untaken.TheVariants as untaken
use Rattle.octet_tail.specs.declared.fault.PartFault.{PartFault}
use Rattle.octet_tail.specs.declared.fault.PartFault.TheVariants as part
use Rattle.octet_tail.specs.declared.fault.SearchFault.{SearchFault}
use Rattle.octet_tail.specs.declared.fault.SearchFault.TheVariants.{OutOfMemory, Refused, ManyEvents, Apart}

-- that of a reader
abbrev pub search_fault_of_marks : MarksFault → SearchFault
search_fault_of_marks (marks.Refused cause at) = Refused cause at
search_fault_of_marks marks.OutOfMemory = OutOfMemory

-- that of a finder
abbrev pub search_fault_of_untaken : Untaken → SearchFault
search_fault_of_untaken untaken.ManyEvents = ManyEvents
search_fault_of_untaken untaken.OutOfMemory = OutOfMemory

-- that of a part
abbrev pub search_fault_of_part : PartFault → SearchFault
search_fault_of_part part.Apart = Apart
search_fault_of_part part.OutOfMemory = OutOfMemory
