-- What a refusal is in the words of this library.
use Rattle.octet_host.specs.declared.fault.CloseFault.{CloseFault}
use Rattle.octet_host.specs.declared.fault.CloseFault.TheVariants as close
use Rattle.octet_host_script.specs.declared.fault.FollowFault.{FollowFault}
use Rattle.octet_host_script.specs.declared.fault.FollowFault.TheVariants as follow
use Rattle.octet_host_script.specs.declared.fault.OpenFault.{OpenFault}
use Rattle.octet_host_script.specs.declared.fault.OpenFault.TheVariants as opening
use Rattle.octet_c.specs.declared.status.Fault.{Fault}
use Rattle.std.specs.Prelude.{ℤ}
use Rattle.octet_c.specs.declared.status.Fault.TheVariants.{OutOfMemory, BadText, OtherSessions, TooLong, BadLog, Misfit, Unordered, BadSize, OtherKind, NoNotes, OtherRun}
use Rattle.octet_c.specs.declared.status.TheConstants.{NO_MEMORY, BAD_TEXT, OTHER_SESSIONS, OUT_OF_ORDER, STILL_RUNNING, TOO_LONG, BAD_LOG, MISFIT, UNORDERED, NOT_WHOLE, BAD_SIZE, TWO_RUNS, OTHER_KIND, NO_NOTES, OTHER_RUN}

-- that of a text that is to declare a heap
abbrev pub open_fault : OpenFault → Fault
open_fault opening.OutOfMemory = OutOfMemory
open_fault opening.BadText = BadText

-- that of a script and its log
abbrev pub follow_fault : FollowFault → Fault
follow_fault follow.OutOfMemory = OutOfMemory
follow_fault follow.TooLong = TooLong
follow_fault follow.BadText = BadText
follow_fault follow.BadLog = BadLog
follow_fault follow.Misfit = Misfit
follow_fault follow.Unordered = Unordered

-- the status that says it
abbrev pub fault_status : Fault → ℤ
fault_status OutOfMemory = NO_MEMORY
fault_status BadText = BAD_TEXT
fault_status OtherSessions = OTHER_SESSIONS
fault_status TooLong = TOO_LONG
fault_status BadLog = BAD_LOG
fault_status Misfit = MISFIT
fault_status Unordered = UNORDERED
fault_status BadSize = BAD_SIZE
fault_status OtherKind = OTHER_KIND
fault_status NoNotes = NO_NOTES
fault_status OtherRun = OTHER_RUN

-- that of a run that is not ended
abbrev pub close_status : CloseFault → ℤ
close_status close.OutOfMemory = NO_MEMORY
close_status close.OtherSessions = OTHER_SESSIONS
close_status close.OutOfOrder = OUT_OF_ORDER
close_status close.StillRunning = STILL_RUNNING
close_status close.NotWhole = NOT_WHOLE
close_status close.TooLong = TOO_LONG
close_status close.TwoRuns = TWO_RUNS
