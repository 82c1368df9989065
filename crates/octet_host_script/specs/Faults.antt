-- What a refusal of a script or its log is in the words of this crate.
use Rattle.octet_log.specs.declared.cause.LogFault.{LogFault}
use Rattle.octet_log.specs.declared.cause.LogFault.TheVariants as log
use Rattle.octet_replay.specs.declared.fault.ReplayFault.TheVariants as replay
use Rattle.octet_rerun.specs.declared.fault.RerunFault.{RerunFault}
use Rattle.octet_rerun.specs.declared.fault.RerunFault.TheVariants as rerun
use Rattle.octet_script.specs.declared.cause.ScriptFault.{ScriptFault}
use Rattle.octet_script.specs.declared.cause.ScriptFault.TheVariants as text
use Rattle.octet_host_script.specs.declared.fault.FollowFault.{FollowFault}
use Rattle.octet_host_script.specs.declared.fault.FollowFault.TheVariants.{OutOfMemory, BadText, BadLog, Misfit, Unordered}
use Rattle.octet_host_script.specs.declared.fault.OpenFault.{OpenFault}
use Rattle.octet_host_script.specs.declared.fault.OpenFault.TheVariants as opening

-- that of a text that is to declare a heap
abbrev pub declared_fault : ScriptFault → OpenFault
declared_fault (text.Refused line cause) = opening.BadText
declared_fault text.OutOfMemory = opening.OutOfMemory

-- that of the text of a recording
abbrev pub text_fault : ScriptFault → FollowFault
text_fault (text.Refused line cause) = BadText
text_fault text.OutOfMemory = OutOfMemory

-- that of its log
abbrev pub log_fault : LogFault → FollowFault
log_fault (log.Refused cause) = BadLog
log_fault log.OutOfMemory = OutOfMemory

-- that of a script and its log
abbrev pub rerun_fault : RerunFault → FollowFault
rerun_fault (rerun.Replay replay.OutOfMemory) = OutOfMemory
rerun_fault (rerun.Replay fault) = Misfit
rerun_fault (rerun.Unordered first second) = Unordered
