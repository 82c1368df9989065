-- What a clause says of a record.
use Rattle.std.specs.Prelude.{◌⊎◌}
use Rattle.octet_recorder.specs.declared.recorder.Recorder.{Recorder}
use Rattle.octet_host_long.specs.Closed.{IsClosedRecording}
use Rattle.octet_host_script.specs.declared.kept.Kept.{Kept}
use Rattle.octet_host_script.specs.declared.repeated.Course.{Course}
use Rattle.octet_host_script.specs.Records.{KeepsRecording, RepeatsRecording}
use Rattle.octet_stream.specs.declared.long_run.LongRun.{LongRun}
use Rattle.octet_c.specs.declared.kept.Values.{Values}

-- it is of a run that was recorded, or of one that was made again
abbrev pub IsGood : Kept → Type 0
IsGood kept = ((recorder : Recorder) × KeepsRecording recorder kept) ⊎ ((course : Course) × RepeatsRecording course kept)

-- they are those of a run of any length that was recorded
abbrev pub AreGood : Values → Type 0
AreGood kept = (run : LongRun) × IsClosedRecording run kept.values
