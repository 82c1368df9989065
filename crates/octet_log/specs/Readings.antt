-- What was read, as the definitions see it.
use Rattle.std.specs.Prelude.{List, Option}
use Rattle.std.specs.Option.{option_map}
use Rattle.octet_model.specs.declared.log.ThreadLog.{ThreadLog}
use Rattle.octet_log.specs.declared.loader.Digest.{Digest}
use Rattle.octet_log.specs.declared.loader.Loaded.{Loaded}
use Rattle.octet_log.specs.Loading.{Reading}

-- the log with its digest's bytes
abbrev pub reading : List ThreadLog → Option Digest → Reading
reading logs digest = record { logs = logs; digest = option_map (λ d. d.bytes) digest }

-- the log and the digest that were loaded
abbrev pub reading_of : Loaded → Reading
reading_of loaded = reading loaded.log.threads loaded.digest
