use Rattle.octet_log.proofs.version1.Refused.{lacks_magic, other_version, bad_threads}
use Rattle.octet_log.proofs.v1.laws.bad_head_is_refused.Goals as goal

pub returns : goal.returns
returns c = record { magic = lacks_magic; version = other_version; threads = bad_threads }
