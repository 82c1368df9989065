use Rattle.octet_log.proofs.Refused.{lack_magic, no_version, no_threads}
use Rattle.octet_log.proofs.version2.Refused.{digest_cut}
use Rattle.octet_log.proofs.laws.bad_beginning_is_refused.Goals as goal

pub returns : goal.returns
returns c = record { magic = lack_magic; version = no_version; threads = no_threads; digest = digest_cut }
