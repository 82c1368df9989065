use Rattle.octet_log.proofs.Spelled.{loaded_takes, spelling_loaded}
use Rattle.octet_log.proofs.laws.loading_accepts_spellings_alone.Goals as goal

pub returns : goal.returns
returns c = λ bytes logs digest is. (λ judged. (let took = loaded_takes bytes (record { logs = logs; digest = digest }) is judged in (took.spells, took.valid)), λ spells. spelling_loaded bytes digest logs spells.1 spells.0)
