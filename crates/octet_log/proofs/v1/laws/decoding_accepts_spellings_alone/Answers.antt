use Rattle.std.proofs.Common.{ap, ◌∙◌}
use Rattle.octet_log.specs.v1.Decoding.{decoded}
use Rattle.octet_log.proofs.version1.Whole.{decoded_takes}
use Rattle.octet_log.proofs.version1.Spellings.{spelling_decoded}
use Rattle.octet_log.proofs.v1.laws.decoding_accepts_spellings_alone.Goals as goal

pub returns : goal.returns
returns c = λ bytes logs is. (λ judged. decoded_takes bytes logs is judged, λ spells. ap decoded spells.0 ∙ spelling_decoded logs spells.1)
