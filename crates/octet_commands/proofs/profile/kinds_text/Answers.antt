use Rattle.std.proofs.Common.{◌∙◌, ap, append_assoc}
use Rattle.octet_commands.proofs.profile.kinds_text.Goals as goal

pub returns : goal.returns
returns c = ap (λ v. v.items) c.into_bytes.ensures.value ∙ c.in_ok-text.ensures.ok ∙ simp append_assoc
