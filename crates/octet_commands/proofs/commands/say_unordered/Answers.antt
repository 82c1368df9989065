use Rattle.std.proofs.Common.{◌∙◌, ap, append_assoc}
use Rattle.octet_commands.specs.declared.reply.Status.TheVariants.{Unordered}
use Rattle.octet_commands.specs.Answer.{says}
use Rattle.octet_commands.proofs.commands.say_unordered.Goals as goal

pub returns : goal.returns
returns c =
    c.saying.ensures
    ∙ ap (says Unordered) (ap (λ v. v.items) c.into_bytes.ensures.value ∙ c.in_ok-line.ensures.ok ∙ simp append_assoc)
