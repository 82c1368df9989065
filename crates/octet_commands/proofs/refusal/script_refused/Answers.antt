use Rattle.std.proofs.Common.{◌∙◌, ap, append_assoc}
use Rattle.octet_commands.specs.declared.reply.Status.TheVariants.{Script}
use Rattle.octet_commands.specs.Answer.{says}
use Rattle.octet_commands.proofs.refusal.script_refused.Goals as goal

pub returns : goal.returns
returns c =
    c.saying.ensures
    ∙ ap (says Script) (ap (λ v. v.items) c.into_bytes.ensures.value ∙ c.in_ok-line.ensures.ok ∙ simp (append_assoc, c.number-number.ensures, c.text-text.ensures))
